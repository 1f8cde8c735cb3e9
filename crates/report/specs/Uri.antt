-- A file's name as a URI reference, after RFC 3986.
use Rattle.std.specs.Prelude.{ℕ, Bool, true, false, ◌+◌, ◌/◌, ◌%◌, ◌==◌, ◌||◌, nat_lt, nat_eq, if◌then◌else◌, List, [], ◌∷◌, ◌++◌, codes}
use Rattle.std.specs.List.{flat_map, list_any, starts_with}
use Rattle.std.specs.Char.{is_ascii_alphanumeric}

-- the characters of a path besides letters and digits: the other unreserved characters, the sub-delimiters, `:`, `@` and `/`
abbrev pub path_marks : List ℕ
path_marks = codes "-._~!$&'()*+,;=:@/"

-- a path may have the byte
abbrev pub is_path_byte : ℕ → Bool
is_path_byte byte = is_ascii_alphanumeric byte || list_any (λ mark. mark == byte) path_marks

-- the hexadecimal digit, in upper case
abbrev pub hex_digit : ℕ → ℕ
hex_digit n = if nat_lt n 10 then 48 + n else 55 + n

abbrev pub escape : ℕ → List ℕ
escape byte = 37 ∷ hex_digit (byte / 16) ∷ hex_digit (byte % 16) ∷ []

-- the byte if a path may have it, and otherwise its escape
abbrev pub path_byte : ℕ → List ℕ
path_byte byte = if is_path_byte byte then byte ∷ [] else escape byte

abbrev pub path_text : List ℕ → List ℕ
path_text = flat_map path_byte

-- the name has a colon before its first slash, so that its start would be read as a scheme
abbrev pub has_early_colon : List ℕ → Bool
has_early_colon [] = false
has_early_colon (byte ∷ rest) = if byte == 58 then true else (if byte == 47 then false else has_early_colon rest)

-- the name begins with two slashes, so that its start would be read as a host
abbrev pub has_two_slashes : List ℕ → Bool
has_two_slashes name = starts_with nat_eq name (codes "//")

-- the prefix that keeps the start of the name from being read as a scheme or a host
abbrev pub path_start : List ℕ → List ℕ
path_start name = if has_two_slashes name then codes "/." else (if has_early_colon name then codes "./" else [])

-- the URI reference of the file with this name
abbrev pub uri_text : List ℕ → List ℕ
uri_text name = path_start name ++ path_text name
