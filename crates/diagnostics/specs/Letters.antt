-- The letters and digits of a text.
use Rattle.std.specs.Prelude.{ℕ, if◌then◌else◌, List, [], ◌∷◌}
use Rattle.std.specs.List.{flat_map}
use Rattle.std.specs.Char.{is_ascii_alphanumeric, to_ascii_lowercase}
use Rattle.std.specs.Str.{chars, encode_utf8_all}

-- the character in lowercase if it is an ASCII letter or digit; otherwise nothing
unfoldable pub kept : ℕ → List ℕ
kept c = if is_ascii_alphanumeric c then to_ascii_lowercase c ∷ [] else []

-- the ASCII letters and digits of the text, in lowercase
abbrev pub letters_of : List ℕ → List ℕ
letters_of text = encode_utf8_all (flat_map kept (chars text))
