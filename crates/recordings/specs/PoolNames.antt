-- The hashes of pool names.
use Rattle.std.specs.Prelude.{ℕ, ◌+◌, ◌*◌, ◌-◌, Bool, false, List, length, slice_index, Option, Some, None, String, string_bytes}
use Rattle.std.specs.Str.{bytes_eq}

-- the hash of a name: a number that is computed from its first and last byte
abbrev pub number_of : List ℕ → ℕ
number_of name = slice_index name 0 + 8 * slice_index name (length name - 1)

abbrev pub is_name : {A : Type 0} → List ℕ → Option (String A) → Bool
is_name name None = false
is_name name (Some kept) = bytes_eq (string_bytes kept) name
