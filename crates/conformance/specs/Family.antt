-- Families: the classes or client kinds of a plan that one label of a recording may refer to.
use Rattle.std.specs.Prelude.{◌≡◌, ◌≤◌, ◌⊎◌, ℕ, Bool, true, false, ◌==◌, ◌&&◌, nat_le, List, [], ◌∷◌, ◌++◌, length, take, drop, filter, codes, decimal}
use Rattle.std.specs.List.{range_with_len}
use Rattle.std.specs.Option.{option_map_or}
use Rattle.std.specs.Str.{bytes_eq}
use Rattle.support.specs.declared.line_number.TheConstants.{MAX_LINE_NUMBER}
use Rattle.support.specs.LineNumber.{number_of}
use Rattle.job_bodies.specs.Plan.{Plan, pool_at, class_at, client_at}

-- ---- names
-- The text is empty, or it is `_` and a number that is at least 2.
abbrev pub is_family_end : List ℕ → Bool
is_family_end [] = true
is_family_end (byte ∷ digits) = byte == 95 && option_map_or (nat_le 2) (number_of digits) false

-- The name is of the family of the label: it is the label, or the label followed by `_` and a number that is at least 2.
unfoldable pub is_of_family : List ℕ → List ℕ → Bool
is_of_family label name = bytes_eq (take (length label) name) label && is_family_end (drop (length label) name)

-- The name is of the family of the label, stated without a parser. The name is the label, or the label, `_` and the decimal
-- digits of a number from 2 to `MAX_LINE_NUMBER`.
abbrev pub IsOfFamily : List ℕ → List ℕ → Type 0
IsOfFamily label name = (name ≡ label) ⊎ ((n : ℕ) × (2 ≤ n) × (n ≤ MAX_LINE_NUMBER) × (name ≡ label ++ codes "_" ++ decimal n))

-- ---- classes and client kinds
-- The name of the class is of the family of the label, and its pool has the name `pool`.
abbrev pub is_class_in_family : Plan → List ℕ → List ℕ → ℕ → Bool
is_class_in_family plan label pool class = is_of_family label (class_at plan class).name && bytes_eq (pool_at plan (class_at plan class).pool).name pool

-- The name of the client kind is of the family of the label.
abbrev pub is_client_in_family : Plan → List ℕ → ℕ → Bool
is_client_in_family plan label client = is_of_family label (client_at plan client).name

-- The numbers of the classes that jobs of this label in this pool may belong to, in ascending order.
unfoldable pub class_family : Plan → List ℕ → List ℕ → List ℕ
class_family plan label pool = filter (is_class_in_family plan label pool) (range_with_len 0 (length plan.classes))

-- The numbers of the client kinds that rounds of this label may belong to, in ascending order.
unfoldable pub client_family : Plan → List ℕ → List ℕ
client_family plan label = filter (is_client_in_family plan label) (range_with_len 0 (length plan.clients))
