-- The bytes of a name.
use Rattle.std.proofs.Common.{◌≡◌, ℕ, zero, suc, ◌<◌, true, not, ◌==◌, List, [], ◌∷◌, None, inl, inr, refl, sym, arith}
use Rattle.std.specs.List.{list_all}
use Rattle.std.specs.Str.{IsAscii, IsUtf8}
use Rattle.std.proofs.lemmas.Bool.{and_parts, and_from, cases_Bool, cond-false}
use Rattle.std.proofs.lemmas.Bool.Decides.{nat_tests}
use Rattle.std.proofs.lemmas.Str.{IsUtf8-from_ascii}
use Rattle.job_bodies.specs.WellFormed.{is_name_byte, is_valid_name}
use Rattle.support.proofs.Splits.{has_no}
use Rattle.recordings.specs.Words.{name_of}

-- a name byte is never below the digits
no_other : (c b : ℕ) → c < 48 → is_name_byte b ≡ true → not (b == c) ≡ true
no_other c b low h = grind (arith, nat_tests)

is_ascii : (b : ℕ) → is_name_byte b ≡ true → b < 128
is_ascii b h = grind (arith, nat_tests)

no_others : (c : ℕ) (bytes : List ℕ) → c < 48 → list_all is_name_byte bytes ≡ true → has_no c bytes ≡ true
no_others c [] low h = refl
no_others c (b ∷ bytes) low h =
    let parts = and_parts (is_name_byte b) (list_all is_name_byte bytes) h in
    and_from _ _ (no_other c b low parts.0) (no_others c bytes low parts.1)

all_ascii : (bytes : List ℕ) → list_all is_name_byte bytes ≡ true → IsAscii bytes
all_ascii [] h i = omega arith
all_ascii (b ∷ bytes) h zero = is_ascii b (and_parts (is_name_byte b) (list_all is_name_byte bytes) h).0
all_ascii (b ∷ bytes) h (suc i) = all_ascii bytes (and_parts (is_name_byte b) (list_all is_name_byte bytes) h).1 i

name_bytes : (name : List ℕ) → is_valid_name name ≡ true → list_all is_name_byte name ≡ true
name_bytes name valid = (and_parts _ (list_all is_name_byte name) valid).1

-- a name contains no space and no newline
pub name_has_no : (c : ℕ) (name : List ℕ) → c < 48 → is_valid_name name ≡ true → has_no c name ≡ true
name_has_no c name low valid = no_others c name low (name_bytes name valid)

-- name bytes are UTF-8
pub bytes_are_text : (bytes : List ℕ) → list_all is_name_byte bytes ≡ true → IsUtf8 bytes
bytes_are_text bytes all = IsUtf8-from_ascii bytes (all_ascii bytes all)

-- a name is UTF-8
pub name_is_text : (name : List ℕ) → is_valid_name name ≡ true → IsUtf8 name
name_is_text name valid = bytes_are_text name (name_bytes name valid)

-- bytes that are not UTF-8 do not parse as a name
pub no_name : (word : List ℕ) → ¬ (IsUtf8 word) → None ≡ name_of word
unfolding name_of
no_name word no_text =
    elim (cases_Bool (is_valid_name word)) [
      | inl valid ↦ absurd (no_text (name_is_text word valid))
      | inr other ↦ sym (cond-false _ _ _ other)
    ]
