-- Proofs that the names of slots that the writer uses are valid, and differ for different positions.
use Rattle.std.proofs.Common.{◌≡◌, ℕ, ◌<◌, ◌≤◌, ◌^◌, true, drop, length, refl, ap, arith}
use Rattle.std.specs.Prelude.{decimal}
use Rattle.std.specs.List.{list_all}
use Rattle.std.proofs.lemmas.Bool.{and_from, le-leb}
use Rattle.std.proofs.lemmas.Fmt.{length-decimal-le, digits_decimal, decimal_injective}
use Rattle.job_bodies.specs.WellFormed.{is_name_byte, is_valid_name}
use Rattle.plan_text.proofs.SpelledActions.{digits_in_name}
use Rattle.plan_text.proofs.Numbers.{digits_are}
use Rattle.plan_text.specs.Spelling.{slot_name}

-- the name of the slot of a position is valid
pub slot_valid : (position : ℕ) → position < 256 → is_valid_name (slot_name position) ≡ true
slot_valid position within =
    let small : position < 2 ^ 64 = omega arith in
    let few : length (slot_name position) ≤ 32 = omega (arith, length-decimal-le 3 position (omega arith) (omega arith) small) in
    let bytes : list_all is_name_byte (decimal position) ≡ true = digits_in_name (decimal position) (digits_decimal digits_are position small) in
    and_from _ _ (and_from _ _ (and_from _ _ (le-leb 1 _ (omega arith)) (le-leb _ 32 few)) refl) bytes

pub slot_injective : (i j : ℕ) → i < 256 → j < 256 → slot_name i ≡ slot_name j → i ≡ j
slot_injective i j p q e = decimal_injective i j (omega arith) (omega arith) (ap (drop 1) e)
