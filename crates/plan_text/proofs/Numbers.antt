-- Lemmas about the numbers of units in actions.
use Rattle.std.proofs.Common.{◌≡◌, ℕ, ◌<◌, true, false, not, ◌==◌, nat_le, List, length, Result, Ok, Err, arith, rules, inl, inr}
use Rattle.std.specs.Str.Parse.{digits_value, ParsesUnsigned}
use Rattle.std.proofs.lemmas.Bool.{cases_Bool, and_parts, leb-true}
use Rattle.std.proofs.lemmas.Bool.Decides.{nat_tests}
use Rattle.std.proofs.lemmas.Str.Parse.{IsNumeralModel, numerals_by_value, parse_gives}
use Rattle.job_bodies.specs.declared.limits.TheConstants.{MAX_WORK}
use Rattle.job_bodies.specs.WellFormed.{is_within}
use Rattle.plan_text.specs.ParsedActions.{are_digits, is_positive_decimal}

-- texts of digits are a model of numerals, as the lemmas of std require
pub digits_are : IsNumeralModel (λ digits. are_digits digits ≡ true) (digits_value 10)
digits_are = numerals_by_value _ (search rules)

pub not_empty : (text : List ℕ) → not (length text == 0) ≡ true → 0 < length text
not_empty text h = grind (arith, nat_tests)

-- a decimal number that does not fit into 32 bits is above the limit
pub too_large : {E : Type 0} (text : List ℕ) (e : E) → is_positive_decimal text ≡ true → ParsesUnsigned 32 10 text (Err e) → is_within 1 MAX_WORK (digits_value 10 text) ≡ false
too_large {E} text e decimal parsed =
    let parts = and_parts _ (are_digits text) decimal in
    let some = (and_parts (not (length text == 0)) _ parts.0).0 in
    elim (cases_Bool (is_within 1 MAX_WORK (digits_value 10 text))) [
      | inl within ↦
          let small = (and_parts _ (nat_le (digits_value 10 text) MAX_WORK) within).1 in
          let failed : Result ℕ E = Err e in
          let gives : failed ≡ Ok (digits_value 10 text) = parse_gives digits_are 32 text failed parsed parts.1 (not_empty text some) (omega (arith, leb-true _ _ small)) in
          absurd cc
      | inr past ↦ past
    ]
