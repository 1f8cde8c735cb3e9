-- Lemmas about the decimal digits of a number: those of the number divided by 10, followed by the last digit.
use Rattle.std.proofs.Common.{◌≡◌, ℕ, ◌+◌, ◌*◌, ◌/◌, ◌%◌, ◌<◌, ◌≤◌, ◌^◌, zero, suc, false, cond, ◌==◌, [], ◌∷◌, ◌++◌, List, Result, Ok, Err, is_ok, OnOk, append_assoc, sym, ap, ap₂, ◌∙◌, arith}
use Rattle.std.specs.Fmt.{decimal}
use Rattle.std.proofs.Math.Arith.{digits_div, digits_mod}
use Rattle.std.proofs.lemmas.Bool.Decides.{nat_tests}
use Rattle.std.proofs.lemmas.Fmt.{decimal_digit, decimal_step}
use Rattle.support.specs.Tens.{tens_text}

-- if `tens` is above 0, `tens_text tens` is its decimal digits
pub tens_text_above : (tens : ℕ) → 0 < tens → tens_text tens ≡ decimal tens
tens_text_above tens above =
    let other : (tens == 0) ≡ false = grind (arith, nat_tests) in
    ap (λ b. cond b [] (decimal tens)) other

-- `tens_text` of the tens, followed by the last digit, is the decimal digits of the number
pub tens_text_digit : (tens digit : ℕ) → digit < 10 → tens * 10 + digit < 2 ^ 64 → tens_text tens ++ (48 + digit) ∷ [] ≡ decimal (tens * 10 + digit)
tens_text_digit zero digit one fits =
    let same : zero * 10 + digit ≡ digit = omega arith in
    sym (ap decimal same ∙ decimal_digit digit one)
tens_text_digit (suc tens) digit one fits =
    let many : 10 ≤ suc tens * 10 + digit = omega arith in
    let above : 0 < suc tens = omega arith in
    let parts : decimal ((suc tens * 10 + digit) / 10) ++ (48 + (suc tens * 10 + digit) % 10) ∷ [] ≡ decimal (suc tens) ++ (48 + digit) ∷ [] =
    ap₂ (λ (q r : ℕ). decimal q ++ (48 + r) ∷ []) (digits_div (suc tens) one) (digits_mod (suc tens) one) in
    ap (λ (ds : List ℕ). ds ++ (48 + digit) ∷ []) (tens_text_above (suc tens) above) ∙ sym (decimal_step (suc tens * 10 + digit) many fits ∙ parts)

-- appending `tens_text` of the tens to a text, and then the last digit, appends the decimal digits of the number
pub pushed_digit : {T E : Type 0} (r : Result T E) (new middle old prefix last : List ℕ) (tens digit number : ℕ) → middle ≡ old ++ prefix → prefix ≡ tens_text tens → last ≡ (48 + digit) ∷ []
    → new ≡ cond (is_ok r) (middle ++ last) middle → digit < 10 → tens * 10 + digit < 2 ^ 64 → tens * 10 + digit ≡ number → OnOk r (new ≡ old ++ decimal number)
pushed_digit (Err e) new middle old prefix last tens digit number before is_front is_last pushed one fits is = tt
pushed_digit (Ok x) new middle old prefix last tens digit number before is_front is_last pushed one fits is =
    pushed ∙ (ap₂ (λ (xs ys : List ℕ). xs ++ ys) (before ∙ ap (λ (xs : List ℕ). old ++ xs) is_front) is_last
    ∙ (append_assoc old (tens_text tens) ((48 + digit) ∷ [])
    ∙ ap (λ (xs : List ℕ). old ++ xs) (tens_text_digit tens digit one fits ∙ ap decimal is)))
