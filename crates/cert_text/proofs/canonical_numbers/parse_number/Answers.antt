use Rattle.std.proofs.Common.{◌≡◌, ℕ, ◌+◌, ◌*◌, ◌/◌, ◌%◌, ◌<◌, ◌≤◌, List, [], ◌∷◌, ◌++◌, decimal, sym, ap, ◌∙◌, arith, append_assoc}
use Rattle.std.proofs.lemmas.Fmt.{decimal_digit, decimal_step}
use Rattle.job_bodies.specs.declared.limits.TheConstants.{MAX_WEIGHT}
use Rattle.cert_text.proofs.canonical_numbers.parse_number.Goals as goal

-- a text that begins with a digit begins with the decimal digits of its value
one_digit : (text remaining : List ℕ) (digit : ℕ) → text ≡ (48 + digit) ∷ remaining → digit < 10 → text ≡ decimal digit ++ remaining
one_digit text remaining digit read small = read ∙ ap (λ (t : List ℕ). t ++ remaining) (sym (decimal_digit digit small))

-- the digits read so far, followed by one more digit, are the decimal digits of the new value
more_digits : (text rest remaining : List ℕ) (value digit : ℕ) → text ≡ decimal value ++ rest → rest ≡ (48 + digit) ∷ remaining → digit < 10 → 1 ≤ value → value ≤ MAX_WEIGHT → text ≡ decimal (value * 10 + digit) ++ remaining
more_digits text rest remaining value digit read here small some within =
    let prefix : (value * 10 + digit) / 10 ≡ value = omega arith in
    let last : (value * 10 + digit) % 10 ≡ digit = omega arith in
    let step : decimal (value * 10 + digit) ≡ decimal value ++ (48 + digit) ∷ [] =
    decimal_step (value * 10 + digit) (omega arith) (omega arith) ∙ (ap (λ (n : ℕ). decimal n ++ (48 + (value * 10 + digit) % 10) ∷ []) prefix ∙ ap (λ (n : ℕ). decimal value ++ (48 + n) ∷ []) last) in
    read ∙ (ap (λ (t : List ℕ). decimal value ++ t) here ∙ (sym (append_assoc (decimal value) ((48 + digit) ∷ []) remaining) ∙ ap (λ (t : List ℕ). t ++ remaining) (sym step)))

pub returns-then-first-eq0-clause-text : goal.returns-then-first-eq0-clause-text
returns-then-first-eq0-clause-text c =
    one_digit c.args.text.now c.in-Some.remaining.now 0 (c.in-Some.ensures.text ∙ ap (λ (n : ℕ). (48 + n) ∷ c.in-Some.remaining.now) c.if-first-eq0.true) (omega arith)

pub digits-init : goal.digits-init
digits-init c = record {
  text = one_digit _ _ _ c.in-Some.ensures.text c.in-Some.ensures.digit;
  some = omega arith;
  within = omega (arith, c.in-Some.ensures.digit);
}

pub digits-preserved : goal.digits-preserved
digits-preserved c = record {
  text = more_digits _ _ _ _ _ c.digits.invariant.text c.in-Some-parse_digit.ensures.text c.in-Some-parse_digit.ensures.digit c.digits.invariant.some c.digits.invariant.within;
  some = omega (arith, c.digits.invariant.some);
  within = omega arith;
}
