-- The number of numbers below a bound that pass a test.
use Rattle.std.proofs.Common.{◌≡◌, ℕ, zero, suc, ◌+◌, ◌<◌, ◌≤◌, Bool, true, false, if◌then◌else◌, ◌≢◌, ⊎_elim, refl, subst, arith}
use Rattle.std.proofs.lemmas.Bool.{cases_lt}

abbrev pub tally : (ℕ → Bool) → ℕ → ℕ
tally p zero = 0
tally p (suc n) = tally p n + (if p n then 1 else 0)

pub tally_same : (p q : ℕ → Bool) (n : ℕ) → ((k : ℕ) → k < n → p k ≡ q k) → tally p n ≡ tally q n
tally_same p q zero same = refl
tally_same p q (suc n) same = grind (arith, tally_same p q n (λ k h. same k (omega arith)), same n (omega arith))

at_most : (a b : Bool) → (a ≡ true → b ≡ true) → (if a then 1 else 0) ≤ (if b then 1 else 0)
at_most true b f = grind (arith, f refl)
at_most false true f = omega arith
at_most false false f = omega arith

pub tally_weaker : (p q : ℕ → Bool) (n : ℕ) → ((k : ℕ) → p k ≡ true → q k ≡ true) → tally p n ≤ tally q n
tally_weaker p q zero weaker = omega arith
tally_weaker p q (suc n) weaker = let rest = tally_weaker p q n weaker in let here = at_most (p n) (q n) (weaker n) in omega arith

-- If `q` is weaker than `p` and one number passes only `q`, more numbers pass `q`.
pub tally_below : (p q : ℕ → Bool) (n k : ℕ) → ((k : ℕ) → p k ≡ true → q k ≡ true) → k < n → p k ≡ false → q k ≡ true → tally p n < tally q n
tally_below p q zero k weaker within fails passes = absurd (omega arith)
tally_below p q (suc n) k weaker within fails passes =
    ⊎_elim
    (λ lower.
    let rest = tally_below p q n k weaker lower fails passes in
    let here = at_most (p n) (q n) (weaker n) in
    omega arith)
    (λ higher.
    let same : k ≡ n = omega arith in
    let rest = tally_weaker p q n weaker in
    let out : p n ≡ false = subst (λ (m : ℕ). p m ≡ false) same fails in
    let into : q n ≡ true = subst (λ (m : ℕ). q m ≡ true) same passes in
    grind (arith, rest, out, into))
    (cases_lt k n)

-- If `q` differs from `p` only in one number that passes `q`, one number more passes `q`.
pub tally_more : (p q : ℕ → Bool) (n k : ℕ) → ((m : ℕ) → m ≢ k → p m ≡ q m) → k < n → p k ≡ false → q k ≡ true → tally q n ≡ tally p n + 1
tally_more p q zero k same within fails passes = absurd (omega arith)
tally_more p q (suc n) k same within fails passes =
    ⊎_elim
    (λ lower.
    let rest = tally_more p q n k same lower fails passes in
    let here = same n (omega arith) in
    grind (arith, rest, here))
    (λ higher.
    let is : k ≡ n = omega arith in
    let rest = tally_same p q n (λ m h. same m (omega arith)) in
    let out : p n ≡ false = subst (λ (m : ℕ). p m ≡ false) is fails in
    let into : q n ≡ true = subst (λ (m : ℕ). q m ≡ true) is passes in
    grind (arith, rest, out, into))
    (cases_lt k n)
