-- Sums over the numbers below n, and the greatest of the terms.
use Rattle.std.proofs.Common.{◌≡◌, ℕ, zero, suc, ◌+◌, ◌<◌, ◌≤◌, max, ⊎_elim, refl, sym, subst, arith}
use Rattle.std.proofs.lemmas.Bool.{cases_lt}
use Rattle.size_search.specs.Steady.{sum_below, greatest_upto}

-- ---- sums

pub sum_below-le : (f g : ℕ → ℕ) (n : ℕ) → ((s : ℕ) → f s ≤ g s) → sum_below f n ≤ sum_below g n
sum_below-le f g zero each = omega arith
sum_below-le f g (suc n) each =
    let of_f : sum_below f (suc n) ≡ sum_below f n + f n = refl in
    let of_g : sum_below g (suc n) ≡ sum_below g n + g n = refl in
    omega (arith, of_f, of_g, each n, sum_below-le f g n each)

pub sum_below-agree : (f g : ℕ → ℕ) (n : ℕ) → ((s : ℕ) → s < n → f s ≡ g s) → sum_below f n ≡ sum_below g n
sum_below-agree f g zero same = refl
sum_below-agree f g (suc n) same =
    let of_f : sum_below f (suc n) ≡ sum_below f n + f n = refl in
    let of_g : sum_below g (suc n) ≡ sum_below g n + g n = refl in
    omega (arith, of_f, of_g, same n (omega arith), sum_below-agree f g n (λ s below. same s (omega (arith, below))))

-- if all terms are 0, so is the sum
pub sum_below_zero : (f : ℕ → ℕ) (n : ℕ) → ((s : ℕ) → s < n → f s ≡ 0) → sum_below f n ≡ 0
sum_below_zero f zero each = refl
sum_below_zero f (suc n) each =
    let of_f : sum_below f (suc n) ≡ sum_below f n + f n = refl in
    omega (arith, of_f, each n (omega arith), sum_below_zero f n (λ s below. each s (omega (arith, below))))

-- if only the term at t differs, the sum differs by the same amount
pub sum_below-but_one : (f g : ℕ → ℕ) (n t less : ℕ) → t < n → ((s : ℕ) → s < n → (s ≡ t → ⊥) → f s ≡ g s) → f t + less ≡ g t → sum_below f n + less ≡ sum_below g n
sum_below-but_one f g zero t less inside same at = absurd (omega (arith, inside))
sum_below-but_one f g (suc n) t less inside same at =
    let of_f : sum_below f (suc n) ≡ sum_below f n + f n = refl in
    let of_g : sum_below g (suc n) ≡ sum_below g n + g n = refl in
    ⊎_elim
    (λ (before : t < n).
    let last = same n (omega arith) (λ e. omega (arith, e, before)) in
    omega (arith, of_f, of_g, last, sum_below-but_one f g n t less before (λ s below other. same s (omega (arith, below)) other) at))
    (λ (past : n ≤ t).
    let is : t ≡ n = omega (arith, inside, past) in
    let here : f n + less ≡ g n = subst (λ (s : ℕ). f s + less ≡ g s) is at in
    let front = sum_below-agree f g n (λ s below. same s (omega (arith, below)) (λ e. omega (arith, e, is, below))) in
    omega (arith, of_f, of_g, here, front))
    (cases_lt t n)

-- if the term at t is smaller by some amount and no term is larger, the sum is smaller by at least this amount
pub sum_below-le-at : (f g : ℕ → ℕ) (n t less : ℕ) → t < n → ((s : ℕ) → f s ≤ g s) → f t + less ≤ g t → sum_below f n + less ≤ sum_below g n
sum_below-le-at f g zero t less inside each at = absurd (omega (arith, inside))
sum_below-le-at f g (suc n) t less inside each at =
    let of_f : sum_below f (suc n) ≡ sum_below f n + f n = refl in
    let of_g : sum_below g (suc n) ≡ sum_below g n + g n = refl in
    ⊎_elim (λ (before : t < n). omega (arith, of_f, of_g, each n, sum_below-le-at f g n t less before each at))
    (λ (past : n ≤ t).
    let last : t ≡ n = omega (arith, inside, past) in
    let here : f n + less ≤ g n = subst (λ (s : ℕ). f s + less ≤ g s) last at in
    omega (arith, of_f, of_g, here, sum_below-le f g n each))
    (cases_lt t n)

-- if each term is at most 1, the sum is at most their number
pub sum_below_ones : (f : ℕ → ℕ) (n : ℕ) → ((s : ℕ) → f s ≤ 1) → sum_below f n ≤ n
sum_below_ones f zero each = omega arith
sum_below_ones f (suc n) each =
    let of_f : sum_below f (suc n) ≡ sum_below f n + f n = refl in
    omega (arith, of_f, each n, sum_below_ones f n each)

-- ---- the greatest term

pub le-greatest : (f : ℕ → ℕ) (n i : ℕ) → i ≤ n → f i ≤ greatest_upto f n
le-greatest f zero i within =
    let is : i ≡ 0 = omega (arith, within) in
    let here : greatest_upto f 0 ≡ f 0 = refl in
    subst (λ (j : ℕ). f j ≤ greatest_upto f 0) (sym is) (omega (arith, here))
le-greatest f (suc n) i within =
    let step : greatest_upto f (suc n) ≡ max (greatest_upto f n) (f (suc n)) = refl in
    ⊎_elim
    (λ (before : i < suc n). omega (arith, step, le-greatest f n i (omega (arith, before))))
    (λ (past : suc n ≤ i).
    let is : i ≡ suc n = omega (arith, within, past) in
    subst (λ (j : ℕ). f j ≤ greatest_upto f (suc n)) (sym is) (omega (arith, step)))
    (cases_lt i (suc n))

pub greatest-agree : (f g : ℕ → ℕ) (n : ℕ) → ((i : ℕ) → f i ≡ g i) → greatest_upto f n ≡ greatest_upto g n
greatest-agree f g zero same = same 0
greatest-agree f g (suc n) same =
    let of_f : greatest_upto f (suc n) ≡ max (greatest_upto f n) (f (suc n)) = refl in
    let of_g : greatest_upto g (suc n) ≡ max (greatest_upto g n) (g (suc n)) = refl in
    omega (arith, of_f, of_g, same (suc n), greatest-agree f g n same)
