-- The removal of an open job at its index.
use Rattle.std.proofs.Common.{◌≡◌, ℕ, zero, suc, ◌<◌, Bool, true, false, cond, eqb, ltb, List, [], ◌∷◌, length, get_or, Some, None, refl, sym, ap, ◌∙◌, arith}
use Rattle.std.specs.Prelude.{remove, position}
use Rattle.std.specs.List.{position_or_len}
use Rattle.std.proofs.lemmas.Bool.{cond-true, cond-false, ltb-false}
use Rattle.std.proofs.lemmas.Option.{none-some}
use Rattle.std.proofs.lemmas.List.Quantifiers.{position-Some}
use Rattle.std.proofs.lemmas.List.Sums.{fails_before_first}
use Rattle.conformance.specs.declared.open_job.OpenJob.{OpenJob}
use Rattle.conformance.specs.Path.{open_class, without}

abbrev pub is_job : ℕ → OpenJob → Bool
is_job job one = eqb one.job job

nothing_below : (i : ℕ) → i < 0 → ⊥
nothing_below i h = omega (arith, h)

taken_at : (job i : ℕ) (xs : List OpenJob) (d : OpenJob) → i < length xs → is_job job (get_or xs i d) ≡ true → ((k : ℕ) → k < i → is_job job (get_or xs k d) ≡ false)
    → (open_class job xs ≡ Some (get_or xs i d).class) × (without job xs ≡ remove xs i)
taken_at job i [] d h is_it before = absurd (nothing_below i h)
taken_at job zero (x ∷ xs) d h is_it before = (cond-true (eqb x.job job) (Some x.class) (open_class job xs) is_it, cond-true (eqb x.job job) xs (x ∷ without job xs) is_it)
taken_at job (suc i) (x ∷ xs) d h is_it before =
    let other : eqb x.job job ≡ false = before 0 (omega arith) in
    let rest = taken_at job i xs d (omega (arith, h)) is_it (λ k lt. before (suc k) (omega (arith, lt))) in
    (cond-false (eqb x.job job) (Some x.class) (open_class job xs) other ∙ rest.0, cond-false (eqb x.job job) xs (x ∷ without job xs) other ∙ ap (λ ys. x ∷ ys) rest.1)

-- The open job at the index is removed.
pub taken : (job i : ℕ) (xs : List OpenJob) (d : OpenJob) → position (is_job job) xs ≡ Some i → (open_class job xs ≡ Some (get_or xs i d).class) × (without job xs ≡ remove xs i)
taken job i xs d e = let at = position-Some (is_job job) xs i d e in taken_at job i xs d at.0 at.1 at.2

none_open : (job : ℕ) (xs : List OpenJob) (d : OpenJob) → ((k : ℕ) → k < length xs → is_job job (get_or xs k d) ≡ false) → (open_class job xs ≡ None) × (without job xs ≡ xs)
none_open job [] d none = (refl, refl)
none_open job (x ∷ xs) d none =
    let other : eqb x.job job ≡ false = none 0 (omega arith) in
    let rest = none_open job xs d (λ k lt. none (suc k) (omega (arith, lt))) in
    (cond-false (eqb x.job job) (Some x.class) (open_class job xs) other ∙ rest.0, cond-false (eqb x.job job) xs (x ∷ without job xs) other ∙ ap (λ ys. x ∷ ys) rest.1)

none_if : {X : Type 0} (b : Bool) (x : X) → cond b (Some x) None ≡ None → b ≡ false
none_if true x e = absurd (none-some x (sym e))
none_if false x e = refl

-- A job that is not open leaves the open jobs as they are.
pub not_taken : (job : ℕ) (xs : List OpenJob) → position (is_job job) xs ≡ None → (open_class job xs ≡ None) × (without job xs ≡ xs)
not_taken job xs e =
    let d : OpenJob = record { job = 0; class = 0 } in
    let past = ltb-false (position_or_len (is_job job) xs) (length xs) (none_if (ltb (position_or_len (is_job job) xs) (length xs)) (position_or_len (is_job job) xs) e) in
    none_open job xs d (λ k lt. fails_before_first (is_job job) xs k d (omega (arith, lt, past)))
