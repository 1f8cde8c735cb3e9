-- The last index up to an end at which the body can be.
use Rattle.std.proofs.Common.{◌≡◌, ℕ, ◌+◌, ◌<◌, ◌≤◌, ⊎_elim, true, false, Bool, List, length, get_or, Option, Some, None, subst, arith}
use Rattle.std.proofs.lemmas.Bool.{cases_lt}
use Rattle.std.proofs.lemmas.List.{get_or_past}
use Rattle.conformance.specs.declared.walk_state.WalkState.{WalkState}
use Rattle.conformance.specs.WalkStates.{IsLastAt}

-- The last index below `n` and up to `end` at which the row is true.
abbrev pub IsLastBelow : List Bool → ℕ → ℕ → Option ℕ → Type 0
IsLastBelow row end n None = (k : ℕ) → k < n → k ≤ end → get_or row k false ≡ false
IsLastBelow row end n (Some last) = (last < n) × (last ≤ end) × (get_or row last false ≡ true) × ((k : ℕ) → last < k → k < n → k ≤ end → get_or row k false ≡ false)

pub last_here : (row : List Bool) (end n : ℕ) → n ≤ end → get_or row n false ≡ true → IsLastBelow row end (n + 1) (Some n)
last_here row end n within at = (omega arith, within, at, (λ k above below _. absurd (omega (arith, above, below))))

pub last_before : (row : List Bool) (end n : ℕ) (last : Option ℕ) → IsLastBelow row end n last → (n ≤ end → get_or row n false ≡ false) → IsLastBelow row end (n + 1) last
last_before row end n None is none = λ k below within. ⊎_elim (λ less. is k less within) (λ more. let same : n ≡ k = omega (arith, below, more) in subst (λ (i : ℕ). i ≤ end → get_or row i false ≡ false) same none within) (cases_lt k n)
last_before row end n (Some last) is none =
    let less = is.0 in (
      omega (arith, less),
      is.1,
      is.2,
      (λ k above below within. ⊎_elim (λ lt. is.3 k above lt within) (λ more. let same : n ≡ k = omega (arith, below, more) in subst (λ (i : ℕ). i ≤ end → get_or row i false ≡ false) same none within) (cases_lt k n)),
    )

pub last_at_end : (state : WalkState) (end n : ℕ) (last : Option ℕ) → length state.row.items ≤ n → IsLastBelow state.row.items end n last → IsLastAt state end last
last_at_end state end n None past is = λ k within. ⊎_elim (λ less. is k less within) (λ more. get_or_past state.row.items k false (omega (arith, past, more))) (cases_lt k n)
last_at_end state end n (Some last) past is =
    let within = is.1 in
    record {
      before = omega (arith, within);
      at = is.2;
      last = λ k above below. ⊎_elim (λ less. is.3 k above less (omega (arith, below))) (λ more. get_or_past state.row.items k false (omega (arith, past, more))) (cases_lt k n);
    }
