-- The furthest index that the body reaches in the states that were read.
use Rattle.std.proofs.Common.{◌≡◌, ◌≤◌, ℕ, suc, Bool, true, false, ⊎_elim, leb, cond, List, [], ◌∷◌, ◌++◌, Option, Some, None, refl, sym, subst, ◌∙◌, slice_get, arith}
use Rattle.std.proofs.lemmas.Bool.{cases_lt, false≢true, leb-true, leb-false}
use Rattle.support.specs.In.{In}
use Rattle.support.proofs.Members.{not_In_nil, In-push_cases}
use Rattle.conformance.specs.declared.walk_state.WalkState.{WalkState}
use Rattle.conformance.specs.declared.furthest.Reached.{Reached}
use Rattle.conformance.specs.BlockingGet.{IsLastReached}
use Rattle.conformance.specs.WalkState.{is_at}
use Rattle.conformance.specs.WalkStates.{IsLastAt, IsFurthest, further}

pub record IsFurthestIn (states read : List WalkState) (end : ℕ) (reached : Reached) : Type 0 where
  pub state : WalkState
  pub state_is : slice_get states reached.state ≡ Some state
  pub last : IsLastReached state.row.items (suc end) reached.index
  pub furthest : (other : WalkState) (index : ℕ) → In other read → index ≤ end → is_at other index ≡ true → index ≤ reached.index

-- The furthest index in the states of `read`, if there is one.
abbrev pub IsFurthestOf : List WalkState → List WalkState → ℕ → Option Reached → Type 0
IsFurthestOf states read end None = (state : WalkState) (index : ℕ) → In state read → index ≤ end → is_at state index ≡ false
IsFurthestOf states read end (Some reached) = IsFurthestIn states read end reached

pub none_furthest : (states : List WalkState) (end : ℕ) → IsFurthestOf states [] end None
none_furthest states end state index i within = absurd (not_In_nil i)

-- No index past the last one.
not_past : (state : WalkState) (end last : ℕ) → IsLastReached state.row.items (suc end) last → (index : ℕ) → index ≤ end → is_at state index ≡ true → index ≤ last
not_past state end last from index within at =
    ⊎_elim (λ later. absurd (false≢true (sym (from.last index later (omega (arith, within))) ∙ at))) (λ less. less) (cases_lt last index)

further_if : (b : Bool) (states read : List WalkState) (end : ℕ) (before : Reached) (number index : ℕ) (state : WalkState) → leb index before.index ≡ b → IsFurthestIn states read end before → slice_get states number ≡ Some state
    → IsLastReached state.row.items (suc end) index → IsFurthestOf states (read ++ state ∷ []) end (cond b (Some before) (Some (record { state = number; index = index })))
further_if true states read end before number index state is found at last = record {
  state = found.state;
  state_is = found.state_is;
  last = found.last;
  furthest = λ other k i within is_at_k. ⊎_elim
      (λ earlier. found.furthest other k earlier within is_at_k)
      (λ same.
      let below = not_past state end index last k within (subst (λ (s : WalkState). is_at s k ≡ true) same is_at_k) in
      let less = leb-true index before.index is in
      omega (arith, below, less))
      (In-push_cases read state i);
}
further_if false states read end before number index state is found at last = record {
  state = state;
  state_is = at;
  last = last;
  furthest = λ other k i within is_at_k. ⊎_elim
      (λ earlier.
      let below = found.furthest other k earlier within is_at_k in
      let more = leb-false index before.index is in
      omega (arith, below, more))
      (λ same. not_past state end index last k within (subst (λ (s : WalkState). is_at s k ≡ true) same is_at_k))
      (In-push_cases read state i);
}

pub further_is : (states read : List WalkState) (end : ℕ) (before : Option Reached) (number : ℕ) (index : Option ℕ) (state : WalkState) → IsFurthestOf states read end before → slice_get states number ≡ Some state → IsLastAt state end index
    → IsFurthestOf states (read ++ state ∷ []) end (further before number index)
further_is states read end None number None state found at last = λ other k i within.
    ⊎_elim (λ earlier. found other k earlier within) (λ same. subst (λ (s : WalkState). is_at s k ≡ false) (sym same) (last k within)) (In-push_cases read state i)
further_is states read end (Some before) number None state found at last = record {
  state = found.state;
  state_is = found.state_is;
  last = found.last;
  furthest = λ other k i within is_at_k. ⊎_elim
      (λ earlier. found.furthest other k earlier within is_at_k)
      (λ same. absurd (false≢true (sym (last k within) ∙ subst (λ (s : WalkState). is_at s k ≡ true) same is_at_k)))
      (In-push_cases read state i);
}
further_is states read end None number (Some index) state found at last = record {
  state = state;
  state_is = at;
  last = last;
  furthest = λ other k i within is_at_k. ⊎_elim
      (λ earlier. absurd (false≢true (sym (found other k earlier within) ∙ is_at_k)))
      (λ same. not_past state end index last k within (subst (λ (s : WalkState). is_at s k ≡ true) same is_at_k))
      (In-push_cases read state i);
}
further_is states read end (Some before) number (Some index) state found at last = further_if (leb index before.index) states read end before number index state refl found at last

pub furthest_all : (states : List WalkState) (end : ℕ) (reached : Option Reached) → IsFurthestOf states states end reached → IsFurthest states end reached
furthest_all states end None is = is
furthest_all states end (Some reached) is = record { state = is.state; state_is = is.state_is; last = is.last; furthest = is.furthest }
