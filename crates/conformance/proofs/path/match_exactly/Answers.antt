use Rattle.std.proofs.Common.{◌≡◌, ℕ, ◌+◌, List, [], ◌∷◌, length, refl, sym, subst, ◌∙◌, arith}
use Rattle.std.proofs.lemmas.Bool.{eqb-true, eqb-false}
use Rattle.std.proofs.lemmas.Option.{slice_get_read}
use Rattle.support.specs.In.{here}
use Rattle.support.proofs.Members.{not_In_nil}
use Rattle.conformance.specs.declared.walk_state.WalkState.{WalkState}
use Rattle.conformance.specs.WalkStates.{AreStatesAt, HasState}
use Rattle.conformance.proofs.SameSteps.{of_same_steps}
use Rattle.conformance.proofs.StoppedStates.{result_if_stopped, many_lists}
use Rattle.conformance.proofs.path.match_exactly.Goals as goal

empty_list : (states : List WalkState) → length states ≡ 0 → states ≡ []
empty_list [] e = refl
empty_list (state ∷ states) e = absurd (omega (arith, e))

first_state : (states : List WalkState) → (length states ≡ 0 → ⊥) → HasState states
first_state [] filled = absurd (filled refl)
first_state (state ∷ states) filled = (state, here)

pub returns-then-has_same_steps : goal.returns-then-has_same_steps
returns-then-has_same_steps c =
    let a = c.args in
    of_same_steps a.kind a.path_state a.body.now a.path.now (c.has_same_steps.ensures.0 c.if-has_same_steps.true)

pub returns-then-is_empty : goal.returns-then-is_empty
returns-then-is_empty c =
    let a = c.args in
    let l = c.loop-place in
    let next = c.in_ok-states-2.states in
    let lt = c.loop-place-test.true in
    let at = slice_get_read a.path.now (length a.path.now) l.place c.index-path-place.result refl lt c.index-path-place.is in
    let none : next.items ≡ [] = empty_list next.items (sym next.ok.0 ∙ eqb-true next.len 0 (sym c.is_empty.ensures ∙ c.if-is_empty.true)) in
    let nothing = subst (λ (states : List WalkState). AreStatesAt a.kind a.body.now a.path.now (l.place + 1) states) none (c.in_ok-states-2.ensures.states a.path.now at l.invariant.are) in
    result_if_stopped a.kind a.body.now a.path.now l.place l.states.items l.invariant.are a.path_state lt l.invariant.some nothing c.in_ok-excess.excess
    (c.in_ok-excess.ensures (λ index jobs w. not_In_nil (nothing.complete index jobs w).is_in))

pub returns-then-len-gt-MAX_OPEN_LISTS : goal.returns-then-len-gt-MAX_OPEN_LISTS
returns-then-len-gt-MAX_OPEN_LISTS c =
    let a = c.args in
    let l = c.loop-place in
    let next = c.in_ok-states-2.states in
    let lt = c.loop-place-test.true in
    let at = slice_get_read a.path.now (length a.path.now) l.place c.index-path-place.result refl lt c.index-path-place.is in
    let seen : c.len.result ≡ length next.items = c.len.ensures ∙ next.ok.0 in
    let many = c.if-len-gt-MAX_OPEN_LISTS.true in
    many_lists a.kind a.body.now a.path.now (l.place + 1) next.items (c.in_ok-states-2.ensures.states a.path.now at l.invariant.are) c.in_ok-states-2.ensures.distinct (omega (arith, lt)) (omega (arith, seen, many))

pub loop-place-preserved : goal.loop-place-preserved
loop-place-preserved c =
    let a = c.args in
    let l = c.loop-place in
    let next = c.in_ok-states-2.states in
    let at = slice_get_read a.path.now (length a.path.now) l.place c.index-path-place.result refl c.loop-place-test.true c.index-path-place.is in
    record {
      are = c.in_ok-states-2.ensures.states a.path.now at l.invariant.are;
      some = first_state next.items (λ none. eqb-false next.len 0 (sym c.is_empty.ensures ∙ c.if-is_empty.false) (next.ok.0 ∙ none));
    }

pub returns : goal.returns
returns c =
    let a = c.args in
    let l = c.loop-place in
    let past = c.loop-place-test.false in
    let within = l.auto.place-end in
    let end : l.place ≡ length a.path.now = omega (arith, past, within) in
    let seen = sym c.deref-2.ensures.value in
    c.match_at_end.ensures a.kind
    (subst (λ (states : List WalkState). AreStatesAt a.kind a.body.now a.path.now (length a.path.now) states) seen (subst (λ (n : ℕ). AreStatesAt a.kind a.body.now a.path.now n l.states.items) end l.invariant.are))
    (subst (λ (states : List WalkState). HasState states) seen l.invariant.some)
