use Rattle.std.proofs.Common.{⊎_elim, List, take, ap, sym, subst, ◌∙◌}
use Rattle.std.proofs.lemmas.List.{take_all}
use Rattle.support.specs.In.{In}
use Rattle.support.proofs.Members.{In-push_cases}
use Rattle.conformance.specs.declared.walk_state.WalkState.{WalkState}
use Rattle.std.proofs.lemmas.Bool.{false≢true}
use Rattle.conformance.proofs.ReadStates.{read_in, take_read}
use Rattle.conformance.proofs.walk_states.has_state_with.Goals as goal

pub returns-then-are_same : goal.returns-then-are_same
returns-then-are_same c = record {
  some = λ _. (
    c.state-item.result,
    read_in c.args.states.now c.loop-state.state-index c.state-item.result c.loop-state-test.true c.state-item.is,
    sym c.deref.ensures.value ∙ c.are_same.ensures.same c.if-are_same.true,
  );
  none = λ e. absurd (false≢true (sym e));
}

pub loop-state-preserved : goal.loop-state-preserved
loop-state-preserved c = λ one i same.
    let states = c.args.states.now in
    let n = c.loop-state.state-index in
    let state = c.state-item.result in
    ⊎_elim
    (λ before. c.loop-state.invariant one before same)
    (λ last. c.are_same.ensures.differ c.if-are_same.false (c.deref.ensures.value ∙ (ap (λ (s : WalkState). s.jobs.items) (sym last) ∙ same)))
    (In-push_cases (take n states) state (subst (λ (read : List WalkState). In one read) (take_read states n state c.loop-state-test.true c.state-item.is) i))

pub returns-clause-none : goal.returns-clause-none
returns-clause-none c = λ _ one i.
    c.loop-state.invariant one (subst (λ (read : List WalkState). In one read) (sym (take_all c.loop-state.state-index c.args.states.now c.loop-state-test.false)) i)
