use Rattle.std.proofs.Common.{◌≡◌, List, [], ◌∷◌, sym, subst, ◌∙◌, append_assoc}
use Rattle.std.proofs.lemmas.List.{nil_from_length}
use Rattle.conformance.specs.declared.walk_state.WalkState.{WalkState}
use Rattle.conformance.specs.WalkStates.{AreAfterGet}
use Rattle.conformance.proofs.ReadStates.{read_next, next_in, read_all}
use Rattle.conformance.proofs.StatesAfterGet.{none_after_get}
use Rattle.conformance.proofs.walk_states.states_after_get.Goals as goal

pub loop-state-init : goal.loop-state-init
loop-state-init c = record {
  front = sym c.into_iter-state-iterator.ensures.into_iter_gives.0;
  after = subst (λ (next : List WalkState). AreAfterGet c.args.kind c.args.body.now c.args.job [] next) (sym c.new-next.ensures.items) (none_after_get c.args.kind c.args.body.now c.args.job);
}

pub push_after_get-requires-clause-tables : goal.push_after_get-requires-clause-tables
push_after_get-requires-clause-tables c =
    let l = c.loop-state in
    c.requires.tables c.in-Some.state
    (next_in c.args.states.items l.yielded _ c.in-Some.state (read_next c.args.states.items l.yielded l.state-iterator.rest.items _ c.in-Some.state l.invariant.front c.in-Some.ensures.steps.0))

pub loop-state-preserved : goal.loop-state-preserved
loop-state-preserved c =
    let l = c.loop-state in
    let state = c.in-Some.state in
    let front = read_next c.args.states.items l.yielded l.state-iterator.rest.items _ state l.invariant.front c.in-Some.ensures.steps.0 in
    record {
      front = front ∙ sym (append_assoc l.yielded (state ∷ []) _);
      after = c.in_ok-push_after_get.ensures l.yielded l.invariant.after;
    }

pub returns : goal.returns
returns c =
    let a = c.args in
    let l = c.loop-state in
    let rest = l.state-iterator.rest in
    let none : rest.items ≡ [] = nil_from_length rest.items (sym rest.ok.0 ∙ c.in-None.ensures.steps.0) in
    subst (λ (states : List WalkState). AreAfterGet a.kind a.body.now a.job states l.next.items) (sym (read_all a.states.items l.yielded rest.items l.invariant.front none)) l.invariant.after
