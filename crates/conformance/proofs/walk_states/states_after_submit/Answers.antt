use Rattle.std.proofs.Common.{◌≡◌, ℕ, List, [], ◌∷◌, sym, subst, ◌∙◌, append_assoc}
use Rattle.std.proofs.lemmas.List.{nil_from_length}
use Rattle.conformance.specs.declared.walk_state.WalkState.{WalkState}
use Rattle.conformance.specs.WalkStates.{AreAfterSubmit, choices}
use Rattle.conformance.proofs.ReadStates.{choices_push, read_next, next_in, read_all}
use Rattle.conformance.proofs.StatesAfterSubmit.{none_after_submit}
use Rattle.conformance.proofs.walk_states.states_after_submit.Goals as goal

pub loop-state-init : goal.loop-state-init
loop-state-init c = record {
  front = sym c.into_iter-state-iterator.ensures.into_iter_gives.0;
  after = subst (λ (next : List WalkState). AreAfterSubmit c.args.body.now c.args.job [] next) (sym c.new-next.ensures.items) (none_after_submit c.args.body.now c.args.job);
}

pub push_after_submit-requires-clause-tables : goal.push_after_submit-requires-clause-tables
push_after_submit-requires-clause-tables c =
    let l = c.loop-state in
    c.requires.tables c.in-Some.state
    (next_in c.args.states.items l.yielded _ c.in-Some.state (read_next c.args.states.items l.yielded l.state-iterator.rest.items _ c.in-Some.state l.invariant.front c.in-Some.ensures.steps.0))

pub loop-state-preserved : goal.loop-state-preserved
loop-state-preserved c =
    let a = c.args in
    let l = c.loop-state in
    let state = c.in-Some.state in
    let front = read_next a.states.items l.yielded l.state-iterator.rest.items _ state l.invariant.front c.in-Some.ensures.steps.0 in
    record {
      front = front ∙ sym (append_assoc l.yielded (state ∷ []) _);
      after = subst (λ (pairs : List (WalkState × ℕ)). AreAfterSubmit a.body.now a.job pairs c.push_after_submit.new.next.items) (sym (choices_push l.yielded a.classes.now state))
          (c.in_ok-push_after_submit.ensures (choices l.yielded a.classes.now) l.invariant.after);
    }

pub returns : goal.returns
returns c =
    let a = c.args in
    let l = c.loop-state in
    let rest = l.state-iterator.rest in
    let none : rest.items ≡ [] = nil_from_length rest.items (sym rest.ok.0 ∙ c.in-None.ensures.steps.0) in
    subst (λ (states : List WalkState). AreAfterSubmit a.body.now a.job (choices states a.classes.now) l.next.items) (sym (read_all a.states.items l.yielded rest.items l.invariant.front none)) l.invariant.after
