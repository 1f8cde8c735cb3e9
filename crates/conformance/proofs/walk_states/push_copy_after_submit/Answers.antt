use Rattle.std.proofs.Common.{List, ◌++◌, ◌∷◌, [], sym, subst}
use Rattle.conformance.specs.declared.walk_state.WalkState.{WalkState}
use Rattle.conformance.specs.WalkStates.{AreAfterSubmit}
use Rattle.conformance.proofs.StatesAfterSubmit.{one_after_submit, none_more_after_submit}
use Rattle.conformance.proofs.walk_states.push_copy_after_submit.Goals as goal

pub returns-in_ok-push : goal.returns-in_ok-push
returns-in_ok-push c = λ choices are.
    let a = c.args in
    subst (λ (next : List WalkState). AreAfterSubmit a.body.now a.job (choices ++ (a.state.now, a.class) ∷ []) next) (sym c.in_ok-push.ensures.items)
    (one_after_submit a.body.now a.job choices a.next.now.items (a.state.now, a.class) c.in_ok-after.after are (c.can_submit.ensures.can c.if-can_submit.true) c.in_ok-after.ensures)

pub returns-else-can_submit : goal.returns-else-can_submit
returns-else-can_submit c = λ choices are.
    let a = c.args in
    none_more_after_submit a.body.now a.job choices a.next.now.items (a.state.now, a.class) are (c.can_submit.ensures.cannot c.if-can_submit.false)
