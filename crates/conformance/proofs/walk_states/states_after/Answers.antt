use Rattle.std.proofs.Common.{ℕ, List, Some, suc, sym, ap, subst, ◌∙◌, add-one}
use Rattle.std.proofs.lemmas.Result.{IfOk-weaker}
use Rattle.conformance.specs.declared.step.PathStep.{PathStep}
use Rattle.conformance.specs.WalkStates.{AreStatesAt, AreAfterSubmit, choices}
use Rattle.conformance.proofs.StatesAfterSubmit.{states_after_submit}
use Rattle.conformance.proofs.StatesAfterGet.{states_after_get, states_merged}
use Rattle.conformance.proofs.walk_states.states_after.Goals as goal

pub returns-in_ok-next-in-Submits-clause-states : goal.returns-in_ok-next-in-Submits-clause-states
returns-in_ok-next-in-Submits-clause-states c = λ path at are.
    let a = c.args in
    let submitted = c.in_ok-next-in-Submits.next.items in
    let after = subst (λ (ks : List ℕ). AreAfterSubmit a.body.now a.place (choices a.states.items ks) submitted) c.deref.ensures.value c.in_ok-next-in-Submits.ensures in
    IfOk-weaker c.merged.result _ _
    (λ next merged.
    subst (λ (n : ℕ). AreStatesAt a.kind a.body.now path n next.items) (sym (add-one a.place))
    (states_merged a.kind a.body.now path (suc a.place) submitted next.items
    (states_after_submit a.kind a.body.now path a.place c.in-Submits.classes a.states.items submitted (at ∙ ap (λ (s : PathStep). Some s) c.in-Submits.is) are after) merged))
    c.merged.ensures

pub returns-in_ok-next-in-Gets-clause-states : goal.returns-in_ok-next-in-Gets-clause-states
returns-in_ok-next-in-Gets-clause-states c = λ path at are.
    let a = c.args in
    let got = c.in_ok-next-in-Gets.next.items in
    IfOk-weaker c.merged-in-Gets.result _ _
    (λ next merged.
    subst (λ (n : ℕ). AreStatesAt a.kind a.body.now path n next.items) (sym (add-one a.place))
    (states_merged a.kind a.body.now path (suc a.place) got next.items
    (states_after_get a.kind a.body.now path a.place c.in-Gets.job a.states.items got (at ∙ ap (λ (s : PathStep). Some s) c.in-Gets.is) are c.in_ok-next-in-Gets.ensures) merged))
    c.merged-in-Gets.ensures
