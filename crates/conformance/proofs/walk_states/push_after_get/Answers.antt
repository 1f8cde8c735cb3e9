use Rattle.std.proofs.Common.{List, ◌++◌, ◌∷◌, [], sym, subst, ◌∙◌}
use Rattle.std.proofs.lemmas.Bool.{false≢true}
use Rattle.conformance.specs.declared.walk_state.WalkState.{WalkState}
use Rattle.conformance.specs.WalkStates.{AreAfterGet}
use Rattle.conformance.proofs.StatesAfterGet.{one_after_get, none_more_after_get}
use Rattle.conformance.proofs.WalkSteps.{begun_from_any, any_from_at}
use Rattle.conformance.proofs.walk_states.push_after_get.Goals as goal

pub returns-in_ok-push : goal.returns-in_ok-push
returns-in_ok-push c = λ states are.
    let a = c.args in
    let after = c.get.new.self in
    subst (λ (next : List WalkState). AreAfterGet a.kind a.body.now a.job (states ++ a.state ∷ []) next) (sym c.in_ok-push.ensures.items)
    (one_after_get a.kind a.body.now a.job states a.next.now.items a.state after are c.get.ensures (begun_from_any after.row.items (sym c.is_begun.ensures ∙ c.if-is_begun.true)))

pub returns-else-is_begun : goal.returns-else-is_begun
returns-else-is_begun c = λ states are.
    let a = c.args in
    let after = c.get.new.self in
    none_more_after_get a.kind a.body.now a.job states a.next.now.items a.state after are c.get.ensures
    (λ begun. false≢true (sym (sym c.is_begun.ensures ∙ c.if-is_begun.false) ∙ any_from_at after.row.items begun.0 begun.1))
