use Rattle.std.proofs.Common.{◌≡◌, List, ◌++◌, ◌∷◌, [], ap, sym, subst, ◌∙◌}
use Rattle.support.specs.In.{here}
use Rattle.conformance.specs.declared.walk_state.WalkState.{WalkState}
use Rattle.conformance.specs.WalkStates.{HasState}
use Rattle.conformance.proofs.walk_states.start_states.Goals as goal

pub returns-clause-some : goal.returns-clause-some
returns-clause-some c =
    let items : c.push.new.self.items ≡ c.in_ok-state.state ∷ [] = c.in_ok-push.ensures.items ∙ ap (λ (xs : List WalkState). xs ++ c.in_ok-state.state ∷ []) c.in_ok-states.ensures.items in
    subst (λ (states : List WalkState). HasState states) (sym items) (c.in_ok-state.state, here)
