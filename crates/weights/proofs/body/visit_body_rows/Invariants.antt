-- The loop of `visit_body_rows`: the rows of the actions before the current position were visited.
use Rattle.std.proofs.Common.{[], ◌∷◌}
use Rattle.std.specs.Prelude.{slice_index}
use Rattle.weights.specs.Body.{place_at}
use Rattle.weights.specs.Rows.{action_row}
use Rattle.weights.proofs.Walks.{HasVisited}
use Rattle.weights.proofs.body.visit_body_rows.Given as goal

abbrev pub invariant-loop-position : goal.invariant-loop-position
invariant-loop-position g l =
    HasVisited g.V.RowVisitor.HasSeen l.initial.visitor l.visitor (λ i action. action_row l.get_return l.plan l.vector (slice_index l.body.weights.now) (place_at l.body.actor) l.body.actions.now i action ∷ []) l.body.actions.now l.position
