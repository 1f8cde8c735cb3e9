-- The loop of `visit_l2_rows`: the rows of the weights before the current one were visited.
use Rattle.std.proofs.Common.{[], ◌∷◌}
use Rattle.weights.specs.declared.row.Rule.TheVariants.{L2}
use Rattle.weights.specs.declared.row.Place.TheVariants.{Class}
use Rattle.weights.specs.Row.{row}
use Rattle.weights.proofs.Walks.{HasVisited}
use Rattle.weights.proofs.lifetime.visit_l2_rows.Given as goal

abbrev pub invariant-loop-weight : goal.invariant-loop-weight
invariant-loop-weight g l =
    HasVisited g.V.RowVisitor.HasSeen l.initial.visitor l.visitor (λ _ weight. row L2 (Class l.class) 1 weight ∷ []) l.weights l.weight-index
