-- The loop of `visit_rank_rows`: the rows of the classes before the current one were visited.
use Rattle.weights.proofs.Walks.{HasVisited}
use Rattle.weights.specs.Ranks.{rank_rows_of_class}
use Rattle.weights.proofs.ranks.Ranks.visit_rank_rows.Given as goal

abbrev pub invariant-loop-number : goal.invariant-loop-number
invariant-loop-number g l = HasVisited g.V.RowVisitor.HasSeen l.initial.visitor l.visitor (rank_rows_of_class l.self) l.plan.classes l.number
