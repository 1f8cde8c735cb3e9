-- The loop of `visit_action_rows`: the rows of the actions before the current position were visited.
use Rattle.weights.proofs.Walks.{HasVisited}
use Rattle.weights.specs.Ranks.{rank_rows_of_action}
use Rattle.weights.proofs.rank_rows.visit_action_rows.Given as goal

abbrev pub invariant-loop-position : goal.invariant-loop-position
invariant-loop-position g l = HasVisited g.V.RowVisitor.HasSeen l.initial.visitor l.visitor (rank_rows_of_action l.ranks l.number l.class.body) l.class.body l.position
