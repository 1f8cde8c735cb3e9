use Rattle.std.proofs.Common.{[], ◌∷◌, subst}
use Rattle.weights.specs.declared.row.Row.{Row}
use Rattle.weights.specs.Visits.{Visits}
use Rattle.weights.proofs.Walks.{visits_then}
use Rattle.weights.proofs.rank_rows.visit_class_rows.Goals as goal

pub returns : goal.returns
returns g c =
    let has_seen = g.V.RowVisitor.HasSeen in
    let own = subst (λ (x : Row). Visits has_seen c.args.visitor.now c.visit.new.self (x ∷ [])) c.own_row.ensures c.visit.ensures in
    visits_then has_seen _ _ _ _ _ own c.visit_action_rows.ensures
