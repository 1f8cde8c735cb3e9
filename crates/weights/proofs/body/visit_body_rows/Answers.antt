use Rattle.std.proofs.Common.{◌≡◌, [], ◌∷◌, List, slice_get, Some, sym, ap, subst}
use Rattle.std.specs.Prelude.{slice_index, slice_index_or}
use Rattle.std.proofs.lemmas.Option.{slice_get-get_or}
use Rattle.job_bodies.specs.declared.action.Action.TheVariants.{Work}
use Rattle.weights.specs.declared.row.Row.{Row}
use Rattle.weights.specs.Body.{place_at}
use Rattle.weights.specs.Rows.{action_row}
use Rattle.weights.specs.Visits.{Visits}
use Rattle.weights.proofs.Walks.{walk_continues}
use Rattle.weights.proofs.body.visit_body_rows.Goals as goal

pub loop-position-preserved : goal.loop-position-preserved
loop-position-preserved g c =
    let actions = c.args.body.now.actions.now in
    let i = c.loop-position.position in
    let has_seen = g.V.RowVisitor.HasSeen in
    let rows_at = λ (i : _) (action : _). action_row c.args.get_return c.args.plan.now c.args.vector.now (slice_index c.args.body.now.weights.now) (place_at c.args.body.now.actor) actions i action ∷ [] in
    let taken = subst (λ (x : Row). Visits has_seen c.loop-position.visitor c.visit.new.self (x ∷ [])) c.action_row.ensures c.visit.ensures in
    walk_continues has_seen _ _ _ rows_at actions i (slice_index_or actions i (Work 0)) (slice_get-get_or actions i (Work 0) c.loop-position-test.true) taken c.loop-position.invariant
