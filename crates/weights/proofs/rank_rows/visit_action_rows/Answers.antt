use Rattle.std.proofs.Common.{◌≡◌, ◌≤◌, ◌∙◌, length, slice_get, Some, get_or, ap}
use Rattle.std.proofs.lemmas.Option.{slice_get-get_or}
use Rattle.job_bodies.specs.declared.action.Action.TheVariants.{Work}
use Rattle.weights.proofs.Walks.{walk_continues, walk_ends}
use Rattle.weights.specs.Ranks.{rank_rows_of_action}
use Rattle.weights.proofs.rank_rows.visit_action_rows.Goals as goal

pub visit_action_row-requires-clause-action : goal.visit_action_row-requires-clause-action
visit_action_row-requires-clause-action g c =
    let actions = c.deref-action-items.result.now in
    let body : actions ≡ c.args.class.now.body = c.deref-action-items.ensures.value ∙ ap (λ (k : _). k.body) c.class.view_is in
    rw (← body) (slice_get-get_or actions c.loop-position.position (Work 0) c.loop-position-test.true)

pub loop-position-preserved : goal.loop-position-preserved
loop-position-preserved g c =
    let actions = c.deref-action-items.result.now in
    let body : actions ≡ c.args.class.now.body = c.deref-action-items.ensures.value ∙ ap (λ (k : _). k.body) c.class.view_is in
    let i = c.loop-position.position in
    let here : slice_get c.args.class.now.body i ≡ Some (get_or actions i (Work 0)) = rw (← body) (slice_get-get_or actions i (Work 0) c.loop-position-test.true) in
    walk_continues g.V.RowVisitor.HasSeen _ _ _ (rank_rows_of_action c.args.ranks.now c.args.number c.args.class.now.body) c.args.class.now.body i (get_or actions i (Work 0)) here c.visit_action_row.ensures c.loop-position.invariant

pub returns : goal.returns
returns g c =
    let actions = c.deref-action-items.result.now in
    let body : actions ≡ c.args.class.now.body = c.deref-action-items.ensures.value ∙ ap (λ (k : _). k.body) c.class.view_is in
    let past : length c.args.class.now.body ≤ c.loop-position.position = rw (← body) c.loop-position-test.false in
    walk_ends g.V.RowVisitor.HasSeen _ _ (rank_rows_of_action c.args.ranks.now c.args.number c.args.class.now.body) c.args.class.now.body c.loop-position.position past c.loop-position.invariant
