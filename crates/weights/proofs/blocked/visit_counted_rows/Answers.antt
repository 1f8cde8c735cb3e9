use Rattle.std.proofs.Common.{◌≡◌, ◌<◌, ◌≤◌, ◌∙◌, ◌&&◌, [], ◌∷◌, ℕ, List, length, slice_get, Some, get_or, ap, sym, arith}
use Rattle.std.specs.Prelude.{if◌then◌else◌}
use Rattle.std.specs.List.{enumerate_from}
use Rattle.std.proofs.lemmas.Option.{slice_get-get_or}
use Rattle.job_bodies.specs.declared.action.Action.{Action}
use Rattle.job_bodies.specs.declared.action.Action.TheVariants.{Work}
use Rattle.weights.specs.declared.row.Rule.TheVariants.{B1}
use Rattle.weights.specs.declared.row.Place.TheVariants.{ClassAction}
use Rattle.weights.specs.Row.{row}
use Rattle.weights.specs.Vector.{job_weight}
use Rattle.weights.proofs.Fitting.{class_fits}
use Rattle.weights.proofs.Walks.{walk_continues, walk_ends, visits_same, of_passing, one_each}
use Rattle.weights.specs.Blocked.{is_get}
use Rattle.weights.proofs.blocked.visit_counted_rows.Goals as goal

pub visit_counted_row-requires-clause-position : goal.visit_counted_row-requires-clause-position
visit_counted_row-requires-clause-position g c =
    let f = class_fits c.args.plan.now c.args.vector.now c.args.number c.args.class.now c.requires.well_formed c.requires.fits c.requires.class in
    let body : c.deref-action-items.result.now ≡ c.args.class.now.body = c.deref-action-items.ensures.value ∙ ap (λ (k : _). k.body) c.class.view_is in
    let inside : c.loop-position.position < length c.args.class.now.body = rw (← body) c.loop-position-test.true in
    omega (arith, f.long)

pub loop-position-preserved : goal.loop-position-preserved
loop-position-preserved g c =
    let actions = c.deref-action-items.result.now in
    let body : actions ≡ c.args.class.now.body = c.deref-action-items.ensures.value ∙ ap (λ (k : _). k.body) c.class.view_is in
    let i = c.loop-position.position in
    let rows_at = λ (i : ℕ) (action : Action). if is_get action && g.C.Counted.is_counted c.args.counted.now c.args.number i then row B1 (ClassAction c.args.number i) 1 (job_weight c.args.vector.now c.args.number i) ∷ [] else [] in
    let here : slice_get c.args.class.now.body i ≡ Some (get_or actions i (Work 0)) = rw (← body) (slice_get-get_or actions i (Work 0) c.loop-position-test.true) in
    walk_continues g.V.RowVisitor.HasSeen _ _ _ rows_at c.args.class.now.body i (get_or actions i (Work 0)) here c.visit_counted_row.ensures c.loop-position.invariant

pub returns : goal.returns
returns g c =
    let has_seen = g.V.RowVisitor.HasSeen in
    let actions = c.deref-action-items.result.now in
    let body : actions ≡ c.args.class.now.body = c.deref-action-items.ensures.value ∙ ap (λ (k : _). k.body) c.class.view_is in
    let rows_at = λ (i : ℕ) (action : Action). if is_get action && g.C.Counted.is_counted c.args.counted.now c.args.number i then row B1 (ClassAction c.args.number i) 1 (job_weight c.args.vector.now c.args.number i) ∷ [] else [] in
    let f = λ (entry : ℕ × Action). row B1 (ClassAction c.args.number entry.0) 1 (job_weight c.args.vector.now c.args.number entry.0) in
    let past : length c.args.class.now.body ≤ c.loop-position.position = rw (← body) c.loop-position-test.false in
    let all = walk_ends has_seen _ _ rows_at c.args.class.now.body c.loop-position.position past c.loop-position.invariant in
    visits_same has_seen _ _ _ _ (of_passing (λ entry. is_get entry.1 && g.C.Counted.is_counted c.args.counted.now c.args.number entry.0) (λ entry. f entry ∷ []) (enumerate_from 0 c.args.class.now.body) ∙ one_each f _) all
