use Rattle.std.proofs.Common.{◌≡◌, ◌≤◌, ◌-◌, ◌∙◌, [], ◌∷◌, ◌++◌, ℕ, List, length, take, drop, refl, sym, ap, subst, arith}
use Rattle.std.specs.Prelude.{slice_index}
use Rattle.std.proofs.lemmas.List.{take_all, length-drop}
use Rattle.weights.specs.declared.row.Row.{Row}
use Rattle.job_bodies.specs.declared.action.Action.{Action}
use Rattle.weights.specs.declared.body.BodyOwner.TheVariants.{Class}
use Rattle.weights.specs.Vector.{class_weights, job_weight}
use Rattle.weights.specs.Body.{place_at}
use Rattle.weights.specs.Rows.{body_rows}
use Rattle.weights.specs.Visits.{Visits}
use Rattle.weights.proofs.Walks.{visits_then, visits_same}
use Rattle.weights.proofs.Fitting.{class_fits, at_positions}
use Rattle.weights.proofs.rows.visit_class_rows.Goals as goal

-- a list without its first element has one element less, so taking that many elements of it takes all
behind_first : (xs : List ℕ) → take (length xs - 1) (drop 1 xs) ≡ drop 1 xs
behind_first xs =
    let shorter = length-drop 1 xs in
    take_all (length xs - 1) (drop 1 xs) (omega arith)

pub slice_bounds-body-count : goal.slice_bounds-body-count
slice_bounds-body-count g c =
    let f = class_fits c.args.plan.now c.args.vector.now c.args.number c.args.class.now c.requires.well_formed c.requires.fits c.requires.class in
    rw c.class_weights.ensures (omega (arith, f.long))

pub slice_bounds-body-start : goal.slice_bounds-body-start
slice_bounds-body-start g c =
    let f = class_fits c.args.plan.now c.args.vector.now c.args.number c.args.class.now c.requires.well_formed c.requires.fits c.requires.class in
    let some : 1 ≤ length c.class_weights.result.now = rw c.class_weights.ensures (omega (arith, f.long)) in
    some

pub visit_body_rows-requires-clause-weighed : goal.visit_body_rows-requires-clause-weighed
visit_body_rows-requires-clause-weighed g c =
    let f = class_fits c.args.plan.now c.args.vector.now c.args.number c.args.class.now c.requires.well_formed c.requires.fits c.requires.class in
    let body : c.deref.result.now ≡ c.args.class.now.body = c.deref.ensures.value ∙ ap (λ (k : _). k.body) c.class.view_is in
    rw (body, behind_first c.class_weights.result.now, c.class_weights.ensures) f.weighed

pub returns : goal.returns
returns g c =
    let has_seen = g.V.RowVisitor.HasSeen in
    let body : c.deref.result.now ≡ c.args.class.now.body = c.deref.ensures.value ∙ ap (λ (k : _). k.body) c.class.view_is in
    let weight : slice_index (take (length c.class_weights.result.now - 1) (drop 1 c.class_weights.result.now)) ≡ job_weight c.args.vector.now c.args.number =
    ap slice_index (behind_first _ ∙ ap (drop 1) c.class_weights.ensures) ∙ at_positions c.args.vector.now c.args.number in
    let rows = λ (weight : ℕ → ℕ) (body : List Action). body_rows c.args.get_return c.args.plan.now c.args.vector.now weight (place_at (Class c.args.number)) body in
    let taking = subst (λ (x : Row). Visits has_seen c.args.visitor.now c.visit.new.self (x ∷ [])) c.take_row.ensures c.visit.ensures in
    let acting = visits_same has_seen _ _ _ _ (ap (λ (w : ℕ → ℕ). rows w c.deref.result.now) weight ∙ ap (rows (job_weight c.args.vector.now c.args.number)) body) c.visit_body_rows.ensures in
    let ending = subst (λ (x : Row). Visits has_seen c.visit_body_rows.new.visitor c.visit-2.new.self (x ∷ [])) c.end_row.ensures c.visit-2.ensures in
    visits_then has_seen _ _ _ _ _ taking (visits_then has_seen _ _ _ _ _ acting ending)
