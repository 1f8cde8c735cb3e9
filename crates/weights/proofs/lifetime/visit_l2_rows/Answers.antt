use Rattle.std.proofs.Common.{◌≡◌, [], ◌∷◌, ◌∙◌, subst}
use Rattle.std.proofs.lemmas.Option.{slice_get-get_or}
use Rattle.weights.specs.declared.row.Row.{Row}
use Rattle.weights.specs.declared.row.Rule.TheVariants.{L2}
use Rattle.weights.specs.declared.row.Place.TheVariants.{Class}
use Rattle.weights.specs.Row.{row}
use Rattle.weights.specs.Visits.{Visits}
use Rattle.weights.proofs.Walks.{walk_continues, walk_ends, visits_same, one_each_placeless}
use Rattle.weights.proofs.lifetime.visit_l2_rows.Goals as goal

pub loop-weight-preserved : goal.loop-weight-preserved
loop-weight-preserved g c =
    let has_seen = g.V.RowVisitor.HasSeen in
    let i = c.loop-weight.weight-index in
    let rows_at = λ (_ : _) (weight : _). row L2 (Class c.args.class) 1 weight ∷ [] in
    let taken = subst (λ (x : Row). Visits has_seen c.loop-weight.visitor c.visit.new.self (x ∷ [])) c.new.ensures c.visit.ensures in
    walk_continues has_seen _ _ _ rows_at c.args.weights.now i _ (slice_get-get_or c.args.weights.now i 0 c.loop-weight-test.true) taken c.loop-weight.invariant

pub returns : goal.returns
returns g c =
    let has_seen = g.V.RowVisitor.HasSeen in
    let rows_at = λ (_ : _) (weight : _). row L2 (Class c.args.class) 1 weight ∷ [] in
    let all = walk_ends has_seen _ _ rows_at c.args.weights.now c.loop-weight.weight-index c.loop-weight-test.false c.loop-weight.invariant in
    visits_same has_seen _ _ _ _ (one_each_placeless (λ weight. row L2 (Class c.args.class) 1 weight) 0 c.args.weights.now) all
