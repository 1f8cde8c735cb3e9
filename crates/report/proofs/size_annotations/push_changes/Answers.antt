use Rattle.std.proofs.Common.{List, ◌+◌, ◌++◌, ap, ◌∙◌}
use Rattle.report.specs.Annotations.{Remark}
use Rattle.report.specs.Remarks.{fitted_remarks}
use Rattle.report.proofs.Rows.{rest_of, part_more}
use Rattle.report.proofs.size_annotations.push_changes.Goals as goal

pub loop-number-preserved : goal.loop-number-preserved
loop-number-preserved c =
    let fitted = c.args.fitted.now in
    let number = c.loop-number.number in
    let fit = c.index-fitted-number.result in
    let rest = rest_of (fitted_remarks c.args.rule c.args.places.now c.args.plan.now) fitted (number + 1) in
    ap (λ (remarks : List Remark). remarks ++ rest) c.in_ok-push_fitted.ensures
    ∙ part_more (fitted_remarks c.args.rule c.args.places.now c.args.plan.now) fitted number fit fit _ _ c.loop-number-test.true c.index-fitted-number.is c.loop-number.invariant
