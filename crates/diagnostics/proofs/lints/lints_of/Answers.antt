use Rattle.std.proofs.Common.{ap₂, ◌∙◌}
use Rattle.std.proofs.lemmas.Result.{IfOk-weaker}
use Rattle.diagnostics.specs.Lints.{all_lints}
use Rattle.diagnostics.proofs.lints.lints_of.Goals as goal

pub returns : goal.returns
returns c =
    let plan = c.args.plan.now in
    IfOk-weaker c.lints_with.result _ _
    (λ found is. record {
      marks = c.in_ok-marks.marks.items;
      submitted = c.in_ok-marks.ensures;
      repeated = c.in_ok-repeated.repeated.items;
      submitted_repeatedly = c.in_ok-repeated.ensures;
      cause = c.in_ok-cause.cause;
      is_cause = c.in_ok-cause.ensures.cause;
      none = c.in_ok-cause.ensures.none;
      is = is ∙ ap₂ (all_lints plan c.args.needed.now c.args.is_safe_at_core c.in_ok-cause.cause) c.deref.ensures.value c.deref-2.ensures.value;
    })
    c.lints_with.ensures
