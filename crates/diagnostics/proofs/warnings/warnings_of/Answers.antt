use Rattle.std.proofs.Common.{sym, subst, ◌∙◌}
use Rattle.std.proofs.lemmas.Result.{IfOk-weaker}
use Rattle.diagnostics.specs.Lints.{AreLints}
use Rattle.diagnostics.proofs.warnings.warnings_of.Goals as goal

pub returns-clause-lints : goal.returns-clause-lints
returns-clause-lints c =
    IfOk-weaker c.warnings_about.result _ _
    (λ warnings same. subst (AreLints c.args.plan.now c.args.needed.now c.args.is_safe_at_core) (sym (same ∙ c.deref.ensures.value)) c.in_ok-lints.ensures)
    c.warnings_about.ensures.lints
