use Rattle.std.proofs.Common.{subst, sym, arith}
use Rattle.std.specs.Prelude.{string_bytes}
use Rattle.std.specs.List.{All}
use Rattle.std.proofs.lemmas.Grind.{common_steps}
use Rattle.std.proofs.lemmas.List.Elements.{All-push}
use Rattle.diagnostics.specs.declared.warnings.Warning.{Warning}
use Rattle.diagnostics.specs.Diagnostic.{WarnInSingleLines}
use Rattle.diagnostics.specs.Lines.{HasNoNewline}
use Rattle.diagnostics.specs.WarningWords.{IsWarningOf}
use Rattle.diagnostics.proofs.warnings.warnings_about.Goals as goal

pub loop-lint-preserved : goal.loop-lint-preserved
loop-lint-preserved c = record {
  lints = grind (arith, common_steps);
  single_lines = subst WarnInSingleLines (sym c.in_ok-push.ensures.items)
      (All-push (λ (warning : Warning). HasNoNewline (string_bytes warning.what)) c.loop-lint.warnings.items c.in_ok-warning.warning c.loop-lint.invariant.single_lines c.in_ok-warning.ensures.single_line);
  circles = subst (All (IsWarningOf c.args.plan.now)) (sym c.in_ok-push.ensures.items)
      (All-push (IsWarningOf c.args.plan.now) c.loop-lint.warnings.items c.in_ok-warning.warning c.loop-lint.invariant.circles c.in_ok-warning.ensures.circle);
}
