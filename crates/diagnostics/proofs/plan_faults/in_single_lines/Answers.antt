use Rattle.std.proofs.Common.{length, ap, sym, subst, arith}
use Rattle.std.proofs.lemmas.List.{length_push}
use Rattle.std.proofs.lemmas.List.Elements.{All-push}
use Rattle.std.specs.List.{All}
use Rattle.diagnostics.specs.Diagnostic.{HasSingleLine}
use Rattle.diagnostics.proofs.plan_faults.in_single_lines.Goals as goal

pub loop-one-preserved : goal.loop-one-preserved
loop-one-preserved c =
    let old = c.loop-one.others.items in
    let pushed = c.in_ok-push.ensures.items in
    record {
      single_lines = subst (All HasSingleLine) (sym pushed) (All-push HasSingleLine old c.in_ok-line.line c.loop-one.invariant.single_lines c.in_ok-line.ensures.single_line);
      each = omega (arith, ap length pushed, length_push old c.in_ok-line.line, c.loop-one.invariant.each);
    }
