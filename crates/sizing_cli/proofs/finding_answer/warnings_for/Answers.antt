use Rattle.diagnostics.specs.Lints.{lints_in}
use Rattle.sizing_cli.proofs.finding_answer.warnings_for.Goals as goal

pub returns : goal.returns
returns c = record {
  lints = lints_in c.in_ok-warnings.warnings.items;
  are_lints = c.in_ok-warnings.ensures.lints;
  warned = c.in_ok-all.ensures.lints;
  single_lines = c.in_ok-all.ensures.single_lines;
  circles = c.in_ok-all.ensures.circles c.args.plan.now c.in_ok-warnings.ensures.circles;
}
