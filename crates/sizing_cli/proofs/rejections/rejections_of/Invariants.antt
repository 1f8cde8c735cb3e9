use Rattle.report.specs.Finding.{AreRejections}
use Rattle.sizing_cli.proofs.rejections.rejections_of.Given as goal

abbrev pub invariant-loop-part : goal.invariant-loop-part
invariant-loop-part l = AreRejections l.plan l.found.items
