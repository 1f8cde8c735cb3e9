use Rattle.std.proofs.Common.{take, filter}
use Rattle.conformance.specs.CollectedFindings as spec
use Rattle.conformance.specs.Lines.{lines_of}
use Rattle.conformance.proofs.collect_findings.push_counted.Given as goal

abbrev pub invariant-loop-invalidation : goal.invariant-loop-invalidation
invariant-loop-invalidation l = spec.Adds l.initial.findings.items (spec.AreInvalidationsOf (lines_of l.recording) (filter (spec.is_counted l.without_refusals) (take l.invalidation-index l.invalidations))) l.findings.items
