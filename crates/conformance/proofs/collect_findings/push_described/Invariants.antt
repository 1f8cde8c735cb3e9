use Rattle.std.proofs.Common.{take}
use Rattle.conformance.specs.CollectedFindings as spec
use Rattle.conformance.specs.JobSet.{has_job}
use Rattle.conformance.specs.Lines.{lines_of}
use Rattle.conformance.proofs.collect_findings.push_described.Given as goal

abbrev pub invariant-loop-reported : goal.invariant-loop-reported
invariant-loop-reported l = spec.Adds l.initial.findings.items (spec.AreMismatchesOf l.plan (lines_of l.first) (has_job l.classless) (take l.reported-index l.mismatches)) l.findings.items
