use Rattle.std.proofs.Common.{◌≡◌, ◌++◌, map}
use Rattle.std.specs.Vec.Iter.{drain_items}
use Rattle.conformance.specs.CollectedFindings as spec
use Rattle.conformance.proofs.collect_findings.push_undecided.Given as goal

abbrev pub invariant-loop-reported : goal.invariant-loop-reported
invariant-loop-reported l = record {
  pushed : l.findings.items ≡ l.initial.findings.items ++ map spec.not_decided l.yielded;
  rest : l.yielded ++ drain_items l.reported-iterator ≡ l.fn.undecided.items;
}
