use Rattle.std.proofs.Common.{◌≡◌, ◌++◌, map}
use Rattle.std.specs.Vec.Iter.{drain_items}
use Rattle.conformance.specs.declared.finding.Finding.TheVariants as kinds
use Rattle.conformance.proofs.collect_findings.push_labels.Given as goal

abbrev pub invariant-loop-label : goal.invariant-loop-label
invariant-loop-label l = record {
  pushed : l.findings.items ≡ l.initial.findings.items ++ map kinds.UnplannedLabel l.yielded;
  rest : l.yielded ++ drain_items l.label-iterator ≡ l.fn.labels.items;
}
