use Rattle.std.proofs.Common.{◌≡◌, ◌++◌, map}
use Rattle.std.specs.Vec.Iter.{drain_items}
use Rattle.conformance.specs.declared.finding.Finding.TheVariants as kinds
use Rattle.conformance.proofs.collect_findings.push_pools.Given as goal

abbrev pub invariant-loop-deviation : goal.invariant-loop-deviation
invariant-loop-deviation l = record {
  pushed : l.findings.items ≡ l.initial.findings.items ++ map kinds.Pool l.yielded;
  rest : l.yielded ++ drain_items l.deviation-iterator ≡ l.fn.deviations.items;
}
