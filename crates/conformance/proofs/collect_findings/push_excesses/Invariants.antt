use Rattle.std.proofs.Common.{◌≡◌, ◌++◌, map, take}
use Rattle.conformance.specs.declared.finding.Finding.TheVariants as kinds
use Rattle.conformance.proofs.collect_findings.push_excesses.Given as goal

abbrev pub invariant-loop-excess : goal.invariant-loop-excess
invariant-loop-excess l = l.findings.items ≡ l.initial.findings.items ++ map kinds.TooMany (take l.excess-index l.excesses)
