use Rattle.std.proofs.Common.{◌≡◌, ◌++◌, take, flat_map, string_bytes}
use Rattle.conformance.specs.FindingText as spec
use Rattle.conformance.proofs.finding_lines.push_findings.Given as goal

abbrev pub invariant-loop-finding : goal.invariant-loop-finding
invariant-loop-finding l = string_bytes l.text ≡ string_bytes l.initial.text ++ flat_map (spec.finding_line l.plan) (take l.finding-index l.findings)
