-- The values so far are those at the start and those of the faults before this one.
use Rattle.std.proofs.Common.{◌≡◌, ◌++◌, map, take}
use Rattle.serde_json.specs.View.{view}
use Rattle.report.specs.JsonFaults.{diagnostic_data}
use Rattle.report.proofs.json_faults.push_others.Given as goal

abbrev pub invariant-loop-diagnostic : goal.invariant-loop-diagnostic
invariant-loop-diagnostic l = map view l.values.items ≡ map view l.fn.values.items ++ map diagnostic_data (take l.diagnostic-index l.others)
