-- The values so far, followed by the remaining numbers, are all values.
use Rattle.std.proofs.Common.{◌≡◌, ◌++◌, map, length}
use Rattle.serde_json.specs.View.{view}
use Rattle.report.specs.JsonEvents.{number_data}
use Rattle.report.proofs.json_values.number_values.Given as goal

abbrev pub invariant-loop-number : goal.invariant-loop-number
invariant-loop-number l = map view l.values.items ++ map number_data l.numbers ≡ map number_data l.fn.numbers

abbrev pub decreases-loop-number : goal.decreases-loop-number
decreases-loop-number l = length l.numbers
