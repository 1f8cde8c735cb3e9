-- The values so far are the rules of the names before the current index, in order.
use Rattle.std.proofs.Common.{◌≡◌, map, take}
use Rattle.std.specs.Prelude.{string_bytes}
use Rattle.serde_json.specs.View.{view}
use Rattle.report.specs.Sarif.{rule_data}
use Rattle.report.proofs.sarif.names_value.Given as goal

abbrev pub invariant-loop-name : goal.invariant-loop-name
invariant-loop-name l = map view l.values.items ≡ map rule_data (map string_bytes (take l.name-index l.names))
