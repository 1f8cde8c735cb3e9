-- The values are those of the warnings before this one.
use Rattle.std.proofs.Common.{◌≡◌, map, take}
use Rattle.serde_json.specs.View.{view}
use Rattle.report.specs.JsonWarnings.{warning_data}
use Rattle.report.proofs.json_warnings.warnings_value.Given as goal

abbrev pub invariant-loop-warning : goal.invariant-loop-warning
invariant-loop-warning l = map view l.values.items ≡ map warning_data (take l.warning-index l.warnings)
