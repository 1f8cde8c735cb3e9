-- The values so far are the results of the annotations before the current index, in order.
use Rattle.std.proofs.Common.{◌≡◌, map, take}
use Rattle.serde_json.specs.View.{view}
use Rattle.report.specs.Annotations.{remarks_in}
use Rattle.report.specs.Sarif.{result_data}
use Rattle.report.proofs.sarif.results_value.Given as goal

abbrev pub invariant-loop-annotation : goal.invariant-loop-annotation
invariant-loop-annotation l = map view l.values.items ≡ map (result_data l.file) (remarks_in (take l.annotation-index l.annotations))
