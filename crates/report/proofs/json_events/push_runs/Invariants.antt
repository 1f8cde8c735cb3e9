-- The runs so far, the run that is open, and the runs of the remaining steps are all runs.
use Rattle.std.proofs.Common.{map}
use Rattle.serde_json.specs.View.{view}
use Rattle.report.proofs.Runs.{Emitted}
use Rattle.report.proofs.json_events.push_runs.Given as goal

abbrev pub invariant-loop-index : goal.invariant-loop-index
invariant-loop-index l = Emitted l.plan l.places (map view l.fn.values.items) l.steps (map view l.values.items) l.run l.index
