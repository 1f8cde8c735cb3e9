-- A witness as JSON.
use Rattle.std.specs.Prelude.{map, codes}
use Rattle.serde_json.specs.Data.{Data, string, object, member, no_members}
use Rattle.job_bodies.specs.Plan.{Plan}
use Rattle.diagnostics.specs.declared.entry_places.PlanPlaces.{PlanPlaces}
use Rattle.interleaving.specs.EventLine.{Line}
use Rattle.interleaving.specs.LineText.{line_text}
use Rattle.counterexample.specs.declared.witness.Witness.{Witness}
use Rattle.counterexample.specs.EventLines.{witness_lines}
use Rattle.report.specs.EventRows.{state_at_end}
use Rattle.report.specs.JsonEvents.{list_data, events_data}
use Rattle.report.specs.JsonEnding.{ending_data}

-- one of the lines that `replay` reads
abbrev pub replay_line : Plan → Line → Data
replay_line plan line = string (line_text plan line)

-- the list of the lines of the witness that `replay` reads
abbrev pub replay_data : Plan → Witness → Data
replay_data plan witness = list_data (map (replay_line plan) (witness_lines witness))

unfoldable pub witness_parts : Data → Data → Data → Data
witness_parts ending events replay =
    object (member (codes "ending") ending (member (codes "events") events (member (codes "replay") replay no_members)))

-- the object of a witness: its ending, its events, and the lines that `replay` reads
unfoldable pub witness_data : PlanPlaces → Plan → Witness → Data
witness_data places plan witness =
    witness_parts (ending_data plan (state_at_end plan witness.events.items) witness.ending) (events_data places plan witness.events.items) (replay_data plan witness)
