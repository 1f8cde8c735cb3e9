-- The effect of a line on the table of unsettled actors.
use Rattle.std.specs.Prelude.{◌≡◌, if◌then◌else◌, [], Option, Some, None}
use Rattle.std.specs.Option.{option_map}
use Rattle.recordings.specs.declared.recording_line.RecordedActor.{RecordedActor}
use Rattle.recordings.specs.declared.recording_line.RecordedActor.TheVariants.{Job, Round}
use Rattle.recordings.specs.RecordingLine.{RecordedLine, RoundBegins, RoundEnds, Submits, Refused, JobEnds, JobThrew}
use Rattle.recordings.specs.LineParts.{is_same_actor}
use Rattle.conformance.specs.declared.actor_table.ActorTable.{ActorTable}
use Rattle.conformance.specs.declared.actor_table.UnsettledActor.{UnsettledActor}
use Rattle.conformance.specs.declared.actor_table.EndedPath.{EndedPath}
use Rattle.conformance.specs.ActorTables.{in_table, InsertsActor, without_submitter, with_ended_path}

-- The actor that begins with the line: a round at its begin, or a job at its submit.
abbrev pub begun_by : RecordedLine → Option RecordedActor
begun_by (RoundBegins round kind) = Some (Round round)
begun_by (Submits actor job class pool) = Some (Job job)
begun_by line = None

-- The job that the line records as refused.
abbrev pub refused_by : RecordedLine → Option RecordedActor
refused_by (Refused actor job) = Some (Job job)
refused_by line = None

-- `new` is `old` with `change` applied to the entry of the actor, if there is one.
abbrev pub ChangesEntry : ActorTable → RecordedActor → (UnsettledActor → UnsettledActor) → ActorTable → Type 0
ChangesEntry old actor change new = (one : RecordedActor) → in_table new one ≡ (if is_same_actor actor one then option_map change (in_table old one) else in_table old one)

-- `new` is the table `old` after one more line. If the line ends an actor, `ended_path` has the path of this actor.
abbrev pub ChangesTable : ActorTable → RecordedLine → EndedPath → ActorTable → Type 0
ChangesTable old (RoundBegins round kind) ended_path new = InsertsActor old (Round round) kind [] None new
ChangesTable old (Submits actor job class pool) ended_path new = InsertsActor old (Job job) class pool (Some actor) new
ChangesTable old (Refused actor job) ended_path new = ChangesEntry old (Job job) without_submitter new
ChangesTable old (RoundEnds round) ended_path new = ChangesEntry old (Round round) (with_ended_path ended_path) new
ChangesTable old (JobEnds job) ended_path new = ChangesEntry old (Job job) (with_ended_path ended_path) new
ChangesTable old (JobThrew job) ended_path new = ChangesEntry old (Job job) (with_ended_path ended_path) new
ChangesTable old line ended_path new = (one : RecordedActor) → in_table new one ≡ in_table old one
