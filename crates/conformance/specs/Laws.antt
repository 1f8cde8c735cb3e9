-- What later lines do not change, and what the lines determine.
use Rattle.std.specs.Prelude.{◌≡◌, ◌<◌, ◌↔◌, ℕ, true, List, ◌++◌, Contains}
use Rattle.std.specs.List.{list_any}
use Rattle.recordings.specs.declared.recording_line.RecordedActor.{RecordedActor}
use Rattle.recordings.specs.declared.recording_line.RecordedActor.TheVariants.{Job, Round}
use Rattle.recordings.specs.RecordingLine.{RecordedLine}
use Rattle.recordings.specs.ActorPath.{submits}
use Rattle.recordings.specs.Path.{path_of}
use Rattle.recordings.specs.PathsOfLines.{KeepsRules}
use Rattle.job_bodies.specs.Plan.{Plan}
use Rattle.conformance.specs.PathState.{has_ended}
use Rattle.conformance.specs.Classes.{AreClassesOf, AreKindsOf, IsSettled}

-- Later lines do not change the path of an ended actor.
abbrev pub PathsStay : Type 0
PathsStay = (before more : List RecordedLine) (actor : RecordedActor) → KeepsRules (before ++ more) → has_ended before actor ≡ true → path_of (before ++ more) actor ≡ path_of before actor

-- A job submits only jobs with larger numbers.
abbrev pub JobsAreLater : Type 0
JobsAreLater = (lines : List RecordedLine) (submitter job : ℕ) → KeepsRules lines → list_any (submits job) (path_of lines (Job submitter)) ≡ true → submitter < job

-- Later lines do not change the classes of a settled job, or the kinds of a settled round.
abbrev pub ClassesStay : Type 0
ClassesStay = (plan : Plan) (before more : List RecordedLine) (job : ℕ) (classes : List ℕ) → KeepsRules (before ++ more) → IsSettled before (Job job) → AreClassesOf plan before job classes → AreClassesOf plan (before ++ more) job classes

abbrev pub KindsStay : Type 0
KindsStay = (plan : Plan) (before more : List RecordedLine) (round : ℕ) (kinds : List ℕ) → KeepsRules (before ++ more) → IsSettled before (Round round) → AreKindsOf plan before round kinds → AreKindsOf plan (before ++ more) round kinds

-- The lines determine the classes that a job can belong to, and the client kinds that a round can belong to.
abbrev pub ClassesAreDetermined : Type 0
ClassesAreDetermined = (plan : Plan) (lines : List RecordedLine) (job : ℕ) (one other : List ℕ) → AreClassesOf plan lines job one → AreClassesOf plan lines job other → (class : ℕ) → Contains one class ↔ Contains other class

abbrev pub KindsAreDetermined : Type 0
KindsAreDetermined = (plan : Plan) (lines : List RecordedLine) (round : ℕ) (one other : List ℕ) → AreKindsOf plan lines round one → AreKindsOf plan lines round other → (kind : ℕ) → Contains one kind ↔ Contains other kind
