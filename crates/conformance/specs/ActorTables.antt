-- The tables of the unsettled actors, and of the settled jobs whose submitters are not settled.
use Rattle.std.specs.Prelude.{◌≡◌, ◌<◌, ◌⊎◌, ℕ, not, Bool, true, false, List, length, take, slice_get, slice_index_or, string_bytes, if◌then◌else◌, is_some, IsTrue, Option, Some, None}
use Rattle.std.specs.List.{list_any}
use Rattle.std.specs.Option.{option_map}
use Rattle.support.specs.Numbered.{value_at}
use Rattle.recordings.specs.declared.recording_line.RecordedActor.{RecordedActor}
use Rattle.recordings.specs.declared.recording_line.RecordedActor.TheVariants.{Job, Round}
use Rattle.recordings.specs.RecordingLine.{RecordedLine}
use Rattle.recordings.specs.LineParts.{is_same_actor}
use Rattle.recordings.specs.declared.step.RecordedStep.{RecordedStep}
use Rattle.recordings.specs.declared.step.RecordedStep.TheVariants as recorded
use Rattle.recordings.specs.ActorPath.{submits}
use Rattle.job_bodies.specs.Plan.{Plan}
use Rattle.conformance.specs.declared.actor_table.ActorTable.{ActorTable}
use Rattle.conformance.specs.declared.actor_table.UnsettledActor.{UnsettledActor}
use Rattle.conformance.specs.declared.actor_table.EndedPath.{EndedPath}
use Rattle.conformance.specs.declared.job_classes.ClassTable.{ClassTable}
use Rattle.conformance.specs.declared.job_classes.JobClasses.{JobClasses}
use Rattle.conformance.specs.Classes.{AreClassesOf, IsSettled}
use Rattle.conformance.specs.ClassifiedActor.{IsAmbiguous}

abbrev pub in_table : ActorTable → RecordedActor → Option UnsettledActor
in_table table (Job job) = value_at table.jobs job
in_table table (Round round) = value_at table.rounds round

abbrev pub classes_in : ClassTable → ℕ → Option JobClasses
classes_in table job = value_at table.jobs job

-- ---- changes of an actor
-- The actor without its submitter. This is stored for a refused job.
abbrev pub without_submitter : UnsettledActor → UnsettledActor
without_submitter kept = record kept { submitter = None }

abbrev pub with_ended_path : EndedPath → UnsettledActor → UnsettledActor
with_ended_path ended_path kept = record kept { ended_path = Some ended_path }

abbrev pub with_known : ℕ → UnsettledActor → UnsettledActor
with_known known kept = record kept { ended_path = option_map (λ (ended_path : EndedPath). record ended_path { known = known }) kept.ended_path }

-- `new` is `old` with an open actor inserted. The actor has this label, pool and submitter.
pub record InsertsActor (old : ActorTable) (actor : RecordedActor) (label pool : List ℕ) (submitter : Option RecordedActor) (new : ActorTable) : Type 0 where
  pub kept : UnsettledActor
  pub label_is : string_bytes kept.label ≡ label
  pub pool_is : string_bytes kept.pool ≡ pool
  pub submitter_is : kept.submitter ≡ submitter
  pub going : kept.ended_path ≡ None
  pub later : (one : RecordedActor) → in_table new one ≡ (if is_same_actor actor one then Some kept else in_table old one)

-- 1 for a job, 0 for a round.
abbrev pub is_job : RecordedActor → ℕ
is_job (Job job) = 1
is_job (Round round) = 0

-- ---- settled jobs
-- If the stored classes of a job are decided, they are the classes that the job can belong to.
abbrev pub AreClassesIn : Plan → List RecordedLine → ClassTable → Type 0
AreClassesIn plan lines table = (job : ℕ) (known : JobClasses) → classes_in table job ≡ Some known → IsTrue known.is_decided → AreClassesOf plan lines job known.classes.items

-- The stored classes of each job that is not ambiguous are decided.
abbrev pub AreDecidedIn : Plan → List RecordedLine → ClassTable → Type 0
AreDecidedIn plan lines table = (job : ℕ) (known : JobClasses) → classes_in table job ≡ Some known → ¬ IsAmbiguous plan lines (Job job) → IsTrue known.is_decided

-- Each job of the table is settled. If its stored classes are decided, they are the classes that the job can belong to. They are
-- decided unless the job is ambiguous.
pub record AreKnown (plan : Plan) (lines : List RecordedLine) (table : ClassTable) : Type 0 where
  pub settled : (job : ℕ) (known : JobClasses) → classes_in table job ≡ Some known → IsSettled lines (Job job)
  pub classes : AreClassesIn plan lines table
  pub decided : AreDecidedIn plan lines table

-- The stored classes of each job that the path submits are decided.
abbrev pub AreDecidedOn : ClassTable → List RecordedStep → Type 0
AreDecidedOn table path = (job : ℕ) (known : JobClasses) → list_any (submits job) path ≡ true → classes_in table job ≡ Some known → IsTrue known.is_decided

-- Each job that the path submits is in the table.
abbrev pub AreAllIn : ClassTable → List RecordedStep → Type 0
AreAllIn table path = (job : ℕ) → list_any (submits job) path ≡ true → is_some (classes_in table job) ≡ true

-- The path submits no job twice.
abbrev pub AreOnce : List RecordedStep → Type 0
AreOnce path = (i job : ℕ) → i < length path → submits job (slice_index_or path i (recorded.Submits 0)) ≡ true → list_any (submits job) (take i path) ≡ false

-- The jobs that the path submits before this index are in the table.
abbrev pub AreSettledBefore : ClassTable → List RecordedStep → ℕ → Type 0
AreSettledBefore table path place = (job : ℕ) → list_any (submits job) (take place path) ≡ true → is_some (classes_in table job) ≡ true

-- The step is a get, or a submit of a job in the table.
abbrev pub is_settled_step : ClassTable → RecordedStep → Bool
is_settled_step table (recorded.Gets place) = true
is_settled_step table (recorded.Submits job) = is_some (classes_in table job)

abbrev pub is_unsettled : ClassTable → Option RecordedStep → Bool
is_unsettled table None = true
is_unsettled table (Some step) = not (is_settled_step table step)

-- At this index the path ends, or submits a job that is not in the table.
abbrev pub IsUnsettledAt : ClassTable → List RecordedStep → ℕ → Type 0
IsUnsettledAt table path place = is_unsettled table (slice_get path place) ≡ true

-- `new` is `old` without the jobs that the path submits.
abbrev pub AreRemoved : ClassTable → List RecordedStep → ClassTable → Type 0
AreRemoved old path new = (one : ℕ) → classes_in new one ≡ (if list_any (submits one) path then None else classes_in old one)

-- If the actor is a job with a submitter, its classes are stored. All other jobs of `old` stay in the table.
pub record Keeps (old : ClassTable) (actor : RecordedActor) (submitter : Option RecordedActor) (classes : List ℕ) (is_decided : Bool) (new : ClassTable) : Type 0 where
  pub known : (job : ℕ) (known : JobClasses) → classes_in new job ≡ Some known → (classes_in old job ≡ Some known) ⊎ ((actor ≡ Job job) × (known.classes.items ≡ classes) × (known.is_decided ≡ is_decided))
  pub there : (job : ℕ) (by : RecordedActor) → actor ≡ Job job → submitter ≡ Some by → is_some (classes_in new job) ≡ true
  pub stay : (job : ℕ) → is_some (classes_in old job) ≡ true → is_some (classes_in new job) ≡ true

-- If the actor is a job with a submitter, its classes are stored. The jobs that the path submits may be removed. All other
-- jobs of `old` stay in the table.
pub record ReplacesClasses (old : ClassTable) (path : List RecordedStep) (actor : RecordedActor) (submitter : Option RecordedActor) (classes : List ℕ) (is_decided : Bool) (new : ClassTable) : Type 0 where
  pub known : (job : ℕ) (known : JobClasses) → classes_in new job ≡ Some known → (classes_in old job ≡ Some known) ⊎ ((actor ≡ Job job) × (known.classes.items ≡ classes) × (known.is_decided ≡ is_decided))
  pub there : (job : ℕ) (by : RecordedActor) → actor ≡ Job job → submitter ≡ Some by → is_some (classes_in new job) ≡ true
  pub stay : (job : ℕ) → is_some (classes_in old job) ≡ true → list_any (submits job) path ≡ false → is_some (classes_in new job) ≡ true
