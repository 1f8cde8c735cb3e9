-- The machine can follow each actor of a recording in which all jobs and rounds behave as planned.
use Rattle.std.specs.Prelude.{◌≡◌, ℕ, true, List, [], Some, IsTrue}
use Rattle.recordings.specs.declared.recording_line.RecordedActor.TheVariants.{Job, Round}
use Rattle.recordings.specs.RecordingLine.{RecordedLine}
use Rattle.recordings.specs.Before.{is_begun}
use Rattle.recordings.specs.LineSteps.{is_submitted}
use Rattle.recordings.specs.Path.{path_of}
use Rattle.job_bodies.specs.declared.action.Action.{Action}
use Rattle.job_bodies.specs.Plan.{Plan}
use Rattle.job_bodies.specs.WellFormed.{IsWellFormed}
use Rattle.pool_machine.specs.declared.parent.Parent.{Parent}
use Rattle.cert_text.specs.Cert.{Cert}
use Rattle.soundness.specs.Accepted.{accepted}
use Rattle.soundness.specs.Execute.{JavaState}
use Rattle.soundness.specs.Skipping.{Choice, ChoicesReach}
use Rattle.conformance.specs.declared.step.ActorKind.{ActorKind}
use Rattle.conformance.specs.declared.step.ActorKind.TheVariants as actor_kind
use Rattle.conformance.specs.declared.step.PathStep.{PathStep}
use Rattle.conformance.specs.declared.step.PathState.{PathState}
use Rattle.conformance.specs.PathState.{path_state_of}
use Rattle.conformance.specs.FamilyMatch.{class_body, client_body, IsClassOf, IsKindOf}
use Rattle.conformance.specs.Label.{label_of, kind_of}
use Rattle.conformance.specs.Classes.{AreStepsOf}
use Rattle.conformance.specs.Conforms.{DoAsPlanned}
use Rattle.conformance.specs.LaggingRun.{IsAtStart, Follows}

-- The machine can follow these steps with an actor that has this body. It can do so from each reachable state in which the
-- actor is at the start of the body.
abbrev pub IsFollowed : Plan → ActorKind → PathState → List Action → List PathStep → Type 0
IsFollowed plan kind state body steps = (actor : Parent) (choices : List Choice) (s : JavaState) → ChoicesReach plan choices s → IsAtStart plan actor body s → Follows plan actor kind state body 0 [] steps s

-- The path of the job matches the body of at least one class of the job's family. The machine can follow the path with the
-- body of each such class. Each submit of the path has the classes that its job can belong to.
pub record IsFollowedJob (plan : Plan) (lines : List RecordedLine) (job : ℕ) : Type 0 where
  pub label : List ℕ
  pub pool : List ℕ
  pub named : label_of lines job ≡ Some (label, pool)
  pub steps : List PathStep
  pub path : AreStepsOf plan lines (path_of lines (Job job)) steps
  pub some : ℕ
  pub is_some : IsClassOf plan label pool (path_state_of lines (Job job)) steps some
  pub each : (class : ℕ) → IsClassOf plan label pool (path_state_of lines (Job job)) steps class → IsFollowed plan actor_kind.Job (path_state_of lines (Job job)) (class_body plan class) steps

-- The path of the round matches the body of at least one client kind of the round's family. The machine can follow the path
-- with the body of each such kind. Each submit of the path has the classes that its job can belong to.
pub record IsFollowedRound (plan : Plan) (lines : List RecordedLine) (round : ℕ) : Type 0 where
  pub label : List ℕ
  pub named : kind_of lines round ≡ Some label
  pub steps : List PathStep
  pub path : AreStepsOf plan lines (path_of lines (Round round)) steps
  pub some : ℕ
  pub is_some : IsKindOf plan label (path_state_of lines (Round round)) steps some
  pub each : (kind : ℕ) → IsKindOf plan label (path_state_of lines (Round round)) steps kind → IsFollowed plan actor_kind.Round (path_state_of lines (Round round)) (client_body plan kind) steps

-- The machine can follow each submitted job and each round that began.
pub record AreActorsFollowed (plan : Plan) (lines : List RecordedLine) : Type 0 where
  pub jobs : (job : ℕ) → is_submitted lines job ≡ true → IsFollowedJob plan lines job
  pub rounds : (round : ℕ) → is_begun lines round ≡ true → IsFollowedRound plan lines round

-- If a certificate accepts a well-formed plan, and all jobs and rounds of a recording behave as planned, the machine can
-- follow each of them.
abbrev pub PlannedActorsAreFollowed : Type 0
PlannedActorsAreFollowed = (plan : Plan) (cert : Cert) (lines : List RecordedLine) → IsWellFormed plan → IsTrue (accepted plan cert) → DoAsPlanned plan lines → AreActorsFollowed plan lines
