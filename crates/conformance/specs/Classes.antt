-- The classes that a recorded job can belong to, and the kinds of a round.
use Rattle.std.specs.Prelude.{◌≡◌, ℕ, true, List, [], ◌∷◌, Some}
use Rattle.std.specs.List.{list_any}
use Rattle.std.specs.declared.alloc.Global.{Global}
use Rattle.std.specs.declared.vec.Vec.{Vec}
use Rattle.recordings.specs.declared.recording_line.RecordedActor.{RecordedActor}
use Rattle.recordings.specs.declared.recording_line.RecordedActor.TheVariants.{Job, Round}
use Rattle.recordings.specs.RecordingLine.{RecordedLine}
use Rattle.recordings.specs.declared.step.RecordedStep.{RecordedStep}
use Rattle.recordings.specs.declared.step.RecordedStep.TheVariants as recorded
use Rattle.recordings.specs.ActorPath.{submits}
use Rattle.recordings.specs.Path.{path_of}
use Rattle.job_bodies.specs.Plan.{Plan}
use Rattle.conformance.specs.declared.step.PathStep.{PathStep}
use Rattle.conformance.specs.declared.step.PathStep.TheVariants as step
use Rattle.conformance.specs.FamilyMatch.{IsClassOf, IsKindOf, AreExactly}
use Rattle.conformance.specs.PathState.{has_ended, path_state_of}
use Rattle.conformance.specs.Label.{label_of, kind_of}

mutual
  -- The classes that the job can belong to. These are the classes of its family with a body that the path of the job matches.
  -- In this match, each job of the path may have any of the classes that it can belong to itself.
  pub data AreClassesOf (plan : Plan) (lines : List RecordedLine) : ℕ → List ℕ → Type 0 where
    by_path : (job : ℕ) (class pool : List ℕ) (steps : List PathStep) (classes : List ℕ)
        → label_of lines job ≡ Some (class, pool)
        → AreStepsOf plan lines (path_of lines (Job job)) steps
        → AreExactly (IsClassOf plan class pool (path_state_of lines (Job job)) steps) classes
        → AreClassesOf plan lines job classes

  -- The steps of the path. Each submit has the classes that its job can belong to.
  pub data AreStepsOf (plan : Plan) (lines : List RecordedLine) : List RecordedStep → List PathStep → Type 0 where
    none : AreStepsOf plan lines [] []
    submit : (job : ℕ) (classes : Vec ℕ Global) (path : List RecordedStep) (steps : List PathStep)
        → AreClassesOf plan lines job classes.items
        → AreStepsOf plan lines path steps
        → AreStepsOf plan lines (recorded.Submits job ∷ path) (step.Submits classes ∷ steps)
    get : (place : ℕ) (path : List RecordedStep) (steps : List PathStep)
        → AreStepsOf plan lines path steps
        → AreStepsOf plan lines (recorded.Gets place ∷ path) (step.Gets place ∷ steps)

-- The client kinds that the round can belong to: those of its family with a body that the path of the round matches.
pub record AreKindsOf (plan : Plan) (lines : List RecordedLine) (round : ℕ) (kinds : List ℕ) : Type 0 where
  pub kind : List ℕ
  pub steps : List PathStep
  pub named : kind_of lines round ≡ Some kind
  pub path : AreStepsOf plan lines (path_of lines (Round round)) steps
  pub exact : AreExactly (IsKindOf plan kind (path_state_of lines (Round round)) steps) kinds

-- The actor is settled: it has ended, and each job of its path is settled. Later lines do not change the classes of the
-- actor.
pub data IsSettled (lines : List RecordedLine) : RecordedActor → Type 0 where
  settled : (actor : RecordedActor)
      → has_ended lines actor ≡ true
      → ((job : ℕ) → list_any (submits job) (path_of lines actor) ≡ true → IsSettled lines (Job job))
      → IsSettled lines actor
