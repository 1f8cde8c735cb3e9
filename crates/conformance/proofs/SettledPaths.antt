-- Paths whose jobs are all settled.
use Rattle.std.proofs.Common.{◌≡◌, ℕ, true, List, [], ◌∷◌, ◌++◌, is_some, refl}
use Rattle.std.specs.declared.alloc.Global.{Global}
use Rattle.std.specs.declared.vec.Vec.{Vec}
use Rattle.recordings.specs.RecordingLine.{RecordedLine}
use Rattle.recordings.specs.declared.step.RecordedStep.{RecordedStep}
use Rattle.recordings.specs.declared.step.RecordedStep.TheVariants as recorded
use Rattle.job_bodies.specs.Plan.{Plan}
use Rattle.conformance.specs.declared.step.PathStep.{PathStep}
use Rattle.conformance.specs.declared.step.PathStep.TheVariants as step
use Rattle.recordings.specs.ActorPath.{submits}
use Rattle.recordings.proofs.SubmitIndices.{same_self}
use Rattle.conformance.specs.declared.job_classes.ClassTable.{ClassTable}
use Rattle.conformance.specs.Classes.{AreClassesOf, AreStepsOf, none, submit, get}
use Rattle.conformance.specs.ActorTables.{classes_in, is_settled_step}

pub stand_append : (plan : Plan) (lines : List RecordedLine) (path : List RecordedStep) (steps : List PathStep) (rest : List RecordedStep) (last : List PathStep) → AreStepsOf plan lines path steps → AreStepsOf plan lines rest last → AreStepsOf plan lines (path ++ rest) (steps ++ last)
stand_append plan lines _ _ rest last none h = h
stand_append plan lines _ _ rest last (submit job classes path steps known s) h = submit job classes (path ++ rest) (steps ++ last) known (stand_append plan lines path steps rest last s h)
stand_append plan lines _ _ rest last (get place path steps s) h = get place (path ++ rest) (steps ++ last) (stand_append plan lines path steps rest last s h)

pub stand_get : (plan : Plan) (lines : List RecordedLine) (path : List RecordedStep) (steps : List PathStep) (place : ℕ) → AreStepsOf plan lines path steps → AreStepsOf plan lines (path ++ recorded.Gets place ∷ []) (steps ++ step.Gets place ∷ [])
stand_get plan lines path steps place s = stand_append plan lines path steps (recorded.Gets place ∷ []) (step.Gets place ∷ []) s (get place [] [] none)

pub stand_submit : (plan : Plan) (lines : List RecordedLine) (path : List RecordedStep) (steps : List PathStep) (job : ℕ) (classes : Vec ℕ Global) → AreStepsOf plan lines path steps → AreClassesOf plan lines job classes.items → AreStepsOf plan lines (path ++ recorded.Submits job ∷ []) (steps ++ step.Submits classes ∷ [])
stand_submit plan lines path steps job classes s known = stand_append plan lines path steps (recorded.Submits job ∷ []) (step.Submits classes ∷ []) s (submit job classes [] [] known none)

-- ---- steps
pub settled_at : (table : ClassTable) (step : RecordedStep) → ((job : ℕ) → submits job step ≡ true → is_some (classes_in table job) ≡ true) → is_settled_step table step ≡ true
settled_at table (recorded.Submits job) there = there job (same_self job)
settled_at table (recorded.Gets place) there = refl
