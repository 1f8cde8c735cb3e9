-- The reason why no joint walk over a body and a path makes the next step of the path.
use Rattle.std.specs.Prelude.{◌≡◌, ◌≤◌, ◌<◌, ℕ, true, List, Option, Some, None, slice_get}
use Rattle.job_bodies.specs.declared.action.Action.{Action}
use Rattle.job_bodies.specs.declared.action.Action.TheVariants.{Submit}
use Rattle.conformance.specs.declared.open_job.OpenJob.{OpenJob}
use Rattle.conformance.specs.declared.open_excess.OpenExcess.{OpenExcess}
use Rattle.conformance.specs.declared.step.ActorKind.{ActorKind}
use Rattle.conformance.specs.declared.step.PathStep.{PathStep}
use Rattle.conformance.specs.PathStep.{submits}
use Rattle.conformance.specs.Path.{Walks, IsWithin, count_in, count_in_body}

-- The step of the path at `place` is a submit, and the body has a matching submit at index `submit`: a submit of one of the
-- job's classes. After the steps before `place`, the body can be at this index or at an earlier one.
pub record IsSubmitAhead (kind : ActorKind) (body : List Action) (path : List PathStep) (place submit : ℕ) : Type 0 where
  pub reached : ℕ
  pub jobs : List OpenJob
  pub walk : Walks kind body path reached place jobs
  pub ahead : reached ≤ submit
  pub step : PathStep
  pub class : ℕ
  pub step_is : slice_get path place ≡ Some step
  pub may_be : submits step class ≡ true
  pub submit_is : slice_get body submit ≡ Some (Submit class)

-- `excess` is the reason why the body cannot make the submit at `place`. On the way to its next matching submit, the body has
-- at some moment fewer open jobs of the class of `excess` than the path.
pub record IsOpenExcess (kind : ActorKind) (body : List Action) (path : List PathStep) (place : ℕ) (excess : OpenExcess) : Type 0 where
  -- The index of the body's next matching submit.
  pub submit : ℕ
  pub ahead : IsSubmitAhead kind body path place submit
  pub next : (other : ℕ) → IsSubmitAhead kind body path place other → submit ≤ other
  -- The last index that a joint walk reaches, at or before this submit.
  pub reached : ℕ
  pub jobs : List OpenJob
  pub walk : Walks kind body path reached place jobs
  pub before : reached ≤ submit
  pub last : (index : ℕ) (others : List OpenJob) → Walks kind body path index place others → index ≤ submit → index ≤ reached
  -- The number of jobs of the class that are open in the path.
  pub open_is : excess.open_jobs ≡ count_in excess.class jobs
  -- The first index on the way at which too many jobs are open: the path has more open jobs of the class than the body.
  pub stop : ℕ
  pub after : reached < stop
  pub within : stop ≤ submit
  pub fits : (index : ℕ) → reached ≤ index → index < stop → IsWithin jobs body index
  pub exceeds : count_in_body excess.class body stop < excess.open_jobs
  -- The limit is the smallest number of jobs of the class that are open in the body on the way.
  pub least : (index : ℕ) → reached ≤ index → index ≤ submit → excess.limit ≤ count_in_body excess.class body index
  pub least_at : ℕ
  pub least_after : reached ≤ least_at
  pub least_within : least_at ≤ submit
  pub least_is : count_in_body excess.class body least_at ≡ excess.limit

-- The reason why no joint walk makes the step at `place`. If there is an excess, too many jobs are open. If there is none,
-- the body has no matching submit left, or the step is a get, or there is no step.
abbrev pub IsReason : ActorKind → List Action → List PathStep → ℕ → Option OpenExcess → Type 0
IsReason kind body path place None = (submit : ℕ) → ¬ IsSubmitAhead kind body path place submit
IsReason kind body path place (Some excess) = IsOpenExcess kind body path place excess
