-- The job that an actor should have got before its end.
use Rattle.std.specs.Prelude.{◌≡◌, ◌≤◌, ◌<◌, ℕ, suc, ◌==◌, List, Option, Some, None, option_map, slice_get}
use Rattle.std.specs.List.{find}
use Rattle.job_bodies.specs.declared.action.Action.{Action}
use Rattle.job_bodies.specs.declared.action.Action.TheVariants.{Get}
use Rattle.job_bodies.specs.Plan.{submitted_class}
use Rattle.conformance.specs.declared.open_job.OpenJob.{OpenJob}
use Rattle.conformance.specs.declared.step.ActorKind.{ActorKind}
use Rattle.conformance.specs.declared.step.PathStep.{PathStep}
use Rattle.conformance.specs.Path.{Walks, IsWithin, count_in, count_in_body}

-- The first of these jobs that has the class.
abbrev pub first_in : ℕ → List OpenJob → Option ℕ
first_in class jobs = option_map (λ (one : OpenJob). one.job) (find (λ (one : OpenJob). one.class == class) jobs)

-- After the steps of the path before `place`, the body cannot reach its end. It may not pass one of its gets, because more
-- jobs of the get's class are open in the path than in the body after the get. `job` is the first of these open jobs of the
-- path.
pub record IsMissingJob (kind : ActorKind) (body : List Action) (path : List PathStep) (place job : ℕ) : Type 0 where
  -- The last index of the body that a joint walk reaches.
  pub reached : ℕ
  pub jobs : List OpenJob
  pub walk : Walks kind body path reached place jobs
  pub last : (index : ℕ) (others : List OpenJob) → Walks kind body path index place others → index ≤ reached
  -- The index of the first get that the body may not pass.
  pub get : ℕ
  pub submit : ℕ
  pub after : reached ≤ get
  pub gets : slice_get body get ≡ Some (Get submit)
  pub fits : (index : ℕ) → reached ≤ index → index ≤ get → IsWithin jobs body index
  pub exceeds : count_in_body (submitted_class body submit) body (suc get) < count_in (submitted_class body submit) jobs
  pub first : first_in (submitted_class body submit) jobs ≡ Some job

-- If a job is given, the actor should have got this job before its end.
abbrev pub IsMissing : ActorKind → List Action → List PathStep → ℕ → Option ℕ → Type 0
IsMissing kind body path place None = Unit {0}
IsMissing kind body path place (Some job) = IsMissingJob kind body path place job
