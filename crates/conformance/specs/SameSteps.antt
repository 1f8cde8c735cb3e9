-- The paths that have the steps of a body, in the same order.
use Rattle.std.specs.Prelude.{◌≡◌, ◌<◌, ◌==◌, ℕ, Bool, true, false, List, Option, Some, length, slice_get}
use Rattle.job_bodies.specs.declared.action.Action.{Action}
use Rattle.job_bodies.specs.declared.action.Action.TheVariants.{Work, Submit, Get}
use Rattle.conformance.specs.declared.step.PathStep.{PathStep}
use Rattle.conformance.specs.declared.step.PathStep.TheVariants.{Submits, Gets}
use Rattle.conformance.specs.PathStep.{submits}
use Rattle.conformance.specs.ValidGets.{HasValidGets}

-- The step submits a job that may belong to the class that the action submits, or both get the job of the submit with the same
-- index.
abbrev pub is_same_step : Action → PathStep → Bool
is_same_step (Work units) step = false
is_same_step (Submit class) step = submits step class
is_same_step (Get submit) (Submits classes) = false
is_same_step (Get submit) (Gets job) = job == submit

abbrev pub is_same_step_at : Option Action → Option PathStep → Bool
is_same_step_at (Some action) (Some step) = is_same_step action step
is_same_step_at _ _ = false

-- The body and the path have the same steps, in the same order.
pub record HasSameSteps (body : List Action) (path : List PathStep) : Type 0 where
  pub same_length : length body ≡ length path
  pub steps : (index : ℕ) → index < length body → is_same_step_at (slice_get body index) (slice_get path index) ≡ true
  pub gets : HasValidGets body
