-- The body of a single path.
use Rattle.std.specs.Prelude.{◌≤◌, List, length, map, slice_index, All}
use Rattle.job_bodies.specs.declared.action.Action.{Action}
use Rattle.job_bodies.specs.declared.action.Action.TheVariants.{Submit, Get}
use Rattle.job_bodies.specs.declared.limits.TheConstants.{MAX_ACTIONS}
use Rattle.conformance.specs.declared.step.PathStep.{PathStep}
use Rattle.conformance.specs.declared.step.PathStep.TheVariants as step
use Rattle.conformance.specs.ValidGets.{HasValidGets}

-- The action of a step: a submit of the first class that the job can belong to, or a get of the submit at the same index.
abbrev pub action_of : PathStep → Action
action_of (step.Submits classes) = Submit (slice_index classes.items 0)
action_of (step.Gets place) = Get place

-- The actions of all steps, in order.
abbrev pub body_of : List PathStep → List Action
body_of path = map action_of path

-- The step is a get, or a submit of a job that can belong to some class.
abbrev pub HasClass : PathStep → Type 0
HasClass (step.Submits classes) = 1 ≤ length classes.items
HasClass (step.Gets place) = Unit {0}

-- The path has a body: it is not longer than a body may be, and each of its jobs can belong to some class. Each get names an
-- earlier submit, and no two gets name the same submit.
pub record HasBody (path : List PathStep) : Type 0 where
  pub short : length path ≤ MAX_ACTIONS
  pub classes : All HasClass path
  pub gets : HasValidGets (body_of path)
