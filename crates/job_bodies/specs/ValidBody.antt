-- The properties of a valid body, stated for each position.
use Rattle.std.specs.Prelude.{◌≡◌, ◌≤◌, ◌<◌, ℕ, true, List, length, slice_get, Some}
use Rattle.job_bodies.specs.declared.action.Action.{Action}
use Rattle.job_bodies.specs.declared.action.Action.TheVariants.{Work, Submit, Get}
use Rattle.job_bodies.specs.declared.limits.TheConstants.{MAX_ACTIONS, MAX_WORK}
use Rattle.job_bodies.specs.Plan.{Plan, submits}

-- the body is valid. It has at most the maximum number of actions, and each number of units of work is in range. Each submit
-- names a class of the plan. Each get names an earlier submit, and no two gets name the same submit.
pub record IsValidBody (plan : Plan) (body : List Action) : Type 0 where
  pub short : length body ≤ MAX_ACTIONS
  pub work : (i u : ℕ) → slice_get body i ≡ Some (Work u) → (1 ≤ u) × (u ≤ MAX_WORK)
  pub submit : (i k : ℕ) → slice_get body i ≡ Some (Submit k) → k < length plan.classes
  pub behind : (g t : ℕ) → slice_get body g ≡ Some (Get t) → t < g
  pub of_submit : (g t : ℕ) → slice_get body g ≡ Some (Get t) → submits (slice_get body t) ≡ true
  pub once : (g h t : ℕ) → g < h → slice_get body g ≡ Some (Get t) → slice_get body h ≡ Some (Get t) → ⊥
