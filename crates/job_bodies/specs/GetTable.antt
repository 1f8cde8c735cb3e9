-- A table that says which submits some actions get. It has an element for each position below MAX_ACTIONS.
use Rattle.std.specs.Prelude.{◌≡◌, ◌<◌, ℕ, Bool, false, List, slice_index_or}
use Rattle.job_bodies.specs.declared.action.Action.{Action}
use Rattle.job_bodies.specs.declared.limits.TheConstants.{MAX_ACTIONS}
use Rattle.job_bodies.specs.Plan.{has_get_of}

-- the element of the table at each position says whether one of the actions is a get of the submit at that position
abbrev pub IsTableOf : List Action → List Bool → Type 0
IsTableOf actions table = (submit : ℕ) → submit < MAX_ACTIONS → slice_index_or table submit false ≡ has_get_of actions submit
