-- A body, and the weight of its actor at each position.
use Rattle.std.specs.Prelude.{◌≤◌, ◌<◌, ℕ, List, length, slice_index}
use Rattle.job_bodies.specs.declared.action.Action.{Action}
use Rattle.job_bodies.specs.Plan.{Plan}
use Rattle.job_bodies.specs.ValidBody.{IsValidBody}
use Rattle.job_bodies.specs.declared.limits.TheConstants.{MAX_WEIGHT}
use Rattle.weights.specs.declared.row.Place.{Place}
use Rattle.weights.specs.declared.row.Place.TheVariants.{ClassAction, ClientAction}
use Rattle.weights.specs.declared.body.BodyOwner.{BodyOwner}
use Rattle.weights.specs.declared.body.BodyOwner.TheVariants.{Class, Client}

-- the place of the action at position i of the body
abbrev pub place_at : BodyOwner → ℕ → Place
place_at (Class k) i = ClassAction k i
place_at (Client c) i = ClientAction c i

-- the body with these actions is valid, and `weights` has a weight for each position of the body, from 0 to its length; no
-- weight is above MAX_WEIGHT
pub record IsWeighed (plan : Plan) (actions : List Action) (weights : List ℕ) : Type 0 where
  pub valid : IsValidBody plan actions
  pub long : length actions < length weights
  pub small : (i : ℕ) → slice_index weights i ≤ MAX_WEIGHT
