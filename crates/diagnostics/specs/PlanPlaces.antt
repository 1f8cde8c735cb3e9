-- The places of a plan's entries, one for each.
use Rattle.std.specs.Prelude.{◌≡◌, ℕ, List, map, length}
use Rattle.job_bodies.specs.Plan.{Class, Client, Plan}
use Rattle.diagnostics.specs.declared.entry_places.PlanPlaces.{PlanPlaces}
use Rattle.diagnostics.specs.declared.entry_places.BodyPlaces.{BodyPlaces}

-- the number of places of actions, for each body
abbrev pub action_counts : List BodyPlaces → List ℕ
action_counts = map (λ places. length places.actions.items)

-- the number of actions of each class's body
abbrev pub class_lengths : List Class → List ℕ
class_lengths = map (λ class. length class.body)

-- the number of actions of each client kind's body
abbrev pub client_lengths : List Client → List ℕ
client_lengths = map (λ client. length client.body)

-- there is a place for each pool, for each class and client kind, and for each action of their bodies
pub record FitPlan (plan : Plan) (places : PlanPlaces) : Type 0 where
  pub pools : length places.pools.items ≡ length plan.pools
  pub classes : action_counts places.classes.items ≡ class_lengths plan.classes
  pub clients : action_counts places.clients.items ≡ client_lengths plan.clients
