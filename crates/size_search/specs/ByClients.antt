-- The classes that clients submit, directly or through other jobs.
use Rattle.std.specs.Prelude.{◌≡◌, ◌↔◌, ℕ, Bool, true, false, List, map, length, slice_index_or}
use Rattle.job_bodies.specs.declared.action.Action.{Action}
use Rattle.job_bodies.specs.Plan.{Client, Plan}
use Rattle.size_search.specs.Submitted.{IsSubmitted, repeated_bodies}

-- the bodies of all client kinds
abbrev pub client_bodies : Plan → List (List Action)
client_bodies plan = map (λ (client : Client). client.body) plan.clients

-- there is one mark for each class, and it is true exactly when clients submit the class, directly or through other jobs
pub record MarksSubmitted (plan : Plan) (marks : List Bool) : Type 0 where
  pub as_many : length marks ≡ length plan.classes
  pub submitted : (k : ℕ) → (slice_index_or marks k false ≡ true) ↔ IsSubmitted plan (client_bodies plan) k

-- there is one mark for each class, and it is true exactly when repeating clients submit the class, directly or through other
-- jobs
pub record MarksRepeated (plan : Plan) (marks : List Bool) : Type 0 where
  pub as_many : length marks ≡ length plan.classes
  pub submitted : (k : ℕ) → (slice_index_or marks k false ≡ true) ↔ IsSubmitted plan (repeated_bodies plan) k
