-- Vectors in which some classes have their steady rows.
use Rattle.std.specs.Prelude.{◌≡◌, ◌<◌, ◌⊎◌, ℕ, [], length, slice_index}
use Rattle.job_bodies.specs.Plan.{Plan}
use Rattle.weights.specs.Vector.{Vector, class_weights}
use Rattle.size_search.specs.Small.{JobsAreSmall}
use Rattle.size_search.specs.Steady.{steady_vector, steady_levels}

-- the classes of lower levels have their steady rows, and so do the classes of this level with a number below `number`
pub record IsComputedUpTo (plan : Plan) (v : Vector) (level number : ℕ) : Type 0 where
  pub as_many : length v.classes ≡ length plan.classes
  pub no_workers : v.workers ≡ []
  pub no_clients : v.clients ≡ []
  pub jobs : JobsAreSmall v
  pub rows : (k : ℕ) → k < length plan.classes → (slice_index (steady_levels plan) k < level) ⊎ ((slice_index (steady_levels plan) k ≡ level) × (k < number)) → class_weights v k ≡ class_weights (steady_vector plan) k
