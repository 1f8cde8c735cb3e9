-- Vectors in which every weight of a job is at most `MAX_WEIGHT`.
use Rattle.std.specs.Prelude.{◌≤◌, ℕ, slice_index}
use Rattle.job_bodies.specs.declared.limits.TheConstants.{MAX_WEIGHT}
use Rattle.weights.specs.Vector.{Vector, class_weights}

pub record JobsAreSmall (v : Vector) : Type 0 where
  pub small : (k i : ℕ) → slice_index (class_weights v k) i ≤ MAX_WEIGHT
