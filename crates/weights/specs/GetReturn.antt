-- The weight that a get gives its actor.
use Rattle.std.specs.Prelude.{ℕ}
use Rattle.job_bodies.specs.Plan.{Plan}
pub use Rattle.weights.specs.declared.get_return.GetReturn.{GetReturn}
pub use Rattle.weights.specs.declared.get_return.GetReturn.TheVariants.{DoneWeight, NoWeight}
use Rattle.weights.specs.declared.row.Rule.{Rule}
use Rattle.weights.specs.declared.row.Rule.TheVariants.{V5, L5}
use Rattle.weights.specs.Vector.{Vector, done_weight}

-- the rule that limits the weight of an actor after a get
abbrev pub get_rule : GetReturn → Rule
get_rule DoneWeight = V5
get_rule NoWeight = L5

-- the weight that a get of a job of class k gives its actor
abbrev pub returned_weight : GetReturn → Plan → Vector → ℕ → ℕ
returned_weight DoneWeight plan v k = done_weight plan v k
returned_weight NoWeight plan v k = 0

-- the weight that a done job of class k still has after an actor got it
abbrev pub claimed_weight : GetReturn → Plan → Vector → ℕ → ℕ
claimed_weight DoneWeight plan v k = 0
claimed_weight NoWeight plan v k = done_weight plan v k
