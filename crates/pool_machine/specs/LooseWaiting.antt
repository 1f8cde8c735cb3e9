-- Loose waiting sets: sets of jobs that wait only for their own members, now or at later gets.
use Rattle.std.specs.Prelude.{◌≡◌, ◌≤◌, ℕ, List, Some, slice_get}
use Rattle.job_bodies.specs.declared.action.Action.TheVariants.{Get}
use Rattle.job_bodies.specs.Plan.{Plan, class_at, submitted_class}
use Rattle.pool_machine.specs.declared.parent.Parent.TheVariants as parent
use Rattle.pool_machine.specs.State.{Stage, State, job_at}
use Rattle.pool_machine.specs.State.Stage.{Queued, At}
use Rattle.pool_machine.specs.Waiting.{IsMember, WaitsInQueue}

-- job j, which is at position i of its body, created a member of the set; at position i or later, its body has a get of a job of that
-- member's class
pub record WaitsForChild (plan : Plan) (s : State) (members : List ℕ) (j i : ℕ) : Type 0 where
  pub child_number : ℕ
  pub is_child : (job_at s child_number).parent ≡ parent.Job j
  pub member : IsMember members child_number
  pub get : ℕ
  pub submit : ℕ
  pub not_passed : i ≤ get
  pub stands : slice_get (class_at plan (job_at s j).class).body get ≡ Some (Get submit)
  pub of_class : (job_at s child_number).class ≡ submitted_class (class_at plan (job_at s j).class).body submit

-- an unfinished job that waits only for members, now or later
abbrev pub WaitsLoosely : Plan → State → List ℕ → ℕ → Stage → Type 0
WaitsLoosely plan s members j Queued = WaitsInQueue plan s members j
WaitsLoosely plan s members j (At i) = WaitsForChild plan s members j i
WaitsLoosely plan s members j _ = ⊥

-- a set of at least one job: all members are unfinished, and each waits only for members, now or later
pub record IsLooseWaitingSet (plan : Plan) (s : State) (members : List ℕ) : Type 0 where
  pub first : ℕ
  pub not_empty : IsMember members first
  pub each : (j : ℕ) → IsMember members j → WaitsLoosely plan s members j (job_at s j).stage
