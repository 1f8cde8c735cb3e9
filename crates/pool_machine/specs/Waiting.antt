-- Waiting sets: sets of jobs, in any number of pools, that wait only for their own members.
use Rattle.std.specs.Prelude.{◌≡◌, ℕ, ◌==◌, ◌&&◌, not, Bool, true, false, IsTrue, List, [], ◌∷◌, Option, Some, None, slice_get}
use Rattle.std.specs.List.{list_all, list_any}
use Rattle.support.specs.Places.{places_where}
use Rattle.job_bodies.specs.declared.action.Action.{Action}
use Rattle.job_bodies.specs.declared.action.Action.TheVariants.{Get}
use Rattle.job_bodies.specs.Plan.{Plan, class_at}
use Rattle.pool_machine.specs.declared.parent.Parent.{Parent}
use Rattle.pool_machine.specs.declared.parent.Parent.TheVariants as parent
use Rattle.pool_machine.specs.State.{Stage, State, job_at, pool_part, pool_of, is_busy_in, child}
use Rattle.pool_machine.specs.State.Stage.{Queued, At}

-- ---- the definition of a waiting set

abbrev pub is_member : List ℕ → ℕ → Bool
is_member members j = list_any (λ member. member == j) members

abbrev pub IsMember : List ℕ → ℕ → Type 0
IsMember members j = IsTrue (is_member members j)

-- job j at position i is at a get, and the job for which the get waits is a member
pub record WaitsAtGet (plan : Plan) (s : State) (members : List ℕ) (j i : ℕ) : Type 0 where
  pub submit : ℕ
  pub stands : slice_get (class_at plan (job_at s j).class).body i ≡ Some (Get submit)
  pub child_number : ℕ
  pub is_child : child s (parent.Job j) submit ≡ Some child_number
  pub member : IsMember members child_number

-- job j waits in the queue of a pool that has no idle worker, and every job that runs in that pool is a member
pub record WaitsInQueue (plan : Plan) (s : State) (members : List ℕ) (j : ℕ) : Type 0 where
  pub none_idle : (pool_part s (pool_of plan (job_at s j).class)).idle ≡ 0
  pub all_at_work : (n : ℕ) → IsTrue (is_busy_in plan (pool_of plan (job_at s j).class) (job_at s n)) → IsMember members n

-- job j, which is at this stage, is unfinished and waits only for members
abbrev pub WaitsAtStage : Plan → State → List ℕ → ℕ → Stage → Type 0
WaitsAtStage plan s members j Queued = WaitsInQueue plan s members j
WaitsAtStage plan s members j (At i) = WaitsAtGet plan s members j i
WaitsAtStage plan s members j _ = ⊥

-- a waiting set: it has at least one member, all its members are unfinished, and each waits only for members
pub record IsWaitingSet (plan : Plan) (s : State) (members : List ℕ) : Type 0 where
  pub first : ℕ
  pub not_empty : IsMember members first
  pub each : (j : ℕ) → IsMember members j → WaitsAtStage plan s members j (job_at s j).stage

-- ---- the test for a waiting set

abbrev pub is_some_member : List ℕ → Option ℕ → Bool
is_some_member members None = false
is_some_member members (Some j) = is_member members j

-- whether the next action of the actor is a get, and the job for which it waits is a member
abbrev pub waits_at : State → List ℕ → Parent → Option Action → Bool
waits_at s members a (Some (Get t)) = is_some_member members (child s a t)
waits_at s members a _ = false

abbrev pub waits_at_stage : Plan → State → List ℕ → ℕ → ℕ → Stage → Bool
waits_at_stage plan s members j k Queued =
    (pool_part s (pool_of plan k)).idle == 0 && list_all (is_member members) (places_where (is_busy_in plan (pool_of plan k)) s.jobs)
waits_at_stage plan s members j k (At i) = waits_at s members (parent.Job j) (slice_get (class_at plan k).body i)
waits_at_stage plan s members j k _ = false

abbrev pub waits : Plan → State → List ℕ → ℕ → Bool
waits plan s members j = waits_at_stage plan s members j (job_at s j).class (job_at s j).stage

abbrev pub is_none : List ℕ → Bool
is_none [] = true
is_none (j ∷ js) = false

-- whether the numbers, taken as a set, are a waiting set
abbrev pub is_waiting_set : Plan → State → List ℕ → Bool
is_waiting_set plan s members = not (is_none members) && list_all (waits plan s members) members
