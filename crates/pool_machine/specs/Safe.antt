-- The safety of a plan. In every reachable state, no submit has been refused, no pool has more threads than its maximum, and no
-- bounded queue has more jobs than its capacity. If the capacity is 0, the queue has at most as many jobs as its pool has idle
-- workers. No set of unfinished jobs waits only for its own members, now or at later gets.
use Rattle.std.specs.Prelude.{◌≡◌, ◌≤◌, ◌<◌, ℕ, Bool, true, false, IsTrue, IsFalse, is_some, List, length}
use Rattle.job_bodies.specs.Plan.{Plan, pool_at}
use Rattle.pool_machine.specs.PoolState.{queue_limit}
use Rattle.pool_machine.specs.declared.event.Event.{Event}
use Rattle.pool_machine.specs.declared.event.Event.TheVariants.{Job, Take}
use Rattle.pool_machine.specs.State.{State, job_at, pool_part, threads, is_unfinished}
use Rattle.pool_machine.specs.Step.{step}
use Rattle.pool_machine.specs.Reach.{Reaches}
use Rattle.pool_machine.specs.Waiting.{IsWaitingSet}
use Rattle.pool_machine.specs.LooseWaiting.{IsLooseWaitingSet}

pub record IsSafe (plan : Plan) (s : State) : Type 0 where
  pub none_refused : s.refusals ≡ 0
  pub within_max : (p : ℕ) → p < length plan.pools → threads plan s p ≤ (pool_at plan p).max
  pub within_queue : (p : ℕ) → p < length plan.pools → IsFalse (pool_at plan p).unbounded → length (pool_part s p).queue ≤ queue_limit (pool_at plan p).queue (pool_part s p).idle
  pub none_waits : (members : List ℕ) → ¬ IsWaitingSet plan s members
  pub none_waits_loosely : (members : List ℕ) → ¬ IsLooseWaitingSet plan s members

-- every reachable state of the plan is safe
abbrev pub Safe : Plan → Type 0
Safe plan = (events : List Event) (s : State) → Reaches plan events s → IsSafe plan s

abbrev pub is_of_job_or_pool : Event → Bool
is_of_job_or_pool (Job j) = true
is_of_job_or_pool (Take p) = true
is_of_job_or_pool _ = false

-- some event of a job, or some take of a pool, is possible in state s
pub record CanProgress (plan : Plan) (s : State) : Type 0 where
  pub event : Event
  pub of_job_or_pool : IsTrue (is_of_job_or_pool event)
  pub possible : IsTrue (is_some (step plan s event))

-- in every reachable state with an unfinished job, an event of a job or a take of a pool is possible
abbrev pub MakesProgress : Plan → Type 0
MakesProgress plan = (events : List Event) (s : State) → Reaches plan events s → (j : ℕ) → IsTrue (is_unfinished (job_at s j).stage) → CanProgress plan s
