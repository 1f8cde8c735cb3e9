-- Laws about every reachable state of a well-formed plan.
use Rattle.std.specs.Prelude.{◌≡◌, ◌≢◌, ◌<◌, ◌≤◌, ◌↔◌, ⊤, ℕ, IsTrue, IsFalse, List, length, Some, slice_get}
use Rattle.job_bodies.specs.declared.action.Action.{Action}
use Rattle.job_bodies.specs.declared.action.Action.TheVariants.{Get}
use Rattle.job_bodies.specs.Plan.{Plan, pool_at, least_threads, submitted_class}
use Rattle.job_bodies.specs.WellFormed.{IsWellFormed}
use Rattle.pool_machine.specs.PoolState.{queue_limit}
use Rattle.pool_machine.specs.declared.parent.Parent.{Parent}
use Rattle.pool_machine.specs.declared.parent.Parent.TheVariants.{Client, Job}
use Rattle.pool_machine.specs.State.{State, Stage, job_at, pool_part, threads, child}
use Rattle.pool_machine.specs.Step.{point}
use Rattle.pool_machine.specs.Reach.{IsReached}
use Rattle.pool_machine.specs.Waiting.{IsWaitingSet, is_waiting_set}
use Rattle.pool_machine.specs.LooseWaiting.{IsLooseWaitingSet}

-- the property holds in every reachable state of every well-formed plan
abbrev pub HoldsWhereReached : (Plan → State → Type 0) → Type 0
HoldsWhereReached holds = (plan : Plan) (s : State) → IsWellFormed plan → IsReached plan s → holds plan s

-- pool p has at most its maximum of threads. A bounded queue has at most as many jobs as its capacity. If the capacity is 0, it
-- has at most as many jobs as the pool has idle workers.
pub record KeepsSizes (plan : Plan) (s : State) (p : ℕ) : Type 0 where
  pub within_max : threads plan s p ≤ (pool_at plan p).max
  pub within_queue : IsFalse (pool_at plan p).unbounded → length (pool_part s p).queue ≤ queue_limit (pool_at plan p).queue (pool_part s p).idle

abbrev pub PoolsKeepTheirSizes : Type 0
PoolsKeepTheirSizes = HoldsWhereReached (λ plan s. (p : ℕ) → p < length plan.pools → KeepsSizes plan s p)

-- if pool p has a queued job, it has at least core threads, or at least one if its core threads may time out
abbrev pub HasThreads : Plan → State → ℕ → Type 0
HasThreads plan s p = 1 ≤ length (pool_part s p).queue → least_threads (pool_at plan p) ≤ threads plan s p

-- `HasThreads` holds for each pool in every reachable state of a well-formed plan
abbrev pub QueuesHaveThreads : Type 0
QueuesHaveThreads = HoldsWhereReached (λ plan s. (p : ℕ) → p < length plan.pools → HasThreads plan s p)

-- if the actor is a job, its number is less than n
abbrev pub HasGreaterNumber : Parent → ℕ → Type 0
HasGreaterNumber (Client c) n = ⊤
HasGreaterNumber (Job j) n = j < n

-- there is a latest job that actor a created at position t. This job has class k and is not claimed. If a is a job, the latest
-- job has a greater number than a.
pub record HasLatest (s : State) (a : Parent) (t k : ℕ) : Type 0 where
  pub number : ℕ
  pub is_child : child s a t ≡ Some number
  pub of_class : (job_at s number).class ≡ k
  pub unclaimed : (job_at s number).stage ≢ Stage.Claimed
  pub later : HasGreaterNumber a number

-- each actor at a get of a submit has a latest job that it created at that submit, of the class that the submit names
abbrev pub GetsHaveChildren : Type 0
GetsHaveChildren = HoldsWhereReached (λ plan s. (a : Parent) (body : List Action) (i t : ℕ) → point plan s a ≡ Some (record { body = body; position = i }) → slice_get body i ≡ Some (Get t) → HasLatest s a t (submitted_class body t))

-- the test `is_waiting_set` holds exactly for the waiting sets
abbrev pub WaitingSetsAreTested : Type 0
WaitingSetsAreTested = (plan : Plan) (s : State) (members : List ℕ) → IsTrue (is_waiting_set plan s members) ↔ IsWaitingSet plan s members

-- each waiting set of a reachable state is a loose waiting set
abbrev pub WaitingSetsAreLoose : Type 0
WaitingSetsAreLoose = HoldsWhereReached (λ plan s. (members : List ℕ) → IsWaitingSet plan s members → IsLooseWaitingSet plan s members)
