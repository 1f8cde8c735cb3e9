-- Views of the reachable states of a plan, and their properties.
use Rattle.std.specs.Prelude.{◌≡◌, ◌≢◌, ℕ, ◌<◌, true, List, length, Option, Some, IfSome}
use Rattle.job_bodies.specs.Plan.{Plan}
use Rattle.pool_machine.specs.PoolState.{PoolView, taken}
use Rattle.pool_machine.specs.declared.parent.Parent.{Parent}
use Rattle.pool_machine.specs.declared.parent.Parent.TheVariants as parent
use Rattle.pool_machine.specs.State.{State, pool_of}
use Rattle.pool_machine.specs.Reach.{IsReached}
use Rattle.interleaving.specs.declared.job_view.JobView.{JobView}
use Rattle.interleaving.specs.LiveView.{View, live_view}
use Rattle.interleaving.specs.ViewStep.{live_job, may_get_in, pool_in}

-- the view is the live view of a reachable state
abbrev pub IsReachableView : Plan → View → Type 0
IsReachableView plan view = (s : State) × IsReached plan s × (live_view plan s ≡ view)

-- the job that an idle worker would take from the queue of pool p is unfinished
abbrev pub WaitsAtHead : View → ℕ → Type 0
WaitsAtHead view p = (j : ℕ) (pool : PoolView) → taken (pool_in view p) ≡ Some (j, pool) → may_get_in view.jobs (parent.Job j) ≡ true

-- the pool of the job exists, and one of its workers is busy
pub record HasWorker (plan : Plan) (view : View) (job : JobView) : Type 0 where
  pub pool : pool_of plan job.class < length view.pools
  pub busy : (pool_in view (pool_of plan job.class)).idle < (pool_in view (pool_of plan job.class)).threads

-- if the actor is a live job, a worker of its pool is busy
abbrev pub IsAtWork : Plan → View → Parent → Type 0
IsAtWork plan view (parent.Client c) = Unit {0}
IsAtWork plan view (parent.Job j) = IfSome (live_job view.jobs j) (HasWorker plan view)

-- if the actor is a live job, it did not create itself
abbrev pub MadeByOther : List (Option JobView) → Parent → Type 0
MadeByOther jobs (parent.Client c) = Unit {0}
MadeByOther jobs (parent.Job j) = (job : JobView) → live_job jobs j ≡ Some job → job.parent ≢ parent.Job j
