-- The states of a plan: every job that was ever created, the queue and idle workers of each pool, and the position of each client.
use Rattle.std.specs.Prelude.{ℕ, ◌+◌, ◌==◌, ◌&&◌, Bool, true, false, List, [], Option, slice_index_or, count_by}
use Rattle.support.specs.Places.{places_where, last_of}
use Rattle.job_bodies.specs.Plan.{Pool, Plan, pool_at, class_at}
use Rattle.pool_machine.specs.PoolState.{PoolView}
use Rattle.pool_machine.specs.declared.client_state.ClientState.{ClientState}
use Rattle.pool_machine.specs.declared.parent.Parent.{Parent}
use Rattle.pool_machine.specs.declared.parent.Parent.TheVariants.{Client, Job}

abbrev pub same_parent : Parent → Parent → Bool
same_parent (Client a) (Client b) = a == b
same_parent (Job a) (Job b) = a == b
same_parent _ _ = false

-- the progress of a job: in the queue of its pool, at a position of its body, done, or done and claimed by a get
pub data Stage : Type 0 where
  Queued : Stage
  At : ℕ → Stage
  Done : Stage
  Claimed : Stage

-- a job that was created: its class, its creator, the position of the submit in the creator's body, and its stage
pub record CreatedJob : Type 0 where
  pub class : ℕ
  pub parent : Parent
  pub slot : ℕ
  pub stage : Stage

-- the queue of a pool, as job numbers with the head first, and the number of its idle workers
pub record PoolPart : Type 0 where
  pub queue : List ℕ
  pub idle : ℕ

pub record State : Type 0 where
  pub jobs : List CreatedJob
  pub pools : List PoolPart
  pub clients : List ClientState
  pub refusals : ℕ

-- the default values for an index past the end of a list of the state. The default job is claimed, so a job that is not claimed
-- is never the default job.
abbrev pub no_pool_part : PoolPart
no_pool_part = record { queue = []; idle = 0 }

abbrev pub no_job : CreatedJob
no_job = record { class = 0; parent = Client 0; slot = 0; stage = Claimed }

abbrev pub no_client_state : ClientState
no_client_state = record { kind = 0; position = 0 }

abbrev pub job_at : State → ℕ → CreatedJob
job_at s j = slice_index_or s.jobs j no_job

abbrev pub pool_part : State → ℕ → PoolPart
pool_part s p = slice_index_or s.pools p no_pool_part

abbrev pub client_state : State → ℕ → ClientState
client_state s c = slice_index_or s.clients c no_client_state

abbrev pub is_at : Stage → Bool
is_at (At i) = true
is_at _ = false

abbrev pub is_queued : Stage → Bool
is_queued Queued = true
is_queued _ = false

-- whether the job is queued or at a position of its body
abbrev pub is_unfinished : Stage → Bool
is_unfinished Queued = true
is_unfinished (At i) = true
is_unfinished _ = false

-- the pool of class k
abbrev pub pool_of : Plan → ℕ → ℕ
pool_of plan k = (class_at plan k).pool

abbrev pub is_busy_in : Plan → ℕ → CreatedJob → Bool
is_busy_in plan p job = is_at job.stage && pool_of plan job.class == p

abbrev pub is_queued_in : Plan → ℕ → CreatedJob → Bool
is_queued_in plan p job = is_queued job.stage && pool_of plan job.class == p

-- the number of jobs that run in pool p
abbrev pub busy : Plan → State → ℕ → ℕ
busy plan s p = count_by (is_busy_in plan p) s.jobs

-- the number of threads of pool p: its idle workers and the jobs that run in it
abbrev pub threads : Plan → State → ℕ → ℕ
threads plan s p = (pool_part s p).idle + busy plan s p

-- the queue and the idle workers of a pool
abbrev pub part_of : PoolView → PoolPart
part_of pool = record { queue = pool.queue; idle = pool.idle }

-- the view of a pool with these sizes, this queue, these idle workers and this number of threads
abbrev pub pool_view : Pool → PoolPart → ℕ → PoolView
pool_view pool part threads = record { core = pool.core; max = pool.max; capacity = pool.queue; unbounded = pool.unbounded; core_timeout = pool.core_timeout; threads = threads; idle = part.idle; queue = part.queue }

-- the view of pool p in state s, for the definitions of one pool (PoolState.antt)
abbrev pub pool_seen : Plan → State → ℕ → PoolView
pool_seen plan s p = pool_view (pool_at plan p) (pool_part s p) (threads plan s p)

-- whether actor a created the job by the submit at position t of its body
abbrev pub is_made_by : Parent → ℕ → CreatedJob → Bool
is_made_by a t job = same_parent a job.parent && t == job.slot

-- the latest job that actor a created by the submit at position t of its body; None if there is none
abbrev pub child : State → Parent → ℕ → Option ℕ
child s a t = last_of (places_where (is_made_by a t) s.jobs)
