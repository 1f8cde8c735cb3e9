-- Replays of small plans, computed from the definitions alone.
use Rattle.std.proofs.Common.{◌≡◌, ℕ, List, [], ◌∷◌, ◌++◌, map, Option, Some, None, true, false, refl}
use Rattle.std.specs.List.{count_by}
use Rattle.std.specs.Option.{option_map}
use Rattle.job_bodies.specs.declared.action.Action.{Action}
use Rattle.job_bodies.specs.declared.action.Action.TheVariants.{Work, Submit, Get}
use Rattle.job_bodies.specs.Plan.{Plan, Pool, Class, Client}
use Rattle.pool_machine.specs.declared.event.Event.{Event}
use Rattle.pool_machine.specs.declared.event.Event.TheVariants as event
use Rattle.pool_machine.specs.declared.event.Outcome.{Outcome}
use Rattle.pool_machine.specs.declared.event.Outcome.TheVariants.{Started, Queued, Refused, Rejected, Worked, Got, Looped, Finished, Took, Retired}
use Rattle.pool_machine.specs.State.{State, is_unfinished}
use Rattle.pool_machine.specs.Reach.{start, replay, outcomes}
use Rattle.pool_machine.specs.Waiting.{is_waiting_set}

-- ---- the plans

abbrev pool_of_sizes : ℕ → ℕ → ℕ → ℕ → Pool
pool_of_sizes letter core max queue = record { name = letter ∷ []; core = core; max = max; queue = queue; prestart = false; may_reject = false; unbounded = false; core_timeout = false }

-- the plan with all pools prestarted
abbrev prestarted : Plan → Plan
prestarted plan = record plan { pools = map (λ (pool : Pool). record pool { prestart = true }) plan.pools }

-- the plan with all pools marked as pools that may reject jobs
abbrev rejecting : Plan → Plan
rejecting plan = record plan { pools = map (λ (pool : Pool). record pool { may_reject = true }) plan.pools }

abbrev class_in : ℕ → List Action → Class
class_in pool body = record { name = 97 ∷ []; pool = pool; body = body }

-- a client kind of `count` clients, each of which submits a job of this class, gets it, and begins again
abbrev repeating_client : ℕ → ℕ → Client
repeating_client count class = record { name = 99 ∷ []; count = count; repeat = true; body = Submit class ∷ Get 0 ∷ [] }

-- a plan of one pool with these sizes, and of this number of clients that each submit a job and wait for it
abbrev one_pool : ℕ → ℕ → ℕ → ℕ → Plan
one_pool core max queue clients = record {
  pools = pool_of_sizes 112 core max queue ∷ [];
  classes = class_in 0 (Work 1 ∷ []) ∷ [];
  clients = repeating_client clients 0 ∷ [];
}

-- the plan `one_pool` with clients that do not repeat
abbrev one_pool_once : ℕ → ℕ → ℕ → ℕ → Plan
one_pool_once core max queue clients =
    let plan = one_pool core max queue clients in
    record plan { clients = map (λ (client : Client). record client { repeat = false }) plan.clients }

-- a plan of one pool with these sizes, in which an outer job submits an inner job and waits for it
abbrev nested : ℕ → ℕ → ℕ → Plan
nested core max queue = record {
  pools = pool_of_sizes 112 core max queue ∷ [];
  classes = class_in 0 (Submit 1 ∷ Get 0 ∷ []) ∷ class_in 0 (Work 1 ∷ []) ∷ [];
  clients = repeating_client 1 0 ∷ [];
}

-- the plan `nested` with a pool that can have a second thread, and one more client that submits an inner job
abbrev nested_with_spare_thread : Plan
nested_with_spare_thread = record (nested 1 2 1) { clients = repeating_client 1 0 ∷ record { name = 104 ∷ []; count = 1; repeat = false; body = Submit 1 ∷ [] } ∷ [] }

-- the plan with core threads that may time out in each pool
abbrev timing_out : Plan → Plan
timing_out plan = record plan { pools = map (λ (pool : Pool). record pool { core_timeout = true }) plan.pools }

-- the plan `nested` with two core threads that may time out, and one more client that submits an inner job
abbrev nested_timing_out : Plan
nested_timing_out = timing_out (record nested_with_spare_thread { pools = pool_of_sizes 112 2 2 1 ∷ [] })

-- a plan of two pools whose jobs wait for jobs of the other pool, and of a third, independent pool
abbrev crossed : ℕ → Plan
crossed threads = record {
  pools = pool_of_sizes 112 1 1 2 ∷ pool_of_sizes 113 threads threads 2 ∷ pool_of_sizes 114 1 1 1 ∷ [];
  classes = class_in 0 (Submit 1 ∷ Get 0 ∷ []) ∷ class_in 1 (Work 1 ∷ []) ∷ class_in 1 (Submit 3 ∷ Get 0 ∷ []) ∷ class_in 0 (Work 1 ∷ []) ∷ class_in 2 (Work 1 ∷ []) ∷ [];
  clients = repeating_client 1 0 ∷ repeating_client 1 2 ∷ repeating_client 1 4 ∷ [];
}

-- the outcome of each event, from the initial state of the plan
abbrev outcomes_from_start : Plan → List Event → List (Option Outcome)
outcomes_from_start plan events = outcomes plan (Some (start plan)) events

-- the value of a function on the state that the events reach
abbrev after : {X : Type 0} → Plan → List Event → (State → X) → Option X
after plan events ask = option_map ask (replay plan (Some (start plan)) events)

-- the number of refused submits, and the number of unfinished jobs
abbrev ends : State → ℕ × ℕ
ends s = (s.refusals, count_by (λ job. is_unfinished job.stage) s.jobs)

-- the possible events of each replay
abbrev two_clients_refused-events : List Event
two_clients_refused-events = event.Client 0 ∷ event.Job 0 ∷ event.Job 0 ∷ event.Client 0 ∷ event.Client 0 ∷ event.Client 0 ∷ event.Client 1 ∷ []

abbrev nested_one_worker-events : List Event
nested_one_worker-events = event.Client 0 ∷ event.Job 0 ∷ []

abbrev cross_pools_stuck-events : List Event
cross_pools_stuck-events = event.Client 0 ∷ event.Client 1 ∷ event.Job 0 ∷ event.Job 1 ∷ event.Client 2 ∷ event.Job 4 ∷ []

abbrev retire-events : List Event
retire-events = event.Client 0 ∷ event.Client 1 ∷ event.Client 2 ∷ event.Job 2 ∷ event.Job 2 ∷ event.Retire 0 ∷ event.Job 0 ∷ event.Job 0 ∷ []

abbrev times_out-events : List Event
times_out-events = event.Client 0 ∷ event.Client 1 ∷ event.Job 1 ∷ event.Job 1 ∷ event.Job 0 ∷ event.Retire 0 ∷ []

abbrev start_before_queue-events : List Event
start_before_queue-events = event.Client 0 ∷ event.Job 0 ∷ event.Job 0 ∷ event.Client 1 ∷ event.Client 0 ∷ event.Client 0 ∷ event.Client 0 ∷ event.Take 0 ∷ event.Job 1 ∷ []

abbrev prestarted_queues-events : List Event
prestarted_queues-events = event.Client 0 ∷ event.Take 0 ∷ event.Job 0 ∷ []

abbrev lifetime_first-events : List Event
lifetime_first-events = event.Client 0 ∷ event.Client 1 ∷ []

abbrev drain_met_exactly-events : List Event
drain_met_exactly-events = event.Client 0 ∷ event.Job 0 ∷ event.Job 1 ∷ event.Job 1 ∷ event.Job 0 ∷ event.Job 0 ∷ []

abbrev drain_met_exactly_prestarted-events : List Event
drain_met_exactly_prestarted-events = event.Client 0 ∷ event.Take 0 ∷ event.Job 0 ∷ event.Take 0 ∷ event.Job 1 ∷ event.Job 1 ∷ event.Job 0 ∷ event.Job 0 ∷ []

abbrev stuck_for_now-events : List Event
stuck_for_now-events = nested_one_worker-events ++ event.Client 1 ∷ event.Job 2 ∷ event.Job 2 ∷ event.Take 0 ∷ event.Job 1 ∷ event.Job 1 ∷ event.Job 0 ∷ event.Job 0 ∷ []

-- ---- the outcomes of the events

-- with one worker and a queue of one, the submit in the seventh event is refused, although a worker is idle and only one job is unfinished
pub two_clients_refused : outcomes_from_start (one_pool 1 1 1 2) two_clients_refused-events
    ≡ Some (Started 0) ∷ Some (Worked 1) ∷ Some (Finished 0) ∷ Some (Got 0) ∷ Some Looped ∷ Some (Queued 1) ∷ Some (Refused 0) ∷ []
two_clients_refused = refl

-- if the pool may reject jobs, the submit in the seventh event is rejected instead, and its get returns at once
pub two_clients_rejected : outcomes_from_start (rejecting (one_pool 1 1 1 2)) (two_clients_refused-events ++ event.Client 1 ∷ [])
    ≡ Some (Started 0) ∷ Some (Worked 1) ∷ Some (Finished 0) ∷ Some (Got 0) ∷ Some Looped ∷ Some (Queued 1) ∷ Some (Rejected 0 2) ∷ Some (Got 2) ∷ []
two_clients_rejected = refl

-- a rejected job does not count as a refusal, and is not unfinished
pub two_clients_rejected-ends : after (rejecting (one_pool 1 1 1 2)) two_clients_refused-events ends ≡ Some (0, 1)
two_clients_rejected-ends = refl

-- with a queue of capacity 0, the sixth event hands the second job to the idle thread. The submit in the seventh event is rejected, because
-- that thread takes no other job
pub handed_over : outcomes_from_start (rejecting (one_pool 1 1 0 2)) (two_clients_refused-events ++ event.Take 0 ∷ [])
    ≡ Some (Started 0) ∷ Some (Worked 1) ∷ Some (Finished 0) ∷ Some (Got 0) ∷ Some Looped ∷ Some (Queued 1) ∷ Some (Rejected 0 2) ∷ Some (Took 1) ∷ []
handed_over = refl

-- a thread that was handed a job does not end, although the pool has more than core threads
pub handed_does_not_end : outcomes_from_start (rejecting (one_pool 1 2 0 3)) (event.Client 0 ∷ event.Client 1 ∷ event.Job 1 ∷ event.Job 1 ∷ event.Client 2 ∷ event.Retire 0 ∷ [])
    ≡ Some (Started 0) ∷ Some (Started 1) ∷ Some (Worked 1) ∷ Some (Finished 1) ∷ Some (Queued 2) ∷ None ∷ []
handed_does_not_end = refl

-- without a job in the queue it may end
pub idle_may_end : outcomes_from_start (rejecting (one_pool 1 2 0 3)) (event.Client 0 ∷ event.Client 1 ∷ event.Job 1 ∷ event.Job 1 ∷ event.Retire 0 ∷ [])
    ≡ Some (Started 0) ∷ Some (Started 1) ∷ Some (Worked 1) ∷ Some (Finished 1) ∷ Some Retired ∷ []
idle_may_end = refl

-- the only worker runs a job that waits for a queued job
pub nested_one_worker : outcomes_from_start (nested 1 1 5) (nested_one_worker-events ++ event.Take 0 ∷ []) ≡ Some (Started 0) ∷ Some (Queued 1) ∷ None ∷ []
nested_one_worker = refl

-- jobs of two pools wait for each other, while a job of a third pool works
pub cross_pools_stuck : outcomes_from_start (crossed 1) cross_pools_stuck-events
    ≡ Some (Started 0) ∷ Some (Started 1) ∷ Some (Queued 2) ∷ Some (Queued 3) ∷ Some (Started 4) ∷ Some (Worked 1) ∷ []
cross_pools_stuck = refl

-- a worker above core may end, and a core worker may not
pub retire : outcomes_from_start (one_pool 1 2 1 3) (retire-events ++ event.Retire 0 ∷ [])
    ≡ Some (Started 0) ∷ Some (Queued 1) ∷ Some (Started 2) ∷ Some (Worked 1) ∷ Some (Finished 2) ∷ Some Retired ∷ Some (Worked 1) ∷ Some (Finished 0) ∷ None ∷ []
retire = refl

-- if core threads may time out, an idle one may end although a job is queued, but not the last one
pub times_out : outcomes_from_start nested_timing_out (times_out-events ++ event.Retire 0 ∷ [])
    ≡ Some (Started 0) ∷ Some (Started 1) ∷ Some (Worked 1) ∷ Some (Finished 1) ∷ Some (Queued 2) ∷ Some Retired ∷ None ∷ []
times_out = refl

-- the one thread that is left runs the job that waits for the queued one
pub times_out-waits : after nested_timing_out times_out-events (λ s. is_waiting_set nested_timing_out s (0 ∷ 2 ∷ [])) ≡ Some true
times_out-waits = refl

-- the last idle thread may end if no job is queued
pub all_time_out : outcomes_from_start (timing_out (one_pool 2 2 1 1)) (event.Client 0 ∷ event.Job 0 ∷ event.Job 0 ∷ event.Retire 0 ∷ [])
    ≡ Some (Started 0) ∷ Some (Worked 1) ∷ Some (Finished 0) ∷ Some Retired ∷ []
all_time_out = refl

-- below core, a new thread starts the job, although a worker is idle
pub start_before_queue : outcomes_from_start (one_pool 2 2 2 2) start_before_queue-events
    ≡ Some (Started 0) ∷ Some (Worked 1) ∷ Some (Finished 0) ∷ Some (Started 1) ∷ Some (Got 0) ∷ Some Looped ∷ Some (Queued 2) ∷ Some (Took 2) ∷ Some (Worked 1) ∷ []
start_before_queue = refl

-- the queue is full, so a second thread starts a job, and later takes the inner job for which the outer job waits
pub stuck_for_now : outcomes_from_start nested_with_spare_thread stuck_for_now-events
    ≡ Some (Started 0) ∷ Some (Queued 1) ∷ Some (Started 2) ∷ Some (Worked 1) ∷ Some (Finished 2) ∷ Some (Took 1) ∷ Some (Worked 1) ∷ Some (Finished 1) ∷ Some (Got 1) ∷ Some (Finished 0) ∷ []
stuck_for_now = refl

-- a prestarted pool queues its first job, and an idle worker takes it
pub prestarted_queues : outcomes_from_start (prestarted (one_pool 2 2 2 2)) prestarted_queues-events ≡ Some (Queued 0) ∷ Some (Took 0) ∷ Some (Worked 1) ∷ []
prestarted_queues = refl

-- a prestarted pool can refuse a job although its workers are idle
pub lifetime_first : outcomes_from_start (prestarted (one_pool_once 2 2 1 3)) lifetime_first-events ≡ Some (Queued 0) ∷ Some (Refused 0) ∷ []
lifetime_first = refl

-- an outer job and its inner job are finished after five steps
pub drain_met_exactly : outcomes_from_start (nested 2 2 5) (drain_met_exactly-events ++ event.Take 0 ∷ [])
    ≡ Some (Started 0) ∷ Some (Started 1) ∷ Some (Worked 1) ∷ Some (Finished 1) ∷ Some (Got 1) ∷ Some (Finished 0) ∷ None ∷ []
drain_met_exactly = refl

-- in a prestarted pool both jobs are taken from the queue, so they are finished after seven steps
pub drain_met_exactly_prestarted : outcomes_from_start (prestarted (nested 2 2 5)) drain_met_exactly_prestarted-events
    ≡ Some (Queued 0) ∷ Some (Took 0) ∷ Some (Queued 1) ∷ Some (Took 1) ∷ Some (Worked 1) ∷ Some (Finished 1) ∷ Some (Got 1) ∷ Some (Finished 0) ∷ []
drain_met_exactly_prestarted = refl

-- ---- refusals and unfinished jobs after the last possible event

pub two_clients_refused-ends : after (one_pool 1 1 1 2) two_clients_refused-events ends ≡ Some (1, 1)
two_clients_refused-ends = refl

pub nested_one_worker-ends : after (nested 1 1 5) nested_one_worker-events ends ≡ Some (0, 2)
nested_one_worker-ends = refl

pub cross_pools_stuck-ends : after (crossed 1) cross_pools_stuck-events ends ≡ Some (0, 5)
cross_pools_stuck-ends = refl

pub retire-ends : after (one_pool 1 2 1 3) retire-events ends ≡ Some (0, 1)
retire-ends = refl

pub start_before_queue-ends : after (one_pool 2 2 2 2) start_before_queue-events ends ≡ Some (0, 2)
start_before_queue-ends = refl

pub stuck_for_now-ends : after nested_with_spare_thread stuck_for_now-events ends ≡ Some (0, 0)
stuck_for_now-ends = refl

pub prestarted_queues-ends : after (prestarted (one_pool 2 2 2 2)) prestarted_queues-events ends ≡ Some (0, 1)
prestarted_queues-ends = refl

pub lifetime_first-ends : after (prestarted (one_pool_once 2 2 1 3)) lifetime_first-events ends ≡ Some (1, 1)
lifetime_first-ends = refl

pub drain_met_exactly-ends : after (nested 2 2 5) drain_met_exactly-events ends ≡ Some (0, 0)
drain_met_exactly-ends = refl

pub drain_met_exactly_prestarted-ends : after (prestarted (nested 2 2 5)) drain_met_exactly_prestarted-events ends ≡ Some (0, 0)
drain_met_exactly_prestarted-ends = refl

-- ---- waiting sets after some of the events

-- the outer job and the inner job are a waiting set
pub nested_one_worker-stuck : after (nested 1 1 5) nested_one_worker-events (λ s. is_waiting_set (nested 1 1 5) s (0 ∷ 1 ∷ [])) ≡ Some true
nested_one_worker-stuck = refl

-- the four jobs of the two pools are a waiting set
pub cross_pools_stuck-all : after (crossed 1) cross_pools_stuck-events (λ s. is_waiting_set (crossed 1) s (0 ∷ 1 ∷ 2 ∷ 3 ∷ [])) ≡ Some true
cross_pools_stuck-all = refl

-- the two jobs of the list are not a waiting set, because they also wait for jobs outside the list
pub cross_pools_stuck-two : after (crossed 1) cross_pools_stuck-events (λ s. is_waiting_set (crossed 1) s (0 ∷ 1 ∷ [])) ≡ Some false
cross_pools_stuck-two = refl

-- the outer job and the inner job are a waiting set that is not permanent, because their pool can start another thread
pub stuck_for_now-two : after nested_with_spare_thread nested_one_worker-events (λ s. is_waiting_set nested_with_spare_thread s (0 ∷ 1 ∷ [])) ≡ Some true
stuck_for_now-two = refl
