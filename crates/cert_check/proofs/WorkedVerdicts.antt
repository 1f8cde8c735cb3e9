-- Verdicts, failing conditions and drain bounds of small plans, computed from the definitions alone.
use Rattle.std.proofs.Common.{◌≡◌, ℕ, List, [], ◌∷◌, Option, Some, None, Bool, true, false, refl}
use Rattle.std.specs.Option.{option_map}
use Rattle.pool_machine.specs.declared.event.Event.{Event}
use Rattle.pool_machine.specs.declared.event.Event.TheVariants as event
use Rattle.pool_machine.specs.Reach.{start, replay}
use Rattle.weights.specs.declared.row.Rule.TheVariants.{V6, V7, S2, L3, B1, B2, K1}
use Rattle.weights.specs.declared.row.Place.TheVariants as place
use Rattle.weights.specs.Row.{row}
use Rattle.cert_text.specs.Cert.{cert_fits}
use Rattle.soundness.specs.Drain.{full, todo}
use Rattle.soundness.specs.declared.note.Section.TheVariants as section
use Rattle.soundness.specs.Conditions.{note, failing}
use Rattle.cert_check.specs.declared.answer.PoolLine.{PoolLine}
use Rattle.cert_check.specs.Verdict.{Verdict, verdict}
use Rattle.cert_check.proofs.WorkedPlans.{no_parts, one_pool, one_pool_once, rejecting, forgetting, forgetting_unbounded, unbounded_queue, timing_out, nested, nested_rejecting, nested_unbounded, fan_out, front_and_back, two_pools, there_and_back, no_parts_cert, standing_cert, cert_without_bound, faulty_cert, lifetime_cert, forgetting_cert, forgetting_cert_without_bound, nested_ranks, nested_cert, nested_cert_without_bound, fan_out_cert, front_and_back_cert, two_pools_cert, there_and_back_cert}

abbrev yes : List PoolLine → Verdict
yes pools = record { yes = true; pools = pools }

abbrev no : List PoolLine → Verdict
no pools = record { yes = false; pools = pools }

-- the line of a pool with a standing vector: its total and limit, and the blocked total and limit
abbrev standing : ℕ → ℕ → ℕ → ℕ → PoolLine
standing total queue blocked limit = record { bound = Some (record { lifetime = false; total = total; limit = Some queue }); blocked = blocked; limit = limit }

-- the line of a pool with a lifetime vector: its total and limit, and the blocked total and limit
abbrev lifetime : ℕ → ℕ → ℕ → ℕ → PoolLine
lifetime total most blocked limit = record { bound = Some (record { lifetime = true; total = total; limit = Some most }); blocked = blocked; limit = limit }

-- the line of a pool with a standing vector and an unbounded queue: its total, and the blocked total and limit
abbrev standing_of_unbounded : ℕ → ℕ → ℕ → PoolLine
standing_of_unbounded total blocked limit = record { bound = Some (record { lifetime = false; total = total; limit = None }); blocked = blocked; limit = limit }

-- the line of a pool without a bound: the blocked total and limit
abbrev without_bound : ℕ → ℕ → PoolLine
without_bound blocked limit = record { bound = None; blocked = blocked; limit = limit }

-- ---- one pool

-- a queue of two is enough for two clients
pub exact_capacity : verdict (one_pool 1 1 2 2) (standing_cert 1) ≡ yes (standing 2 2 0 0 ∷ [])
exact_capacity = refl

pub exact_capacity_fails_nowhere : failing (one_pool 1 1 2 2) (standing_cert 1) ≡ []
exact_capacity_fails_nowhere = refl

-- a queue of one is not enough for two clients: the total exceeds the queue's capacity
pub over_capacity : verdict (one_pool 1 1 1 2) (standing_cert 1) ≡ no (standing 2 1 0 0 ∷ [])
over_capacity = refl

pub over_capacity_fails : failing (one_pool 1 1 1 2) (standing_cert 1) ≡ note (section.Standing 0) (row S2 place.Total 2 1) ∷ []
over_capacity_fails = refl

-- the failing condition of the ranks comes before those of the vector
pub several_notes : failing (one_pool 1 1 1 2) faulty_cert
    ≡ note section.Ranks (row K1 (place.Class 0) 1 0)
    ∷ note (section.Standing 0) (row V6 (place.Class 0) 2 1)
    ∷ note (section.Standing 0) (row S2 place.Total 2 1)
    ∷ []
several_notes = refl

-- the verdict on a plan without pools is yes
pub empty_plan : verdict no_parts no_parts_cert ≡ yes []
empty_plan = refl

-- a million clients, each of the largest weight, have a total that fits in 64 bits
pub large_weights : verdict (one_pool 1 1 2 1000000) (standing_cert 1000000000) ≡ no (standing 1000000000000000 2 0 0 ∷ [])
large_weights = refl

pub large_weights_fail : failing (one_pool 1 1 2 1000000) (standing_cert 1000000000) ≡ note (section.Standing 0) (row S2 place.Total 1000000000000000 2) ∷ []
large_weights_fail = refl

-- a certificate with the largest weight fits the plan, and one with a larger weight does not
pub large_weights_fit : cert_fits (one_pool 1 1 2 1000000) (standing_cert 1000000000) ≡ true
large_weights_fit = refl

pub larger_weights_do_not_fit : cert_fits (one_pool 1 1 2 1000000) (standing_cert 1000000001) ≡ false
larger_weights_do_not_fit = refl

-- a plan is not accepted if its client repeatedly submits a job and never waits for it
pub fire_and_forget : verdict (forgetting true) forgetting_cert ≡ no (standing 1 2 0 0 ∷ [])
fire_and_forget = refl

pub fire_and_forget_fails : failing (forgetting true) forgetting_cert ≡ note (section.Standing 0) (row V7 (place.Client 0) 1 0) ∷ []
fire_and_forget_fails = refl

-- a plan is accepted if its client submits a job once and never waits for it
pub fire_and_forget_once : verdict (forgetting false) forgetting_cert ≡ yes (standing 1 2 0 0 ∷ [])
fire_and_forget_once = refl

-- ---- lifetime vectors

-- two threads and a queue of one are enough for three clients that each submit one job
pub lifetime_first : verdict (one_pool_once 2 2 1 3 false) lifetime_cert ≡ yes (lifetime 3 3 0 1 ∷ [])
lifetime_first = refl

-- with prestarted threads no submit starts a thread, and a queue of one cannot hold all three jobs
pub lifetime_first_prestarted : verdict (one_pool_once 2 2 1 3 true) lifetime_cert ≡ no (lifetime 3 1 0 1 ∷ [])
lifetime_first_prestarted = refl

pub lifetime_first_prestarted_fails : failing (one_pool_once 2 2 1 3 true) lifetime_cert ≡ note (section.Lifetime 0) (row L3 place.Total 3 1) ∷ []
lifetime_first_prestarted_fails = refl

-- a queue of five holds all three jobs of the prestarted pool
pub prestarted : verdict (one_pool_once 2 2 5 3 true) lifetime_cert ≡ yes (lifetime 3 5 0 1 ∷ [])
prestarted = refl

-- two threads and a queue of one are not enough for four clients that each submit one job
pub lifetime_over : verdict (one_pool_once 2 2 1 4 false) lifetime_cert ≡ no (lifetime 4 3 0 1 ∷ [])
lifetime_over = refl

pub lifetime_over_fails : failing (one_pool_once 2 2 1 4 false) lifetime_cert ≡ note (section.Lifetime 0) (row L3 place.Total 4 3) ∷ []
lifetime_over_fails = refl

-- clients that repeat submit an unbounded number of jobs, so no lifetime vector bounds that number
pub lifetime_repeating : verdict (one_pool 1 1 1 2) lifetime_cert ≡ no (lifetime 2 2 0 0 ∷ [])
lifetime_repeating = refl

pub lifetime_repeating_fails : failing (one_pool 1 1 1 2) lifetime_cert ≡ note (section.Lifetime 0) (row V7 (place.Client 0) 1 0) ∷ []
lifetime_repeating_fails = refl

-- ---- pools that may reject jobs

-- a pool that may reject jobs needs no bound
pub rejecting_pool : verdict (rejecting 1 1 1 2) cert_without_bound ≡ yes (without_bound 0 0 ∷ [])
rejecting_pool = refl

pub rejecting_pool_fits : cert_fits (rejecting 1 1 1 2) cert_without_bound ≡ true
rejecting_pool_fits = refl

-- a pool that must not reject jobs and has a bounded queue needs a bound, so a certificate without one does not fit its plan
pub other_pool_does_not_fit : cert_fits (one_pool 1 1 1 2) cert_without_bound ≡ false
other_pool_does_not_fit = refl

-- a pool that may reject jobs can have a bound, whose conditions must hold
pub rejecting_pool_with_bound : verdict (rejecting 1 1 2 2) (standing_cert 1) ≡ yes (standing 2 2 0 0 ∷ [])
rejecting_pool_with_bound = refl

pub rejecting_pool_with_bound_fails : failing (rejecting 1 1 1 2) (standing_cert 1) ≡ note (section.Standing 0) (row S2 place.Total 2 1) ∷ []
rejecting_pool_with_bound_fails = refl

-- the conditions of the blocked vector do not depend on whether the pool has a bound
pub nested_rejecting_two_workers : verdict (nested_rejecting 2) nested_cert_without_bound ≡ yes (without_bound 1 1 ∷ [])
nested_rejecting_two_workers = refl

pub nested_rejecting_one_worker_fails : failing (nested_rejecting 1) nested_cert_without_bound ≡ note (section.Blocked 0) (row B2 place.Total 1 0) ∷ []
nested_rejecting_one_worker_fails = refl

-- ---- pools with an unbounded queue

-- a pool with an unbounded queue needs no bound
pub unbounded_pool : verdict (unbounded_queue 1 3) cert_without_bound ≡ yes (without_bound 0 0 ∷ [])
unbounded_pool = refl

-- the plan of a pool with an unbounded queue is accepted even if its client repeatedly submits a job and never waits for it
pub unbounded_forgetting : verdict forgetting_unbounded forgetting_cert_without_bound ≡ yes (without_bound 0 0 ∷ [])
unbounded_forgetting = refl

-- if the queue is unbounded, the total of the pool's standing vector has no limit
pub unbounded_pool_with_bound : verdict (unbounded_queue 1 1000000) (standing_cert 1000000000) ≡ yes (standing_of_unbounded 1000000000000000 0 0 ∷ [])
unbounded_pool_with_bound = refl

-- but the conditions V2 to V7 of the standing vector must hold
pub unbounded_pool_with_bound_fails : failing (unbounded_queue 1 3) faulty_cert
    ≡ note section.Ranks (row K1 (place.Class 0) 1 0) ∷ note (section.Standing 0) (row V6 (place.Class 0) 2 1) ∷ []
unbounded_pool_with_bound_fails = refl

-- the conditions of the blocked vector do not depend on whether the queue is unbounded
pub nested_unbounded_two_workers : verdict (nested_unbounded 2) nested_cert_without_bound ≡ yes (without_bound 1 1 ∷ [])
nested_unbounded_two_workers = refl

pub nested_unbounded_one_worker_fails : failing (nested_unbounded 1) nested_cert_without_bound ≡ note (section.Blocked 0) (row B2 place.Total 1 0) ∷ []
nested_unbounded_one_worker_fails = refl

-- ---- core threads that may time out

-- with eight core threads no job may wait for a queued job, because seven of them may have ended
pub nested_timing_out : verdict (timing_out (nested 8 8 false)) nested_cert ≡ no (standing 1 5 1 0 ∷ [])
nested_timing_out = refl

pub nested_timing_out_fails : failing (timing_out (nested 8 8 false)) nested_cert ≡ note (section.Blocked 0) (row B2 place.Total 1 0) ∷ []
nested_timing_out_fails = refl

-- the threads are no room for jobs, because some of them may have started without a job
pub lifetime_timing_out : verdict (timing_out (one_pool_once 2 2 1 3 false)) lifetime_cert ≡ no (lifetime 3 1 0 0 ∷ [])
lifetime_timing_out = refl

pub lifetime_timing_out_fails : failing (timing_out (one_pool_once 2 2 1 3 false)) lifetime_cert ≡ note (section.Lifetime 0) (row L3 place.Total 3 1) ∷ []
lifetime_timing_out_fails = refl

-- a queue of three holds all three jobs
pub lifetime_timing_out_queue : verdict (timing_out (one_pool_once 2 2 3 3 false)) lifetime_cert ≡ yes (lifetime 3 3 0 0 ∷ [])
lifetime_timing_out_queue = refl

-- ---- jobs that wait for jobs of their own pool

-- a pool of two threads has a thread free for the inner job
pub nested_two_workers : verdict (nested 2 2 false) nested_cert ≡ yes (standing 1 5 1 1 ∷ [])
nested_two_workers = refl

-- in a pool of one thread, the number of blocked jobs can reach core, because the only worker waits for the inner job
pub nested_one_worker : verdict (nested 1 1 false) nested_cert ≡ no (standing 1 5 1 0 ∷ [])
nested_one_worker = refl

pub nested_one_worker_fails : failing (nested 1 1 false) nested_cert ≡ note (section.Blocked 0) (row B2 place.Total 1 0) ∷ []
nested_one_worker_fails = refl

-- the certificate fits the plan with one thread, although a condition fails
pub nested_one_worker_fits : cert_fits (nested 1 1 false) nested_cert ≡ true
nested_one_worker_fits = refl

-- a higher maximum does not help, since the queue never becomes full
pub nested_unused_max : verdict (nested 1 8 false) nested_cert ≡ no (standing 1 5 1 0 ∷ [])
nested_unused_max = refl

pub nested_unused_max_fails : failing (nested 1 8 false) nested_cert ≡ note (section.Blocked 0) (row B2 place.Total 1 0) ∷ []
nested_unused_max_fails = refl

-- three inner jobs need a queue of three
pub fan_out_fits_in_three : verdict (fan_out 3) fan_out_cert ≡ yes (standing 3 3 1 1 ∷ [])
fan_out_fits_in_three = refl

pub fan_out_in_two : verdict (fan_out 2) fan_out_cert ≡ no (standing 3 2 1 1 ∷ [])
fan_out_in_two = refl

pub fan_out_in_two_fails : failing (fan_out 2) fan_out_cert ≡ note (section.Standing 0) (row S2 place.Total 3 2) ∷ []
fan_out_in_two_fails = refl

-- ---- jobs that wait for jobs of other pools

-- no get of a job of the first pool is counted, since the job that it waits for reaches only lower pools
pub front_back : verdict front_and_back front_and_back_cert ≡ yes (standing 1000 1000 0 3 ∷ standing 4 4 0 1 ∷ [])
front_back = refl

-- if jobs of two pools wait for each other, the gets in one of the pools are counted, and this pool needs one more worker
pub cross_pools_safe : verdict (two_pools 2) two_pools_cert ≡ yes (standing 2 2 0 0 ∷ standing 2 2 1 1 ∷ [])
cross_pools_safe = refl

pub cross_pools_stuck : verdict (two_pools 1) two_pools_cert ≡ no (standing 2 2 0 0 ∷ standing 2 2 1 0 ∷ [])
cross_pools_stuck = refl

pub cross_pools_stuck_fails : failing (two_pools 1) two_pools_cert ≡ note (section.Blocked 1) (row B2 place.Total 1 0) ∷ []
cross_pools_stuck_fails = refl

-- whether a get is counted depends on the reach of the job that it waits for, not on that job's pool
pub reach_counts : verdict there_and_back there_and_back_cert ≡ no (standing 1 2 0 0 ∷ standing 1 2 1 1 ∷ [])
reach_counts = refl

pub reach_counts_fails : failing there_and_back there_and_back_cert ≡ note (section.Blocked 0) (row B1 (place.ClassAction 0 1) 1 0) ∷ []
reach_counts_fails = refl

-- ---- the remaining work

-- the remaining work after these events, in the plan of nested jobs with two threads
abbrev todo_after : Bool → List Event → Option ℕ
todo_after prestart events = option_map (todo (nested 2 2 prestart) nested_ranks) (replay (nested 2 2 prestart) (Some (start (nested 2 2 prestart))) events)

-- an outer job that is queued has 7 events: its take, its two actions, its end, and the three events of an inner job
pub nested_full : full (nested 2 2 false) nested_ranks 0 ≡ 7
nested_full = refl

-- an outer job that a new thread started has 6 events, since it needs no take
pub nested_started : todo_after false (event.Client 0 ∷ []) ≡ Some 6
nested_started = refl

-- five events finish both jobs, one fewer than the bound, since the inner job needs no take either
pub nested_drained : todo_after false (event.Client 0 ∷ event.Job 0 ∷ event.Job 1 ∷ event.Job 1 ∷ event.Job 0 ∷ event.Job 0 ∷ []) ≡ Some 0
nested_drained = refl

-- with prestarted threads the outer job is queued, and has 7 events
pub nested_queued : todo_after true (event.Client 0 ∷ []) ≡ Some 7
nested_queued = refl

-- exactly 7 events finish both jobs of the prestarted pool
pub nested_drained_exactly :
    todo_after true (event.Client 0 ∷ event.Take 0 ∷ event.Job 0 ∷ event.Take 0 ∷ event.Job 1 ∷ event.Job 1 ∷ event.Job 0 ∷ event.Job 0 ∷ []) ≡ Some 0
nested_drained_exactly = refl
