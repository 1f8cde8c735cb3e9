-- The fitted plans of small examples, computed from the definitions.
use Rattle.std.proofs.Common.{◌≡◌, ℕ, [], ◌∷◌, map, Some, None, true, false, refl}
use Rattle.job_bodies.specs.Plan.{Pool, Plan}
use Rattle.weights.specs.declared.bound.Bound.TheVariants.{Lifetime}
use Rattle.weights.specs.declared.row.Rule.TheVariants.{V7, B2}
use Rattle.weights.specs.declared.row.Place.TheVariants as place
use Rattle.weights.specs.Row.{row}
use Rattle.cert_text.specs.Cert.{Cert}
use Rattle.soundness.specs.declared.note.Section.TheVariants as section
use Rattle.soundness.specs.Conditions.{note, failing}
use Rattle.cert_check.proofs.WorkedPlans.{a_pool, a_class, clients, asks, works, one_pool, one_pool_once, rejecting, forgetting, unbounded_queue, nested, nested_rejecting, nested_unbounded, fan_out, two_pools, weighing, pool_cert, pair_of_ones, one_of_ones, one_of_zeros, standing_cert, cert_without_bound, lifetime_cert, forgetting_cert, lends, nested_ranks, nested_cert, nested_cert_without_bound, fan_out_cert, two_pools_cert}
use Rattle.size_search.specs.declared.fit_error.FitError.TheVariants.{Shape, Condition, Core, Queue, CoreTimeout}
use Rattle.size_search.specs.Fitted.{fitted, smallest}
use Rattle.size_search.specs.Widened.{widened}
use Rattle.size_search.specs.FitError.{why_unfit, why_not_widened}

-- ---- queues

-- two clients need a queue of two
pub two_clients : fitted (one_pool 1 1 1 2) (standing_cert 1) ≡ Some (one_pool 1 1 2 2)
two_clients = refl

-- a queue that is larger than necessary is unchanged, and the least queue is two
pub larger_queue : fitted (one_pool 1 1 9 2) (standing_cert 1) ≡ Some (one_pool 1 1 9 2)
larger_queue = refl

pub larger_queue_smallest : fitted (smallest (one_pool 1 1 9 2)) (standing_cert 1) ≡ Some (one_pool 1 1 2 2)
larger_queue_smallest = refl

-- three inner jobs need a queue of three
pub three_in_two : fitted (fan_out 2) fan_out_cert ≡ Some (fan_out 3)
three_in_two = refl

-- a million clients with the greatest weight need more than the largest queue
pub large_weights : why_unfit (one_pool 1 1 2 1000000) (standing_cert 1000000000) ≡ Some (Queue 0)
large_weights = refl

pub large_weights_fitted : fitted (one_pool 1 1 2 1000000) (standing_cert 1000000000) ≡ None
large_weights_fitted = refl

-- ---- other conditions

-- no size bounds submits that repeat forever
pub fire_and_forget : fitted (forgetting true) forgetting_cert ≡ None
fire_and_forget = refl

pub fire_and_forget_unfit : why_unfit (forgetting true) forgetting_cert ≡ Some (Condition (note (section.Standing 0) (row V7 (place.Client 0) 1 0)))
fire_and_forget_unfit = refl

-- a certificate of another plan does not fit
pub other_shape : why_unfit (nested 2 2 false) (standing_cert 1) ≡ Some Shape
other_shape = refl

pub other_shape_widened : why_not_widened (nested 2 2 false) (standing_cert 1) ≡ Some Shape
other_shape_widened = refl

-- ---- cores

-- an outer job and its inner job need two threads, if the maximum leaves room for them
pub nested_two_of_eight : fitted (nested 1 8 false) nested_cert ≡ Some (nested 2 8 false)
nested_two_of_eight = refl

pub nested_one_worker : fitted (nested 1 1 false) nested_cert ≡ None
nested_one_worker = refl

pub nested_one_worker_unfit : why_unfit (nested 1 1 false) nested_cert ≡ Some (Core 0)
nested_one_worker_unfit = refl

-- the second of two pools needs one more thread than its maximum
pub cross_pools : fitted (two_pools 1) two_pools_cert ≡ None
cross_pools = refl

pub cross_pools_unfit : why_unfit (two_pools 1) two_pools_cert ≡ Some (Core 1)
cross_pools_unfit = refl

-- with larger maximums, both plans are fitted
pub nested_one_worker_widened : fitted (widened (nested 1 1 false) nested_cert) nested_cert ≡ Some (nested 2 2 false)
nested_one_worker_widened = refl

pub cross_pools_widened : fitted (widened (two_pools 1) two_pools_cert) two_pools_cert ≡ Some (two_pools 2)
cross_pools_widened = refl

-- ---- pools that may reject jobs

-- without a bound, a queue of any size is enough
pub rejecting_queue : fitted (rejecting 1 1 1 2) cert_without_bound ≡ Some (rejecting 1 1 1 2)
rejecting_queue = refl

-- the queue is not raised to what a bound requires
pub rejecting_bound : fitted (rejecting 1 1 1 2) (standing_cert 1) ≡ None
rejecting_bound = refl

pub rejecting_bound_unfit : why_unfit (rejecting 1 1 1 2) (standing_cert 1) ≡ Some (Queue 0)
rejecting_bound_unfit = refl

-- a queue that is large enough for a bound stays unchanged
pub rejecting_bound_fits : fitted (rejecting 1 1 2 2) (standing_cert 1) ≡ Some (rejecting 1 1 2 2)
rejecting_bound_fits = refl

-- the smallest plan keeps the queue
pub rejecting_smallest : fitted (smallest (rejecting 2 2 9 2)) (standing_cert 1) ≡ Some (rejecting 1 2 9 2)
rejecting_smallest = refl

-- the blocked vector can need a larger core, and a larger maximum with it
pub rejecting_core : why_unfit (nested_rejecting 1) nested_cert_without_bound ≡ Some (Core 0)
rejecting_core = refl

pub rejecting_widened : fitted (widened (nested_rejecting 1) nested_cert_without_bound) nested_cert_without_bound ≡ Some (nested_rejecting 2)
rejecting_widened = refl

-- ---- pools with an unbounded queue

-- a bound requires no queue, whatever its total is
pub unbounded_bound : fitted (unbounded_queue 1 1000000) (standing_cert 1000000000) ≡ Some (unbounded_queue 1 1000000)
unbounded_bound = refl

-- the blocked vector can need a larger core, and a larger maximum with it
pub unbounded_core : why_unfit (nested_unbounded 1) nested_cert_without_bound ≡ Some (Core 0)
unbounded_core = refl

pub unbounded_widened : fitted (widened (nested_unbounded 1) nested_cert_without_bound) nested_cert_without_bound ≡ Some (nested_unbounded 2)
unbounded_widened = refl

-- ---- lifetime vectors

-- four jobs need two threads and a queue of two
pub lifetime_over : fitted (one_pool_once 2 2 1 4 false) lifetime_cert ≡ Some (one_pool_once 2 2 2 4 false)
lifetime_over = refl

-- prestarted threads take no job, so the queue must have room for all three jobs
pub lifetime_prestarted : fitted (one_pool_once 2 2 1 3 true) lifetime_cert ≡ Some (one_pool_once 2 2 3 3 true)
lifetime_prestarted = refl

-- with a core of one, a job starts the second thread, and a queue of two is enough
pub lifetime_prestarted_smallest : fitted (smallest (one_pool_once 2 2 1 3 true)) lifetime_cert ≡ Some (one_pool_once 1 2 2 3 true)
lifetime_prestarted_smallest = refl

-- ---- pools whose core threads may time out

-- the plan, but the core threads of all pools may time out
abbrev losing : Plan → Plan
losing plan = record plan { pools = map (λ (pool : Pool). record pool { core_timeout = true }) plan.pools }

-- an outer job and its inner job need two threads, but one may be left
pub nested_last_thread : why_unfit (losing (nested 2 8 false)) nested_cert ≡ Some (CoreTimeout 0)
nested_last_thread = refl

pub nested_last_thread_fitted : fitted (losing (nested 2 8 false)) nested_cert ≡ None
nested_last_thread_fitted = refl

-- a larger maximum does not help either
pub nested_last_thread_widened : widened (losing (nested 1 1 false)) nested_cert ≡ losing (nested 1 1 false)
nested_last_thread_widened = refl

-- without gets the queue alone is raised, and the core stays unchanged
pub losing_queue : fitted (losing (one_pool 3 3 1 2)) (standing_cert 1) ≡ Some (losing (one_pool 3 3 2 2))
losing_queue = refl

pub losing_smallest : fitted (smallest (losing (one_pool 3 3 9 2))) (standing_cert 1) ≡ Some (losing (one_pool 3 3 2 2))
losing_smallest = refl

-- threads can start without a job, so the queue must have room for all four jobs
pub losing_lifetime : fitted (losing (one_pool_once 2 2 1 4 false)) lifetime_cert ≡ Some (losing (one_pool_once 2 2 4 4 false))
losing_lifetime = refl

-- ---- one failing condition and two numbers to change

-- a plan of a prestarted pool of at most two threads, and a client that submits one outer job, which submits an inner job
abbrev nested_once : ℕ → ℕ → Plan
nested_once core queue = record {
  pools = a_pool 112 core 2 queue true ∷ [];
  classes = a_class 111 0 (asks 1) ∷ a_class 105 0 works ∷ [];
  clients = clients 99 1 false (asks 0) ∷ [];
}

-- a certificate for `nested_once`: at most two jobs are created, and only the outer job can be blocked
abbrev nested_once_cert : Cert
nested_once_cert = record {
  pools =
      pool_cert
      (Lifetime (weighing (0 ∷ []) ((2 ∷ 2 ∷ 1 ∷ 1 ∷ 1 ∷ []) ∷ one_of_ones ∷ []) ((2 ∷ 0 ∷ 0 ∷ []) ∷ [])))
      (weighing (0 ∷ []) (pair_of_ones ∷ one_of_zeros ∷ []) (lends ∷ []))
      ∷ [];
  ranks = nested_ranks;
}

-- the only condition that fails is that of the core
pub nested_once_fails : failing (nested_once 1 1) nested_once_cert ≡ note (section.Blocked 0) (row B2 place.Total 1 0) ∷ []
nested_once_fails = refl

-- a second prestarted thread takes no job, so the queue must have room for one more job
pub nested_once_fitted : fitted (nested_once 1 1) nested_once_cert ≡ Some (nested_once 2 2)
nested_once_fitted = refl
