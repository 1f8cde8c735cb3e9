-- The lints of a plan, in the order in which they are reported.
use Rattle.std.specs.Prelude.{◌≡◌, ℕ, ◌/◌, max, Bool, true, false, not, ◌&&◌, ◌||◌, ◌==◌, nat_lt, nat_le, if◌then◌else◌, List, [], ◌∷◌, ◌++◌, map, length, slice_index_or, Option, Some, None, IfSome, IfNone}
use Rattle.std.specs.List.{list_any, list_all, flat_map, enumerate_from}
use Rattle.job_bodies.specs.declared.action.Action.{Action}
use Rattle.job_bodies.specs.declared.action.Action.TheVariants.{Work, Submit}
use Rattle.job_bodies.specs.declared.fault.Part.{Part}
use Rattle.job_bodies.specs.declared.fault.Part.TheVariants as part
use Rattle.job_bodies.specs.Plan.{Pool, Class, Client, Plan, pool_at, class_at, needs_no_bound, has_get_of}
use Rattle.size_search.specs.ByClients.{MarksSubmitted, MarksRepeated}
use Rattle.size_search.specs.declared.cause.Cause.{Cause}
use Rattle.size_search.specs.declared.cause.Cause.TheVariants.{Circle, ClientNeverGets, ClassNeverGets, PoolWaitsForItself}
use Rattle.size_search.specs.Causes.{IsCause, IsWithoutCause}
use Rattle.diagnostics.specs.declared.lint.Lint.{Lint}
use Rattle.diagnostics.specs.declared.lint.Lint.TheVariants as lint
use Rattle.diagnostics.specs.declared.lint.Lint.TheVariants.{SafeAtCore, SubmitsItself, NeverGot, NothingToAsk, NoClients, NothingSubmitted, PoolWithoutJobs, UselessMax, UselessMayReject, NeverRejects, QueueFarAbove, ClassWithoutJobs, RunInCaller, GoesOnce, Crowd, WorkLikeASize, OpenFuture, QueueMayGrow}
use Rattle.diagnostics.specs.declared.warnings.Warning.{Warning}
use Rattle.diagnostics.specs.OpenFutures.{has_open_future}

-- the lint alone if the condition is true, and otherwise no lint
abbrev pub only_if : Bool → Lint → List Lint
only_if true lint = lint ∷ []
only_if false lint = []

-- ---- lengths of work that look like sizes

-- the number is the maximum of the pool, and this maximum has an effect: the queue is bounded, or core threads may time out
abbrev pub has_used_max : ℕ → Pool → Bool
has_used_max n pool = pool.max == n && (not pool.unbounded || pool.core_timeout)

-- the number is the core size of the pool, its maximum if this has an effect, or its queue capacity if the queue is bounded
abbrev pub has_size : ℕ → Pool → Bool
has_size n pool = pool.core == n || has_used_max n pool || not pool.unbounded && pool.queue == n

abbrev pub has_count : ℕ → Client → Bool
has_count n client = client.count == n

-- the number is a size of some pool, or the count of some client kind
abbrev pub is_a_size : Plan → ℕ → Bool
is_a_size plan n = list_any (has_size n) plan.pools || list_any (has_count n) plan.clients

-- the length of a `work` is at least 50 units and equals a size of the plan
abbrev pub looks_like_a_size : Plan → ℕ → Bool
looks_like_a_size plan units = nat_le 50 units && is_a_size plan units

-- ---- submits to pools that may reject jobs

-- the pool's queue is unbounded, or a bound on the number of jobs in it at once is known and at most its capacity
abbrev pub holds_all : Pool → Option ℕ → Bool
holds_all pool None = pool.unbounded
holds_all pool (Some most) = pool.unbounded || nat_le most pool.queue

-- the plan says that pool p may reject jobs, and its queue may be too small for all jobs that can be in it at once
abbrev pub may_reject_jobs : Plan → List (Option ℕ) → ℕ → Bool
may_reject_jobs plan needed p = (pool_at plan p).may_reject && not (holds_all (pool_at plan p) (slice_index_or needed p None))

-- a future is open at position i of the body, and the submit of a job of class k there may be rejected
abbrev pub leaves_a_future : Plan → List (Option ℕ) → List Action → ℕ → ℕ → Bool
leaves_a_future plan needed body i k = may_reject_jobs plan needed (class_at plan k).pool && has_open_future body i

-- ---- bodies

-- the lints of an action at a position of the body of a class or client kind
abbrev pub lints_of_action : Plan → List (Option ℕ) → Part → ℕ → List Action → ℕ → Action → List Lint
lints_of_action plan needed of number body place (Work units) = only_if (looks_like_a_size plan units) (WorkLikeASize of number place units)
lints_of_action plan needed of number body place (Submit k) = only_if (leaves_a_future plan needed body place k) (OpenFuture of number place)
lints_of_action plan needed of number body place _ = []

abbrev pub lints_of_body : Plan → List (Option ℕ) → Part → ℕ → List Action → List Lint
lints_of_body plan needed of number body = flat_map (λ (entry : ℕ × Action). lints_of_action plan needed of number body entry.0 entry.1) (enumerate_from 0 body)

-- ---- pools

-- the class is marked as submitted, and its jobs run in the pool
abbrev pub brings_jobs : List Bool → ℕ → ℕ → Class → Bool
brings_jobs marks p k class = slice_index_or marks k false && class.pool == p

-- the pool runs the jobs of some class that is marked as submitted
abbrev pub gets_a_job : Plan → List Bool → ℕ → Bool
gets_a_job plan marks p = list_any (λ (entry : ℕ × Class). brings_jobs marks p entry.0 entry.1) (enumerate_from 0 plan.classes)

-- the pool starts threads above its core size exactly when a submit finds its queue full: its queue is bounded, its core
-- threads never time out, and its maximum is above its core size
abbrev pub grows_if_full : Pool → Bool
grows_if_full pool = not pool.unbounded && not pool.core_timeout && nat_lt pool.core pool.max

-- a tenth of the queue's capacity is more than `most` jobs, and more than 1
abbrev pub is_far_above : Pool → ℕ → Bool
is_far_above pool most = nat_lt (max most 1) (pool.queue / 10)

-- the pool starts threads above its core size only if its queue is full, and the queue holds all `most` jobs
abbrev pub has_useless_max : Pool → ℕ → Bool
has_useless_max pool most = grows_if_full pool && nat_le most pool.queue

-- the plan says that the pool may reject jobs, but its queue holds all `most` jobs that can be in it at once
abbrev pub never_rejects : Pool → ℕ → Bool
never_rejects pool most = pool.may_reject && nat_le most pool.queue

-- the lints of pool p if at most `most` jobs are in its queue at once: a maximum without effect, a key `may_reject` without
-- effect, and a queue that is far larger than needed
abbrev pub lints_of_known_sizes : ℕ → Pool → ℕ → List Lint
lints_of_known_sizes p pool most =
    only_if (has_useless_max pool most) (UselessMax p) ++ (only_if (never_rejects pool most) (UselessMayReject p most) ++ only_if (is_far_above pool most) (QueueFarAbove p most))

-- the lints of the sizes and of the key `may_reject` of a pool with a bounded queue. There are none if the maximum number of
-- jobs in its queue is not known
abbrev pub lints_of_bounded : ℕ → Pool → Option ℕ → List Lint
lints_of_bounded p pool None = []
lints_of_bounded p pool (Some most) = lints_of_known_sizes p pool most

-- the lints of the sizes and of the key `may_reject` of any pool. A pool with an unbounded queue never rejects, so its only
-- lint is that the key has no effect
abbrev pub lints_of_sizes : ℕ → Pool → Option ℕ → List Lint
lints_of_sizes p pool most = if pool.unbounded then only_if pool.may_reject (NeverRejects p) else lints_of_bounded p pool most

abbrev pub lints_of_pool : Plan → List (Option ℕ) → List Bool → ℕ → Pool → List Lint
lints_of_pool plan needed marks p pool = if gets_a_job plan marks p then lints_of_sizes p pool (slice_index_or needed p None) else PoolWithoutJobs p ∷ []

abbrev pub lints_of_pools : Plan → List (Option ℕ) → List Bool → List Lint
lints_of_pools plan needed marks = flat_map (λ (entry : ℕ × Pool). lints_of_pool plan needed marks entry.0 entry.1) (enumerate_from 0 plan.pools)

-- ---- classes

abbrev pub is_submit : Action → Bool
is_submit (Submit k) = true
is_submit _ = false

abbrev pub is_work : Action → Bool
is_work (Work u) = true
is_work _ = false

-- the pool of the class may reject jobs (see `may_reject_jobs`), and the body of the class has submits or gets
abbrev pub may_run_in_caller : Plan → List (Option ℕ) → Class → Bool
may_run_in_caller plan needed class = may_reject_jobs plan needed class.pool && not (list_all is_work class.body)

abbrev pub lints_of_class : Plan → List (Option ℕ) → List Bool → ℕ → Class → List Lint
lints_of_class plan needed marks k class =
    only_if (not (slice_index_or marks k false)) (ClassWithoutJobs k)
    ++ (only_if (may_run_in_caller plan needed class) (RunInCaller k) ++ lints_of_body plan needed part.Class k class.body)

abbrev pub lints_of_classes : Plan → List (Option ℕ) → List Bool → List Lint
lints_of_classes plan needed marks = flat_map (λ (entry : ℕ × Class). lints_of_class plan needed marks entry.0 entry.1) (enumerate_from 0 plan.classes)

-- ---- client kinds

-- the pool is small for `count` clients: it must not reject jobs, has one core thread, and has a bounded queue with a capacity
-- below `count`
abbrev pub is_small : ℕ → Pool → Bool
is_small count pool = pool.core == 1 && nat_lt pool.queue count && not (needs_no_bound pool)

-- the action is no submit, or submits to a pool that is small for `count` clients
abbrev pub is_for_small : Plan → ℕ → Action → Bool
is_for_small plan count (Submit k) = is_small count (pool_at plan (class_at plan k).pool)
is_for_small plan count _ = true

-- the clients of this kind submit jobs, and each pool to which they submit is small for their number
abbrev pub are_a_crowd : Plan → Client → Bool
are_a_crowd plan client = list_any is_submit client.body && list_all (is_for_small plan client.count) client.body

abbrev pub lints_of_client : Plan → List (Option ℕ) → ℕ → Client → List Lint
lints_of_client plan needed c client = only_if (not client.repeat) (GoesOnce c) ++ only_if (are_a_crowd plan client) (Crowd c) ++ lints_of_body plan needed part.Client c client.body

abbrev pub lints_of_clients : Plan → List (Option ℕ) → List Lint
lints_of_clients plan needed = flat_map (λ (entry : ℕ × Client). lints_of_client plan needed entry.0 entry.1) (enumerate_from 0 plan.clients)

-- ---- the plan

-- the lint of a plan without clients
abbrev pub without_clients : Plan → Lint
without_clients plan = if length plan.pools == 0 then NothingToAsk else NoClients

abbrev pub lints_of_parts : Plan → List (Option ℕ) → List Bool → List Lint
lints_of_parts plan needed marks = lints_of_pools plan needed marks ++ lints_of_classes plan needed marks ++ lints_of_clients plan needed

-- the lints of a plan: one of the whole plan if such a lint applies, and otherwise those of its parts. `needed` has, for each
-- pool, a bound on the number of jobs in its queue at once, if one is known. `marks` has, for each class, whether it is submitted
abbrev pub lints : Plan → List (Option ℕ) → List Bool → List Lint
lints plan needed marks =
    if length plan.clients == 0 then without_clients plan ∷ [] else
    (if list_any (λ (mark : Bool). mark) marks then lints_of_parts plan needed marks else NothingSubmitted ∷ [])

-- ---- causes for which no sizes are enough

abbrev pub lint_of_cause : Cause → Lint
lint_of_cause (Circle k) = SubmitsItself k
lint_of_cause (ClientNeverGets c i) = NeverGot part.Client c i
lint_of_cause (ClassNeverGets k i) = NeverGot part.Class k i
lint_of_cause (PoolWaitsForItself p) = lint.PoolWaitsForItself p

abbrev pub lints_of_cause : Option Cause → List Lint
lints_of_cause None = []
lints_of_cause (Some cause) = lint_of_cause cause ∷ []

-- ---- unbounded queues that may grow without limit

-- the action at position i of the body submits a job to a pool with an unbounded queue, and the body has no get of the job
abbrev pub fills_queue : Plan → List Action → ℕ → Action → Bool
fills_queue plan body i (Submit k) = (pool_at plan (class_at plan k).pool).unbounded && not (has_get_of body i)
fills_queue plan body i _ = false

-- a lint for each submit of the body for which `fills_queue` is true
abbrev pub growing_of_body : Plan → Part → ℕ → List Action → List Lint
growing_of_body plan of number body = flat_map (λ (entry : ℕ × Action). only_if (fills_queue plan body entry.0 entry.1) (QueueMayGrow of number entry.0)) (enumerate_from 0 body)

-- the lints of a class: those of its body if repeating clients submit it, directly or through other jobs, and otherwise none
abbrev pub growing_of_class : Plan → List Bool → ℕ → Class → List Lint
growing_of_class plan repeated k class = if slice_index_or repeated k false then growing_of_body plan part.Class k class.body else []

-- the lints of a client kind: those of its body if the kind repeats, and otherwise none
abbrev pub growing_of_client : Plan → ℕ → Client → List Lint
growing_of_client plan c client = if client.repeat then growing_of_body plan part.Client c client.body else []

abbrev pub growing_of_classes : Plan → List Bool → List Lint
growing_of_classes plan repeated = flat_map (λ (entry : ℕ × Class). growing_of_class plan repeated entry.0 entry.1) (enumerate_from 0 plan.classes)

abbrev pub growing_of_clients : Plan → List Lint
growing_of_clients plan = flat_map (λ (entry : ℕ × Client). growing_of_client plan entry.0 entry.1) (enumerate_from 0 plan.clients)

-- a lint for each submit that repeating clients cause, if the queue of its pool is unbounded and its body has no get of the
-- job. `repeated` has, for each class, whether repeating clients submit it
abbrev pub growing_lints : Plan → List Bool → List Lint
growing_lints plan repeated = growing_of_classes plan repeated ++ growing_of_clients plan

-- ---- all

-- all lints, in this order: that the plan with lowered maximums is safe, if `safe_at_core` is true; the cause, if there is
-- one; the unbounded queues that may grow without limit; the other lints
abbrev pub all_lints : Plan → List (Option ℕ) → Bool → Option Cause → List Bool → List Bool → List Lint
all_lints plan needed safe_at_core cause marks repeated =
    only_if safe_at_core SafeAtCore ++ lints_of_cause cause ++ growing_lints plan repeated ++ lints plan needed marks

-- `found` has all lints of the plan. `marks` has the classes that clients submit, directly or through other jobs, and
-- `repeated` those that repeating clients submit. `cause` is a cause of the plan, or None if the plan has none
pub record AreLints (plan : Plan) (needed : List (Option ℕ)) (safe_at_core : Bool) (found : List Lint) : Type 0 where
  pub marks : List Bool
  pub submitted : MarksSubmitted plan marks
  pub repeated : List Bool
  pub submitted_repeatedly : MarksRepeated plan repeated
  pub cause : Option Cause
  pub is_cause : IfSome cause (IsCause plan)
  pub none : IfNone cause (IsWithoutCause plan)
  pub is : found ≡ all_lints plan needed safe_at_core cause marks repeated

-- the lint is a note: whether it matters depends on a pool's handler or on the code around a submit, which no plan describes
abbrev pub is_note : Lint → Bool
is_note (RunInCaller k) = true
is_note (OpenFuture of number place) = true
is_note _ = false

-- at least one of the warnings is not a note
abbrev pub has_warning : List Warning → Bool
has_warning warnings = list_any (λ (warning : Warning). not (is_note warning.lint)) warnings

-- the lints of the warnings, in the same order
abbrev pub lints_in : List Warning → List Lint
lints_in warnings = map (λ (warning : Warning). warning.lint) warnings
