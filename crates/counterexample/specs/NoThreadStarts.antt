-- The test that no pool with a queued member starts a further thread, computed from the live view of a state.
use Rattle.std.specs.Prelude.{ℕ, ◌==◌, ◌&&◌, ◌||◌, not, nat_lt, nat_le, Bool, true, false, List, length, Option, Some, None, is_some, slice_get}
use Rattle.std.specs.List.{list_all, enumerate_from}
use Rattle.job_bodies.specs.Plan.{Plan, Class, pool_at}
use Rattle.interleaving.specs.declared.job_view.Phase.{Phase}
use Rattle.interleaving.specs.declared.job_view.Phase.TheVariants as phase
use Rattle.interleaving.specs.declared.job_view.JobView.{JobView}
use Rattle.interleaving.specs.LiveView.{View}
use Rattle.interleaving.specs.ViewStep.{live_job, pool_in}
use Rattle.weights.specs.Row.{first_failing}
use Rattle.weights.specs.Vector.{Vector, vector_fits, queued_weight, done_weight}
use Rattle.weights.specs.Standing.{standing_rows}
use Rattle.counterexample.specs.declared.ending.Reason.{Reason}
use Rattle.counterexample.specs.declared.ending.Reason.TheVariants.{PoolsAreFull, PoolsStayAtCore}

-- the pool has all its threads
abbrev pub has_max_threads : View → ℕ → Bool
has_max_threads view p = (pool_in view p).threads == (pool_in view p).max

-- the pool has at least core threads
abbrev pub has_core_threads : View → ℕ → Bool
has_core_threads view p = nat_le (pool_in view p).core (pool_in view p).threads

-- the pool of the class with this number must not reject jobs, or a done job of the class weighs at most as much as a queued job
abbrev pub is_light : Plan → Vector → ℕ × Class → Bool
is_light plan v entry = not (pool_at plan entry.1.pool).may_reject || nat_le (done_weight plan v entry.0) (queued_weight v entry.0)

-- a rejected job of any class does not increase the weight of a state
abbrev pub rejected_are_light : Plan → Vector → Bool
rejected_are_light plan v = list_all (is_light plan v) (enumerate_from 0 plan.classes)

-- there is a vector that satisfies all conditions of a standing vector of the pool, and under which a rejected job does not
-- increase the weight of a state
abbrev pub has_standing : Plan → ℕ → Option Vector → Bool
has_standing plan p None = false
has_standing plan p (Some v) = vector_fits plan v && not (is_some (first_failing (standing_rows plan p v))) && rejected_are_light plan v

-- the pool has at least core threads, and starts none above core, because its queue is unbounded or `standing` has a valid
-- standing vector for it
abbrev pub stays_at_core : Plan → View → List Vector → ℕ → Bool
stays_at_core plan view standing p = has_core_threads view p && ((pool_in view p).unbounded || has_standing plan p (slice_get standing p))

-- the pool starts no thread, for this reason
abbrev pub starts_none_for : Plan → View → List Vector → Reason → ℕ → Bool
starts_none_for plan view standing PoolsAreFull p = has_max_threads view p
starts_none_for plan view standing PoolsStayAtCore p = has_max_threads view p || stays_at_core plan view standing p

abbrev pub pool_starts_no_thread : Plan → View → List Vector → Reason → ℕ → Bool
pool_starts_no_thread plan view standing reason p = nat_lt p (length plan.pools) && starts_none_for plan view standing reason p

abbrev pub class_starts_no_thread : Plan → View → List Vector → Reason → Option Class → Bool
class_starts_no_thread plan view standing reason None = false
class_starts_no_thread plan view standing reason (Some class) = pool_starts_no_thread plan view standing reason class.pool

abbrev pub phase_starts_no_thread : Plan → View → List Vector → Reason → ℕ → Phase → Bool
phase_starts_no_thread plan view standing reason k phase.Queued = class_starts_no_thread plan view standing reason (slice_get plan.classes k)
phase_starts_no_thread plan view standing reason k _ = true

-- the job is not queued, or its pool starts no thread for this reason
abbrev pub job_starts_no_thread : Plan → View → List Vector → Reason → Option JobView → Bool
job_starts_no_thread plan view standing reason None = true
job_starts_no_thread plan view standing reason (Some job) = phase_starts_no_thread plan view standing reason job.class job.phase

-- no pool with a queued member starts a thread, for this reason
abbrev pub all_start_no_thread : Plan → View → List Vector → Reason → List ℕ → Bool
all_start_no_thread plan view standing reason members = list_all (λ j. job_starts_no_thread plan view standing reason (live_job view.jobs j)) members
