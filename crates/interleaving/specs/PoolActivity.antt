-- The activity of the members of a set in a pool.
use Rattle.std.specs.Prelude.{ℕ, ◌+◌, ◌==◌, ◌&&◌, ◌||◌, not, Bool, true, false, List, count_by, slice_index_or, Option}
use Rattle.support.specs.Places.{places_where}
use Rattle.job_bodies.specs.Plan.{Plan}
use Rattle.pool_machine.specs.PoolState.{PoolView}
use Rattle.pool_machine.specs.Waiting.{is_member}
use Rattle.interleaving.specs.declared.job_view.Phase.{Phase}
use Rattle.interleaving.specs.declared.job_view.Phase.TheVariants as phase
use Rattle.interleaving.specs.declared.job_view.JobView.{JobView}
use Rattle.interleaving.specs.LiveView.{View}
use Rattle.interleaving.specs.Waiting.{is_busy_job}
use Rattle.interleaving.specs.declared.activities.PoolActivity.{PoolActivity}
use Rattle.interleaving.specs.Stuck.{has_queued}

-- the number of members that run in pool p
abbrev pub members_at_work : Plan → List (Option JobView) → List ℕ → ℕ → ℕ
members_at_work plan jobs members p = count_by (is_member members) (places_where (is_busy_job plan p) jobs)

abbrev pub activity_of : Plan → View → List ℕ → ℕ → PoolActivity
activity_of plan view members p = record { queued = has_queued plan view members p; at_work = members_at_work plan view.jobs members p }

abbrev pub no_activity : PoolActivity
no_activity = record { queued = false; at_work = 0 }

abbrev pub activity_at : List PoolActivity → ℕ → PoolActivity
activity_at activities p = slice_index_or activities p no_activity

-- the activity with one more member in this phase; a member that is not new does not increase `at_work`
abbrev pub activity_with : PoolActivity → Phase → Bool → PoolActivity
activity_with activity phase.Queued new = record activity { queued = true }
activity_with activity (phase.At i) true = record activity { at_work = activity.at_work + 1 }
activity_with activity (phase.At i) false = activity
activity_with activity phase.Done new = activity

-- no member waits in the pool's queue, or the pool has no idle worker and all its threads run members: the number of its
-- threads is the number of running members
abbrev pub pool_queue_waits : PoolView → PoolActivity → Bool
pool_queue_waits pool activity = not activity.queued || (pool.idle == 0 && pool.threads == activity.at_work)
