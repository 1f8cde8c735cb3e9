-- Sets of live jobs that wait only for their own members, computed from a view.
use Rattle.std.specs.Prelude.{ℕ, ◌==◌, ◌&&◌, not, Bool, true, false, List, Option, Some, None, slice_get}
use Rattle.std.specs.List.{list_all}
use Rattle.support.specs.Places.{places_where}
use Rattle.job_bodies.specs.declared.action.Action.{Action}
use Rattle.job_bodies.specs.declared.action.Action.TheVariants.{Get}
use Rattle.job_bodies.specs.Plan.{Plan, class_at}
use Rattle.pool_machine.specs.declared.parent.Parent.{Parent}
use Rattle.pool_machine.specs.declared.parent.Parent.TheVariants as parent
use Rattle.interleaving.specs.declared.job_view.Phase.{Phase}
use Rattle.interleaving.specs.declared.job_view.Phase.TheVariants as phase
use Rattle.interleaving.specs.declared.job_view.JobView.{JobView}
use Rattle.pool_machine.specs.State.{pool_of}
use Rattle.pool_machine.specs.Waiting.{is_member, is_some_member, is_none}
use Rattle.interleaving.specs.LiveView.{View}
use Rattle.interleaving.specs.ViewStep.{live_job, live_child, pool_in}

abbrev pub is_at_work : Phase → Bool
is_at_work (phase.At i) = true
is_at_work _ = false

-- the job runs in pool p
abbrev pub is_busy_job : Plan → ℕ → Option JobView → Bool
is_busy_job plan p None = false
is_busy_job plan p (Some job) = is_at_work job.phase && pool_of plan job.class == p

-- the action of the actor is a get, and the latest job of its submit is a member
abbrev pub waits_at_in : View → List ℕ → Parent → Option Action → Bool
waits_at_in view members a (Some (Get t)) = is_some_member members (live_child view.jobs a t)
waits_at_in view members a _ = false

-- no worker of pool p is idle, and every job that runs in it is a member
abbrev pub waits_in_queue_of : Plan → View → List ℕ → ℕ → Bool
waits_in_queue_of plan view members p = (pool_in view p).idle == 0 && list_all (is_member members) (places_where (is_busy_job plan p) view.jobs)

abbrev pub waits_in_phase : Plan → View → List ℕ → ℕ → ℕ → Phase → Bool
waits_in_phase plan view members j k phase.Queued = waits_in_queue_of plan view members (pool_of plan k)
waits_in_phase plan view members j k (phase.At i) = waits_at_in view members (parent.Job j) (slice_get (class_at plan k).body i)
waits_in_phase plan view members j k phase.Done = false

abbrev pub waits_job : Plan → View → List ℕ → ℕ → Option JobView → Bool
waits_job plan view members j None = false
waits_job plan view members j (Some job) = waits_in_phase plan view members j job.class job.phase

-- the live job with this number waits only for members
abbrev pub waits_in : Plan → View → List ℕ → ℕ → Bool
waits_in plan view members j = waits_job plan view members j (live_job view.jobs j)

-- the numbers, taken as a set, are a waiting set: the set is not empty, and each of its members is a live job that waits only for members
abbrev pub is_waiting_set_in : Plan → View → List ℕ → Bool
is_waiting_set_in plan view members = not (is_none members) && list_all (waits_in plan view members) members
