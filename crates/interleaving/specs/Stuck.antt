-- The parts of the test for a waiting set. The test checks each pool once, and not once for each queued member.
use Rattle.std.specs.Prelude.{◌≡◌, ℕ, ◌<◌, ◌==◌, ◌&&◌, Bool, true, false, List, length, Option, Some, None, slice_get}
use Rattle.std.specs.List.{list_all, list_any}
use Rattle.job_bodies.specs.Plan.{Plan, class_at}
use Rattle.pool_machine.specs.declared.parent.Parent.TheVariants as parent
use Rattle.pool_machine.specs.State.{pool_of}
use Rattle.interleaving.specs.declared.job_view.Phase.{Phase}
use Rattle.interleaving.specs.declared.job_view.Phase.TheVariants as phase
use Rattle.interleaving.specs.declared.job_view.JobView.{JobView}
use Rattle.interleaving.specs.LiveView.{View}
use Rattle.interleaving.specs.ViewStep.{live_job}
use Rattle.interleaving.specs.Waiting.{waits_at_in, waits_in_queue_of}

abbrev pub is_in_queue : Phase → Bool
is_in_queue phase.Queued = true
is_in_queue _ = false

-- the job is live and waits in the queue of pool p
abbrev pub is_queued_job : Plan → ℕ → Option JobView → Bool
is_queued_job plan p None = false
is_queued_job plan p (Some job) = is_in_queue job.phase && pool_of plan job.class == p

-- some member waits in the queue of pool p
abbrev pub has_queued : Plan → View → List ℕ → ℕ → Bool
has_queued plan view members p = list_any (λ j. is_queued_job plan p (live_job view.jobs j)) members

-- job j of class k is queued, or is at a get of a member
abbrev pub waits_unless_queued : Plan → View → List ℕ → ℕ → ℕ → Phase → Bool
waits_unless_queued plan view members j k phase.Queued = true
waits_unless_queued plan view members j k (phase.At i) = waits_at_in view members (parent.Job j) (slice_get (class_at plan k).body i)
waits_unless_queued plan view members j k phase.Done = false

abbrev pub job_waits_unless_queued : Plan → View → List ℕ → ℕ → Option JobView → Bool
job_waits_unless_queued plan view members j None = false
job_waits_unless_queued plan view members j (Some job) = waits_unless_queued plan view members j job.class job.phase

-- every member is queued, or is at a get of a member
abbrev pub unqueued_wait : Plan → View → List ℕ → Bool
unqueued_wait plan view members = list_all (λ j. job_waits_unless_queued plan view members j (live_job view.jobs j)) members

-- if a member waits in a pool's queue, no worker of the pool is idle, and every job that runs in it is a member
abbrev pub QueuesWait : Plan → View → List ℕ → Type 0
QueuesWait plan view members = (p : ℕ) → p < length plan.pools → has_queued plan view members p ≡ true → waits_in_queue_of plan view members p ≡ true
