-- The queue of a pool, computed from steps that add jobs to it or take jobs from it.
use Rattle.std.specs.Prelude.{ℕ, ◌==◌, Bool, false, if◌then◌else◌, List, [], ◌∷◌, ◌++◌, drop, Option, Some, None}
use Rattle.pool_machine.specs.declared.event.Outcome.{Outcome}
use Rattle.pool_machine.specs.declared.event.Outcome.TheVariants.{Queued, Took}
use Rattle.report.specs.declared.event_steps.PoolCounts.{PoolCounts}
use Rattle.report.specs.declared.event_steps.EventStep.{EventStep}
use Rattle.report.specs.declared.json_events.OpenRun.{OpenRun}
use Rattle.report.specs.EventRuns.{EventShown, Run}

abbrev pub is_of_pool : ℕ → Option PoolCounts → Bool
is_of_pool p None = false
is_of_pool p (Some counts) = counts.number == p

-- the queue of pool p after a step with this pool and this outcome; `queue` is the queue before the step
abbrev pub queue_once : ℕ → List ℕ → Option PoolCounts → Outcome → List ℕ
queue_once p queue pool (Queued j) = if is_of_pool p pool then queue ++ j ∷ [] else queue
queue_once p queue pool (Took j) = if is_of_pool p pool then drop 1 queue else queue
queue_once p queue pool _ = queue

abbrev pub queue_with : ℕ → List ℕ → EventStep → List ℕ
queue_with p queue step = queue_once p queue step.pool step.outcome

-- the queue of pool p after the steps; `queue` is the queue before them
abbrev pub queue_from : ℕ → List ℕ → List EventStep → List ℕ
queue_from p queue [] = queue
queue_from p queue (step ∷ steps) = queue_from p (queue_with p queue step) steps

-- the queue of the pool after the steps; empty if there is no pool. The first of the steps is from the start of the plan
abbrev pub queue_after : List EventStep → Option PoolCounts → List ℕ
queue_after steps None = []
queue_after steps (Some counts) = queue_from counts.number [] steps

-- `step`, with the queue of its pool after it; `steps` are all steps up to and including `step`
abbrev pub shown_after : List EventStep → EventStep → EventShown
shown_after steps step = record { step = step; queue = queue_after steps step.pool }

-- the steps of the list, each with the queue of its pool after it; `before` are the steps before the list
abbrev pub shown_from : List EventStep → List EventStep → List EventShown
shown_from before [] = []
shown_from before (step ∷ rest) = shown_after (before ++ step ∷ []) step ∷ shown_from (before ++ step ∷ []) rest

-- the open run as a run, with the queue of its pool; `steps` are all steps up to and including the last step of the run
abbrev pub run_of : OpenRun → List EventStep → Run
run_of run steps = record { first = run.first; times = run.times; last = shown_after steps run.last }
