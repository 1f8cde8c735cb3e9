-- Runs: consecutive similar steps of clients of one kind. The numbers of the clients are consecutive.
use Rattle.std.specs.Prelude.{ℕ, ◌+◌, ◌==◌, ◌&&◌, Bool, true, false, if◌then◌else◌, List, [], ◌∷◌, Option, Some, None}
use Rattle.job_bodies.specs.Plan.{Plan}
use Rattle.pool_machine.specs.declared.event.Outcome.{Outcome}
use Rattle.pool_machine.specs.declared.event.Outcome.TheVariants.{Started, Queued, Rejected, Worked, Looped}
use Rattle.pool_machine.specs.State.{State, pool_part}
use Rattle.report.specs.declared.event_steps.Actor.{Actor}
use Rattle.report.specs.declared.event_steps.Actor.TheVariants.{Client}
use Rattle.report.specs.declared.event_steps.PoolCounts.{PoolCounts}
use Rattle.report.specs.declared.event_steps.EventStep.{EventStep}
use Rattle.report.specs.EventRows.{EventRow}
use Rattle.report.specs.EventSteps.{step_of}

-- ---- a step with the queue of its pool

-- a step, and the jobs in the queue of its pool after the event, from the head to the end; no jobs if the step has no pool
pub record EventShown : Type 0 where
  pub step : EventStep
  pub queue : List ℕ

abbrev pub queue_of : State → Option PoolCounts → List ℕ
queue_of s None = []
queue_of s (Some counts) = (pool_part s counts.number).queue

abbrev pub shown_of : Plan → EventRow → EventShown
shown_of plan row = record { step = step_of plan row; queue = queue_of row.after (step_of plan row).pool }

-- ---- runs

-- a run: its first step, the number of its steps, and its last step
pub record Run : Type 0 where
  pub first : EventStep
  pub times : ℕ
  pub last : EventShown

-- whether both actors are clients of one kind, and the number of the second is n greater than the number of the first
abbrev pub is_later_client : Actor → ℕ → Actor → Bool
is_later_client (Client kind c) n (Client kind' c') = kind' == kind && c' == c + n
is_later_client _ n _ = false

abbrev pub is_same_action : Option ℕ → Option ℕ → Bool
is_same_action None None = true
is_same_action (Some i) (Some j) = j == i
is_same_action _ _ = false

-- whether both are the same outcome of a client. If they create jobs, the number of the second job must be n greater
abbrev pub is_later_outcome : Outcome → ℕ → Outcome → Bool
is_later_outcome (Started j) n (Started j') = j' == j + n
is_later_outcome (Queued j) n (Queued j') = j' == j + n
is_later_outcome (Rejected p j) n (Rejected p' j') = j' == j + n
is_later_outcome (Worked u) n (Worked u') = true
is_later_outcome Looped n Looped = true
is_later_outcome _ n _ = false

-- whether the step continues a run of n steps, whose first step is `first`
unfoldable pub follows : EventStep → ℕ → EventStep → Bool
follows first n step =
    is_later_client first.actor n step.actor && (is_same_action first.action step.action && is_later_outcome first.outcome n step.outcome)

-- the run of the n steps from `first` to `last`, extended by the steps that continue it, and then the runs of the other steps
abbrev pub runs_from : EventStep → ℕ → EventShown → List EventShown → List Run
runs_from first n last [] = record { first = first; times = n; last = last } ∷ []
runs_from first n last (next ∷ rest) =
    if follows first n next.step
    then runs_from first (n + 1) next rest
    else record { first = first; times = n; last = last } ∷ runs_from next.step 1 next rest

-- the steps as runs, each as long as possible
abbrev pub runs : List EventShown → List Run
runs [] = []
runs (first ∷ rest) = runs_from first.step 1 first rest
