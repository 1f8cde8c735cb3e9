-- The remaining work of a state: a bound on the number of job events and takes that can follow if no client acts.
use Rattle.std.specs.Prelude.{◌≡◌, ◌≤◌, ℕ, zero, suc, ◌+◌, ◌-◌, Bool, true, false, IsTrue, IsFalse, List, length, drop, sum_by, count_by, Some, None}
use Rattle.std.specs.List.{list_all}
use Rattle.job_bodies.specs.declared.action.Action.{Action}
use Rattle.job_bodies.specs.declared.action.Action.TheVariants.{Submit}
use Rattle.job_bodies.specs.Plan.{Plan, class_at}
use Rattle.weights.specs.Row.{AllHold}
use Rattle.weights.specs.Ranks.{Ranks, level, rank_rows}
use Rattle.pool_machine.specs.declared.event.Event.{Event}
use Rattle.pool_machine.specs.declared.event.Event.TheVariants.{Client}
use Rattle.pool_machine.specs.State.{Stage, State, job_at, is_unfinished}
use Rattle.pool_machine.specs.State.Stage.{Queued, At}
use Rattle.pool_machine.specs.Step.{step}
use Rattle.pool_machine.specs.Reach.{replay, IsReached}
use Rattle.pool_machine.specs.Safe.{is_of_job_or_pool}

-- the value of f for the class that the action submits, or 0 if the action is not a submit
abbrev pub of_submit : (ℕ → ℕ) → Action → ℕ
of_submit f (Submit k) = f k
of_submit f _ = 0

-- the number of job events and takes of a new job of class k and of the jobs that it submits, directly or through other jobs.
-- Only n generations of jobs are counted. The new job is the first generation, and the jobs that it submits are the second.
abbrev pub full_within : Plan → ℕ → ℕ → ℕ
full_within plan zero k = 0
full_within plan (suc n) k = length (class_at plan k).body + 2 + sum_by (of_submit (full_within plan n)) (class_at plan k).body

-- the work of a new job of class k: the number of job events and takes of this job and of all jobs that it submits, directly or
-- through other jobs. If the rows of the ranks hold, a class has a higher level than each class that it submits. So there are
-- at most level + 1 generations of jobs, and all of them are counted.
abbrev pub full : Plan → Ranks → ℕ → ℕ
full plan ranks k = full_within plan (level ranks k + 1) k

-- Let the rows of the ranks hold. Then the work of a new job of class k is one event for each action, one for its take and one
-- for its end. The work of the jobs that it submits is added.
abbrev pub FullIsWhole : Type 0
FullIsWhole = (plan : Plan) (ranks : Ranks) (k : ℕ) → AllHold (rank_rows plan ranks) → full plan ranks k ≡ length (class_at plan k).body + 2 + sum_by (of_submit (full plan ranks)) (class_at plan k).body

-- if the rows of two lists of ranks hold, both give the same work for a new job of class k
abbrev pub FullIsOfThePlan : Type 0
FullIsOfThePlan = (plan : Plan) (ranks ranks' : Ranks) (k : ℕ) → AllHold (rank_rows plan ranks) → AllHold (rank_rows plan ranks') → full plan ranks k ≡ full plan ranks' k

-- the remaining work of a job of class k at this stage, including the jobs that it will submit
abbrev pub stage_todo : Plan → Ranks → ℕ → Stage → ℕ
stage_todo plan ranks k Queued = full plan ranks k
stage_todo plan ranks k (At i) = length (class_at plan k).body + 1 - i + sum_by (of_submit (full plan ranks)) (drop i (class_at plan k).body)
stage_todo plan ranks k _ = 0

-- the remaining work of a state: the sum over all its jobs
abbrev pub todo : Plan → Ranks → State → ℕ
todo plan ranks s = sum_by (λ job. stage_todo plan ranks job.class job.stage) s.jobs

abbrev pub is_of_no_client : Event → Bool
is_of_no_client (Client c) = false
is_of_no_client _ = true

-- the events lead from the reachable state s to the state s', and none of them is an event of a client
pub record LeadsTo (plan : Plan) (s : State) (events : List Event) (s' : State) : Type 0 where
  pub reached : IsReached plan s
  pub of_no_client : IsTrue (list_all is_of_no_client events)
  pub replayed : replay plan (Some s) events ≡ Some s'

-- no job event and no take is possible in the state
abbrev pub IsQuiescent : Plan → State → Type 0
IsQuiescent plan s = (event : Event) → IsTrue (is_of_job_or_pool event) → step plan s event ≡ None

-- Let no client act after a reachable state. Then the number of job events and takes that follow is at most the remaining work
-- of that state. When no job event and no take is possible any longer, no job is unfinished. Idle threads may end in between,
-- as far as their pools allow it.
pub record Drains (plan : Plan) (ranks : Ranks) : Type 0 where
  pub bounded : (s s' : State) (events : List Event) → LeadsTo plan s events s' → count_by is_of_job_or_pool events ≤ todo plan ranks s
  pub drained : (s s' : State) (events : List Event) → LeadsTo plan s events s' → IsQuiescent plan s' → (j : ℕ) → IsFalse (is_unfinished (job_at s' j).stage)
