-- Events that lead to a submit whose job a pool rejects, as the plan allows.
use Rattle.std.specs.Prelude.{◌≡◌, ℕ, ◌==◌, Bool, false, List, [], ◌∷◌, ◌++◌, Some, slice_set, max}
use Rattle.support.specs.In.{In}
use Rattle.job_bodies.specs.Plan.{Pool, Plan, pool_at}
use Rattle.pool_machine.specs.declared.event.Event.{Event}
use Rattle.pool_machine.specs.declared.event.Outcome.{Outcome}
use Rattle.pool_machine.specs.declared.event.Outcome.TheVariants as outcome
use Rattle.pool_machine.specs.State.{State}
use Rattle.pool_machine.specs.Step.{step}
use Rattle.pool_machine.specs.Reach.{start, outcomes, Reaches}
use Rattle.counterexample.specs.Witness.{NoneRefused}

-- whether the outcome is that pool p rejected a job
abbrev pub is_rejection_by : ℕ → Outcome → Bool
is_rejection_by p (outcome.Rejected q j) = q == p
is_rejection_by p _ = false

-- pool p rejects no job in these events
abbrev pub NoneRejected : Plan → List Event → ℕ → Type 0
NoneRejected plan events p = (j : ℕ) → ¬ In (Some (outcome.Rejected p j)) (outcomes plan (Some (start plan)) events)

-- the last event is a submit whose job pool p rejects. Before it, each event is possible, none is a refused submit, and p rejects
-- no job.
pub record EndsRejected (plan : Plan) (events : List Event) (p : ℕ) : Type 0 where
  pub front : List Event
  pub last : Event
  pub is_last : events ≡ front ++ last ∷ []
  pub none_refused : NoneRefused plan front
  pub none_before : NoneRejected plan front p
  pub before : State
  pub reaches : Reaches plan front before
  pub after : State
  pub job : ℕ
  pub rejected : step plan before last ≡ Some (after, outcome.Rejected p job)

-- the pool, changed so that it must not reject jobs and has a queue of at least 1
abbrev pub refusing_pool : Pool → Pool
refusing_pool pool = record pool { queue = max pool.queue 1; may_reject = false }

-- the plan with the `refusing_pool` of pool p in place of p
abbrev pub refusing : Plan → ℕ → Plan
refusing plan p = record plan { pools = slice_set plan.pools p (refusing_pool (pool_at plan p)) }
