-- The guarantees of a vector for every reachable state if the vector's rows hold.
use Rattle.std.specs.Prelude.{◌≡◌, ◌≢◌, ◌≤◌, ◌<◌, ℕ, IsTrue, IsFalse, length, Some}
use Rattle.job_bodies.specs.Plan.{Plan, pool_at}
use Rattle.job_bodies.specs.WellFormed.{IsWellFormed}
use Rattle.pool_machine.specs.declared.event.Event.{Event}
use Rattle.pool_machine.specs.declared.event.Outcome.{Outcome}
use Rattle.pool_machine.specs.declared.event.Outcome.TheVariants.{Refused, Rejected}
use Rattle.pool_machine.specs.State.{State, pool_of, pool_part}
use Rattle.pool_machine.specs.Step.{step}
use Rattle.pool_machine.specs.Reach.{IsReached}
use Rattle.pool_machine.specs.JobsMade.{jobs_made}
use Rattle.weights.specs.declared.get_return.GetReturn.{GetReturn}
use Rattle.weights.specs.declared.get_return.GetReturn.TheVariants.{DoneWeight}
use Rattle.weights.specs.declared.bound.Bound.{Bound}
use Rattle.weights.specs.Row.{AllHold}
use Rattle.weights.specs.Vector.{Vector, vector_fits, queued_weight, done_weight, total}
use Rattle.weights.specs.Rows.{rows}
use Rattle.weights.specs.Lifetime.{lifetime_rows}
use Rattle.weights.specs.Bound.{bound_vector, bound_rows}
use Rattle.soundness.specs.WeightedSum.{sum_of}

-- rejected jobs are light: in each class of a pool that may reject jobs, a done job weighs at most as much as a queued job. So
-- a rejected job does not increase the weight of a state. The condition holds if no pool may reject jobs. It also holds if the
-- rows of the vector and of some ranks hold.
abbrev pub RejectedAreLight : Plan → Vector → Type 0
RejectedAreLight plan v = (k : ℕ) → k < length plan.classes → IsTrue (pool_at plan (pool_of plan k)).may_reject → done_weight plan v k ≤ queued_weight v k

-- if the rows of a vector hold and rejected jobs are light, no event increases the weight of a reachable state
abbrev pub SumNeverRises : Type 0
SumNeverRises = (get_return : GetReturn) (plan : Plan) (v : Vector) (s s' : State) (event : Event) (outcome : Outcome) → IsWellFormed plan → AllHold (rows get_return plan v) → RejectedAreLight plan v → IsReached plan s → step plan s event ≡ Some (s', outcome)
    → sum_of get_return plan v s' ≤ sum_of get_return plan v s

-- if the rows of a vector hold and rejected jobs are light, the weight of every reachable state is at most the vector's total
abbrev pub SumStaysWithinTotal : Type 0
SumStaysWithinTotal = (get_return : GetReturn) (plan : Plan) (v : Vector) (s : State) → IsWellFormed plan → AllHold (rows get_return plan v) → RejectedAreLight plan v → IsReached plan s → sum_of get_return plan v s ≤ total plan v

-- Let the rows of a pool's standing or lifetime vector hold, and let rejected jobs be light under it. Then the pool refuses and
-- rejects no job in any reachable state, whatever the other pools do
abbrev pub BoundsRefuseNothing : Type 0
BoundsRefuseNothing = (plan : Plan) (p : ℕ) (bound : Bound) (s s' : State) (event : Event) → IsWellFormed plan → IsTrue (vector_fits plan (bound_vector bound)) → AllHold (bound_rows plan p bound) → RejectedAreLight plan (bound_vector bound) → IsReached plan s
    → (step plan s event ≢ Some (s', Refused p)) × ((j : ℕ) → step plan s event ≢ Some (s', Rejected p j))

-- Let the rows of a vector hold, rejected jobs be light, and each queued job of a pool weigh at least 1. Then in every
-- reachable state, the number of queued jobs of the pool is at most the vector's total. The queue can be bounded or unbounded
abbrev pub QueuesStayWithinTotal : Type 0
QueuesStayWithinTotal = (plan : Plan) (p : ℕ) (v : Vector) (s : State) → IsWellFormed plan → p < length plan.pools → AllHold (rows DoneWeight plan v) → ((k : ℕ) → k < length plan.classes → pool_of plan k ≡ p → 1 ≤ queued_weight v k) → RejectedAreLight plan v → IsReached plan s
    → length (pool_part s p).queue ≤ total plan v

-- Let the queue of a pool be bounded, the rows of its lifetime vector hold, and rejected jobs be light. Then in every reachable
-- state, the number of jobs ever submitted to the pool is at most the vector's total
abbrev pub JobsStayWithinTotal : Type 0
JobsStayWithinTotal = (plan : Plan) (p : ℕ) (v : Vector) (s : State) → IsWellFormed plan → IsTrue (vector_fits plan v) → AllHold (lifetime_rows plan p v) → IsFalse (pool_at plan p).unbounded → RejectedAreLight plan v → IsReached plan s → jobs_made plan s p ≤ total plan v
