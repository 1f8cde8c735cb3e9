-- Permanent waiting sets: each pool with a queued member has all its threads, or has at least core threads and never more.
use Rattle.std.specs.Prelude.{◌≡◌, ◌≤◌, ◌<◌, ◌⊎◌, ℕ, List, length, Some}
use Rattle.job_bodies.specs.Plan.{Plan, pool_at}
use Rattle.job_bodies.specs.WellFormed.{IsWellFormed}
use Rattle.pool_machine.specs.declared.event.Event.{Event}
use Rattle.pool_machine.specs.State.{State, job_at, threads}
use Rattle.pool_machine.specs.Reach.{replay, IsReached}
use Rattle.pool_machine.specs.Waiting.{IsMember, IsWaitingSet}
use Rattle.pool_machine.specs.FullWaitingSets.{WhereMembersQueue, IsFull}
use Rattle.weights.specs.Row.{AllHold}
use Rattle.weights.specs.Vector.{Vector}
use Rattle.weights.specs.Standing.{standing_rows}
use Rattle.soundness.specs.WeightLaws.{RejectedAreLight}

-- some vector satisfies the conditions of a standing vector of the pool, and under this vector a rejected job does not increase
-- the weight of a state. If no pool may reject jobs, the second condition holds for every vector.
pub record HasStanding (plan : Plan) (p : ℕ) : Type 0 where
  pub vector : Vector
  pub hold : AllHold (standing_rows plan p vector)
  pub light : RejectedAreLight plan vector

-- a pool with a standing vector never has more than core threads, whatever the other pools do and even if its core threads may
-- time out
abbrev pub StandingPoolsStayAtCore : Type 0
StandingPoolsStayAtCore = (plan : Plan) (p : ℕ) (s : State) → IsWellFormed plan → p < length plan.pools → HasStanding plan p → IsReached plan s → threads plan s p ≤ (pool_at plan p).core

-- pool p starts no thread: it is full (`IsFull`), or it has at least core threads and a standing vector. Only a pool whose core
-- threads may time out can have fewer than core threads while a job is queued. Then the next submit starts a thread, which can
-- take the job.
abbrev pub StartsNoThread : Plan → State → ℕ → Type 0
StartsNoThread plan s p = IsFull plan s p ⊎ (HasStanding plan p × ((pool_at plan p).core ≤ threads plan s p))

-- a waiting set whose queued members all wait in pools that start no thread
pub record IsPermanentWaitingSet (plan : Plan) (s : State) (members : List ℕ) : Type 0 where
  pub waits : IsWaitingSet plan s members
  pub starts_no_thread : WhereMembersQueue plan s members (StartsNoThread plan s)

-- in the second state the members are still a permanent waiting set, and none of them has moved since the first state
pub record StaysPermanent (plan : Plan) (s s' : State) (members : List ℕ) : Type 0 where
  pub still : IsPermanentWaitingSet plan s' members
  pub unmoved : (j : ℕ) → IsMember members j → job_at s' j ≡ job_at s j

-- a permanent waiting set is still one after any list of events, and no member moves
abbrev pub PermanentWaitingSetsStay : Type 0
PermanentWaitingSetsStay = (plan : Plan) (s s' : State) (events : List Event) (members : List ℕ) → IsWellFormed plan → IsReached plan s → IsPermanentWaitingSet plan s members
    → replay plan (Some s) events ≡ Some s' → StaysPermanent plan s s' members
