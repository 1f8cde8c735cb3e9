-- Permanent waiting sets: no offer starts a thread in a pool with a queued member.
use Rattle.std.specs.Prelude.{◌≡◌, ◌≤◌, ◌⊎◌, ℕ, IsTrue, List, Some}
use Rattle.job_bodies.specs.Plan.{Plan, pool_at, least_threads}
use Rattle.job_bodies.specs.WellFormed.{IsWellFormed}
use Rattle.pool_machine.specs.declared.event.Event.{Event}
use Rattle.pool_machine.specs.State.{State, job_at, threads, is_queued_in}
use Rattle.pool_machine.specs.Reach.{replay, IsReached}
use Rattle.pool_machine.specs.Waiting.{IsMember, IsWaitingSet}

-- the property holds for each pool in whose queue a member of the set waits
abbrev pub WhereMembersQueue : Plan → State → List ℕ → (ℕ → Type 0) → Type 0
WhereMembersQueue plan s members holds = (p j : ℕ) → IsMember members j → IsTrue (is_queued_in plan p (job_at s j)) → holds p

-- pool p has its maximum of threads
abbrev pub HasMaxThreads : Plan → State → ℕ → Type 0
HasMaxThreads plan s p = threads plan s p ≡ (pool_at plan p).max

-- pool p is full: it has its maximum of threads, or its queue is unbounded and it has at least core threads. No offer starts a
-- thread in a full pool.
abbrev pub IsFull : Plan → State → ℕ → Type 0
IsFull plan s p = HasMaxThreads plan s p ⊎ (IsTrue (pool_at plan p).unbounded × ((pool_at plan p).core ≤ threads plan s p))

-- the sizes of pool p are fixed: core equals the maximum and core threads never time out, or they may time out and the maximum
-- is 1
abbrev pub IsFixed : Plan → ℕ → Type 0
IsFixed plan p = least_threads (pool_at plan p) ≡ (pool_at plan p).max

-- the members are a waiting set, and each pool with a queued member is full
pub record IsFullWaitingSet (plan : Plan) (s : State) (members : List ℕ) : Type 0 where
  pub waits : IsWaitingSet plan s members
  pub full : WhereMembersQueue plan s members (IsFull plan s)

-- In state s', the members are still a full waiting set, and each member is the same as in state s. Each pool that has a queued
-- member in s has the same number of threads in both states.
pub record StaysFull (plan : Plan) (s s' : State) (members : List ℕ) : Type 0 where
  pub still : IsFullWaitingSet plan s' members
  pub unmoved : (j : ℕ) → IsMember members j → job_at s' j ≡ job_at s j
  pub as_many_threads : WhereMembersQueue plan s members (λ p. threads plan s' p ≡ threads plan s p)

-- after any list of events, a full waiting set is still a full waiting set, and its members are unchanged
abbrev pub FullWaitingSetsStay : Type 0
FullWaitingSetsStay = (plan : Plan) (s s' : State) (events : List Event) (members : List ℕ) → IsWellFormed plan → IsReached plan s → IsFullWaitingSet plan s members
    → replay plan (Some s) events ≡ Some s' → StaysFull plan s s' members

-- Let `IsFixed` hold for each pool with a queued member of a waiting set. Then the set is full, and each of these pools has its
-- maximum of threads.
abbrev pub FixedPoolsAreFull : Type 0
FixedPoolsAreFull = (plan : Plan) (s : State) (members : List ℕ) → IsWellFormed plan → IsReached plan s → IsWaitingSet plan s members
    → WhereMembersQueue plan s members (IsFixed plan) → IsFullWaitingSet plan s members × WhereMembersQueue plan s members (HasMaxThreads plan s)
