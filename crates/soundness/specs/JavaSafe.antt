-- Safety, progress and draining of a plan if each submit is the separate steps of Java's `execute`.
use Rattle.std.specs.Prelude.{◌≡◌, ◌≤◌, ◌<◌, ◌*◌, ℕ, Bool, true, false, IsTrue, IsFalse, is_some, List, length, Some, None, count_by}
use Rattle.std.specs.List.{list_all}
use Rattle.job_bodies.specs.Plan.{Plan, pool_at}
use Rattle.job_bodies.specs.WellFormed.{IsWellFormed}
use Rattle.pool_machine.specs.PoolState.{queue_limit}
use Rattle.weights.specs.Ranks.{Ranks}
use Rattle.pool_machine.specs.State.{State, job_at, pool_part, threads, is_unfinished}
use Rattle.pool_machine.specs.Reach.{start, IsReached}
use Rattle.pool_machine.specs.Waiting.{IsWaitingSet}
use Rattle.pool_machine.specs.LooseWaiting.{IsLooseWaitingSet}
use Rattle.pool_machine.specs.FullWaitingSets.{WhereMembersQueue}
use Rattle.pool_machine.specs.Safe.{is_of_job_or_pool}
use Rattle.soundness.specs.Drain.{todo, is_of_no_client}
use Rattle.soundness.specs.Execute.{JavaState, JavaEvent, is_looking, java_step, java_replay, without_calls}
use Rattle.soundness.specs.Execute.JavaEvent.{Acts}

-- the list of events leads from the initial state to the state, in Java's steps
abbrev pub JavaReaches : Plan → List JavaEvent → JavaState → Type 0
JavaReaches plan events s = java_replay plan (Some (without_calls (start plan))) events ≡ Some s

-- some list of events leads from the initial state to the state, in Java's steps
abbrev pub IsJavaReached : Plan → JavaState → Type 0
IsJavaReached plan s = (events : List JavaEvent) × JavaReaches plan events s

-- no member waits in the queue of a pool at which Java still has to look
abbrev pub NoneLooks : Plan → JavaState → List ℕ → Type 0
NoneLooks plan s members = WhereMembersQueue plan s.machine members (λ p. IsFalse (is_looking s.looking p))

-- The state is safe. No submit was refused, and no pool has more threads than its maximum. No bounded queue is longer than its
-- capacity or, if the capacity is 0, than the number of idle workers. No set of unfinished jobs waits only for its own members,
-- now or at later gets. A set does not count if a member waits in the queue of a pool at which Java still has to look: Java may
-- start a thread there. Java looks only at pools whose core threads may time out.
pub record IsJavaSafe (plan : Plan) (s : JavaState) : Type 0 where
  pub none_refused : s.machine.refusals ≡ 0
  pub within_max : (p : ℕ) → p < length plan.pools → threads plan s.machine p ≤ (pool_at plan p).max
  pub within_queue : (p : ℕ) → p < length plan.pools → IsFalse (pool_at plan p).unbounded → length (pool_part s.machine p).queue ≤ queue_limit (pool_at plan p).queue (pool_part s.machine p).idle
  pub none_waits : (members : List ℕ) → NoneLooks plan s members → ¬ IsWaitingSet plan s.machine members
  pub none_waits_loosely : (members : List ℕ) → NoneLooks plan s members → ¬ IsLooseWaitingSet plan s.machine members
  pub looks_at_timeouts : (p : ℕ) → IsTrue (is_looking s.looking p) → IsTrue (pool_at plan p).core_timeout

-- every state that is reachable in Java's steps is safe; during a call the actor is still at its submit, and the submitted job is
-- not part of the state yet
abbrev pub JavaSafe : Plan → Type 0
JavaSafe plan = (events : List JavaEvent) (s : JavaState) → JavaReaches plan events s → IsJavaSafe plan s

-- the event is an event of a job or a take
abbrev pub is_java_job_or_take : JavaEvent → Bool
is_java_job_or_take (Acts e) = is_of_job_or_pool e
is_java_job_or_take _ = false

-- the event is an event of a job or a take, or Java looks at a pool
abbrev pub is_of_java_pool : JavaEvent → Bool
is_of_java_pool (Acts e) = is_of_job_or_pool e
is_of_java_pool _ = true

-- the event is not an event of a client
abbrev pub is_of_no_java_client : JavaEvent → Bool
is_of_no_java_client (Acts e) = is_of_no_client e
is_of_no_java_client _ = true

-- an event of a job, a take or a look at a pool is possible in the state
pub record JavaCanProgress (plan : Plan) (s : JavaState) : Type 0 where
  pub event : JavaEvent
  pub of_job_or_pool : IsTrue (is_of_java_pool event)
  pub possible : IsTrue (is_some (java_step plan s event))

-- in every state that is reachable in Java's steps, an event of a job, a take or a look at a pool is possible if a job is
-- unfinished
abbrev pub JavaMakesProgress : Plan → Type 0
JavaMakesProgress plan = (events : List JavaEvent) (s : JavaState) → JavaReaches plan events s → (j : ℕ) → IsTrue (is_unfinished (job_at s.machine j).stage) → JavaCanProgress plan s

-- the events lead from the reachable state s to the state s', and none of them is an event of a client
pub record JavaLeadsTo (plan : Plan) (s : JavaState) (events : List JavaEvent) (s' : JavaState) : Type 0 where
  pub reached : IsJavaReached plan s
  pub of_no_client : IsTrue (list_all is_of_no_java_client events)
  pub replayed : java_replay plan (Some s) events ≡ Some s'

-- no job event, no take and no look at a pool is possible in the state
abbrev pub IsJavaQuiescent : Plan → JavaState → Type 0
IsJavaQuiescent plan s = (event : JavaEvent) → IsTrue (is_of_java_pool event) → java_step plan s event ≡ None

-- Let no client act after a reachable state. Then the number of job events and takes that follow is at most three times the
-- remaining work of that state. The factor is three because a submit is up to three events. When no job event, no take and no
-- look at a pool is possible any longer, no job is unfinished. Threads may end in between, as far as the pools allow it.
pub record JavaDrains (plan : Plan) (ranks : Ranks) : Type 0 where
  pub bounded : (s s' : JavaState) (events : List JavaEvent) → JavaLeadsTo plan s events s' → count_by is_java_job_or_take events ≤ 3 * todo plan ranks s.machine
  pub drained : (s s' : JavaState) (events : List JavaEvent) → JavaLeadsTo plan s events s' → IsJavaQuiescent plan s' → (j : ℕ) → IsFalse (is_unfinished (job_at s'.machine j).stage)

-- Java's steps reach each state that the machine reaches with atomic submits. No call is then in progress, and Java does not
-- have to look at any pool. If core threads of a pool may time out, the plan must be well-formed.
abbrev pub AtomicStatesAreReached : Type 0
AtomicStatesAreReached = (plan : Plan) (s : State) → ((p : ℕ) → IsTrue (pool_at plan p).core_timeout → IsWellFormed plan) → IsReached plan s → IsJavaReached plan (without_calls s)
