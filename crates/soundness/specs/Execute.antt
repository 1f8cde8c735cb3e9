-- A submit as the separate steps of Java's `execute`. Each step reads or changes the pool at one moment, and other events can
-- occur between two steps. The first step starts a thread if the pool has fewer than core threads. Otherwise the second step
-- offers the job to the queue. If the queue has no room, the third step requests a thread.
--
-- If core threads of a pool may time out, any idle thread can end, so the queue may be left without a thread. Therefore Java
-- looks at the pool after each successful offer and after the end of each thread. It starts a thread if a job is queued and the
-- pool has no thread. Other events can occur before that look.
use Rattle.std.specs.Prelude.{ℕ, zero, suc, ◌+◌, ◌-◌, ◌==◌, ◌&&◌, ◌||◌, not, nat_lt, Bool, List, [], ◌∷◌, length, filter, Option, Some, None, slice_get, if◌then◌else◌}
use Rattle.std.specs.List.{list_any}
use Rattle.job_bodies.specs.declared.action.Action.{Action}
use Rattle.job_bodies.specs.declared.action.Action.TheVariants.{Submit}
use Rattle.job_bodies.specs.Plan.{Plan, pool_at}
use Rattle.pool_machine.specs.declared.offer.Offer.{Offer}
use Rattle.pool_machine.specs.declared.offer.Offer.TheVariants.{Started, Queued, Refused}
use Rattle.pool_machine.specs.PoolState.{PoolView, room_limit, has_spare_worker}
use Rattle.pool_machine.specs.declared.parent.Parent.{Parent}
use Rattle.pool_machine.specs.declared.parent.Parent.TheVariants as parent
use Rattle.pool_machine.specs.declared.event.Event.{Event}
use Rattle.pool_machine.specs.declared.event.Event.TheVariants.{Client, Job, Retire}
use Rattle.pool_machine.specs.declared.event.Outcome.{Outcome}
use Rattle.pool_machine.specs.State.{State, same_parent, pool_of, pool_part, pool_seen, threads}
use Rattle.pool_machine.specs.Step.{Point, point, with_pool, answered, step}

-- a call of `execute` in progress: the actor that submits, and the pool to which it submits
pub record Call : Type 0 where
  pub actor : Parent
  pub pool : ℕ

-- a state of the machine, with the calls of `execute` that are in progress. The calls in `offering` found at least core
-- threads, and offer the job to the queue in their next step. The calls in `requesting` found the queue full, and request a
-- thread in their next step. `looking` has the pools at which Java still has to look. Core threads of these pools may time out.
-- Such a pool has one entry for each call that queued a job and for each thread that ended.
pub record JavaState : Type 0 where
  pub machine : State
  pub offering : List Call
  pub requesting : List Call
  pub looking : List ℕ

-- an event in Java's steps. `Acts` is an event of the machine or a step of a submit. In `Leaves`, Java looks at the pool and
-- starts no thread. In `Spares`, Java looks at the pool and starts a thread that has no job yet.
pub data JavaEvent : Type 0 where
  Acts : Event → JavaEvent
  Leaves : ℕ → JavaEvent
  Spares : ℕ → JavaEvent

-- the list contains a call of actor a to pool p
abbrev pub is_calling : List Call → Parent → ℕ → Bool
is_calling calls a p = list_any (λ call. same_parent a call.actor && p == call.pool) calls

-- the list without the calls of actor a
abbrev pub without_calls_of : Parent → List Call → List Call
without_calls_of a calls = filter (λ call. not (same_parent a call.actor)) calls

-- ---- the pools at which Java will look

-- Java still has to look at pool p
abbrev pub is_looking : List ℕ → ℕ → Bool
is_looking looking p = list_any (λ q. p == q) looking

-- the list with pool p added if core threads of p may time out, and otherwise the unchanged list
abbrev pub joined : Plan → ℕ → List ℕ → List ℕ
joined plan p looking = if (pool_at plan p).core_timeout then p ∷ looking else looking

-- the pools at which Java still has to look after pool p gave this answer. If p queued the job and core threads of p may time
-- out, p is added.
abbrev pub looking_after : Plan → ℕ → Offer → List ℕ → List ℕ
looking_after plan p Queued looking = joined plan p looking
looking_after plan p _ looking = looking

-- the list without one entry of pool p
abbrev pub looked_once : ℕ → List ℕ → List ℕ
looked_once p [] = []
looked_once p (q ∷ looking) = if p == q then looking else q ∷ looked_once p looking

-- the state after Java looked at pool p and started no thread. None if Java does not have to look at p, or if p has a queued
-- job and no thread.
abbrev pub leaves : Plan → JavaState → ℕ → Option JavaState
leaves plan s p =
    if is_looking s.looking p && (nat_lt 0 (threads plan s.machine p) || length (pool_part s.machine p).queue == 0) then Some (record s { looking = looked_once p s.looking })
    else None

-- the pool after a thread started that has no job yet
abbrev pub with_spare : PoolView → PoolView
with_spare pool = record pool { threads = pool.threads + 1; idle = pool.idle + 1 }

-- the state after Java looked at pool p and started a thread without a job. None if Java does not have to look at p, or if p
-- already has its maximum of threads.
abbrev pub spares : Plan → JavaState → ℕ → Option JavaState
spares plan s p =
    if is_looking s.looking p && nat_lt (threads plan s.machine p) (pool_at plan p).max then Some (record s { machine = with_pool p (with_spare (pool_seen plan s.machine p)) s.machine; looking = looked_once p s.looking })
    else None

-- ---- the end of a thread

abbrev pub timed_out_of : PoolView → ℕ → Option PoolView
timed_out_of pool zero = None
timed_out_of pool (suc idle) = if has_spare_worker pool idle then Some (record pool { threads = pool.threads - 1; idle = idle }) else None

-- the pool after an idle worker ended, even if the pool needs it; None if no worker is idle, or each idle worker was handed a job
abbrev pub timed_out : PoolView → Option PoolView
timed_out pool = timed_out_of pool pool.idle

-- the state after a thread of pool p ended, given the pool afterwards. Core threads of p may time out, so Java then has to look
-- at p.
abbrev pub after_timeout : JavaState → ℕ → Option PoolView → Option JavaState
after_timeout s p None = None
after_timeout s p (Some pool) = Some (record s { machine = with_pool p pool s.machine; looking = p ∷ s.looking })

-- ---- the steps of a submit of a job of class k by an actor at position i

-- the state after a call ends with this answer of the pool
abbrev pub answers : Plan → JavaState → Parent → ℕ → ℕ → Offer → JavaState
answers plan s a i k answer = record {
  machine = (answered plan s.machine a i k answer).0;
  offering = without_calls_of a s.offering;
  requesting = without_calls_of a s.requesting;
  looking = looking_after plan (pool_of plan k) answer s.looking;
}

-- the state after the first step: if the pool has fewer than core threads, a new thread runs the job, and otherwise the call
-- offers the job next
abbrev pub checks_core : Plan → JavaState → Parent → ℕ → ℕ → JavaState
checks_core plan s a i k =
    if nat_lt (threads plan s.machine (pool_of plan k)) (pool_at plan (pool_of plan k)).core then answers plan s a i k Started
    else record s { offering = record { actor = a; pool = pool_of plan k } ∷ s.offering }

-- the state after the second step if the queue has no room: the call requests a thread next
abbrev pub offer_fails : Plan → JavaState → Parent → ℕ → JavaState
offer_fails plan s a k = record s { offering = without_calls_of a s.offering; requesting = record { actor = a; pool = pool_of plan k } ∷ s.requesting }

-- the state after the second step: if the queue has room, the job is queued, and otherwise the call requests a thread next
abbrev pub offers_job : Plan → JavaState → Parent → ℕ → ℕ → JavaState
offers_job plan s a i k =
    if nat_lt (length (pool_part s.machine (pool_of plan k)).queue) (room_limit (pool_at plan (pool_of plan k)).unbounded (pool_at plan (pool_of plan k)).queue (pool_part s.machine (pool_of plan k)).idle (length (pool_part s.machine (pool_of plan k)).queue)) then answers plan s a i k Queued
    else offer_fails plan s a k

-- the state after the third step: if the pool has fewer than max threads, a new thread runs the job. Otherwise the job is
-- refused or, if the pool may reject jobs, the submit is skipped. This step does not check the queue, which may have room again
abbrev pub requests_thread : Plan → JavaState → Parent → ℕ → ℕ → JavaState
requests_thread plan s a i k = answers plan s a i k (if nat_lt (threads plan s.machine (pool_of plan k)) (pool_at plan (pool_of plan k)).max then Started else Refused)

-- the state after the next step of the submit: the third step if the actor's call is requesting, the second if it is offering,
-- and otherwise the first
abbrev pub executes : Plan → JavaState → Parent → ℕ → ℕ → JavaState
executes plan s a i k =
    if is_calling s.requesting a (pool_of plan k) then requests_thread plan s a i k
    else (if is_calling s.offering a (pool_of plan k) then offers_job plan s a i k
    else checks_core plan s a i k)

-- ---- events

-- a submit in a body: the actor, the position of the submit, and the class of the submitted job
pub record Submission : Type 0 where
  pub actor : Parent
  pub position : ℕ
  pub class : ℕ

abbrev pub submission_at : Parent → ℕ → Option Action → Option Submission
submission_at a i (Some (Submit k)) = Some (record { actor = a; position = i; class = k })
submission_at a i _ = None

abbrev pub submission_of : Parent → Option Point → Option Submission
submission_of a None = None
submission_of a (Some at) = submission_at a at.position (slice_get at.body at.position)

-- the submit at which the event's actor is, or None if the actor is at no submit or the event is a pool's
abbrev pub submission : Plan → State → Event → Option Submission
submission plan s (Client c) = submission_of (parent.Client c) (point plan s (parent.Client c))
submission plan s (Job j) = submission_of (parent.Job j) (point plan s (parent.Job j))
submission plan s _ = None

abbrev pub as_atomic : JavaState → Option (State × Outcome) → Option JavaState
as_atomic s None = None
as_atomic s (Some x) = Some (record s { machine = x.0 })

-- the state after an event that is no step of a submit. This is the state after the event of the machine, with one exception:
-- if core threads of a pool may time out, an idle thread can end even if the pool needs it.
abbrev pub other_step : Plan → JavaState → Event → Option JavaState
other_step plan s (Retire p) = if (pool_at plan p).core_timeout then after_timeout s p (timed_out (pool_seen plan s.machine p)) else as_atomic s (step plan s.machine (Retire p))
other_step plan s e = as_atomic s (step plan s.machine e)

abbrev pub java_stepped : Plan → JavaState → Event → Option Submission → Option JavaState
java_stepped plan s e None = other_step plan s e
java_stepped plan s e (Some x) = Some (executes plan s x.actor x.position x.class)

-- the state after the event, or None if the event is not possible. If the actor of the event is at a submit, the event is the
-- next step of that submit.
abbrev pub java_step : Plan → JavaState → JavaEvent → Option JavaState
java_step plan s (Acts e) = java_stepped plan s e (submission plan s.machine e)
java_step plan s (Leaves p) = leaves plan s p
java_step plan s (Spares p) = spares plan s p

-- the state after all events in order, or None if one of them is not possible
abbrev pub java_replay : Plan → Option JavaState → List JavaEvent → Option JavaState
java_replay plan s [] = s
java_replay plan None (e ∷ events) = None
java_replay plan (Some s) (e ∷ events) = java_replay plan (java_step plan s e) events

-- the state of the machine with no call in progress, and no pool at which Java will look
abbrev pub without_calls : State → JavaState
without_calls s = record { machine = s; offering = []; requesting = []; looking = [] }
