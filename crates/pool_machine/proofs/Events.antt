-- A relation with one rule for each kind of step, and the proof that every step satisfies this relation.
use Rattle.std.specs.Prelude.{⊤}
use Rattle.std.proofs.Common.{◌≡◌, ℕ, suc, ◌+◌, ◌<◌, ◌≤◌, ◌⊎◌, inl, inr, ⊎_elim, List, [], ◌∷◌, ◌++◌, length, Bool, true, false, cond, Option, Some, None, refl, sym, subst}
use Rattle.std.specs.List.{slice_get, slice_set}
use Rattle.std.proofs.lemmas.Option.{none-some, same_Some, cond_some}
use Rattle.job_bodies.specs.declared.action.Action.{Action}
use Rattle.job_bodies.specs.declared.action.Action.TheVariants as action
use Rattle.job_bodies.specs.Plan.{Plan, pool_at, client_at}
use Rattle.pool_machine.specs.declared.offer.Offer.{Offer}
use Rattle.pool_machine.specs.declared.offer.Offer.TheVariants as offer
use Rattle.pool_machine.specs.PoolState.{PoolView, room_limit, answer, taken, retired}
use Rattle.pool_machine.proofs.PoolEvents.{HasSpareThread, started_below, queued_at_core, refused_when_full, taken_takes, retired_retires}
use Rattle.pool_machine.specs.declared.client_state.ClientState.{ClientState}
use Rattle.pool_machine.specs.declared.parent.Parent.{Parent}
use Rattle.pool_machine.specs.declared.parent.Parent.TheVariants as parent
use Rattle.pool_machine.specs.declared.event.Event.{Event}
use Rattle.pool_machine.specs.declared.event.Event.TheVariants as event
use Rattle.pool_machine.specs.declared.event.Outcome.{Outcome}
use Rattle.pool_machine.specs.declared.event.Outcome.TheVariants as outcome
use Rattle.pool_machine.specs.State.{Stage, State, job_at, pool_part, pool_of, pool_seen, threads, child}
use Rattle.pool_machine.specs.Step.{Point, point, with_stage, with_position, with_job, new_job, skipped, finished_job, answered, got, got_child, looped, step_action, step_at_point, take_head, retire_worker, step}

-- the actor is at position i of this body, and `there` is the action at i, or None at the end of the body
pub record IsAtAction (plan : Plan) (s : State) (a : Parent) (body : List Action) (i : ℕ) (there : Option Action) : Type 0 where
  pub stands : point plan s a ≡ Some (record { body = body; position = i })
  pub is_there : slice_get body i ≡ there

-- the state in which pool p has this queue and this number of idle workers
abbrev pub with_part : ℕ → List ℕ → ℕ → State → State
with_part p queue idle s = record s { pools = slice_set s.pools p (record { queue = queue; idle = idle }) }

-- the state after the pool queued the job of class k that the actor submitted at position i
abbrev pub queued_state : Plan → State → Parent → ℕ → ℕ → State
queued_state plan s a i k =
    with_part (pool_of plan k) ((pool_part s (pool_of plan k)).queue ++ length s.jobs ∷ []) (pool_part s (pool_of plan k)).idle
    (with_job (new_job k a i Stage.Queued) (with_position a (i + 1) s))

-- the event in which the actor performs its next action
abbrev pub event_of : Parent → Event
event_of (parent.Client c) = event.Client c
event_of (parent.Job j) = event.Job j

-- the queue of pool p is bounded, and has at least as many jobs as its capacity; for a capacity of 0 the latter always holds
abbrev pub HasNoRoom : Plan → State → ℕ → Type 0
HasNoRoom plan s p = ((pool_at plan p).unbounded ≡ false) × ((pool_at plan p).queue ≤ length (pool_part s p).queue)

-- a new thread may start in pool p: it has fewer than its maximum of threads and a bounded queue, or fewer than core threads
abbrev pub MayStart : Plan → State → ℕ → Type 0
MayStart plan s p = ((threads plan s p < (pool_at plan p).max) × ((pool_at plan p).unbounded ≡ false)) ⊎ (threads plan s p < (pool_at plan p).core)

-- The event leads from state s to another state, with an outcome. A rejection does not require a full pool here, because in Java's steps
-- the pool may have room again. A queued job and the end of a thread do not require any number of threads, because in Java's steps of a
-- pool whose core threads may time out there may be none.
pub data Happens (plan : Plan) (s : State) : Event → State → Outcome → Type 0 where
  works : (a : Parent) (body : List Action) (i u : ℕ) → IsAtAction plan s a body i (Some (action.Work u))
      → Happens plan s (event_of a) (with_position a (i + 1) s) (outcome.Worked u)
  starts : (a : Parent) (body : List Action) (i k : ℕ) → IsAtAction plan s a body i (Some (action.Submit k))
      → MayStart plan s (pool_of plan k)
      → Happens plan s (event_of a) (with_job (new_job k a i (Stage.At 0)) (with_position a (i + 1) s)) (outcome.Started (length s.jobs))
  queues : (a : Parent) (body : List Action) (i k : ℕ) → IsAtAction plan s a body i (Some (action.Submit k))
      → length (pool_part s (pool_of plan k)).queue < room_limit (pool_at plan (pool_of plan k)).unbounded (pool_at plan (pool_of plan k)).queue (pool_part s (pool_of plan k)).idle (length (pool_part s (pool_of plan k)).queue)
      → Happens plan s (event_of a) (queued_state plan s a i k) (outcome.Queued (length s.jobs))
  is_refused : (a : Parent) (body : List Action) (i k : ℕ) → IsAtAction plan s a body i (Some (action.Submit k))
      → (pool_at plan (pool_of plan k)).may_reject ≡ false
      → HasNoRoom plan s (pool_of plan k)
      → (pool_at plan (pool_of plan k)).max ≤ threads plan s (pool_of plan k)
      → Happens plan s (event_of a) (record s { refusals = s.refusals + 1 }) (outcome.Refused (pool_of plan k))
  is_rejected : (a : Parent) (body : List Action) (i k : ℕ) → IsAtAction plan s a body i (Some (action.Submit k))
      → (pool_at plan (pool_of plan k)).may_reject ≡ true
      → Happens plan s (event_of a) (skipped s a i k) (outcome.Rejected (pool_of plan k) (length s.jobs))
  gets : (a : Parent) (body : List Action) (i t j : ℕ) → IsAtAction plan s a body i (Some (action.Get t)) → child s a t ≡ Some j → (job_at s j).stage ≡ Stage.Done
      → Happens plan s (event_of a) (with_stage j Stage.Claimed (with_position a (i + 1) s)) (outcome.Got j)
  finishes : (j : ℕ) (body : List Action) (i : ℕ) → IsAtAction plan s (parent.Job j) body i None
      → Happens plan s (event.Job j) (finished_job plan s j (pool_of plan (job_at s j).class)) (outcome.Finished j)
  loops : (c : ℕ) (client : ClientState) (body : List Action) (i : ℕ) → IsAtAction plan s (parent.Client c) body i None
      → slice_get s.clients c ≡ Some client → (client_at plan client.kind).repeat ≡ true
      → Happens plan s (event.Client c) (with_position (parent.Client c) 0 s) outcome.Looped
  takes : (p j : ℕ) (queue : List ℕ) (idle : ℕ) → (pool_part s p).queue ≡ j ∷ queue → (pool_part s p).idle ≡ suc idle
      → Happens plan s (event.Take p) (with_part p queue idle (with_stage j (Stage.At 0) s)) (outcome.Took j)
  retires : (p idle : ℕ) → (pool_part s p).idle ≡ suc idle
      → ((pool_at plan p).unbounded ≡ false → (pool_at plan p).queue ≡ 0 → length (pool_part s p).queue ≤ idle)
      → Happens plan s (event.Retire p) (with_part p (pool_part s p).queue idle s) outcome.Retired

-- what an event must find at pool p so that the pool has enough threads afterwards: at least core threads if it queues a job there, and a
-- thread that is not needed if it ends one
abbrev pub KeepsThreads : (plan : Plan) (s : State) (p : ℕ) (e : Event) (s' : State) (o : Outcome) → Happens plan s e s' o → Type 0
KeepsThreads plan s p e s' o (queues a body i k at room) = pool_of plan k ≡ p → (pool_at plan p).core ≤ threads plan s p
KeepsThreads plan s p e s' o (retires q idle is_idle not_handed) = q ≡ p → HasSpareThread (pool_seen plan s p)
KeepsThreads plan s p e s' o _ = ⊤

-- an event of the machine, which keeps enough threads in each pool
pub record MachineStep (plan : Plan) (s : State) (e : Event) (s' : State) (o : Outcome) : Type 0 where
  pub happened : Happens plan s e s' o
  pub keeps : (p : ℕ) → KeepsThreads plan s p e s' o happened

-- ---- every step satisfies the relation

same_outcome : (plan : Plan) (s : State) (e : Event) (x : State × Outcome) (s' : State) (o : Outcome) → Some x ≡ Some (s', o) → MachineStep plan s e x.0 x.1 → MachineStep plan s e s' o
same_outcome plan s e x s' o same stepped = subst (λ (y : State × Outcome). MachineStep plan s e y.0 y.1) (same_Some x (s', o) same) stepped

-- a submit to a pool without room and with its maximum of threads satisfies the relation, whether or not the pool may reject jobs
full_happens : (plan : Plan) (s : State) (a : Parent) (body : List Action) (i k : ℕ) → IsAtAction plan s a body i (Some (action.Submit k))
    → HasNoRoom plan s (pool_of plan k) → (pool_at plan (pool_of plan k)).max ≤ threads plan s (pool_of plan k)
    → (may : Bool) → (pool_at plan (pool_of plan k)).may_reject ≡ may
    → let x : State × Outcome = cond may (skipped s a i k, outcome.Rejected (pool_of plan k) (length s.jobs)) (record s { refusals = s.refusals + 1 }, outcome.Refused (pool_of plan k)) in MachineStep plan s (event_of a) x.0 x.1
full_happens plan s a body i k at no_room all_started true may = record { happened = is_rejected a body i k at may; keeps = λ p. tt }
full_happens plan s a body i k at no_room all_started false may = record { happened = is_refused a body i k at may no_room all_started; keeps = λ p. tt }

-- a submit satisfies the relation, for each answer of the pool
answered_happens : (plan : Plan) (s : State) (a : Parent) (body : List Action) (i k : ℕ) → IsAtAction plan s a body i (Some (action.Submit k)) → (given : Offer) → answer (pool_seen plan s (pool_of plan k)) ≡ given
    → MachineStep plan s (event_of a) (answered plan s a i k given).0 (answered plan s a i k given).1
answered_happens plan s a body i k at offer.Started e = record { happened = starts a body i k at (⊎_elim inr inl (started_below (pool_seen plan s (pool_of plan k)) e)); keeps = λ p. tt }
answered_happens plan s a body i k at offer.Queued e =
    let room = queued_at_core (pool_seen plan s (pool_of plan k)) e in
    record { happened = queues a body i k at room.1; keeps = λ p same. subst (λ (q : ℕ). (pool_at plan q).core ≤ threads plan s q) same room.0 }
answered_happens plan s a body i k at offer.Refused e =
    let full = refused_when_full (pool_seen plan s (pool_of plan k)) e in
    full_happens plan s a body i k at (full.0, full.1) full.2 (pool_at plan (pool_of plan k)).may_reject refl

got_happens : (plan : Plan) (s : State) (a : Parent) (body : List Action) (i t j : ℕ) → IsAtAction plan s a body i (Some (action.Get t)) → child s a t ≡ Some j → (stage : Stage) → (job_at s j).stage ≡ stage
    → (s' : State) (o : Outcome) → got s a i j stage ≡ Some (s', o) → MachineStep plan s (event_of a) s' o
got_happens plan s a body i t j at is_child Stage.Done done s' o e = same_outcome plan s (event_of a) _ s' o e (record { happened = gets a body i t j at is_child done; keeps = λ p. tt })
got_happens plan s a body i t j at is_child Stage.Queued done s' o e = absurd (none-some (s', o) e)
got_happens plan s a body i t j at is_child (Stage.At n) done s' o e = absurd (none-some (s', o) e)
got_happens plan s a body i t j at is_child Stage.Claimed done s' o e = absurd (none-some (s', o) e)

got_child_happens : (plan : Plan) (s : State) (a : Parent) (body : List Action) (i t : ℕ) → IsAtAction plan s a body i (Some (action.Get t)) → (found : Option ℕ) → child s a t ≡ found
    → (s' : State) (o : Outcome) → got_child s a i found ≡ Some (s', o) → MachineStep plan s (event_of a) s' o
got_child_happens plan s a body i t at None is_child s' o e = absurd (none-some (s', o) e)
got_child_happens plan s a body i t at (Some j) is_child s' o e = got_happens plan s a body i t j at is_child (job_at s j).stage refl s' o e

looped_happens : (plan : Plan) (s : State) (c : ℕ) (body : List Action) (i : ℕ) → IsAtAction plan s (parent.Client c) body i None → (found : Option ClientState) → slice_get s.clients c ≡ found
    → (s' : State) (o : Outcome) → looped plan s c found ≡ Some (s', o) → MachineStep plan s (event.Client c) s' o
looped_happens plan s c body i at None is_client s' o e = absurd (none-some (s', o) e)
looped_happens plan s c body i at (Some client) is_client s' o e =
    let looped = cond_some (client_at plan client.kind).repeat (with_position (parent.Client c) 0 s, outcome.Looped) (s', o) e in
    subst (λ (y : State × Outcome). MachineStep plan s (event.Client c) y.0 y.1) looped.1 (record { happened = loops c client body i at is_client looped.0; keeps = λ p. tt })

step_action_happens : (plan : Plan) (s : State) (a : Parent) (body : List Action) (i : ℕ) (there : Option Action) → IsAtAction plan s a body i there
    → (s' : State) (o : Outcome) → step_action plan s a i there ≡ Some (s', o) → MachineStep plan s (event_of a) s' o
step_action_happens plan s (parent.Client c) body i None at s' o e = looped_happens plan s c body i at (slice_get s.clients c) refl s' o e
step_action_happens plan s (parent.Job j) body i None at s' o e = same_outcome plan s (event.Job j) _ s' o e (record { happened = finishes j body i at; keeps = λ p. tt })
step_action_happens plan s a body i (Some (action.Work u)) at s' o e = same_outcome plan s (event_of a) _ s' o e (record { happened = works a body i u at; keeps = λ p. tt })
step_action_happens plan s a body i (Some (action.Submit k)) at s' o e =
    same_outcome plan s (event_of a) _ s' o e (answered_happens plan s a body i k at (answer (pool_seen plan s (pool_of plan k))) refl)
step_action_happens plan s a body i (Some (action.Get t)) at s' o e = got_child_happens plan s a body i t at (child s a t) refl s' o e

step_at_point_happens : (plan : Plan) (s : State) (a : Parent) (found : Option Point) → point plan s a ≡ found → (s' : State) (o : Outcome) → step_at_point plan s a found ≡ Some (s', o) → MachineStep plan s (event_of a) s' o
step_at_point_happens plan s a None stands s' o e = absurd (none-some (s', o) e)
step_at_point_happens plan s a (Some at) stands s' o e = step_action_happens plan s a at.body at.position (slice_get at.body at.position) (record { stands = stands; is_there = refl }) s' o e

take_head_happens : (plan : Plan) (s : State) (p : ℕ) (found : Option (ℕ × PoolView)) → taken (pool_seen plan s p) ≡ found → (s' : State) (o : Outcome) → take_head s p found ≡ Some (s', o) → MachineStep plan s (event.Take p) s' o
take_head_happens plan s p None is_taken s' o e = absurd (none-some (s', o) e)
take_head_happens plan s p (Some (j, after)) is_taken s' o e =
    let taking = taken_takes (pool_seen plan s p) after j is_taken in
    same_outcome plan s (event.Take p) _ s' o e (record { happened = takes p j after.queue after.idle taking.queue taking.idle; keeps = λ q. tt })

retire_worker_happens : (plan : Plan) (s : State) (p : ℕ) (found : Option PoolView) → retired (pool_seen plan s p) ≡ found → (s' : State) (o : Outcome) → retire_worker s p found ≡ Some (s', o) → MachineStep plan s (event.Retire p) s' o
retire_worker_happens plan s p None is_retired s' o e = absurd (none-some (s', o) e)
retire_worker_happens plan s p (Some after) is_retired s' o e =
    let ending = retired_retires (pool_seen plan s p) after is_retired in
    same_outcome plan s (event.Retire p) _ s' o e
    (subst (λ (queue : List ℕ). MachineStep plan s (event.Retire p) (with_part p queue after.idle s) outcome.Retired) (sym ending.queue)
    (record { happened = retires p after.idle ending.idle ending.not_handed; keeps = λ q same. subst (λ (r : ℕ). HasSpareThread (pool_seen plan s r)) same ending.spare }))

pub stepped : (plan : Plan) (s : State) (e : Event) (s' : State) (o : Outcome) → step plan s e ≡ Some (s', o) → MachineStep plan s e s' o
stepped plan s (event.Client c) s' o e = step_at_point_happens plan s (parent.Client c) (point plan s (parent.Client c)) refl s' o e
stepped plan s (event.Job j) s' o e = step_at_point_happens plan s (parent.Job j) (point plan s (parent.Job j)) refl s' o e
stepped plan s (event.Take p) s' o e = take_head_happens plan s p (taken (pool_seen plan s p)) refl s' o e
stepped plan s (event.Retire p) s' o e = retire_worker_happens plan s p (retired (pool_seen plan s p)) refl s' o e

pub happens : (plan : Plan) (s : State) (e : Event) (s' : State) (o : Outcome) → step plan s e ≡ Some (s', o) → Happens plan s e s' o
happens plan s e s' o is_step = (stepped plan s e s' o is_step).happened
