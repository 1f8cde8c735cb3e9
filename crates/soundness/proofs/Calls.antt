-- The invariants of the calls in progress, and the proof that no call is refused.
use Rattle.std.specs.Prelude.{⊤}
use Rattle.std.proofs.Common.{◌≡◌, ℕ, ◌+◌, ◌<◌, ◌≤◌, inr, ⊎_elim, true, false, List, length, Option, Some, None, sym, subst, ◌∙◌, arith}
use Rattle.std.proofs.lemmas.Bool.{false≢true}
use Rattle.job_bodies.specs.declared.action.Action.{Action}
use Rattle.job_bodies.specs.declared.action.Action.TheVariants as action
use Rattle.job_bodies.specs.Plan.{Plan, pool_at, first_workers}
use Rattle.job_bodies.proofs.Bodies.{HasValidBodies}
use Rattle.pool_machine.specs.declared.parent.Parent.{Parent}
use Rattle.pool_machine.specs.declared.event.Event.{Event}
use Rattle.pool_machine.specs.declared.event.Outcome.{Outcome}
use Rattle.pool_machine.specs.State.{State, pool_part, pool_of, threads}
use Rattle.pool_machine.specs.JobsMade.{jobs_made}
use Rattle.pool_machine.proofs.Events.{IsAtAction, event_of, Happens, HasNoRoom}
use Rattle.pool_machine.proofs.StateInvariant.{StateInvariant}
use Rattle.pool_machine.proofs.EnoughThreads.{HaveThreads}
use Rattle.pool_machine.proofs.InvariantSubmits.{class_exists}
use Rattle.pool_machine.proofs.JobsMade.{queue-le_made, HaveJobs}
use Rattle.weights.specs.declared.bound.Bound.{Bound}
use Rattle.weights.specs.declared.bound.Bound.TheVariants.{Standing, Lifetime}
use Rattle.soundness.proofs.NoRefusal.{standing_refuses_nothing, limit_reached, lifetime_leaves_room}
use Rattle.soundness.specs.Execute.{JavaState, JavaEvent, is_calling, without_calls}
use Rattle.soundness.proofs.ThreadChanges.{IsLasting, threads_change}
use Rattle.soundness.proofs.JavaEvents.{Looks, JavaHappens, is_atomic, ends, finds_core, finds_full, finds_all, is_enough, starts_spare, with_spare_thread, OfferAtCore, CallsFound, call_of_others, one_more}
use Rattle.soundness.proofs.SpareThreads.{threads-spare_lasting}
use Rattle.soundness.proofs.Looking.{LooksKept, looks_step, lasting_keeps, looks_enough, looks_spared}
use Rattle.soundness.proofs.Bounded.{IsBoundBalanced, BoundHolds, needs_a_bound, Bounded, BoundsHold}

-- ---- a pool whose queue was full at some time

-- an invariant of a pool after a call found its queue full. With a standing vector the queue is never full, so there is no such state. With
-- a lifetime vector, the capacity of the queue is at most the number of jobs submitted to the pool. Unless core threads may time out, the
-- capacity plus the number of threads is at most the number of jobs submitted to the pool plus the number of its prestarted threads. Nothing
-- is known of a pool without a bound.
abbrev pub WasFull : Plan → Option Bound → State → ℕ → Type 0
WasFull plan None s p = ⊤
WasFull plan (Some (Standing v)) s p = ⊥
WasFull plan (Some (Lifetime v)) s p = ((pool_at plan p).queue ≤ jobs_made plan s p) × (IsLasting plan p → (pool_at plan p).queue + threads plan s p ≤ jobs_made plan s p + first_workers (pool_at plan p))

-- after a call found the queue of a pool full, the queue is bounded and `WasFull` holds
abbrev pub QueueWasFull : Plan → Option Bound → State → ℕ → Type 0
QueueWasFull plan bound s p = ((pool_at plan p).unbounded ≡ false) × WasFull plan bound s p

-- if a submit finds the queue of its pool full, the invariant of a pool whose queue was full holds
queue_was_full : (plan : Plan) (bound : Option Bound) (s : State) (a : Parent) (body : List Action) (i k : ℕ) → HasValidBodies plan → BoundHolds plan (pool_of plan k) bound → StateInvariant plan s → HaveJobs plan (IsLasting plan) s → IsBoundBalanced plan bound s
    → IsAtAction plan s a body i (Some (action.Submit k)) → HasNoRoom plan s (pool_of plan k) → QueueWasFull plan bound s (pool_of plan k)
queue_was_full plan None s a body i k ordered holds kept have balanced at no_room = (no_room.0, tt)
queue_was_full plan (Some (Standing v)) s a body i k ordered holds kept have balanced at no_room = absurd (standing_refuses_nothing plan v s a body i k ordered holds.0 kept balanced at no_room)
queue_was_full plan (Some (Lifetime v)) s a body i k ordered laws kept have balanced at no_room =
    let p = pool_of plan k in
    let inside = ordered.pools k (class_exists plan s a body i k ordered at) in
    let full = no_room.1 in
    (no_room.0, (omega (arith, queue-le_made plan s p kept inside), λ lasting. let had = have p inside lasting in omega arith))

-- each event preserves the invariant of a pool whose queue was full, because the number of threads grows at most with the number
-- of submitted jobs
stays_full : (plan : Plan) (bound : Option Bound) (s s' : State) (o : Outcome) (p : ℕ) {e : Event} → StateInvariant plan s → p < length plan.pools → Happens plan s e s' o → QueueWasFull plan bound s p → QueueWasFull plan bound s' p
stays_full plan None s s' o p kept inside happened full = full
stays_full plan (Some (Standing v)) s s' o p kept inside happened full = full
stays_full plan (Some (Lifetime v)) s s' o p kept inside happened full =
    let change = threads_change plan s s' o kept happened p inside in
    let by_jobs = change.by_jobs in
    let more = change.no_fewer in
    let was = full.1.0 in
    (full.0, (omega arith, λ lasting. let all = full.1.1 lasting in omega arith))

-- a submit to a pool that has a bound, and whose queue was full, finds fewer than max threads
pub bound_leaves_room : (plan : Plan) (bound : Bound) (s : State) (a : Parent) (body : List Action) (i k : ℕ) → HasValidBodies plan → BoundHolds plan (pool_of plan k) (Some bound) → StateInvariant plan s → IsBoundBalanced plan (Some bound) s → IsAtAction plan s a body i (Some (action.Submit k))
    → QueueWasFull plan (Some bound) s (pool_of plan k) → (pool_at plan (pool_of plan k)).max ≤ threads plan s (pool_of plan k) → ⊥
bound_leaves_room plan (Standing v) s a body i k ordered holds kept balanced at full all_started = full.1
bound_leaves_room plan (Lifetime v) s a body i k ordered holds kept balanced at full all_started =
    lifetime_leaves_room plan v s a body i k ordered holds.0 full.0 kept balanced at
    (limit_reached (pool_at plan (pool_of plan k)) (jobs_made plan s (pool_of plan k)) full.1.0 (λ lasting. let was = full.1.1 lasting in omega arith))

-- a submit to a pool that must not reject jobs, and whose queue was full, finds fewer than max threads
leaves_room : (plan : Plan) (bound : Option Bound) (s : State) (a : Parent) (body : List Action) (i k : ℕ) → HasValidBodies plan → BoundHolds plan (pool_of plan k) bound → StateInvariant plan s → IsBoundBalanced plan bound s → IsAtAction plan s a body i (Some (action.Submit k))
    → (pool_at plan (pool_of plan k)).may_reject ≡ false → QueueWasFull plan bound s (pool_of plan k) → (pool_at plan (pool_of plan k)).max ≤ threads plan s (pool_of plan k) → ⊥
leaves_room plan None s a body i k ordered holds kept balanced at must full all_started = needs_a_bound (pool_at plan (pool_of plan k)) must full.0 holds
leaves_room plan (Some bound) s a body i k ordered holds kept balanced at must full all_started = bound_leaves_room plan bound s a body i k ordered holds kept balanced at full all_started

-- ---- the calls

-- the invariants of the calls in progress: the pool of a call that offers its job has at least core threads, unless these may time out;
-- the queue of the pool of a call that requests a thread was full; and those of the pools at which Java will look
pub record CallsKept (plan : Plan) (bounds : ℕ → Option Bound) (s : JavaState) : Type 0 where
  pub looks : LooksKept plan s.machine s.looking
  pub offering : OfferAtCore plan s
  pub requesting : (a : Parent) (p : ℕ) → p < length plan.pools → is_calling s.requesting a p ≡ true → QueueWasFull plan (bounds p) s.machine p

-- a state with no call in progress satisfies the invariants of the calls
pub calls_none : (plan : Plan) (bounds : ℕ → Option Bound) (s : State) → HaveThreads plan s → CallsKept plan bounds (without_calls s)
calls_none plan bounds s have = record {
  looks = record { timeouts = λ p is_there. absurd (false≢true is_there); enough = λ p inside. inr (have p inside) };
  offering = λ a p inside is_there. absurd (false≢true is_there);
  requesting = λ a p inside is_there. absurd (false≢true is_there);
}

-- no call that requests a thread from a pool that must not reject jobs is refused
pub refused_never : (plan : Plan) (bounds : ℕ → Option Bound) (s : JavaState) (a : Parent) (body : List Action) (i k : ℕ) → HasValidBodies plan → BoundsHold plan bounds → Bounded plan bounds s.machine → CallsKept plan bounds s → IsAtAction plan s.machine a body i (Some (action.Submit k))
    → (pool_at plan (pool_of plan k)).may_reject ≡ false → is_calling s.requesting a (pool_of plan k) ≡ true → (pool_at plan (pool_of plan k)).max ≤ threads plan s.machine (pool_of plan k) → ⊥
refused_never plan bounds s a body i k ordered laws bounded calls at must requesting all_started =
    let p = pool_of plan k in
    let inside = ordered.pools k (class_exists plan s.machine a body i k ordered at) in
    leaves_room plan (bounds p) s.machine a body i k ordered (laws p inside) bounded.kept (bounded.balanced p inside) at must (calls.requesting a p inside requesting) all_started

-- what the calls have found
pub calls_found : (plan : Plan) (bounds : ℕ → Option Bound) (s : JavaState) → CallsKept plan bounds s → CallsFound plan s
calls_found plan bounds s calls = record { offering = calls.offering; requesting = λ a p inside is_there. (calls.requesting a p inside is_there).0 }

-- a property that each event of the machine and each thread that starts without a job preserve is also preserved by each event in Java's
-- steps
pub machine_keeps : (plan : Plan) (bounds : ℕ → Option Bound) (holds : State → Type 0) (s s' : JavaState) {e : JavaEvent} → HasValidBodies plan → BoundsHold plan bounds → Bounded plan bounds s.machine → CallsKept plan bounds s
    → ((e' : Event) (after : State) (o : Outcome) → Happens plan s.machine e' after o → holds after)
    → ((p : ℕ) → (pool_at plan p).core_timeout ≡ true → threads plan s.machine p < (pool_at plan p).max → holds (with_spare_thread p s.machine))
    → holds s.machine → JavaHappens plan s e s' → holds s'.machine
machine_keeps plan bounds holds s s' ordered laws bounded calls each spare held (is_atomic e after o looking none happened looks) = each e after o happened
machine_keeps plan bounds holds s s' ordered laws bounded calls each spare held (ends a body i k after o looking at happened looks) = each (event_of a) after o happened
machine_keeps plan bounds holds s s' ordered laws bounded calls each spare held (finds_core a body i k at not_requesting not_offering at_core) = held
machine_keeps plan bounds holds s s' ordered laws bounded calls each spare held (finds_full a body i k at not_requesting no_room) = held
machine_keeps plan bounds holds s s' ordered laws bounded calls each spare held (finds_all a body i k at must requesting all_started) = absurd (refused_never plan bounds s a body i k ordered laws bounded calls at must requesting all_started)
machine_keeps plan bounds holds s s' ordered laws bounded calls each spare held (is_enough p is_there enough) = held
machine_keeps plan bounds holds s s' ordered laws bounded calls each spare held (starts_spare p is_there below) = spare p (calls.looks.timeouts p is_there) below

-- after an event of the machine, the pool of each call still has at least core threads, unless these may time out
offers_step : (plan : Plan) (bounds : ℕ → Option Bound) (s : JavaState) (after : State) (o : Outcome) (looking : List ℕ) {e : Event} → StateInvariant plan s.machine → CallsKept plan bounds s → (happened : Happens plan s.machine e after o) → Looks plan s looking e after o happened
    → (b : Parent) (p : ℕ) → p < length plan.pools → is_calling s.offering b p ≡ true → IsLasting plan p → (pool_at plan p).core ≤ threads plan after p
offers_step plan bounds s after o looking kept calls happened looks b p inside is_there lasting =
    (threads_change plan s.machine after o kept happened p inside).at_core (lasting_keeps plan s after o looking happened looks calls.looks p lasting) lasting (calls.offering b p inside is_there lasting)

-- a pool whose queue was full still satisfies its invariant after a thread started in a pool whose core threads may time out
full_spared : (plan : Plan) (bound : Option Bound) (s : State) (q p : ℕ) → (pool_at plan q).core_timeout ≡ true → QueueWasFull plan bound s p → QueueWasFull plan bound (with_spare_thread q s) p
full_spared plan None s q p timeout full = full
full_spared plan (Some (Standing v)) s q p timeout full = full
full_spared plan (Some (Lifetime v)) s q p timeout full =
    (full.0, (full.1.0, λ lasting. let all = full.1.1 lasting in omega (arith, threads-spare_lasting plan s q p timeout lasting)))

-- each event in Java's steps preserves the invariants of the calls
pub calls_step : (plan : Plan) (bounds : ℕ → Option Bound) (s s' : JavaState) {e : JavaEvent} → HasValidBodies plan → BoundsHold plan bounds → Bounded plan bounds s.machine → CallsKept plan bounds s → JavaHappens plan s e s' → CallsKept plan bounds s'
calls_step plan bounds s s' ordered laws bounded calls (is_atomic e after o looking none happened looks) = record {
  looks = looks_step plan s after o looking ordered bounded.kept happened looks calls.looks;
  offering = λ b p inside is_there. offers_step plan bounds s after o looking bounded.kept calls happened looks b p inside is_there;
  requesting = λ b p inside is_there. stays_full plan (bounds p) s.machine after o p bounded.kept inside happened (calls.requesting b p inside is_there);
}
calls_step plan bounds s s' ordered laws bounded calls (ends a body i k after o looking at happened looks) = record {
  looks = looks_step plan s after o looking ordered bounded.kept happened looks calls.looks;
  offering = λ b p inside is_there. offers_step plan bounds s after o looking bounded.kept calls happened looks b p inside (call_of_others a b p s.offering is_there).0;
  requesting = λ b p inside is_there. stays_full plan (bounds p) s.machine after o p bounded.kept inside happened (calls.requesting b p inside (call_of_others a b p s.requesting is_there).0);
}
calls_step plan bounds s s' ordered laws bounded calls (finds_core a body i k at not_requesting not_offering at_core) = record {
  looks = calls.looks;
  offering = λ b p inside is_there lasting.
      ⊎_elim (λ here. subst (λ (q : ℕ). (pool_at plan q).core ≤ threads plan s.machine q) (sym here.1) at_core) (λ earlier. calls.offering b p inside earlier lasting)
      (one_more (record { actor = a; pool = pool_of plan k }) s.offering b p is_there);
  requesting = calls.requesting;
}
calls_step plan bounds s s' ordered laws bounded calls (finds_full a body i k at not_requesting no_room) = record {
  looks = calls.looks;
  offering = λ b p inside is_there. calls.offering b p inside (call_of_others a b p s.offering is_there).0;
  requesting = λ b p inside is_there.
      let q = pool_of plan k in
      let exists = ordered.pools k (class_exists plan s.machine a body i k ordered at) in
      ⊎_elim
      (λ here. subst (λ (r : ℕ). QueueWasFull plan (bounds r) s.machine r) (sym here.1) (queue_was_full plan (bounds q) s.machine a body i k ordered (laws q exists) bounded.kept bounded.have_jobs (bounded.balanced q exists) at no_room))
      (λ earlier. calls.requesting b p inside earlier)
      (one_more (record { actor = a; pool = q }) s.requesting b p is_there);
}
calls_step plan bounds s s' ordered laws bounded calls (finds_all a body i k at must requesting all_started) = absurd (refused_never plan bounds s a body i k ordered laws bounded calls at must requesting all_started)
calls_step plan bounds s s' ordered laws bounded calls (is_enough p is_there enough) = record {
  looks = looks_enough plan s.machine s.looking p is_there enough calls.looks;
  offering = calls.offering;
  requesting = calls.requesting;
}
calls_step plan bounds s s' ordered laws bounded calls (starts_spare p is_there below) =
    let timeout = calls.looks.timeouts p is_there in
    record {
      looks = looks_spared plan s.machine s.looking p bounded.kept is_there calls.looks;
      offering = λ b q inside offers lasting. let enough = calls.offering b q inside offers lasting in omega (arith, threads-spare_lasting plan s.machine p q timeout lasting);
      requesting = λ b q inside requests. full_spared plan (bounds q) s.machine p q timeout (calls.requesting b q inside requests);
    }
