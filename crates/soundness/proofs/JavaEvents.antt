-- The possible events if each submit is the separate steps of Java's `execute`.
use Rattle.std.proofs.Common.{◌≡◌, ℕ, zero, suc, ◌+◌, ◌-◌, ◌<◌, ◌≤◌, ◌⊎◌, inl, inr, ⊎_elim, Bool, true, false, cond, not, ◌&&◌, ◌||◌, eqb, ltb, List, ◌∷◌, length, slice_get, Option, Some, None, refl, sym, ap, subst, ◌∙◌, arith}
use Rattle.std.proofs.lemmas.Bool.{false≢true, and_parts, or_cases, or_left, or_right, cases_Bool, not-true, ltb-true, ltb-false, eqb-true, eq-eqb}
use Rattle.std.proofs.lemmas.Option.{none-some, same_Some, cond_some}
use Rattle.support.proofs.Members.{In-filter_from, In-from_list_any, list_any_at_In}
use Rattle.job_bodies.specs.declared.action.Action.{Action}
use Rattle.job_bodies.specs.declared.action.Action.TheVariants as action
use Rattle.job_bodies.specs.Plan.{Plan, pool_at}
use Rattle.job_bodies.proofs.Bodies.{HasValidBodies}
use Rattle.pool_machine.specs.PoolState.{PoolView, room_limit, has_spare_worker}
use Rattle.pool_machine.proofs.PoolEvents.{spare_worker_means}
use Rattle.pool_machine.proofs.QueueLimits.{no_room_means}
use Rattle.pool_machine.specs.declared.offer.Offer.TheVariants as offer
use Rattle.pool_machine.specs.declared.parent.Parent.{Parent}
use Rattle.pool_machine.specs.declared.parent.Parent.TheVariants as parent
use Rattle.pool_machine.specs.declared.event.Event.{Event}
use Rattle.pool_machine.specs.declared.event.Event.TheVariants as event
use Rattle.pool_machine.specs.declared.event.Outcome.{Outcome}
use Rattle.pool_machine.specs.declared.event.Outcome.TheVariants as outcome
use Rattle.pool_machine.specs.State.{State, same_parent, pool_part, pool_of, pool_seen, threads}
use Rattle.pool_machine.specs.Step.{Point, point, skipped, step_action, submitted, step_at_point, step}
use Rattle.pool_machine.proofs.Events.{IsAtAction, event_of, with_part, KeepsThreads, Happens, starts, queues, is_rejected, retires, stepped, HasNoRoom}
use Rattle.pool_machine.proofs.Children.{same_actor_true}
use Rattle.pool_machine.proofs.InvariantSubmits.{class_exists}
use Rattle.soundness.specs.Execute.{Call, JavaState, JavaEvent, is_looking, joined, looked_once, leaves, spares, timed_out_of, timed_out, after_timeout, is_calling, without_calls_of, answers, checks_core, offers_job, requests_thread, executes, Submission, submission_at, submission_of, submission, as_atomic, other_step, java_stepped, java_step}
use Rattle.soundness.proofs.ThreadChanges.{IsLasting}

-- ---- calls

-- if actor b has a call to pool p in the list without the calls of actor a, b has that call in the whole list, and b is not a
pub call_of_others : (a b : Parent) (p : ℕ) (calls : List Call) → is_calling (without_calls_of a calls) b p ≡ true → (is_calling calls b p ≡ true) × (same_parent a b ≡ false)
call_of_others a b p calls is_there =
    let to_pool = λ (call : Call). same_parent b call.actor && eqb p call.pool in
    let of_other = λ (call : Call). not (same_parent a call.actor) in
    let found = In-from_list_any to_pool (without_calls_of a calls) is_there in
    let kept = In-filter_from of_other calls found.1 in
    let actor : b ≡ found.0.actor = same_actor_true b found.0.actor (and_parts (same_parent b found.0.actor) (eqb p found.0.pool) found.2).0 in
    (list_any_at_In to_pool kept.0 found.2, ap (same_parent a) actor ∙ not-true (same_parent a found.0.actor) kept.1)

-- a call in a list to which one call was added is the added call or was in the list before
pub one_more : (call : Call) (calls : List Call) (b : Parent) (p : ℕ) → is_calling (call ∷ calls) b p ≡ true → ((b ≡ call.actor) × (p ≡ call.pool)) ⊎ (is_calling calls b p ≡ true)
one_more call calls b p is_there =
    ⊎_elim
    (λ here.
    let parts = and_parts (same_parent b call.actor) (eqb p call.pool) here in
    inl (same_actor_true b call.actor parts.0, eqb-true p call.pool parts.1))
    inr (or_cases (same_parent b call.actor && eqb p call.pool) (is_calling calls b p) is_there)

-- ---- the kinds of events

-- the state of the machine after the last step of actor a's submit, whose call is no longer in progress, with these pools at which
-- Java will look
abbrev pub ends_with : JavaState → Parent → State → List ℕ → JavaState
ends_with s a after looking = record { machine = after; offering = without_calls_of a s.offering; requesting = without_calls_of a s.requesting; looking = looking }

-- the state after an idle thread started in pool p
abbrev pub with_spare_thread : ℕ → State → State
with_spare_thread p s = with_part p (pool_part s p).queue ((pool_part s p).idle + 1) s

-- the pools at which Java will look after an event: those before the event, and pools whose core threads may time out; the event
-- keeps threads in each pool that is not one of them
pub record Looks (plan : Plan) (s : JavaState) (looking : List ℕ) (e : Event) (after : State) (o : Outcome) (happened : Happens plan s.machine e after o) : Type 0 where
  pub stay : (p : ℕ) → is_looking s.looking p ≡ true → is_looking looking p ≡ true
  pub join : (p : ℕ) → is_looking looking p ≡ true → (is_looking s.looking p ≡ true) ⊎ ((pool_at plan p).core_timeout ≡ true)
  pub keeps : (p : ℕ) → (is_looking looking p ≡ true) ⊎ KeepsThreads plan s.machine p e after o happened

pub data JavaHappens (plan : Plan) (s : JavaState) : JavaEvent → JavaState → Type 0 where
  -- an event that is not part of a submit is the same event of the machine, or the end of a thread
  is_atomic : (e : Event) (after : State) (o : Outcome) (looking : List ℕ) → submission plan s.machine e ≡ None → (happened : Happens plan s.machine e after o) → Looks plan s looking e after o happened
      → JavaHappens plan s (JavaEvent.Acts e) (record s { machine = after; looking = looking })
  -- the last step of a submit: the pool starts, queues, refuses or rejects the job, and the actor's call ends
  ends : (a : Parent) (body : List Action) (i k : ℕ) (after : State) (o : Outcome) (looking : List ℕ) → IsAtAction plan s.machine a body i (Some (action.Submit k)) → (happened : Happens plan s.machine (event_of a) after o) → Looks plan s looking (event_of a) after o happened
      → JavaHappens plan s (JavaEvent.Acts (event_of a)) (ends_with s a after looking)
  -- the first step of a submit, if the pool has at least core threads: the call offers its job next
  finds_core : (a : Parent) (body : List Action) (i k : ℕ) → IsAtAction plan s.machine a body i (Some (action.Submit k)) → is_calling s.requesting a (pool_of plan k) ≡ false → is_calling s.offering a (pool_of plan k) ≡ false
      → (pool_at plan (pool_of plan k)).core ≤ threads plan s.machine (pool_of plan k)
      → JavaHappens plan s (JavaEvent.Acts (event_of a)) (record s { offering = record { actor = a; pool = pool_of plan k } ∷ s.offering })
  -- the second step of a submit, if the queue has no room: the call requests a thread next; the queue is then full, or has capacity 0
  finds_full : (a : Parent) (body : List Action) (i k : ℕ) → IsAtAction plan s.machine a body i (Some (action.Submit k)) → is_calling s.requesting a (pool_of plan k) ≡ false
      → HasNoRoom plan s.machine (pool_of plan k)
      → JavaHappens plan s (JavaEvent.Acts (event_of a)) (record s { offering = without_calls_of a s.offering; requesting = record { actor = a; pool = pool_of plan k } ∷ s.requesting })
  -- the third step of a submit, if the pool has max threads: the job is refused, even if the queue has room again
  finds_all : (a : Parent) (body : List Action) (i k : ℕ) → IsAtAction plan s.machine a body i (Some (action.Submit k)) → (pool_at plan (pool_of plan k)).may_reject ≡ false → is_calling s.requesting a (pool_of plan k) ≡ true
      → (pool_at plan (pool_of plan k)).max ≤ threads plan s.machine (pool_of plan k)
      → JavaHappens plan s (JavaEvent.Acts (event_of a)) (ends_with s a (record s.machine { refusals = s.machine.refusals + 1 }) s.looking)
  -- Java looks at a pool that has a thread or no queued job
  is_enough : (p : ℕ) → is_looking s.looking p ≡ true → (1 ≤ threads plan s.machine p) ⊎ (length (pool_part s.machine p).queue ≡ 0)
      → JavaHappens plan s (JavaEvent.Leaves p) (record s { looking = looked_once p s.looking })
  -- Java looks at a pool and starts a thread, which has no job yet
  starts_spare : (p : ℕ) → is_looking s.looking p ≡ true → threads plan s.machine p < (pool_at plan p).max
      → JavaHappens plan s (JavaEvent.Spares p) (record s { machine = with_spare_thread p s.machine; looking = looked_once p s.looking })

-- the pools at which Java will look do not change, and the event keeps threads in each pool
looks_same : (plan : Plan) (s : JavaState) (e : Event) (after : State) (o : Outcome) (happened : Happens plan s.machine e after o) → ((p : ℕ) → KeepsThreads plan s.machine p e after o happened) → Looks plan s s.looking e after o happened
looks_same plan s e after o happened keeps = record { stay = λ p is_there. is_there; join = λ p is_there. inl is_there; keeps = λ p. inr (keeps p) }

-- Java will look at pool q if its core threads may time out, and the event keeps threads in each pool otherwise
looks_at : (plan : Plan) (s : JavaState) (q : ℕ) (e : Event) (after : State) (o : Outcome) (happened : Happens plan s.machine e after o) → ((p : ℕ) → (q ≡ p → IsLasting plan q) → KeepsThreads plan s.machine p e after o happened)
    → (timeout : Bool) → (pool_at plan q).core_timeout ≡ timeout → Looks plan s (cond timeout (q ∷ s.looking) s.looking) e after o happened
looks_at plan s q e after o happened keeps true is_timeout = record {
  stay = λ p is_there. or_right (eqb p q) (is_looking s.looking p) is_there;
  join = λ p is_there.
      ⊎_elim (λ here. inr (subst (λ (r : ℕ). (pool_at plan r).core_timeout ≡ true) (sym (eqb-true p q here)) is_timeout)) inl
      (or_cases (eqb p q) (is_looking s.looking p) is_there);
  keeps = λ p. elim (cases_Bool (eqb p q)) [
    | inl here ↦ inl (or_left (eqb p q) (is_looking s.looking p) here)
    | inr other ↦ inr (keeps p (λ same. absurd (false≢true (sym other ∙ eq-eqb p q (sym same)))))
  ];
}
looks_at plan s q e after o happened keeps false is_timeout = looks_same plan s e after o happened (λ p. keeps p (λ same. is_timeout))

-- ---- the steps of a submit

-- the pool of each call that offers its job has at least core threads, unless these may time out
abbrev pub OfferAtCore : Plan → JavaState → Type 0
OfferAtCore plan s = (a : Parent) (p : ℕ) → p < length plan.pools → is_calling s.offering a p ≡ true → IsLasting plan p → (pool_at plan p).core ≤ threads plan s.machine p

-- what the calls in progress have found: the pool of each call that offers its job has at least core threads, unless these may time out,
-- and the queue of the pool of each call that requests a thread is bounded
pub record CallsFound (plan : Plan) (s : JavaState) : Type 0 where
  pub offering : OfferAtCore plan s
  pub requesting : (a : Parent) (p : ℕ) → p < length plan.pools → is_calling s.requesting a p ≡ true → (pool_at plan p).unbounded ≡ false

-- the effect of the first step of a submit is one of the possible events
checks_core_happens : (plan : Plan) (s : JavaState) (a : Parent) (body : List Action) (i k : ℕ) → IsAtAction plan s.machine a body i (Some (action.Submit k)) → is_calling s.requesting a (pool_of plan k) ≡ false → is_calling s.offering a (pool_of plan k) ≡ false
    → (below : Bool) → ltb (threads plan s.machine (pool_of plan k)) (pool_at plan (pool_of plan k)).core ≡ below
    → JavaHappens plan s (JavaEvent.Acts (event_of a)) (cond below (answers plan s a i k offer.Started) (record s { offering = record { actor = a; pool = pool_of plan k } ∷ s.offering }))
checks_core_happens plan s a body i k at not_requesting not_offering true is_below =
    let happened = starts a body i k at (inr (ltb-true (threads plan s.machine (pool_of plan k)) (pool_at plan (pool_of plan k)).core is_below)) in
    ends a body i k _ _ s.looking at happened (looks_same plan s (event_of a) _ _ happened (λ p. tt))
checks_core_happens plan s a body i k at not_requesting not_offering false is_below =
    finds_core a body i k at not_requesting not_offering (ltb-false (threads plan s.machine (pool_of plan k)) (pool_at plan (pool_of plan k)).core is_below)

-- the effect of the second step of a submit is one of the possible events
offers_job_happens : (plan : Plan) (s : JavaState) (a : Parent) (body : List Action) (i k : ℕ) → IsAtAction plan s.machine a body i (Some (action.Submit k)) → is_calling s.requesting a (pool_of plan k) ≡ false → (IsLasting plan (pool_of plan k) → (pool_at plan (pool_of plan k)).core ≤ threads plan s.machine (pool_of plan k))
    → (room : Bool) → ltb (length (pool_part s.machine (pool_of plan k)).queue) (room_limit (pool_at plan (pool_of plan k)).unbounded (pool_at plan (pool_of plan k)).queue (pool_part s.machine (pool_of plan k)).idle (length (pool_part s.machine (pool_of plan k)).queue)) ≡ room
    → JavaHappens plan s (JavaEvent.Acts (event_of a)) (cond room (answers plan s a i k offer.Queued) (record s { offering = without_calls_of a s.offering; requesting = record { actor = a; pool = pool_of plan k } ∷ s.requesting }))
offers_job_happens plan s a body i k at not_requesting at_core true has_room =
    let happened = queues a body i k at (ltb-true (length (pool_part s.machine (pool_of plan k)).queue) (room_limit (pool_at plan (pool_of plan k)).unbounded (pool_at plan (pool_of plan k)).queue (pool_part s.machine (pool_of plan k)).idle (length (pool_part s.machine (pool_of plan k)).queue)) has_room) in
    ends a body i k _ _ (joined plan (pool_of plan k) s.looking) at happened
    (looks_at plan s (pool_of plan k) (event_of a) _ _ happened (λ p lasting same. subst (λ (r : ℕ). (pool_at plan r).core ≤ threads plan s.machine r) same (at_core (lasting same))) (pool_at plan (pool_of plan k)).core_timeout refl)
offers_job_happens plan s a body i k at not_requesting at_core false has_room =
    let pool = pool_at plan (pool_of plan k) in
    let part = pool_part s.machine (pool_of plan k) in
    finds_full a body i k at not_requesting
    (no_room_means pool.unbounded pool.queue part.idle (length part.queue) (ltb-false (length part.queue) (room_limit pool.unbounded pool.queue part.idle (length part.queue)) has_room))

-- a third step that finds max threads is one of the possible events, whether or not the pool may reject jobs
declines_happens : (plan : Plan) (s : JavaState) (a : Parent) (body : List Action) (i k : ℕ) → IsAtAction plan s.machine a body i (Some (action.Submit k)) → is_calling s.requesting a (pool_of plan k) ≡ true
    → (pool_at plan (pool_of plan k)).max ≤ threads plan s.machine (pool_of plan k)
    → (may : Bool) → (pool_at plan (pool_of plan k)).may_reject ≡ may
    → let x : State × Outcome = cond may (skipped s.machine a i k, outcome.Rejected (pool_of plan k) (length s.machine.jobs)) (record s.machine { refusals = s.machine.refusals + 1 }, outcome.Refused (pool_of plan k)) in
    JavaHappens plan s (JavaEvent.Acts (event_of a)) (ends_with s a x.0 s.looking)
declines_happens plan s a body i k at requesting all_started true may =
    let happened = is_rejected a body i k at may in
    ends a body i k _ _ s.looking at happened (looks_same plan s (event_of a) _ _ happened (λ p. tt))
declines_happens plan s a body i k at requesting all_started false may = finds_all a body i k at may requesting all_started

-- the effect of the third step of a submit is one of the possible events
requests_thread_happens : (plan : Plan) (s : JavaState) (a : Parent) (body : List Action) (i k : ℕ) → IsAtAction plan s.machine a body i (Some (action.Submit k)) → is_calling s.requesting a (pool_of plan k) ≡ true → (pool_at plan (pool_of plan k)).unbounded ≡ false
    → (below : Bool) → ltb (threads plan s.machine (pool_of plan k)) (pool_at plan (pool_of plan k)).max ≡ below → JavaHappens plan s (JavaEvent.Acts (event_of a)) (answers plan s a i k (cond below offer.Started offer.Refused))
requests_thread_happens plan s a body i k at requesting bounded true is_below =
    let happened = starts a body i k at (inl (ltb-true (threads plan s.machine (pool_of plan k)) (pool_at plan (pool_of plan k)).max is_below, bounded)) in
    ends a body i k _ _ s.looking at happened (looks_same plan s (event_of a) _ _ happened (λ p. tt))
requests_thread_happens plan s a body i k at requesting bounded false is_below =
    declines_happens plan s a body i k at requesting (ltb-false (threads plan s.machine (pool_of plan k)) (pool_at plan (pool_of plan k)).max is_below) (pool_at plan (pool_of plan k)).may_reject refl

-- the effect of the next step of a submit is one of the possible events
executes_happens : (plan : Plan) (s : JavaState) (a : Parent) (body : List Action) (i k : ℕ) → HasValidBodies plan → CallsFound plan s → IsAtAction plan s.machine a body i (Some (action.Submit k))
    → (requesting offering : Bool) → is_calling s.requesting a (pool_of plan k) ≡ requesting → is_calling s.offering a (pool_of plan k) ≡ offering
    → JavaHappens plan s (JavaEvent.Acts (event_of a)) (cond requesting (requests_thread plan s a i k) (cond offering (offers_job plan s a i k) (checks_core plan s a i k)))
executes_happens plan s a body i k ordered calls at true offering is_requesting is_offering =
    requests_thread_happens plan s a body i k at is_requesting (calls.requesting a (pool_of plan k) (ordered.pools k (class_exists plan s.machine a body i k ordered at)) is_requesting) (ltb (threads plan s.machine (pool_of plan k)) (pool_at plan (pool_of plan k)).max) refl
executes_happens plan s a body i k ordered calls at false true is_requesting is_offering =
    offers_job_happens plan s a body i k at is_requesting (calls.offering a (pool_of plan k) (ordered.pools k (class_exists plan s.machine a body i k ordered at)) is_offering)
    (ltb (length (pool_part s.machine (pool_of plan k)).queue) (room_limit (pool_at plan (pool_of plan k)).unbounded (pool_at plan (pool_of plan k)).queue (pool_part s.machine (pool_of plan k)).idle (length (pool_part s.machine (pool_of plan k)).queue))) refl
executes_happens plan s a body i k ordered calls at false false is_requesting is_offering =
    checks_core_happens plan s a body i k at is_requesting is_offering (ltb (threads plan s.machine (pool_of plan k)) (pool_at plan (pool_of plan k)).core) refl

-- ---- the submitter

-- the actor of the event is at this submit
pub record IsSubmission (plan : Plan) (s : State) (e : Event) (x : Submission) : Type 0 where
  pub body : List Action
  pub at : IsAtAction plan s x.actor body x.position (Some (action.Submit x.class))
  pub same : event_of x.actor ≡ e
  pub stepping : step_at_point plan s x.actor (point plan s x.actor) ≡ Some (submitted plan s x.actor x.position x.class)

at_action : (plan : Plan) (s : State) (a : Parent) (at : Point) (there : Option Action) (x : Submission) → point plan s a ≡ Some at → slice_get at.body at.position ≡ there → submission_at a at.position there ≡ Some x → IsSubmission plan s (event_of a) x
at_action plan s a at None x stands is_there is_one = absurd (none-some x is_one)
at_action plan s a at (Some (action.Work u)) x stands is_there is_one = absurd (none-some x is_one)
at_action plan s a at (Some (action.Submit k)) x stands is_there is_one =
    subst (IsSubmission plan s (event_of a)) (same_Some (record { actor = a; position = at.position; class = k }) x is_one)
    (record {
      body = at.body;
      at = record { stands = stands; is_there = is_there };
      same = refl;
      stepping = ap (step_at_point plan s a) stands ∙ ap (step_action plan s a at.position) is_there;
    })
at_action plan s a at (Some (action.Get t)) x stands is_there is_one = absurd (none-some x is_one)

of_actor : (plan : Plan) (s : State) (a : Parent) (found : Option Point) (x : Submission) → point plan s a ≡ found → submission_of a found ≡ Some x → IsSubmission plan s (event_of a) x
of_actor plan s a None x stands is_one = absurd (none-some x is_one)
of_actor plan s a (Some at) x stands is_one = at_action plan s a at (slice_get at.body at.position) x stands refl is_one

pub is_submission : (plan : Plan) (s : State) (e : Event) (x : Submission) → submission plan s e ≡ Some x → IsSubmission plan s e x
is_submission plan s (event.Client c) x is_one = of_actor plan s (parent.Client c) (point plan s (parent.Client c)) x refl is_one
is_submission plan s (event.Job j) x is_one = of_actor plan s (parent.Job j) (point plan s (parent.Job j)) x refl is_one
is_submission plan s (event.Take p) x is_one = absurd (none-some x is_one)
is_submission plan s (event.Retire p) x is_one = absurd (none-some x is_one)

-- ---- the end of a thread

-- an idle worker of the pool, which was handed no job, ends, and its queue is unchanged
record TimesOut (pool after : PoolView) : Type 0 where
  idle : pool.idle ≡ suc after.idle
  queue : after.queue ≡ pool.queue
  not_handed : pool.unbounded ≡ false → pool.capacity ≡ 0 → length pool.queue ≤ after.idle

timed_out_of_times_out : (pool after : PoolView) (idle : ℕ) → pool.idle ≡ idle → timed_out_of pool idle ≡ Some after → TimesOut pool after
timed_out_of_times_out pool after zero is_idle e = absurd (none-some after e)
timed_out_of_times_out pool after (suc idle) is_idle e =
    let ended : PoolView = record pool { threads = pool.threads - 1; idle = idle } in
    let found = cond_some (has_spare_worker pool idle) ended after e in
    let times_out : TimesOut pool ended = record { idle = is_idle; queue = refl; not_handed = spare_worker_means pool.unbounded pool.capacity (length pool.queue) idle found.0 } in
    subst (TimesOut pool) found.1 times_out

timed_out_times_out : (pool after : PoolView) → timed_out pool ≡ Some after → TimesOut pool after
timed_out_times_out pool after e = timed_out_of_times_out pool after pool.idle refl e

-- the end of a thread of a pool whose core threads may time out is one of the possible events
thread_ends : (plan : Plan) (s : JavaState) (p : ℕ) (found : Option PoolView) (s' : JavaState) → (pool_at plan p).core_timeout ≡ true → timed_out (pool_seen plan s.machine p) ≡ found → after_timeout s p found ≡ Some s' → JavaHappens plan s (JavaEvent.Acts (event.Retire p)) s'
thread_ends plan s p None s' is_timeout is_found is_after = absurd (none-some s' is_after)
thread_ends plan s p (Some after) s' is_timeout is_found is_after =
    let ending = timed_out_times_out (pool_seen plan s.machine p) after is_found in
    let happened = retires p after.idle ending.idle ending.not_handed in
    let ended : JavaHappens plan s (JavaEvent.Acts (event.Retire p)) (record s { machine = with_part p (pool_part s.machine p).queue after.idle s.machine; looking = p ∷ s.looking }) =
    is_atomic (event.Retire p) _ _ (p ∷ s.looking) refl happened
    (looks_at plan s p (event.Retire p) _ _ happened (λ q lasting same. absurd (false≢true (sym (lasting same) ∙ is_timeout))) true is_timeout) in
    subst (JavaHappens plan s (JavaEvent.Acts (event.Retire p))) (same_Some (record s { machine = with_part p after.queue after.idle s.machine; looking = p ∷ s.looking }) s' is_after)
    (subst (λ (queue : List ℕ). JavaHappens plan s (JavaEvent.Acts (event.Retire p)) (record s { machine = with_part p queue after.idle s.machine; looking = p ∷ s.looking })) (sym ending.queue) ended)

-- ---- every event

-- the effect of an event that is the same event of the machine is one of the possible events
atomic_happens : (plan : Plan) (s : JavaState) (e : Event) (found : Option (State × Outcome)) (s' : JavaState) → submission plan s.machine e ≡ None → step plan s.machine e ≡ found → as_atomic s found ≡ Some s' → JavaHappens plan s (JavaEvent.Acts e) s'
atomic_happens plan s e None s' none is_step is_after = absurd (none-some s' is_after)
atomic_happens plan s e (Some (after, o)) s' none is_step is_after =
    let now = stepped plan s.machine e after o is_step in
    subst (JavaHappens plan s (JavaEvent.Acts e)) (same_Some (record s { machine = after }) s' is_after) (is_atomic e after o s.looking none now.happened (looks_same plan s e after o now.happened now.keeps))

retire_happens : (plan : Plan) (s : JavaState) (p : ℕ) (timeout : Bool) (s' : JavaState) → (pool_at plan p).core_timeout ≡ timeout
    → cond timeout (after_timeout s p (timed_out (pool_seen plan s.machine p))) (as_atomic s (step plan s.machine (event.Retire p))) ≡ Some s' → JavaHappens plan s (JavaEvent.Acts (event.Retire p)) s'
retire_happens plan s p true s' is_timeout is_after = thread_ends plan s p (timed_out (pool_seen plan s.machine p)) s' is_timeout refl is_after
retire_happens plan s p false s' is_timeout is_after = atomic_happens plan s (event.Retire p) (step plan s.machine (event.Retire p)) s' refl refl is_after

other_happens : (plan : Plan) (s : JavaState) (e : Event) (s' : JavaState) → submission plan s.machine e ≡ None → other_step plan s e ≡ Some s' → JavaHappens plan s (JavaEvent.Acts e) s'
other_happens plan s (event.Client c) s' none is_after = atomic_happens plan s (event.Client c) (step plan s.machine (event.Client c)) s' none refl is_after
other_happens plan s (event.Job j) s' none is_after = atomic_happens plan s (event.Job j) (step plan s.machine (event.Job j)) s' none refl is_after
other_happens plan s (event.Take p) s' none is_after = atomic_happens plan s (event.Take p) (step plan s.machine (event.Take p)) s' none refl is_after
other_happens plan s (event.Retire p) s' none is_after = retire_happens plan s p (pool_at plan p).core_timeout s' refl is_after

stepped_happens : (plan : Plan) (s : JavaState) (e : Event) (found : Option Submission) (s' : JavaState) → HasValidBodies plan → CallsFound plan s → submission plan s.machine e ≡ found → java_stepped plan s e found ≡ Some s' → JavaHappens plan s (JavaEvent.Acts e) s'
stepped_happens plan s e None s' ordered calls is_found is_after = other_happens plan s e s' is_found is_after
stepped_happens plan s e (Some x) s' ordered calls is_found is_after =
    let submitting = is_submission plan s.machine e x is_found in
    let happened : JavaHappens plan s (JavaEvent.Acts (event_of x.actor)) (executes plan s x.actor x.position x.class) =
    executes_happens plan s x.actor submitting.body x.position x.class ordered calls submitting.at (is_calling s.requesting x.actor (pool_of plan x.class)) (is_calling s.offering x.actor (pool_of plan x.class)) refl refl in
    subst (JavaHappens plan s (JavaEvent.Acts e)) (same_Some (executes plan s x.actor x.position x.class) s' is_after)
    (subst (λ (event : Event). JavaHappens plan s (JavaEvent.Acts event) (executes plan s x.actor x.position x.class)) submitting.same happened)

-- a look at a pool that needs no thread is one of the possible events
leaves_happens : (plan : Plan) (s : JavaState) (p : ℕ) (s' : JavaState) → leaves plan s p ≡ Some s' → JavaHappens plan s (JavaEvent.Leaves p) s'
leaves_happens plan s p s' is_after =
    let has_thread = ltb 0 (threads plan s.machine p) in
    let is_empty = eqb (length (pool_part s.machine p).queue) 0 in
    let found = cond_some (is_looking s.looking p && (has_thread || is_empty)) (record s { looking = looked_once p s.looking }) s' is_after in
    let parts = and_parts (is_looking s.looking p) (has_thread || is_empty) found.0 in
    let enough : (1 ≤ threads plan s.machine p) ⊎ (length (pool_part s.machine p).queue ≡ 0) =
    ⊎_elim (λ some. let more = ltb-true 0 (threads plan s.machine p) some in inl (omega arith)) (λ none. inr (eqb-true (length (pool_part s.machine p).queue) 0 none)) (or_cases has_thread is_empty parts.1) in
    subst (JavaHappens plan s (JavaEvent.Leaves p)) found.1 (is_enough p parts.0 enough)

-- a look at a pool in which a thread starts is one of the possible events
spares_happens : (plan : Plan) (s : JavaState) (p : ℕ) (s' : JavaState) → spares plan s p ≡ Some s' → JavaHappens plan s (JavaEvent.Spares p) s'
spares_happens plan s p s' is_after =
    let below = ltb (threads plan s.machine p) (pool_at plan p).max in
    let found = cond_some (is_looking s.looking p && below) (record s { machine = with_spare_thread p s.machine; looking = looked_once p s.looking }) s' is_after in
    let parts = and_parts (is_looking s.looking p) below found.0 in
    subst (JavaHappens plan s (JavaEvent.Spares p)) found.1 (starts_spare p parts.0 (ltb-true (threads plan s.machine p) (pool_at plan p).max parts.1))

pub java_happens : (plan : Plan) (s : JavaState) (e : JavaEvent) (s' : JavaState) → HasValidBodies plan → CallsFound plan s → java_step plan s e ≡ Some s' → JavaHappens plan s e s'
java_happens plan s (JavaEvent.Acts e) s' ordered calls is_after = stepped_happens plan s e (submission plan s.machine e) s' ordered calls refl is_after
java_happens plan s (JavaEvent.Leaves p) s' ordered calls is_after = leaves_happens plan s p s' is_after
java_happens plan s (JavaEvent.Spares p) s' ordered calls is_after = spares_happens plan s p s' is_after
