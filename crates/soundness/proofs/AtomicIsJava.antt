-- Each state that the machine reaches with atomic submits is also reachable in Java's steps: the steps of each submit follow
-- each other without other events between them, and Java looks at a pool right after it queued a job or a thread ended.
use Rattle.std.proofs.Common.{◌≡◌, ℕ, zero, suc, ◌-◌, ◌≤◌, inl, inr, Bool, true, false, cond, not, ◌&&◌, ◌||◌, eqb, ltb, List, [], ◌∷◌, ◌++◌, length, Option, Some, None, refl, sym, ap, subst, ◌∙◌, arith}
use Rattle.std.proofs.lemmas.Bool.{and_parts, and_from, or_left, or_right, cases_lt, eq-eqb, lt-ltb}
use Rattle.std.proofs.lemmas.Option.{none-some, same_Some, cond_some}
use Rattle.job_bodies.specs.Plan.{Plan, pool_at}
use Rattle.job_bodies.specs.WellFormed.{IsWellFormed}
use Rattle.job_bodies.proofs.Bodies.{HasValidBodies, ordered}
use Rattle.pool_machine.specs.PoolState.{PoolView, room_limit, answer, has_spare_thread, has_spare_worker, retired_of, retired}
use Rattle.pool_machine.specs.declared.offer.Offer.{Offer}
use Rattle.pool_machine.specs.declared.offer.Offer.TheVariants as offer
use Rattle.pool_machine.specs.declared.parent.Parent.{Parent}
use Rattle.pool_machine.specs.declared.parent.Parent.TheVariants as parent
use Rattle.pool_machine.specs.declared.event.Event.{Event}
use Rattle.pool_machine.specs.declared.event.Event.TheVariants as event
use Rattle.pool_machine.specs.declared.event.Outcome.{Outcome}
use Rattle.pool_machine.specs.declared.event.Outcome.TheVariants as outcome
use Rattle.pool_machine.specs.State.{State, same_parent, pool_of, pool_part, pool_seen, threads}
use Rattle.pool_machine.specs.Step.{point, with_pool, answered, submitted, step_at_point, retire_worker, step}
use Rattle.pool_machine.specs.Reach.{start, state_after, replay}
use Rattle.pool_machine.specs.Laws.{HasThreads}
use Rattle.pool_machine.proofs.Events.{event_of, stepped}
use Rattle.pool_machine.proofs.Children.{same_actor_refl}
use Rattle.pool_machine.proofs.Reached.{replay_none}
use Rattle.pool_machine.proofs.StateInvariant.{StateInvariant}
use Rattle.pool_machine.proofs.InvariantAtStart.{kept_start}
use Rattle.pool_machine.proofs.InvariantStep.{kept_step}
use Rattle.pool_machine.proofs.EnoughThreads.{HaveThreads, one_is_enough, have_threads_start, threads_step}
use Rattle.soundness.specs.Execute.{Call, JavaState, JavaEvent, is_looking, looked_once, looking_after, timed_out_of, after_timeout, timed_out, is_calling, without_calls_of, answers, checks_core, offers_job, requests_thread, executes, Submission, submission, as_atomic, java_stepped, java_step, java_replay, without_calls}
use Rattle.soundness.specs.JavaSafe.{AtomicStatesAreReached}
use Rattle.soundness.proofs.JavaEvents.{is_submission}
use Rattle.soundness.proofs.JavaReplays.{java_replay-append}
use Rattle.soundness.proofs.SpareThreads.{timeout_inside}

-- ---- the call of one actor

-- the list with one call only, of actor a to pool p
abbrev own : Parent → ℕ → List Call
own a p = record { actor = a; pool = p } ∷ []

-- the list with one call of actor a to pool p contains a call of a to p
own_is_calling : (a : Parent) (p : ℕ) → is_calling (own a p) a p ≡ true
own_is_calling a p = or_left (same_parent a a && eqb p p) false (and_from (same_parent a a) (eqb p p) (same_actor_refl a) (eq-eqb p p refl))

-- without the calls of a, the list with one call of actor a is empty
own_is_over : (a : Parent) (p : ℕ) → without_calls_of a (own a p) ≡ []
own_is_over a p = ap (λ (b : Bool). cond (not b) (own a p) []) (same_actor_refl a)

-- ---- a look at a pool

-- the state with no call in progress, and these pools at which Java will look
abbrev looking_at : State → List ℕ → JavaState
looking_at s looking = record (without_calls s) { looking = looking }

-- some list of events leads from s to s' in Java's steps, with no call in progress in either state; Java will then look at these pools
abbrev FollowsLooking : Plan → State → State → List ℕ → Type 0
FollowsLooking plan s s' looking = (events : List JavaEvent) × (java_replay plan (Some (without_calls s)) events ≡ Some (looking_at s' looking))

-- some list of events leads from s to s' in Java's steps, with no call in progress and no pool at which Java will look in either state
abbrev Follows : Plan → State → State → Type 0
Follows plan s s' = (events : List JavaEvent) × (java_replay plan (Some (without_calls s)) events ≡ Some (without_calls s'))

-- a pool of at least one thread, or without a queued job, needs no thread
needs_no_thread : (threads queued : ℕ) → (1 ≤ queued → 1 ≤ threads) → (ltb 0 threads || eqb queued 0) ≡ true
needs_no_thread threads queued enough = elim (cases_lt 0 queued) [
  | inl some ↦ or_left (ltb 0 threads) (eqb queued 0) (lt-ltb 0 threads (let one = enough (omega arith) in omega arith))
  | inr none ↦ or_right (ltb 0 threads) (eqb queued 0) (eq-eqb queued 0 (omega arith))
]

-- Java looks at a pool that has enough threads, and then will look at no pool
one_look : (plan : Plan) (s : State) (p : ℕ) → (pool_at plan p).core_timeout ≡ true → HasThreads plan s p → java_step plan (looking_at s (p ∷ [])) (JavaEvent.Leaves p) ≡ Some (without_calls s)
one_look plan s p timeout enough =
    let queued = length (pool_part s p).queue in
    let same = eq-eqb p p refl in
    let needless = needs_no_thread (threads plan s p) queued (λ some. let least = enough some in omega (arith, one_is_enough (pool_at plan p) timeout)) in
    let both = and_from (is_looking (p ∷ []) p) (ltb 0 (threads plan s p) || eqb queued 0) (or_left (eqb p p) false same) needless in
    ap (λ (b : Bool). cond b (Some (looking_at s (looked_once p (p ∷ [])))) None) both ∙ ap (λ (b : Bool). Some (looking_at s (cond b [] (p ∷ [])))) same

-- after events at whose end Java will look at pool p if its core threads may time out, Java looks at p
looks_then : (plan : Plan) (s s' : State) (p : ℕ) (timeout : Bool) → (pool_at plan p).core_timeout ≡ timeout → (timeout ≡ true → HasThreads plan s' p) → FollowsLooking plan s s' (cond timeout (p ∷ []) []) → Follows plan s s'
looks_then plan s s' p false is_timeout enough follows = follows
looks_then plan s s' p true is_timeout enough follows = (
  follows.0 ++ JavaEvent.Leaves p ∷ [],
  java_replay-append plan (Some (without_calls s)) follows.0 (JavaEvent.Leaves p ∷ [])
      ∙ ap (λ (found : Option JavaState). java_replay plan found (JavaEvent.Leaves p ∷ [])) follows.1
      ∙ one_look plan s' p is_timeout (enough refl),
)

-- ---- the steps of a submit without other events between them

-- in the machine's state s, the event is the next step of a submit of a job of class k by actor a at position i, whatever calls
-- are in progress
abbrev IsNextStep : Plan → State → Event → Parent → ℕ → ℕ → Type 0
IsNextStep plan s e a i k =
    (offering requesting : List Call) → java_step plan (record { machine = s; offering = offering; requesting = requesting; looking = [] }) (JavaEvent.Acts e)
    ≡ Some (executes plan (record { machine = s; offering = offering; requesting = requesting; looking = [] }) a i k)

-- the state after the first step, if the pool had at least core threads: the actor's call offers its job next
abbrev offers_job_next : State → Parent → ℕ → JavaState
offers_job_next s a p = record { machine = s; offering = own a p; requesting = []; looking = [] }

abbrev requests_thread_next : State → Parent → ℕ → JavaState
requests_thread_next s a p = record { machine = s; offering = []; requesting = own a p; looking = [] }

-- the pools at which Java will look after the pool gave this answer to the submit
abbrev then_looks : Plan → ℕ → Offer → List ℕ
then_looks plan k answer = looking_after plan (pool_of plan k) answer []

-- the state after the pool gave this answer to the submit, with no call in progress
abbrev is_answered : Plan → State → Parent → ℕ → ℕ → Offer → JavaState
is_answered plan s a i k answer = looking_at (answered plan s a i k answer).0 (then_looks plan k answer)

-- the first step starts the job if the pool has fewer than core threads, and otherwise the call offers the job next
look : (plan : Plan) (s : State) (e : Event) (a : Parent) (i k : ℕ) (below : Bool) → IsNextStep plan s e a i k → ltb (threads plan s (pool_of plan k)) (pool_at plan (pool_of plan k)).core ≡ below
    → java_step plan (without_calls s) (JavaEvent.Acts e) ≡ Some (cond below (is_answered plan s a i k offer.Started) (offers_job_next s a (pool_of plan k)))
look plan s e a i k below next is_below =
    next [] [] ∙ ap (λ (b : Bool). Some (cond b (is_answered plan s a i k offer.Started) (offers_job_next s a (pool_of plan k)))) is_below

-- the second step queues the job if the queue has room, and otherwise the call requests a thread next
offer_it : (plan : Plan) (s : State) (e : Event) (a : Parent) (i k : ℕ) (room : Bool) → IsNextStep plan s e a i k → ltb (length (pool_part s (pool_of plan k)).queue) (room_limit (pool_at plan (pool_of plan k)).unbounded (pool_at plan (pool_of plan k)).queue (pool_part s (pool_of plan k)).idle (length (pool_part s (pool_of plan k)).queue)) ≡ room
    → java_step plan (offers_job_next s a (pool_of plan k)) (JavaEvent.Acts e) ≡ Some (cond room (is_answered plan s a i k offer.Queued) (requests_thread_next s a (pool_of plan k)))
offer_it plan s e a i k room next has_room =
    let p = pool_of plan k in
    let now = offers_job_next s a p in
    next (own a p) []
    ∙ ap (λ (b : Bool). Some (cond b (offers_job plan now a i k) (checks_core plan now a i k))) (own_is_calling a p)
    ∙ ap (λ (b : Bool). Some (cond b (answers plan now a i k offer.Queued) (record now { offering = without_calls_of a now.offering; requesting = own a p }))) has_room
    ∙ ap (λ (calls : List Call). Some (cond room (record (is_answered plan s a i k offer.Queued) { offering = calls }) (record (requests_thread_next s a p) { offering = calls }))) (own_is_over a p)

-- the third step starts the job if the pool has fewer than max threads, and otherwise refuses it
ask : (plan : Plan) (s : State) (e : Event) (a : Parent) (i k : ℕ) (below : Bool) → IsNextStep plan s e a i k → ltb (threads plan s (pool_of plan k)) (pool_at plan (pool_of plan k)).max ≡ below
    → java_step plan (requests_thread_next s a (pool_of plan k)) (JavaEvent.Acts e) ≡ Some (is_answered plan s a i k (cond below offer.Started offer.Refused))
ask plan s e a i k below next is_below =
    let p = pool_of plan k in
    let now = requests_thread_next s a p in
    next [] (own a p)
    ∙ ap (λ (b : Bool). Some (cond b (requests_thread plan now a i k) (checks_core plan now a i k))) (own_is_calling a p)
    ∙ ap (λ (b : Bool). Some (answers plan now a i k (cond b offer.Started offer.Refused))) is_below
    ∙ ap (λ (calls : List Call). Some (record (is_answered plan s a i k (cond below offer.Started offer.Refused)) { requesting = calls })) (own_is_over a p)

-- the steps of a submit lead to the state after the atomic submit
submit_follows : (plan : Plan) (s : State) (e : Event) (a : Parent) (i k : ℕ) (below_core room below_max : Bool) → IsNextStep plan s e a i k
    → ltb (threads plan s (pool_of plan k)) (pool_at plan (pool_of plan k)).core ≡ below_core
    → ltb (length (pool_part s (pool_of plan k)).queue) (room_limit (pool_at plan (pool_of plan k)).unbounded (pool_at plan (pool_of plan k)).queue (pool_part s (pool_of plan k)).idle (length (pool_part s (pool_of plan k)).queue)) ≡ room
    → ltb (threads plan s (pool_of plan k)) (pool_at plan (pool_of plan k)).max ≡ below_max
    → let answer = cond below_core offer.Started (cond room offer.Queued (cond below_max offer.Started offer.Refused)) in FollowsLooking plan s (answered plan s a i k answer).0 (then_looks plan k answer)
submit_follows plan s e a i k true room below_max next is_below has_room is_below_max = (JavaEvent.Acts e ∷ [], look plan s e a i k true next is_below)
submit_follows plan s e a i k false true below_max next is_below has_room is_below_max =
    let again = JavaEvent.Acts e in
    (again ∷ again ∷ [], ap (λ (found : Option JavaState). java_replay plan found (again ∷ [])) (look plan s e a i k false next is_below) ∙ offer_it plan s e a i k true next has_room)
submit_follows plan s e a i k false false below_max next is_below has_room is_below_max =
    let again = JavaEvent.Acts e in (
      again ∷ again ∷ again ∷ [],
      ap (λ (found : Option JavaState). java_replay plan found (again ∷ again ∷ [])) (look plan s e a i k false next is_below)
          ∙ ap (λ (found : Option JavaState). java_replay plan found (again ∷ [])) (offer_it plan s e a i k false next has_room)
          ∙ ask plan s e a i k below_max next is_below_max,
    )

-- after a submit that queued a job, Java looks at its pool if core threads may time out
answer_follows : (plan : Plan) (s s' : State) (k : ℕ) (given : Offer) → ((pool_at plan (pool_of plan k)).core_timeout ≡ true → HasThreads plan s' (pool_of plan k)) → FollowsLooking plan s s' (then_looks plan k given) → Follows plan s s'
answer_follows plan s s' k offer.Started enough follows = follows
answer_follows plan s s' k offer.Queued enough follows = looks_then plan s s' (pool_of plan k) (pool_at plan (pool_of plan k)).core_timeout refl enough follows
answer_follows plan s s' k offer.Refused enough follows = follows

-- ---- the end of a thread

-- a thread that the pool does not need can end in Java's steps too
retired_times_out : (pool after : PoolView) (idle : ℕ) → retired_of pool idle ≡ Some after → timed_out_of pool idle ≡ Some after
retired_times_out pool after zero is_retired = absurd (none-some after is_retired)
retired_times_out pool after (suc idle) is_retired =
    let ended : PoolView = record pool { threads = pool.threads - 1; idle = idle } in
    let found = cond_some (has_spare_thread pool && has_spare_worker pool idle) ended after is_retired in
    let parts = and_parts (has_spare_thread pool) (has_spare_worker pool idle) found.0 in
    ap (λ (b : Bool). cond b (Some ended) None) parts.1 ∙ ap Some found.1

-- the end of a thread in the machine is its end in Java's steps; Java will then look at the pool
retired_follows : (plan : Plan) (s : State) (p : ℕ) (x : State × Outcome) (found : Option PoolView) → retired (pool_seen plan s p) ≡ found → retire_worker s p found ≡ Some x
    → after_timeout (without_calls s) p (timed_out (pool_seen plan s p)) ≡ Some (looking_at x.0 (p ∷ []))
retired_follows plan s p x None is_found is_after = absurd (none-some x is_after)
retired_follows plan s p x (Some after) is_found is_after =
    ap (after_timeout (without_calls s) p) (retired_times_out (pool_seen plan s p) after (pool_part s p).idle is_found)
    ∙ ap (λ (y : State × Outcome). Some (looking_at y.0 (p ∷ []))) (same_Some (with_pool p after s, outcome.Retired) x is_after)

retire_follows : (plan : Plan) (s : State) (p : ℕ) (x : State × Outcome) (timeout : Bool) → (pool_at plan p).core_timeout ≡ timeout → (timeout ≡ true → HasThreads plan x.0 p) → step plan s (event.Retire p) ≡ Some x → Follows plan s x.0
retire_follows plan s p x true is_timeout enough is_step =
    looks_then plan s x.0 p true is_timeout enough (
      JavaEvent.Acts (event.Retire p) ∷ [],
      ap (λ (b : Bool). cond b (after_timeout (without_calls s) p (timed_out (pool_seen plan s p))) (as_atomic (without_calls s) (step plan s (event.Retire p)))) is_timeout
          ∙ retired_follows plan s p x (retired (pool_seen plan s p)) refl is_step,
    )
retire_follows plan s p x false is_timeout enough is_step = (
  JavaEvent.Acts (event.Retire p) ∷ [],
  ap (λ (b : Bool). cond b (after_timeout (without_calls s) p (timed_out (pool_seen plan s p))) (as_atomic (without_calls s) (step plan s (event.Retire p)))) is_timeout
      ∙ ap (as_atomic (without_calls s)) is_step,
)

-- ---- an event of the machine

-- if core threads of a pool may time out, the bodies are valid, the state satisfies the invariant, and each pool has enough threads
abbrev Held : Plan → State → Type 0
Held plan s = (p : ℕ) → (pool_at plan p).core_timeout ≡ true → HasValidBodies plan × StateInvariant plan s × HaveThreads plan s

held_start : (plan : Plan) → ((p : ℕ) → (pool_at plan p).core_timeout ≡ true → IsWellFormed plan) → Held plan (start plan)
held_start plan well_formed p timeout =
    let is_ordered = ordered plan (well_formed p timeout) in
    (is_ordered, kept_start plan is_ordered, have_threads_start plan)

held_after : (plan : Plan) (s : State) (e : Event) (x : State × Outcome) → Held plan s → step plan s e ≡ Some x → Held plan x.0
held_after plan s e x held is_step p timeout =
    let before = held p timeout in
    let now = stepped plan s e x.0 x.1 is_step in (
      before.0,
      kept_step plan s x.0 x.1 before.0 before.1 now.happened,
      λ q inside. threads_step plan s x.0 x.1 before.0 before.1 now.happened q inside (now.keeps q) (before.2 q inside),
    )

enough_after : (plan : Plan) (s : State) (e : Event) (x : State × Outcome) (p : ℕ) → Held plan s → step plan s e ≡ Some x → (pool_at plan p).core_timeout ≡ true → HasThreads plan x.0 p
enough_after plan s e x p held is_step timeout = (held_after plan s e x held is_step p timeout).2 p (timeout_inside plan p timeout)

-- the machine's step for an actor's event is the step at the actor's position
step_of : (plan : Plan) (s : State) (a : Parent) → step plan s (event_of a) ≡ step_at_point plan s a (point plan s a)
step_of plan s (parent.Client c) = refl
step_of plan s (parent.Job j) = refl

-- an event that is not part of a submit leads to the same state in Java's steps
alone_follows : (plan : Plan) (s : State) (e : Event) (x : State × Outcome) → Held plan s → submission plan s e ≡ None → step plan s e ≡ Some x → Follows plan s x.0
alone_follows plan s (event.Client c) x held none is_step = (JavaEvent.Acts (event.Client c) ∷ [], ap (java_stepped plan (without_calls s) (event.Client c)) none ∙ ap (as_atomic (without_calls s)) is_step)
alone_follows plan s (event.Job j) x held none is_step = (JavaEvent.Acts (event.Job j) ∷ [], ap (java_stepped plan (without_calls s) (event.Job j)) none ∙ ap (as_atomic (without_calls s)) is_step)
alone_follows plan s (event.Take p) x held none is_step = (JavaEvent.Acts (event.Take p) ∷ [], ap (as_atomic (without_calls s)) is_step)
alone_follows plan s (event.Retire p) x held none is_step = retire_follows plan s p x (pool_at plan p).core_timeout refl (enough_after plan s (event.Retire p) x p held is_step) is_step

event_follows : (plan : Plan) (s : State) (e : Event) (x : State × Outcome) (found : Option Submission) → Held plan s → submission plan s e ≡ found → step plan s e ≡ Some x → Follows plan s x.0
event_follows plan s e x None held is_found is_step = alone_follows plan s e x held is_found is_step
event_follows plan s e x (Some y) held is_found is_step =
    let p = pool_of plan y.class in
    let given = answer (pool_seen plan s p) in
    let submitting = is_submission plan s e y is_found in
    let result : submitted plan s y.actor y.position y.class ≡ x =
    same_Some (submitted plan s y.actor y.position y.class) x (sym submitting.stepping ∙ sym (step_of plan s y.actor) ∙ ap (step plan s) submitting.same ∙ is_step) in
    answer_follows plan s x.0 y.class given (enough_after plan s e x p held is_step)
    (subst (λ (after : State × Outcome). FollowsLooking plan s after.0 (then_looks plan y.class given)) result
    (submit_follows plan s e y.actor y.position y.class (ltb (threads plan s p) (pool_at plan p).core) (ltb (length (pool_part s p).queue) (room_limit (pool_at plan p).unbounded (pool_at plan p).queue (pool_part s p).idle (length (pool_part s p).queue))) (ltb (threads plan s p) (pool_at plan p).max)
    (λ offering requesting. ap (java_stepped plan (record { machine = s; offering = offering; requesting = requesting; looking = [] }) e) is_found) refl refl refl))

-- ---- lists of events

-- if some events lead from s to s₁ and some events from s₁ to s₂, some events lead from s to s₂
follows_twice : (plan : Plan) (s s₁ s₂ : State) → Follows plan s s₁ → Follows plan s₁ s₂ → Follows plan s s₂
follows_twice plan s s₁ s₂ first second = (
  first.0 ++ second.0,
  java_replay-append plan (Some (without_calls s)) first.0 second.0 ∙ ap (λ (found : Option JavaState). java_replay plan found second.0) first.1 ∙ second.1,
)

after_event : (plan : Plan) (s : State) (e : Event) (events : List Event) (s' : State) → Held plan s → ((next : State) → Held plan next → replay plan (Some next) events ≡ Some s' → Follows plan next s')
    → (found : Option (State × Outcome)) → step plan s e ≡ found → replay plan (state_after found) events ≡ Some s' → Follows plan s s'
after_event plan s e events s' held onward None is_step replayed =
    let none : replay plan None events ≡ None = replay_none plan events in
    absurd cc
after_event plan s e events s' held onward (Some x) is_step replayed =
    follows_twice plan s x.0 s' (event_follows plan s e x (submission plan s e) held refl is_step) (onward x.0 (held_after plan s e x held is_step) replayed)

replay_follows : (plan : Plan) (events : List Event) (s s' : State) → Held plan s → replay plan (Some s) events ≡ Some s' → Follows plan s s'
replay_follows plan [] s s' held replayed = ([], ap (λ (x : State). Some (without_calls x)) (same_Some s s' replayed))
replay_follows plan (e ∷ events) s s' held replayed = after_event plan s e events s' held (λ next held' rest. replay_follows plan events next s' held' rest) (step plan s e) refl replayed

pub atomic_states_are_reached : AtomicStatesAreReached
atomic_states_are_reached plan s well_formed reached = replay_follows plan reached.0 (start plan) s (held_start plan well_formed) reached.1
