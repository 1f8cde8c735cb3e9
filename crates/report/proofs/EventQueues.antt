-- The queues that the steps show are those of the machine.
use Rattle.std.proofs.Common.{◌≡◌, ◌≢◌, ℕ, ◌+◌, ◌<◌, eqb, Bool, false, if◌then◌else◌, inl, inr, ⊎_elim, List, [], ◌∷◌, ◌++◌, length, map, get_or, set, drop, Option, Some, None, refl, sym, ap, ap₂, ◌∙◌, arith, length-set}
use Rattle.std.specs.Prelude.{option_map, option_and_then}
use Rattle.std.proofs.lemmas.Bool.{cases_lt, cases_eq, eq-eqb, ne_eqb}
use Rattle.std.proofs.lemmas.List.{get_or_past, get_or-set_same, get_or-set_other}
use Rattle.std.proofs.lemmas.Option.{none-some, same_Some, slice_get-get_or, slice_get_past}
use Rattle.job_bodies.specs.Plan.{Plan, Pool, no_pool, pool_at}
use Rattle.job_bodies.specs.WellFormed.{IsWellFormed}
use Rattle.pool_machine.specs.declared.event.Event.{Event}
use Rattle.pool_machine.specs.declared.event.Outcome.{Outcome}
use Rattle.pool_machine.specs.PoolState.{room_limit}
use Rattle.pool_machine.specs.State.{Stage, State, CreatedJob, PoolPart, no_pool_part, no_job, job_at, pool_part, pool_of, threads}
use Rattle.pool_machine.specs.Step.{step, moved_jobs}
use Rattle.pool_machine.specs.Reach.{start, IsReached}
use Rattle.pool_machine.proofs.Events.{Happens, works, starts, queues, is_refused, is_rejected, gets, finishes, loops, takes, retires, happens}
use Rattle.pool_machine.proofs.InvariantAtStart.{pool_part_at_start}
use Rattle.pool_machine.proofs.Queues.{pool_exists}
use Rattle.pool_machine.proofs.Reached.{kept}
use Rattle.pool_machine.proofs.StateInvariant.{StateInvariant}
use Rattle.interleaving.proofs.Reached.{reached_after}
use Rattle.report.specs.declared.event_steps.PoolCounts.{PoolCounts}
use Rattle.report.specs.declared.event_steps.EventStep.{EventStep}
use Rattle.report.specs.EventRows.{EventRow, rows_from, event_rows}
use Rattle.report.specs.EventSteps.{actor_of, changed_pool, counts_of, step_of}
use Rattle.report.specs.EventRuns.{EventShown, queue_of, shown_of}
use Rattle.report.specs.EventsShown.{is_of_pool, queue_once, queue_with, queue_from, queue_after, shown_after, shown_from}
use Rattle.report.proofs.EventsSeen.{length-moved, made_last, rows_end, rows_more}

-- ---- one event

-- a pool whose queue stays
put_same : (pools : List PoolPart) (q p : ℕ) (part : PoolPart) → part.queue ≡ (get_or pools q no_pool_part).queue → (get_or (set pools q part) p no_pool_part).queue ≡ (get_or pools p no_pool_part).queue
put_same pools q p part e =
    ⊎_elim (λ (same : p ≡ q). elim (cases_lt q (length pools)) [
      | inl inside ↦
          ap (λ (n : ℕ). (get_or (set pools q part) n no_pool_part).queue) same ∙ ap (λ (x : PoolPart). x.queue) (get_or-set_same pools q part no_pool_part inside)
          ∙ e ∙ sym (ap (λ (n : ℕ). (get_or pools n no_pool_part).queue) same)
      | inr past ↦
          let long = length-set pools q part in
          ap (λ (x : PoolPart). x.queue) (get_or_past (set pools q part) p no_pool_part (omega arith)) ∙ sym (ap (λ (x : PoolPart). x.queue) (get_or_past pools p no_pool_part (omega arith)))
    ])
    (λ (apart : p ≢ q). ap (λ (x : PoolPart). x.queue) (get_or-set_other pools q p part no_pool_part apart))
    (cases_eq p q)

counts_there : (plan : Plan) (s : State) (p q : ℕ) → q < length plan.pools → is_of_pool p (counts_of plan s q) ≡ eqb q p
counts_there plan s p q inside =
    ap (λ (pool : Option Pool). is_of_pool p (option_map (λ pool. record { number = q; threads = threads plan s q; idle = (pool_part s q).idle }) pool)) (slice_get-get_or plan.pools q no_pool inside)

-- a pool whose queue changes, and the others
put_changes : (pools : List PoolPart) (q p : ℕ) (part : PoolPart) (test : Bool) (queue : List ℕ) → q < length pools → test ≡ eqb q p → part.queue ≡ queue
    → (if test then queue else (get_or pools p no_pool_part).queue) ≡ (get_or (set pools q part) p no_pool_part).queue
put_changes pools q p part test queue inside is_test is_queue =
    let old = (get_or pools p no_pool_part).queue in
    ⊎_elim (λ (same : p ≡ q).
    ap (λ (b : Bool). if b then queue else old) (is_test ∙ eq-eqb q p (sym same)) ∙ sym is_queue
    ∙ sym (ap (λ (n : ℕ). (get_or (set pools q part) n no_pool_part).queue) same ∙ ap (λ (x : PoolPart). x.queue) (get_or-set_same pools q part no_pool_part inside)))
    (λ (apart : p ≢ q).
    ap (λ (b : Bool). if b then queue else old) (is_test ∙ ne_eqb q p (λ (e : q ≡ p). apart (sym e)))
    ∙ sym (ap (λ (x : PoolPart). x.queue) (get_or-set_other pools q p part no_pool_part apart)))
    (cases_eq p q)

-- the change of a queue, if the pool of the event is this one
queue_where : (p q : ℕ) (old changed : ℕ → List ℕ) (test : Bool) → test ≡ eqb q p → (if test then changed p else old p) ≡ (if test then changed q else old p)
queue_where p q old changed test is_test =
    ⊎_elim (λ (same : p ≡ q). ap (λ (n : ℕ). if test then changed n else old p) same)
    (λ (apart : p ≢ q).
    let no : test ≡ false = is_test ∙ ne_eqb q p (λ (e : q ≡ p). apart (sym e)) in
    ap (λ (b : Bool). if b then changed p else old p) no ∙ sym (ap (λ (b : Bool). if b then changed q else old p) no))
    (cases_eq p q)

abbrev pub pool_at_event : Plan → State → Event → State → Outcome → Option PoolCounts
pool_at_event plan s e s' o = option_and_then (counts_of plan s') (changed_pool plan s' (actor_of plan s e) o)

-- if there is room in the queue of pool q, the plan has pool q: past the end of the list there is no queue and no idle worker
room_exists : (plan : Plan) (s : State) (q n : ℕ) → length s.pools ≡ length plan.pools → n < room_limit (pool_at plan q).unbounded (pool_at plan q).queue (pool_part s q).idle n → q < length plan.pools
room_exists plan s q n as_many room = elim (cases_lt q (length plan.pools)) [
  | inl inside ↦ inside
  | inr past ↦
      let none : room_limit (pool_at plan q).unbounded (pool_at plan q).queue (pool_part s q).idle n ≡ 0 =
      ap (λ (pool : Pool). room_limit pool.unbounded pool.queue (pool_part s q).idle n) (get_or_past plan.pools q no_pool past) ∙ ap (λ (part : PoolPart). part.idle) (get_or_past s.pools q no_pool_part (omega arith)) in
      absurd (omega (arith, none))
]

queue_happens : (plan : Plan) (s s' : State) (o : Outcome) (e : Event) (p : ℕ) → StateInvariant plan s → Happens plan s e s' o → queue_once p (pool_part s p).queue (pool_at_event plan s e s' o) o ≡ (pool_part s' p).queue
queue_happens plan s s' o e p kept (works a body i u at) = refl
queue_happens plan s s' o e p kept (starts a body i k at room) = refl
queue_happens plan s s' o e p kept (queues a body i k at room) =
    let q = pool_of plan k in
    let j = length s.jobs in
    let exists : q < length plan.pools = room_exists plan s q (length (pool_part s q).queue) kept.as_many room in
    let inside : q < length s.pools = omega (arith, kept.as_many) in
    let job : CreatedJob = record { class = k; parent = a; slot = i; stage = Stage.Queued } in
    let made : (get_or (moved_jobs a (i + 1) s ++ job ∷ []) j no_job).class ≡ k = ap (λ (x : CreatedJob). x.class) (made_last (moved_jobs a (i + 1) s) j job (length-moved a (i + 1) s)) in
    let after : State = s' in
    let is_test : is_of_pool p (counts_of plan after (pool_of plan (job_at after j).class)) ≡ eqb q p =
    ap (λ (class : ℕ). is_of_pool p (counts_of plan after (pool_of plan class))) made ∙ counts_there plan after p q exists in
    queue_where p q (λ n. (pool_part s n).queue) (λ n. (pool_part s n).queue ++ j ∷ []) (is_of_pool p (counts_of plan after (pool_of plan (job_at after j).class))) is_test
    ∙ put_changes s.pools q p (record { queue = (pool_part s q).queue ++ j ∷ []; idle = (pool_part s q).idle }) (is_of_pool p (counts_of plan after (pool_of plan (job_at after j).class))) ((pool_part s q).queue ++ j ∷ []) inside is_test refl
queue_happens plan s s' o e p kept (is_refused a body i k at must no_room all) = refl
queue_happens plan s s' o e p kept (is_rejected a body i k at may) = refl
queue_happens plan s s' o e p kept (gets a body i t j at is_child done) = refl
queue_happens plan s s' o e p kept (finishes j body i at) =
    let q = pool_of plan (job_at s j).class in
    sym (put_same s.pools q p (record { queue = (pool_part s q).queue; idle = (pool_part s q).idle + 1 }) refl)
queue_happens plan s s' o e p kept (loops c client body i at is_client repeats) = refl
queue_happens plan s s' o e p kept (takes q j queue idle is_queue is_idle) =
    let inside : q < length s.pools = pool_exists s q j queue is_queue in
    let exists : q < length plan.pools = omega (arith, kept.as_many) in
    let after : State = s' in
    let is_test : is_of_pool p (counts_of plan after q) ≡ eqb q p = counts_there plan after p q exists in
    queue_where p q (λ n. (pool_part s n).queue) (λ n. drop 1 (pool_part s n).queue) (is_of_pool p (counts_of plan after q)) is_test
    ∙ put_changes s.pools q p (record { queue = queue; idle = idle }) (is_of_pool p (counts_of plan after q)) (drop 1 (pool_part s q).queue) inside is_test (sym (ap (drop 1) is_queue))
queue_happens plan s s' o e p kept (retires q idle is_idle not_handed) =
    sym (put_same s.pools q p (record { queue = (pool_part s q).queue; idle = idle }) refl)

-- ---- the queues along the rows

queue_from_push : (p : ℕ) (queue : List ℕ) (before : List EventStep) (step : EventStep) → queue_from p queue (before ++ step ∷ []) ≡ queue_with p (queue_from p queue before) step
queue_from_push p queue [] step = refl
queue_from_push p queue (x ∷ before) step = queue_from_push p (queue_with p queue x) before step

number_within : (plan : Plan) (s : State) (counts : PoolCounts) (found : Option ℕ) → Some counts ≡ option_and_then (counts_of plan s) found → counts.number < length plan.pools
number_within plan s counts None e = absurd cc
number_within plan s counts (Some q) e = elim (cases_lt q (length plan.pools)) [
  | inl inside ↦
      let same = same_Some _ _ (e ∙ ap (option_map (λ (pool : Pool). record { number = q; threads = threads plan s q; idle = (pool_part s q).idle })) (slice_get-get_or plan.pools q no_pool inside)) in
      omega (arith, ap (λ (x : PoolCounts). x.number) same)
  | inr past ↦
      let none = e ∙ ap (option_map (λ (pool : Pool). record { number = q; threads = threads plan s q; idle = (pool_part s q).idle })) (slice_get_past plan.pools q past) in
      absurd (none-some counts (sym none))
]

-- the steps show the queues of state s
abbrev pub ShowQueues : Plan → List EventStep → State → Type 0
ShowQueues plan steps s = (p : ℕ) → p < length plan.pools → queue_from p [] steps ≡ (pool_part s p).queue

queue_shown : (plan : Plan) (s : State) (steps : List EventStep) (pool : Option PoolCounts) (found : Option ℕ) → pool ≡ option_and_then (counts_of plan s) found → ShowQueues plan steps s → queue_after steps pool ≡ queue_of s pool
queue_shown plan s steps None found e show = refl
queue_shown plan s steps (Some counts) found e show = show counts.number (number_within plan s counts found e)

abbrev row_for : Event → State → State × Outcome → EventRow
row_for e s x = record { event = e; before = s; outcome = x.1; after = x.0 }

still_shown : (plan : Plan) (s : State) (e : Event) (x : State × Outcome) (before : List EventStep) → IsWellFormed plan → IsReached plan s → step plan s e ≡ Some x → ShowQueues plan before s
    → ShowQueues plan (before ++ step_of plan (row_for e s x) ∷ []) x.0
still_shown plan s e x before ok reached is_step show = λ p inside.
    queue_from_push p [] before (step_of plan (row_for e s x)) ∙ ap (λ (queue : List ℕ). queue_with p queue (step_of plan (row_for e s x))) (show p inside)
    ∙ queue_happens plan s x.0 x.1 e p (kept plan s ok reached) (happens plan s e x.0 x.1 is_step)

pub shown_rows : (plan : Plan) (events : List Event) (s : State) (before : List EventStep) → IsWellFormed plan → IsReached plan s → ShowQueues plan before s
    → shown_from before (map (step_of plan) (rows_from plan (Some s) events)) ≡ map (shown_of plan) (rows_from plan (Some s) events)
shown_rows plan [] s before ok reached show = refl
shown_rows plan (e ∷ events) s before ok reached show =
    (elim (step plan s e) as (λ found. step plan s e ≡ found → shown_from before (map (step_of plan) (rows_from plan (Some s) (e ∷ events))) ≡ map (shown_of plan) (rows_from plan (Some s) (e ∷ events))) [
      | None ↦ λ is_step.
          let none = rows_end plan s e events is_step in
          ap (λ (rows : List EventRow). shown_from before (map (step_of plan) rows)) none ∙ sym (ap (λ (rows : List EventRow). map (shown_of plan) rows) none)
      | Some x ↦ λ is_step.
          let row = row_for e s x in
          let what : EventStep = step_of plan row in
          let more = rows_more plan s x.0 e x.1 events is_step in
          let now : ShowQueues plan (before ++ what ∷ []) x.0 = still_shown plan s e x before ok reached is_step show in
          let head : shown_after (before ++ what ∷ []) what ≡ shown_of plan row =
          ap (λ (queue : List ℕ). record { step = what; queue = queue }) (queue_shown plan x.0 (before ++ what ∷ []) what.pool (changed_pool plan x.0 (actor_of plan s e) x.1) refl now) in
          let tail = shown_rows plan events x.0 (before ++ what ∷ []) ok (reached_after plan s x.0 e x.1 reached is_step) now in
          ap (λ (rows : List EventRow). shown_from before (map (step_of plan) rows)) more ∙ ap₂ (λ (a : EventShown) (b : List EventShown). a ∷ b) head tail
          ∙ sym (ap (λ (rows : List EventRow). map (shown_of plan) rows) more)
    ]) refl

start_shown : (plan : Plan) → ShowQueues plan [] (start plan)
start_shown plan = λ p inside. sym (ap (λ (part : PoolPart). part.queue) (pool_part_at_start plan p inside))

-- the steps of the events from the start show the queues of the machine
pub shown_from_start : (plan : Plan) (events : List Event) → IsWellFormed plan → shown_from [] (map (step_of plan) (event_rows plan events)) ≡ map (shown_of plan) (event_rows plan events)
shown_from_start plan events ok = shown_rows plan events (start plan) [] ok ([], refl) (start_shown plan)
