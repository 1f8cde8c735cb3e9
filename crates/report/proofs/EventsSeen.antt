-- The live views before and after an event show what the event does.
use Rattle.std.proofs.Common.{◌≡◌, ℕ, ◌+◌, ◌<◌, true, inl, inr, List, [], ◌∷◌, ◌++◌, length, get_or, slice_get, Option, Some, None, refl, sym, ap, ap₂, ◌∙◌, arith, length-set}
use Rattle.std.specs.Prelude.{option_map, option_and_then}
use Rattle.std.proofs.lemmas.Bool.{false≢true, cases_lt}
use Rattle.std.proofs.lemmas.List.{get_or_push, get_or_past, get_or-set_same}
use Rattle.std.proofs.lemmas.Option.{none-some, slice_get-get_or, slice_get_past}
use Rattle.support.proofs.PassingPlaces.{first_where}
use Rattle.job_bodies.specs.Plan.{Plan, no_pool}
use Rattle.job_bodies.specs.WellFormed.{IsWellFormed}
use Rattle.pool_machine.specs.PoolState.{PoolView}
use Rattle.pool_machine.specs.declared.client_state.ClientState.{ClientState}
use Rattle.pool_machine.specs.declared.event.Event.{Event}
use Rattle.pool_machine.specs.declared.event.Event.TheVariants as event
use Rattle.pool_machine.specs.declared.event.Outcome.{Outcome}
use Rattle.pool_machine.specs.declared.event.Outcome.TheVariants as outcome
use Rattle.pool_machine.specs.declared.parent.Parent.{Parent}
use Rattle.pool_machine.specs.declared.parent.Parent.TheVariants as parent
use Rattle.pool_machine.specs.State.{Stage, State, CreatedJob, no_job, no_client_state, job_at, is_unfinished, is_queued_in, pool_of, pool_seen}
use Rattle.pool_machine.specs.Step.{step, step_at_point, point_of_job, moved_jobs}
use Rattle.pool_machine.specs.Reach.{start, state_after, IsReached}
use Rattle.pool_machine.proofs.Queues.{pool_exists}
use Rattle.pool_machine.proofs.Reached.{kept}
use Rattle.pool_machine.proofs.StateInvariant.{StateInvariant}
use Rattle.pool_machine.proofs.Events.{Happens, works, starts, queues, is_refused, is_rejected, gets, finishes, loops, takes, retires, happens}
use Rattle.interleaving.specs.declared.job_view.Phase.TheVariants as phase
use Rattle.interleaving.specs.LiveView.{live_view}
use Rattle.interleaving.specs.ViewStep.{no_pool_view}
use Rattle.interleaving.proofs.View.{view_at, length-pools, pool_at_view}
use Rattle.interleaving.proofs.Changes.{seen_at}
use Rattle.report.specs.declared.event_steps.Actor.{Actor}
use Rattle.report.specs.declared.event_steps.Actor.TheVariants as actor
use Rattle.report.specs.declared.event_steps.PoolCounts.{PoolCounts}
use Rattle.report.specs.EventRows.{row_of, rows_from}
use Rattle.report.specs.EventSteps.{actor_of, position_at, position_of, changed_pool, counts_of, taken_class, step_of}
use Rattle.report.specs.Performed as seen

-- ---- jobs

-- a job that performs an event is at a position of its body
runs_if : (plan : Plan) (s : State) (j k : ℕ) (x : State × Outcome) (stage : Stage) → step_at_point plan s (parent.Job j) (point_of_job plan k stage) ≡ Some x → (i : ℕ) × (stage ≡ Stage.At i)
runs_if plan s j k x (Stage.At i) e = (i, refl)
runs_if plan s j k x Stage.Queued e = absurd (none-some x e)
runs_if plan s j k x Stage.Done e = absurd (none-some x e)
runs_if plan s j k x Stage.Claimed e = absurd (none-some x e)

runs_at : (plan : Plan) (s : State) (j : ℕ) (x : State × Outcome) → step plan s (event.Job j) ≡ Some x → (i : ℕ) × ((job_at s j).stage ≡ Stage.At i)
runs_at plan s j x e = runs_if plan s j (job_at s j).class x (job_at s j).stage e

class_at_stage : (plan : Plan) (s : State) (j : ℕ) (stage : Stage) → (job_at s j).stage ≡ stage → is_unfinished stage ≡ true → seen.class_seen (live_view plan s) j ≡ (job_at s j).class
class_at_stage plan s j Stage.Queued at e = ap seen.class_or (view_at plan s j ∙ seen_at s j Stage.Queued phase.Queued at refl)
class_at_stage plan s j (Stage.At i) at e = ap seen.class_or (view_at plan s j ∙ seen_at s j (Stage.At i) (phase.At i) at refl)
class_at_stage plan s j Stage.Done at e = absurd (false≢true e)
class_at_stage plan s j Stage.Claimed at e = absurd (false≢true e)

-- the live view shows the class of an unfinished job
pub class_shown : (plan : Plan) (s : State) (j : ℕ) → is_unfinished (job_at s j).stage ≡ true → seen.class_seen (live_view plan s) j ≡ (job_at s j).class
class_shown plan s j e = class_at_stage plan s j (job_at s j).stage refl e

-- the job that a submit made is unfinished
abbrev MadeIsUnfinished : State → Outcome → Type 0
MadeIsUnfinished s (outcome.Started j) = is_unfinished (job_at s j).stage ≡ true
MadeIsUnfinished s (outcome.Queued j) = is_unfinished (job_at s j).stage ≡ true
MadeIsUnfinished s _ = Unit {0}

pub length-moved : (a : Parent) (i : ℕ) (s : State) → length (moved_jobs a i s) ≡ length s.jobs
length-moved (parent.Client c) i s = refl
length-moved (parent.Job j) i s = length-set s.jobs j (record (job_at s j) { stage = Stage.At i })

pub made_last : (jobs : List CreatedJob) (n : ℕ) (job : CreatedJob) → length jobs ≡ n → get_or (jobs ++ job ∷ []) n no_job ≡ job
made_last jobs n job long = get_or_push jobs job no_job n long

made_unfinished : (plan : Plan) (s s' : State) (o : Outcome) {e : Event} → Happens plan s e s' o → MadeIsUnfinished s' o
made_unfinished plan s s' o (works a body i u at) = tt
made_unfinished plan s s' o (starts a body i k at room) =
    ap (λ (job : CreatedJob). is_unfinished job.stage) (made_last (moved_jobs a (i + 1) s) (length s.jobs) (record { class = k; parent = a; slot = i; stage = Stage.At 0 }) (length-moved a (i + 1) s))
made_unfinished plan s s' o (queues a body i k at room) =
    ap (λ (job : CreatedJob). is_unfinished job.stage) (made_last (moved_jobs a (i + 1) s) (length s.jobs) (record { class = k; parent = a; slot = i; stage = Stage.Queued }) (length-moved a (i + 1) s))
made_unfinished plan s s' o (is_refused a body i k at must no_room all) = tt
made_unfinished plan s s' o (is_rejected a body i k at may) = tt
made_unfinished plan s s' o (gets a body i t j at is_child done) = tt
made_unfinished plan s s' o (finishes j body i at) = tt
made_unfinished plan s s' o (loops c client body i at is_client repeats) = tt
made_unfinished plan s s' o (takes p j queue idle is_queue is_idle) = tt
made_unfinished plan s s' o (retires p idle is_idle not_handed) = tt

-- a job that a thread took is unfinished
abbrev TakenIsUnfinished : State → Outcome → Type 0
TakenIsUnfinished s (outcome.Took j) = is_unfinished (job_at s j).stage ≡ true
TakenIsUnfinished s _ = Unit {0}

taken_unfinished : (plan : Plan) (s s' : State) (o : Outcome) {e : Event} → StateInvariant plan s → Happens plan s e s' o → TakenIsUnfinished s' o
taken_unfinished plan s s' o kept (works a body i u at) = tt
taken_unfinished plan s s' o kept (starts a body i k at room) = tt
taken_unfinished plan s s' o kept (queues a body i k at room) = tt
taken_unfinished plan s s' o kept (is_refused a body i k at must no_room all) = tt
taken_unfinished plan s s' o kept (is_rejected a body i k at may) = tt
taken_unfinished plan s s' o kept (gets a body i t j at is_child done) = tt
taken_unfinished plan s s' o kept (finishes j body i at) = tt
taken_unfinished plan s s' o kept (loops c client body i at is_client repeats) = tt
taken_unfinished plan s s' o kept (takes q j queue idle is_queue is_idle) =
    let inside : q < length s.pools = pool_exists s q j queue is_queue in
    let exists : q < length plan.pools = omega (arith, kept.as_many) in
    let first = first_where (is_queued_in plan q) s.jobs j queue (sym (kept.pools q exists).queue ∙ is_queue) in
    ap (λ (job : CreatedJob). is_unfinished job.stage) (get_or-set_same s.jobs j (record (job_at s j) { stage = Stage.At 0 }) no_job first.inside)
taken_unfinished plan s s' o kept (retires p idle is_idle not_handed) = tt

taken_shown_of : (plan : Plan) (s : State) (o : Outcome) → TakenIsUnfinished s o → seen.taken_seen (live_view plan s) o ≡ taken_class s o
taken_shown_of plan s (outcome.Started j) live = refl
taken_shown_of plan s (outcome.Queued j) live = refl
taken_shown_of plan s (outcome.Refused p) live = refl
taken_shown_of plan s (outcome.Rejected p j) live = refl
taken_shown_of plan s (outcome.Worked u) live = refl
taken_shown_of plan s (outcome.Got j) live = refl
taken_shown_of plan s outcome.Looped live = refl
taken_shown_of plan s (outcome.Finished j) live = refl
taken_shown_of plan s (outcome.Took j) live = ap Some (class_shown plan s j live)
taken_shown_of plan s outcome.Retired live = refl

pub taken_shown : (plan : Plan) (s s' : State) (e : Event) (o : Outcome) → IsWellFormed plan → IsReached plan s → step plan s e ≡ Some (s', o) → seen.taken_seen (live_view plan s') o ≡ taken_class s' o
taken_shown plan s s' e o ok reached is_step = taken_shown_of plan s' o (taken_unfinished plan s s' o (kept plan s ok reached) (happens plan s e s' o is_step))

-- ---- the actor

kind_shown : (clients : List ClientState) (c : ℕ) → seen.kind_or (slice_get clients c) ≡ (get_or clients c no_client_state).kind
kind_shown clients c = elim (cases_lt c (length clients)) [
  | inl inside ↦ ap seen.kind_or (slice_get-get_or clients c no_client_state inside)
  | inr past ↦ ap seen.kind_or (slice_get_past clients c past) ∙ sym (ap (λ (client : ClientState). client.kind) (get_or_past clients c no_client_state past))
]

client_position_shown : (clients : List ClientState) (c : ℕ) → seen.client_position_or (slice_get clients c) ≡ (get_or clients c no_client_state).position
client_position_shown clients c = elim (cases_lt c (length clients)) [
  | inl inside ↦ ap seen.client_position_or (slice_get-get_or clients c no_client_state inside)
  | inr past ↦ ap seen.client_position_or (slice_get_past clients c past) ∙ sym (ap (λ (client : ClientState). client.position) (get_or_past clients c no_client_state past))
]

pub actor_shown : (plan : Plan) (s : State) (e : Event) (x : State × Outcome) → step plan s e ≡ Some x → seen.actor_seen (start plan).clients (live_view plan s) e ≡ actor_of plan s e
actor_shown plan s (event.Client c) x is_step = ap (λ (kind : ℕ). actor.Client kind c) (kind_shown (start plan).clients c)
actor_shown plan s (event.Job j) x is_step =
    let at = runs_at plan s j x is_step in
    ap (λ (class : ℕ). actor.Job class j) (class_shown plan s j (ap is_unfinished at.1))
actor_shown plan s (event.Take p) x is_step = refl
actor_shown plan s (event.Retire p) x is_step = refl

pub position_shown : (plan : Plan) (s : State) (e : Event) (x : State × Outcome) → step plan s e ≡ Some x → seen.position_seen (live_view plan s) e ≡ position_of s e
position_shown plan s (event.Client c) x is_step = client_position_shown s.clients c
position_shown plan s (event.Job j) x is_step =
    let at = runs_at plan s j x is_step in
    ap seen.position_or (view_at plan s j ∙ seen_at s j (Stage.At at.0) (phase.At at.0) at.1 refl) ∙ sym (ap position_at at.1)
position_shown plan s (event.Take p) x is_step = refl
position_shown plan s (event.Retire p) x is_step = refl

-- ---- the pool

pool_shown_of : (plan : Plan) (s : State) (a : Actor) (o : Outcome) → MadeIsUnfinished s o → seen.changed_pool_seen plan (live_view plan s) a o ≡ changed_pool plan s a o
pool_shown_of plan s a (outcome.Started j) live = ap (λ (class : ℕ). Some (pool_of plan class)) (class_shown plan s j live)
pool_shown_of plan s a (outcome.Queued j) live = ap (λ (class : ℕ). Some (pool_of plan class)) (class_shown plan s j live)
pool_shown_of plan s a (outcome.Refused p) live = refl
pool_shown_of plan s a (outcome.Rejected p j) live = refl
pool_shown_of plan s a (outcome.Worked u) live = refl
pool_shown_of plan s a (outcome.Got j) live = refl
pool_shown_of plan s a outcome.Looped live = refl
pool_shown_of plan s a (outcome.Finished j) live = refl
pool_shown_of plan s a (outcome.Took j) live = refl
pool_shown_of plan s a outcome.Retired live = refl

pub pool_shown : (plan : Plan) (s s' : State) (e : Event) (o : Outcome) (a : Actor) → step plan s e ≡ Some (s', o) → seen.changed_pool_seen plan (live_view plan s') a o ≡ changed_pool plan s' a o
pool_shown plan s s' e o a is_step = pool_shown_of plan s' a o (made_unfinished plan s s' o (happens plan s e s' o is_step))

abbrev pub counted : ℕ → PoolView → PoolCounts
counted p pool = record { number = p; threads = pool.threads; idle = pool.idle }

counts_at : (plan : Plan) (s : State) (p : ℕ) → seen.pool_counts (live_view plan s) p ≡ counts_of plan s p
counts_at plan s p = elim (cases_lt p (length plan.pools)) [
  | inl inside ↦
      let long = length-pools plan s in
      let within : p < length (live_view plan s).pools = omega arith in
      ap (option_map (counted p)) (slice_get-get_or (live_view plan s).pools p no_pool_view within ∙ ap Some (pool_at_view plan s p inside))
      ∙ sym (ap (option_map (λ pool. counted p (pool_seen plan s p))) (slice_get-get_or plan.pools p no_pool inside))
  | inr past ↦
      let long = length-pools plan s in
      ap (option_map (counted p)) (slice_get_past (live_view plan s).pools p (omega arith))
      ∙ sym (ap (option_map (λ pool. counted p (pool_seen plan s p))) (slice_get_past plan.pools p past))
]

counts_if : (plan : Plan) (s : State) (pool : Option ℕ) → seen.counts_seen (live_view plan s) pool ≡ option_and_then (counts_of plan s) pool
counts_if plan s None = refl
counts_if plan s (Some p) = counts_at plan s p

-- ---- a step

-- what the code makes of the event is what the event did
pub step_shown : (plan : Plan) (s s' : State) (e : Event) (o : Outcome) (a : Actor) (i : ℕ) (pool : Option ℕ) (counts : Option PoolCounts) (action taken : Option ℕ) → step plan s e ≡ Some (s', o)
    → a ≡ actor_of plan s e → action ≡ (step_of plan (record { event = e; before = s; outcome = o; after = s' })).action → pool ≡ changed_pool plan s' a o → counts ≡ seen.counts_seen (live_view plan s') pool
    → taken ≡ taken_class s' o → record { actor = a; action = action; outcome = o; pool = counts; taken = taken } ≡ step_of plan (record { event = e; before = s; outcome = o; after = s' })
step_shown plan s s' e o a i pool counts action taken is_step is_actor is_action is_pool is_counts is_taken =
    let all_counts : counts ≡ option_and_then (counts_of plan s') (changed_pool plan s' (actor_of plan s e) o) =
    is_counts ∙ ap (seen.counts_seen (live_view plan s')) (is_pool ∙ ap (λ (x : Actor). changed_pool plan s' x o) is_actor) ∙ counts_if plan s' (changed_pool plan s' (actor_of plan s e) o) in
    ap (λ (x : Actor). record { actor = x; action = action; outcome = o; pool = counts; taken = taken }) is_actor
    ∙ ap₂ (λ (x : Option ℕ) (y : Option PoolCounts). record { actor = actor_of plan s e; action = x; outcome = o; pool = y; taken = taken }) is_action all_counts
    ∙ ap (λ (x : Option ℕ). record (step_of plan (record { event = e; before = s; outcome = o; after = s' })) { taken = x }) is_taken

-- ---- lists of events

rows_of_none : (plan : Plan) (events : List Event) → rows_from plan None events ≡ []
rows_of_none plan [] = refl
rows_of_none plan (e ∷ events) = refl

abbrev Result : Type 0
Result = Option (State × Outcome)

-- an event that is not possible ends the rows
pub rows_end : (plan : Plan) (s : State) (e : Event) (events : List Event) → step plan s e ≡ None → rows_from plan (Some s) (e ∷ events) ≡ []
rows_end plan s e events is_step =
    ap (λ (x : Result). row_of s e x ++ rows_from plan (state_after x) events) is_step ∙ rows_of_none plan events

pub rows_more : (plan : Plan) (s s' : State) (e : Event) (o : Outcome) (events : List Event) → step plan s e ≡ Some (s', o)
    → rows_from plan (Some s) (e ∷ events) ≡ record { event = e; before = s; outcome = o; after = s' } ∷ rows_from plan (Some s') events
rows_more plan s s' e o events is_step = ap (λ (x : Result). row_of s e x ++ rows_from plan (state_after x) events) is_step
