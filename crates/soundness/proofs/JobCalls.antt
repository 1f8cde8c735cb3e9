-- A job with a call in progress is at a submit to the pool of the call.
use Rattle.std.proofs.Common.{◌≡◌, ◌≢◌, ℕ, ◌+◌, ◌<◌, true, false, List, [], ◌∷◌, ◌++◌, length, get_or, slice_get, ⊎_elim, Some, None, refl, sym, ap, subst, ◌∙◌, arith}
use Rattle.std.proofs.lemmas.Bool.{false≢true}
use Rattle.std.proofs.lemmas.List.{get_or-set_other, get_or_append_left}
use Rattle.job_bodies.specs.declared.action.Action.{Action}
use Rattle.job_bodies.specs.declared.action.Action.TheVariants as action
use Rattle.job_bodies.specs.Plan.{Plan, class_at}
use Rattle.pool_machine.specs.declared.parent.Parent.{Parent}
use Rattle.pool_machine.specs.declared.parent.Parent.TheVariants as parent
use Rattle.pool_machine.specs.declared.event.Event.{Event}
use Rattle.pool_machine.specs.declared.event.Event.TheVariants as event
use Rattle.pool_machine.specs.declared.event.Outcome.{Outcome}
use Rattle.pool_machine.specs.State.{Stage, State, CreatedJob, no_job, same_parent, job_at, pool_of}
use Rattle.pool_machine.specs.Step.{point_of_job, moved_jobs, new_job}
use Rattle.pool_machine.proofs.Events.{IsAtAction, event_of, Happens, works, starts, queues, is_refused, is_rejected, gets, finishes, loops, takes, retires}
use Rattle.pool_machine.proofs.Positions.{stage_of_standing, job_made}
use Rattle.pool_machine.proofs.StateInvariant.{StateInvariant}
use Rattle.pool_machine.proofs.Stages.{length-moved, get_or-staged_other}
use Rattle.pool_machine.proofs.Queues.{head_of_queue}
use Rattle.pool_machine.proofs.Children.{same_actor_refl}
use Rattle.soundness.specs.Execute.{Call, JavaState, JavaEvent, is_calling, without_calls, without_calls_of, submission_at, submission_of, submission}
use Rattle.soundness.proofs.JavaEvents.{JavaHappens, is_atomic, ends, finds_core, finds_full, finds_all, is_enough, starts_spare, call_of_others, one_more}

-- ---- jobs at a submit

-- the job is running, and its next action is a submit to pool p
pub record IsAtSubmitTo (plan : Plan) (job : CreatedJob) (p : ℕ) : Type 0 where
  pub position : ℕ
  pub submitted : ℕ
  pub stage : job.stage ≡ Stage.At position
  pub submits : slice_get (class_at plan job.class).body position ≡ Some (action.Submit submitted)
  pub to_pool : p ≡ pool_of plan submitted

-- a job at a submit of class k is at a submit to the pool of class k
pub is_at_submit_to : (plan : Plan) (s : State) (n : ℕ) (body : List Action) (i k : ℕ) → IsAtAction plan s (parent.Job n) body i (Some (action.Submit k)) → IsAtSubmitTo plan (job_at s n) (pool_of plan k)
is_at_submit_to plan s n body i k at =
    let was = stage_of_standing plan (job_at s n).class (job_at s n).stage body i at.stands in
    record { position = i; submitted = k; stage = was.0; submits = ap (λ (b : List Action). slice_get b i) (sym was.1) ∙ at.is_there; to_pool = refl }

-- the next event of a job at a submit is a step of that submit
submission_of_job : (plan : Plan) (s : State) (n p : ℕ) (before : IsAtSubmitTo plan (job_at s n) p) → submission plan s (event.Job n) ≡ Some (record { actor = parent.Job n; position = before.position; class = before.submitted })
submission_of_job plan s n p before =
    ap (λ (stage : Stage). submission_of (parent.Job n) (point_of_job plan (job_at s n).class stage)) before.stage ∙ ap (submission_at (parent.Job n) before.position) before.submits

-- ---- a job at a position is unchanged by an event of another actor

-- a job is unchanged if another actor changes its position
moved_leaves : (s : State) (a : Parent) (i n : ℕ) → a ≢ parent.Job n → get_or (moved_jobs a i s) n no_job ≡ job_at s n
moved_leaves s (parent.Client c) i n other = refl
moved_leaves s (parent.Job m) i n other = get_or-set_other s.jobs m n (record (job_at s m) { stage = Stage.At i }) no_job (λ (same : n ≡ m). other (ap parent.Job (sym same)))

-- a job is unchanged if another actor changes its position and submits a job
pub pushed_leaves : (s : State) (a : Parent) (i n : ℕ) (job : CreatedJob) → n < length s.jobs → a ≢ parent.Job n → get_or (moved_jobs a i s ++ job ∷ []) n no_job ≡ job_at s n
pushed_leaves s a i n job inside other = get_or_append_left (moved_jobs a i s) (job ∷ []) no_job n (omega (arith, length-moved s a i)) ∙ moved_leaves s a i n other

-- if an actor's event is not that of job n, the actor is not job n
other_actor : (a : Parent) (n : ℕ) → event_of a ≢ event.Job n → a ≢ parent.Job n
other_actor a n other same = other (ap event_of same)

-- a running job is unchanged by every event except its own
leaves : (plan : Plan) (s s' : State) (o : Outcome) (n i : ℕ) {e : Event} → StateInvariant plan s → (job_at s n).stage ≡ Stage.At i → e ≢ event.Job n → Happens plan s e s' o → job_at s' n ≡ job_at s n
leaves plan s s' o n i kept at other (works a body i' u standing) = moved_leaves s a (i' + 1) n (other_actor a n other)
leaves plan s s' o n i kept at other (starts a body i' k standing below) = pushed_leaves s a (i' + 1) n (new_job k a i' (Stage.At 0)) (job_made s n (λ claimed. cc)) (other_actor a n other)
leaves plan s s' o n i kept at other (queues a body i' k standing room) = pushed_leaves s a (i' + 1) n (new_job k a i' Stage.Queued) (job_made s n (λ claimed. cc)) (other_actor a n other)
leaves plan s s' o n i kept at other (is_refused a body i' k standing must no_room all_started) = refl
leaves plan s s' o n i kept at other (is_rejected a body i' k standing may) = pushed_leaves s a (i' + 1) n (new_job k a i' Stage.Done) (job_made s n (λ claimed. cc)) (other_actor a n other)
leaves plan s s' o n i kept at other (gets a body i' t j standing is_child done) =
    get_or-staged_other (moved_jobs a (i' + 1) s) j Stage.Claimed n no_job (λ (same : n ≡ j). let is_done : (job_at s n).stage ≡ Stage.Done = ap (λ (m : ℕ). (job_at s m).stage) same ∙ done in cc)
    ∙ moved_leaves s a (i' + 1) n (other_actor a n other)
leaves plan s s' o n i kept at other (finishes j body i' standing) = get_or-staged_other s.jobs j Stage.Done n no_job (λ (same : n ≡ j). other (ap event.Job (sym same)))
leaves plan s s' o n i kept at other (loops c client body i' standing is_client repeats) = refl
leaves plan s s' o n i kept at other (takes p j queue idle is_queue is_idle) =
    get_or-staged_other s.jobs j (Stage.At 0) n no_job
    (λ (same : n ≡ j). let queued : (job_at s n).stage ≡ Stage.Queued = ap (λ (m : ℕ). (job_at s m).stage) same ∙ (head_of_queue plan s p j queue kept is_queue).queued in cc)
leaves plan s s' o n i kept at other (retires p idle is_idle not_handed) = refl

-- a job at a submit is still at it after every event except its own
still_before : (plan : Plan) (s s' : State) (o : Outcome) (n p : ℕ) {e : Event} → StateInvariant plan s → e ≢ event.Job n → Happens plan s e s' o → IsAtSubmitTo plan (job_at s n) p → IsAtSubmitTo plan (job_at s' n) p
still_before plan s s' o n p kept other happened before = subst (λ (job : CreatedJob). IsAtSubmitTo plan job p) (sym (leaves plan s s' o n before.position kept before.stage other happened)) before

-- ---- the calls of jobs

pub record JobCalls (plan : Plan) (s : JavaState) : Type 0 where
  pub offering : (n p : ℕ) → is_calling s.offering (parent.Job n) p ≡ true → IsAtSubmitTo plan (job_at s.machine n) p
  pub requesting : (n p : ℕ) → is_calling s.requesting (parent.Job n) p ≡ true → IsAtSubmitTo plan (job_at s.machine n) p

-- for each call of a job in the list, the job is at a submit to the call's pool
abbrev AreBefore : Plan → State → List Call → Type 0
AreBefore plan s calls = (n p : ℕ) → is_calling calls (parent.Job n) p ≡ true → IsAtSubmitTo plan (job_at s n) p

-- a state with no call in progress satisfies `JobCalls`
pub job_calls_start : (plan : Plan) (s : State) → JobCalls plan (without_calls s)
job_calls_start plan s = record { offering = λ n p is_there. absurd (false≢true is_there); requesting = λ n p is_there. absurd (false≢true is_there) }

-- after an event that is not part of a submit, each job with a call in the list is still at its submit
before_atomic : (plan : Plan) (s s' : State) (o : Outcome) (e : Event) (calls : List Call) → StateInvariant plan s → submission plan s e ≡ None → Happens plan s e s' o → AreBefore plan s calls → AreBefore plan s' calls
before_atomic plan s s' o e calls kept none happened before n p is_there =
    let standing = before n p is_there in
    still_before plan s s' o n p kept
    (λ (own : e ≡ event.Job n). let some = ap (submission plan s) (sym own) in let one = submission_of_job plan s n p standing in absurd cc)
    happened standing

-- after the last step of a submit, each other job with a call in the list is still at its submit
before_end : (plan : Plan) (s s' : State) (o : Outcome) (a : Parent) (calls : List Call) → StateInvariant plan s → Happens plan s (event_of a) s' o → AreBefore plan s calls → AreBefore plan s' (without_calls_of a calls)
before_end plan s s' o a calls kept happened before n p is_there =
    let call = call_of_others a (parent.Job n) p calls is_there in
    still_before plan s s' o n p kept (own_event a n call.1) happened (before n p call.0)
  where
    own_event : (a : Parent) (n : ℕ) → same_parent a (parent.Job n) ≡ false → event_of a ≢ event.Job n
    own_event (parent.Client c) n other same = absurd cc
    own_event (parent.Job m) n other same =
        let one : m ≡ n = cc in
        absurd (false≢true (sym other ∙ ap (λ (x : ℕ). same_parent (parent.Job x) (parent.Job n)) one ∙ same_actor_refl (parent.Job n)))

-- after a call of an actor at a submit is added to the list, each job with a call in the list is at its submit
before_more : (plan : Plan) (s : State) (a : Parent) (body : List Action) (i k : ℕ) (calls : List Call) → IsAtAction plan s a body i (Some (action.Submit k)) → AreBefore plan s calls → AreBefore plan s (record { actor = a; pool = pool_of plan k } ∷ calls)
before_more plan s a body i k calls at before n p is_there =
    ⊎_elim
    (λ here.
    let standing = is_at_submit_to plan s n body i k (subst (λ (b : Parent). IsAtAction plan s b body i (Some (action.Submit k))) (sym here.0) at) in
    subst (IsAtSubmitTo plan (job_at s n)) (sym here.1) standing)
    (λ earlier. before n p earlier)
    (one_more (record { actor = a; pool = pool_of plan k }) calls (parent.Job n) p is_there)

-- after each event in Java's steps, each job with a call is still at its submit
pub job_calls_step : (plan : Plan) (s s' : JavaState) {e : JavaEvent} → StateInvariant plan s.machine → s'.machine.refusals ≡ s.machine.refusals → JobCalls plan s → JavaHappens plan s e s' → JobCalls plan s'
job_calls_step plan s s' kept as_many calls (is_atomic e after o looking none happened looks) = record {
  offering = before_atomic plan s.machine after o e s.offering kept none happened calls.offering;
  requesting = before_atomic plan s.machine after o e s.requesting kept none happened calls.requesting;
}
job_calls_step plan s s' kept as_many calls (ends a body i k after o looking at happened looks) = record {
  offering = before_end plan s.machine after o a s.offering kept happened calls.offering;
  requesting = before_end plan s.machine after o a s.requesting kept happened calls.requesting;
}
job_calls_step plan s s' kept as_many calls (finds_core a body i k at not_requesting not_offering at_core) = record {
  offering = before_more plan s.machine a body i k s.offering at calls.offering;
  requesting = calls.requesting;
}
job_calls_step plan s s' kept as_many calls (finds_full a body i k at not_requesting no_room) = record {
  offering = λ n p is_there. calls.offering n p (call_of_others a (parent.Job n) p s.offering is_there).0;
  requesting = before_more plan s.machine a body i k s.requesting at calls.requesting;
}
job_calls_step plan s s' kept as_many calls (finds_all a body i k at must requesting all_started) = absurd (omega arith)
job_calls_step plan s s' kept as_many calls (is_enough p is_there enough) = record { offering = calls.offering; requesting = calls.requesting }
job_calls_step plan s s' kept as_many calls (starts_spare p is_there below) = record { offering = calls.offering; requesting = calls.requesting }
