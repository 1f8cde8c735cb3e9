-- The cost of a job event or a take: three times the remaining work, minus the completed steps of calls, falls by at least one.
use Rattle.std.proofs.Common.{◌≡◌, ◌≢◌, ℕ, ◌+◌, ◌*◌, ◌<◌, ◌≤◌, ⊎_elim, Bool, true, false, List, ◌∷◌, length, get_or, slice_get, Some, refl, sym, ap, ap₂, subst, ◌∙◌, arith, zero-add, ◌⊎◌, inr}
use Rattle.std.specs.List.{enumerate_from}
use Rattle.std.proofs.lemmas.Bool.{false≢true, false_from_ne_true, cases_eq, ne_eqb}
use Rattle.std.proofs.lemmas.List.{length_push, get_or_default}
use Rattle.std.proofs.lemmas.Option.{slice_get_within}
use Rattle.support.proofs.Sums.{sum_by-add, sum_by-le-within}
use Rattle.job_bodies.specs.declared.action.Action.{Action}
use Rattle.job_bodies.specs.declared.action.Action.TheVariants as action
use Rattle.job_bodies.specs.Plan.{Plan, class_at}
use Rattle.weights.specs.Ranks.{Ranks}
use Rattle.pool_machine.specs.declared.parent.Parent.TheVariants as parent
use Rattle.pool_machine.specs.declared.event.Event.{Event}
use Rattle.pool_machine.specs.declared.event.Event.TheVariants as event
use Rattle.pool_machine.specs.declared.event.Outcome.{Outcome}
use Rattle.pool_machine.specs.State.{Stage, State, CreatedJob, no_job, job_at, pool_of}
use Rattle.pool_machine.specs.Step.{moved_jobs, new_job}
use Rattle.pool_machine.proofs.Events.{IsAtAction, Happens, works, starts, queues, is_refused, is_rejected, gets, finishes, loops, takes, retires}
use Rattle.pool_machine.proofs.Positions.{standing_made}
use Rattle.pool_machine.proofs.StateInvariant.{StateInvariant}
use Rattle.pool_machine.proofs.Stages.{length-staged, length-moved}
use Rattle.soundness.specs.Drain.{stage_todo, todo}
use Rattle.soundness.proofs.RankLaws.{RankLaws}
use Rattle.soundness.proofs.Draining.{lowers, ends_thread, no_client_cases, not_counted, no_actor, same_jobs, same_todo}
use Rattle.soundness.specs.Execute.{Call, JavaState, JavaEvent, is_calling, without_calls_of}
use Rattle.soundness.specs.JavaSafe.{is_java_job_or_take, is_of_no_java_client}
use Rattle.soundness.proofs.JavaEvents.{JavaHappens, is_atomic, ends, finds_core, finds_full, finds_all, is_enough, starts_spare}
use Rattle.soundness.proofs.JobCalls.{IsAtSubmitTo, is_at_submit_to, JobCalls}
use Rattle.soundness.proofs.CompletedSteps.{has_call, steps_done, mark, steps_done-le, mark-le, mark-le_two, has_call_to, others_have_call, more_has_call, new_has_call, by_place, by_place-longer, by_place-more, by_place-but_one, sum_of_elements}

-- ---- the jobs of a state

-- no event removes a job
no_fewer_jobs : (plan : Plan) (s s' : State) (o : Outcome) {e : Event} → Happens plan s e s' o → length s.jobs ≤ length s'.jobs
no_fewer_jobs plan s s' o (works a body i u at) = omega (arith, length-moved s a (i + 1))
no_fewer_jobs plan s s' o (starts a body i k at below) = omega (arith, length-moved s a (i + 1), length_push (moved_jobs a (i + 1) s) (new_job k a i (Stage.At 0)))
no_fewer_jobs plan s s' o (queues a body i k at room) = omega (arith, length-moved s a (i + 1), length_push (moved_jobs a (i + 1) s) (new_job k a i Stage.Queued))
no_fewer_jobs plan s s' o (is_refused a body i k at must no_room all_started) = omega arith
no_fewer_jobs plan s s' o (is_rejected a body i k at may) = omega (arith, length-moved s a (i + 1), length_push (moved_jobs a (i + 1) s) (new_job k a i Stage.Done))
no_fewer_jobs plan s s' o (gets a body i t j at is_child done) = omega (arith, length-moved s a (i + 1), length-staged (moved_jobs a (i + 1) s) j Stage.Claimed)
no_fewer_jobs plan s s' o (finishes j body i at) = omega (arith, length-staged s.jobs j Stage.Done)
no_fewer_jobs plan s s' o (loops c client body i at is_client repeats) = omega arith
no_fewer_jobs plan s s' o (takes p j queue idle is_queue is_idle) = omega (arith, length-staged s.jobs j (Stage.At 0))
no_fewer_jobs plan s s' o (retires p idle is_idle not_handed) = omega arith

-- ---- the completed steps of the calls in progress

abbrev pub calls_done : JavaState → ℕ
calls_done s = by_place (mark s) 0 s.machine.jobs

-- if the calls of one job end, the total number of completed steps falls by at most two
calls_done-ended : (s s' : JavaState) (n : ℕ) → s'.offering ≡ without_calls_of (parent.Job n) s.offering → s'.requesting ≡ without_calls_of (parent.Job n) s.requesting → length s.machine.jobs ≤ length s'.machine.jobs → calls_done s ≤ calls_done s' + 2
calls_done-ended s s' n offering requesting longer =
    let fewer = by_place-but_one (mark s) (mark s') n 2 (omega (arith, mark-le_two s n))
    (λ i other. mark-le s s' i (λ has_this_call. stays i other s.requesting s'.requesting requesting has_this_call) (λ has_this_call. stays i other s.offering s'.offering offering has_this_call)) 0 s.machine.jobs in
    omega (arith, by_place-longer (mark s') 0 s.machine.jobs s'.machine.jobs longer)
  where
    stays : (i : ℕ) → i ≢ n → (calls calls' : List Call) → calls' ≡ without_calls_of (parent.Job n) calls → has_call calls i ≡ true → has_call calls' i ≡ true
    stays i other calls calls' are_others has_this_call =
        subst (λ (x : List Call). has_call x i ≡ true) (sym are_others)
        (others_have_call (parent.Job n) calls i (ne_eqb n i (λ (same : n ≡ i). other (sym same))) has_this_call)

-- if one job reaches the next step of its call, the total number of completed steps rises by at least one
calls_done-more : (s s' : JavaState) (n : ℕ) → n < length s.machine.jobs → s'.machine ≡ s.machine → mark s n + 1 ≤ mark s' n → ((i : ℕ) → i ≢ n → mark s i ≤ mark s' i) → calls_done s + 1 ≤ calls_done s'
calls_done-more s s' n inside same here others =
    subst (λ (x : State). calls_done s + 1 ≤ by_place (mark s') 0 x.jobs) (sym same)
    (by_place-more (mark s) (mark s') n 0 s.machine.jobs (omega arith) (omega arith) here
    (λ i. ⊎_elim (λ (own : i ≡ n). subst (λ (x : ℕ). mark s x ≤ mark s' x) (sym own) (omega arith)) (λ other. others i other) (cases_eq i n)))

-- a job is at a submit to one pool only
pub one_pool : (plan : Plan) (job : CreatedJob) (p q : ℕ) → IsAtSubmitTo plan job p → IsAtSubmitTo plan job q → p ≡ q
one_pool plan job p q first second =
    let stages : Stage.At first.position ≡ Stage.At second.position = sym first.stage ∙ second.stage in
    let place : first.position ≡ second.position = cc in
    let submits : Some (action.Submit first.submitted) ≡ Some (action.Submit second.submitted) = sym first.submits ∙ ap (slice_get (class_at plan job.class).body) place ∙ second.submits in
    let class : first.submitted ≡ second.submitted = cc in
    first.to_pool ∙ ap (pool_of plan) class ∙ sym second.to_pool

-- if a job is at a submit to a pool and has no call to that pool in the list, it has no call in the list
has_no_call : (plan : Plan) (job : CreatedJob) (n p : ℕ) (calls : List Call) → ((q : ℕ) → is_calling calls (parent.Job n) q ≡ true → IsAtSubmitTo plan job q) → IsAtSubmitTo plan job p → is_calling calls (parent.Job n) p ≡ false → has_call calls n ≡ false
has_no_call plan job n p calls each here not_calling =
    false_from_ne_true (has_call calls n)
    (λ has_this_call.
    let to = has_call_to calls n has_this_call in
    let same = one_pool plan job to.0 p (each to.0 to.1) here in
    false≢true (sym not_calling ∙ ap (is_calling calls (parent.Job n)) (sym same) ∙ to.1))

-- if a job's first step finds at least core threads, the total number of completed steps rises by at least one
core_found : (plan : Plan) (s : JavaState) (n : ℕ) (body : List Action) (i k : ℕ) → JobCalls plan s → IsAtAction plan s.machine (parent.Job n) body i (Some (action.Submit k)) → is_calling s.requesting (parent.Job n) (pool_of plan k) ≡ false
    → is_calling s.offering (parent.Job n) (pool_of plan k) ≡ false → calls_done s + 1 ≤ calls_done (record s { offering = record { actor = parent.Job n; pool = pool_of plan k } ∷ s.offering })
core_found plan s n body i k calls at not_requesting not_offering =
    let p = pool_of plan k in
    let job = job_at s.machine n in
    let call : Call = record { actor = parent.Job n; pool = p } in
    let after : JavaState = record s { offering = call ∷ s.offering } in
    let here = is_at_submit_to plan s.machine n body i k at in
    let requests_thread = has_no_call plan job n p s.requesting (calls.requesting n) here not_requesting in
    let offers_job = has_no_call plan job n p s.offering (calls.offering n) here not_offering in
    let before_is : mark s n ≡ 0 = ap₂ steps_done requests_thread offers_job in
    let after_is : mark after n ≡ 1 = ap₂ steps_done requests_thread (new_has_call n p s.offering) in
    calls_done-more s after n (standing_made plan s.machine n body i at.stands) refl (omega arith) (λ j other. mark-le s after j (λ it. it) (λ it. more_has_call call s.offering j it))

-- if a job's second step finds the queue full, the total number of completed steps rises by at least one
full_found : (plan : Plan) (s : JavaState) (n : ℕ) (body : List Action) (i k : ℕ) → JobCalls plan s → IsAtAction plan s.machine (parent.Job n) body i (Some (action.Submit k)) → is_calling s.requesting (parent.Job n) (pool_of plan k) ≡ false
    → calls_done s + 1 ≤ calls_done (record s { offering = without_calls_of (parent.Job n) s.offering; requesting = record { actor = parent.Job n; pool = pool_of plan k } ∷ s.requesting })
full_found plan s n body i k calls at not_requesting =
    let p = pool_of plan k in
    let call : Call = record { actor = parent.Job n; pool = p } in
    let after : JavaState = record s { offering = without_calls_of (parent.Job n) s.offering; requesting = call ∷ s.requesting } in
    let requests_thread = has_no_call plan (job_at s.machine n) n p s.requesting (calls.requesting n) (is_at_submit_to plan s.machine n body i k at) not_requesting in
    let before_is : mark s n ≤ 1 = steps_done-le (has_call s.requesting n) (has_call s.offering n) false true (λ it. sym requests_thread ∙ it) (λ it. refl) in
    let after_is : mark after n ≡ 2 = ap (λ (b : Bool). steps_done b (has_call after.offering n)) (new_has_call n p s.requesting) in
    calls_done-more s after n (standing_made plan s.machine n body i at.stands) refl (omega arith)
    (λ j other. mark-le s after j (λ it. more_has_call call s.requesting j it) (λ it. others_have_call (parent.Job n) s.offering j (ne_eqb n j (λ (same : n ≡ j). other (sym same))) it))

-- ---- the cost of an event

abbrev pub Costs : Plan → Ranks → JavaState → JavaState → Type 0
Costs plan ranks s s' = 3 * todo plan ranks s'.machine + calls_done s + 1 ≤ 3 * todo plan ranks s.machine + calls_done s'

-- each job event and each take costs at least one
pub costs : (plan : Plan) (ranks : Ranks) (s s' : JavaState) (e : JavaEvent) → RankLaws plan ranks → StateInvariant plan s.machine → s.machine.refusals ≡ 0 → s'.machine.refusals ≡ 0 → JobCalls plan s → is_java_job_or_take e ≡ true → JavaHappens plan s e s' → Costs plan ranks s s'
costs plan ranks s s' e laws kept none none' calls of_job_or_pool (is_atomic f after o looking no_submit happened looks) =
    omega (arith, lowers plan ranks s.machine after o f laws kept none none' of_job_or_pool happened, by_place-longer (mark s) 0 s.machine.jobs after.jobs (no_fewer_jobs plan s.machine after o happened))
costs plan ranks s s' e laws kept none none' calls of_job_or_pool (ends (parent.Client c) body i k after o looking at happened looks) = absurd cc
costs plan ranks s s' e laws kept none none' calls of_job_or_pool (ends (parent.Job n) body i k after o looking at happened looks) =
    omega (arith, lowers plan ranks s.machine after o (event.Job n) laws kept none none' of_job_or_pool happened, calls_done-ended s s' n refl refl (no_fewer_jobs plan s.machine after o happened))
costs plan ranks s s' e laws kept none none' calls of_job_or_pool (finds_core (parent.Client c) body i k at not_requesting not_offering at_core) = absurd cc
costs plan ranks s s' e laws kept none none' calls of_job_or_pool (finds_core (parent.Job n) body i k at not_requesting not_offering at_core) = omega (arith, core_found plan s n body i k calls at not_requesting not_offering)
costs plan ranks s s' e laws kept none none' calls of_job_or_pool (finds_full (parent.Client c) body i k at not_requesting no_room) = absurd cc
costs plan ranks s s' e laws kept none none' calls of_job_or_pool (finds_full (parent.Job n) body i k at not_requesting no_room) = omega (arith, full_found plan s n body i k calls at not_requesting)
costs plan ranks s s' e laws kept none none' calls of_job_or_pool (finds_all a body i k at must requesting all_started) = absurd (omega arith)
costs plan ranks s s' e laws kept none none' calls of_job_or_pool (is_enough p is_there enough) = absurd cc
costs plan ranks s s' e laws kept none none' calls of_job_or_pool (starts_spare p is_there below) = absurd cc

-- ---- the end of a thread, and a look at a pool

-- whether the event is the end of a thread or a look at a pool
abbrev pub is_of_threads : JavaEvent → Bool
is_of_threads (JavaEvent.Acts e) = ends_thread e
is_of_threads _ = true

-- each event of no client is a job event, a take, the end of a thread or a look at a pool
pub java_cases : (e : JavaEvent) → is_of_no_java_client e ≡ true → (is_java_job_or_take e ≡ true) ⊎ (is_of_threads e ≡ true)
java_cases (JavaEvent.Acts e) of_no_client = no_client_cases e of_no_client
java_cases (JavaEvent.Leaves p) of_no_client = inr refl
java_cases (JavaEvent.Spares p) of_no_client = inr refl

-- the end of a thread and a look at a pool are neither job events nor takes
pub java_not_counted : (e : JavaEvent) → is_of_threads e ≡ true → is_java_job_or_take e ≡ false
java_not_counted (JavaEvent.Acts e) is_end = not_counted e is_end
java_not_counted (JavaEvent.Leaves p) is_end = refl
java_not_counted (JavaEvent.Spares p) is_end = refl

-- the end of a thread and a look at a pool change neither the remaining work nor the completed steps, so they cost nothing
pub costs_nothing : (plan : Plan) (ranks : Ranks) (s s' : JavaState) (e : JavaEvent) → is_of_threads e ≡ true → JavaHappens plan s e s' → 3 * todo plan ranks s'.machine + calls_done s ≤ 3 * todo plan ranks s.machine + calls_done s'
costs_nothing plan ranks s s' e is_end (is_atomic f after o looking no_submit happened looks) =
    let todo_is = same_todo plan ranks s.machine after o is_end happened in
    let done_is : calls_done (record s { machine = after }) ≡ calls_done s = ap (λ (jobs : List CreatedJob). by_place (mark s) 0 jobs) (same_jobs plan s.machine after o is_end happened) in
    omega arith
costs_nothing plan ranks s s' e is_end (ends a body i k after o looking at happened looks) = absurd (no_actor a is_end)
costs_nothing plan ranks s s' e is_end (finds_core a body i k at not_requesting not_offering at_core) = absurd (no_actor a is_end)
costs_nothing plan ranks s s' e is_end (finds_full a body i k at not_requesting no_room) = absurd (no_actor a is_end)
costs_nothing plan ranks s s' e is_end (finds_all a body i k at must requesting all_started) = absurd (no_actor a is_end)
costs_nothing plan ranks s s' e is_end (is_enough p is_there enough) = omega arith
costs_nothing plan ranks s s' e is_end (starts_spare p is_there below) = omega arith

-- ---- a job in a call has remaining work

-- a job at a submit has remaining work
todo_before_submit : (plan : Plan) (ranks : Ranks) (job : CreatedJob) (p : ℕ) → IsAtSubmitTo plan job p → 1 ≤ stage_todo plan ranks job.class job.stage
todo_before_submit plan ranks job p before =
    let inside = slice_get_within (class_at plan job.class).body before.position (action.Submit before.submitted) before.submits in
    let todo_is = ap (stage_todo plan ranks job.class) before.stage in
    omega arith

-- the number of completed steps of a job is at most twice its remaining work
mark-le_todo : (plan : Plan) (ranks : Ranks) (s : JavaState) (n : ℕ) → JobCalls plan s → (requesting offering : Bool) → has_call s.requesting n ≡ requesting → has_call s.offering n ≡ offering
    → mark s n ≤ stage_todo plan ranks (job_at s.machine n).class (job_at s.machine n).stage + stage_todo plan ranks (job_at s.machine n).class (job_at s.machine n).stage
mark-le_todo plan ranks s n calls true offering requests_thread offers_job =
    let to = has_call_to s.requesting n requests_thread in
    omega (arith, mark-le_two s n, todo_before_submit plan ranks (job_at s.machine n) to.0 (calls.requesting n to.0 to.1))
mark-le_todo plan ranks s n calls false true requests_thread offers_job =
    let to = has_call_to s.offering n offers_job in
    omega (arith, mark-le_two s n, todo_before_submit plan ranks (job_at s.machine n) to.0 (calls.offering n to.0 to.1))
mark-le_todo plan ranks s n calls false false requests_thread offers_job = let none : mark s n ≡ 0 = ap₂ steps_done requests_thread offers_job in omega arith

pub calls_done-le : (plan : Plan) (ranks : Ranks) (s : JavaState) → JobCalls plan s → calls_done s ≤ todo plan ranks s.machine + todo plan ranks s.machine
calls_done-le plan ranks s calls =
    let jobs = s.machine.jobs in
    let todo_of = λ (job : CreatedJob). stage_todo plan ranks job.class job.stage in
    let each =
    sum_by-le-within (λ (entry : ℕ × CreatedJob). mark s entry.0) (λ (entry : ℕ × CreatedJob). todo_of entry.1 + todo_of entry.1) 0 jobs
    (λ p d inside.
    subst (λ (q : ℕ). mark s q ≤ todo_of (get_or jobs p d) + todo_of (get_or jobs p d)) (sym (zero-add p))
    (subst (λ (job : CreatedJob). mark s p ≤ todo_of job + todo_of job) (sym (get_or_default jobs p d no_job inside)) (mark-le_todo plan ranks s p calls (has_call s.requesting p) (has_call s.offering p) refl refl))) in
    omega (arith, each, sum_by-add (λ (entry : ℕ × CreatedJob). todo_of entry.1) (λ (entry : ℕ × CreatedJob). todo_of entry.1) (enumerate_from 0 jobs), sum_of_elements todo_of 0 jobs)
