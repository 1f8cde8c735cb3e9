-- Each job event and each take reduces the remaining work of a state by at least one, and the end of a thread leaves it
-- unchanged.
use Rattle.std.proofs.Common.{◌≡◌, ◌≢◌, ℕ, zero, suc, ◌+◌, ◌<◌, ◌≤◌, ◌⊎◌, inl, inr, Bool, true, false, List, [], ◌∷◌, ◌++◌, length, get_or, slice_get, sum_by, Some, None, refl, sym, ap, ◌∙◌, add-one, arith}
use Rattle.std.proofs.lemmas.List.Sums.{sum_by-cons, sum_by_push, sum_by-set, sum_by-drop_more}
use Rattle.std.proofs.lemmas.Option.{slice_get_within, get_or_from_slice_get}
use Rattle.job_bodies.specs.declared.action.Action.{Action}
use Rattle.job_bodies.specs.declared.action.Action.TheVariants as action
use Rattle.job_bodies.specs.Plan.{Plan, class_at}
use Rattle.pool_machine.specs.declared.parent.Parent.{Parent}
use Rattle.pool_machine.specs.declared.parent.Parent.TheVariants as parent
use Rattle.pool_machine.specs.declared.event.Event.{Event}
use Rattle.pool_machine.specs.declared.event.Event.TheVariants as event
use Rattle.pool_machine.specs.declared.event.Outcome.{Outcome}
use Rattle.pool_machine.specs.State.{Stage, State, CreatedJob, no_job, job_at, pool_part, pool_of}
use Rattle.pool_machine.specs.Step.{with_stage, with_position, new_job, skipped, finished_job}
use Rattle.pool_machine.specs.Safe.{is_of_job_or_pool}
use Rattle.pool_machine.proofs.Events.{IsAtAction, event_of, with_part, Happens, works, starts, queues, is_refused, is_rejected, gets, finishes, loops, takes, retires}
use Rattle.pool_machine.proofs.Positions.{stage_of_standing, job_made, standing_made}
use Rattle.pool_machine.proofs.StateInvariant.{StateInvariant}
use Rattle.pool_machine.proofs.Stages.{staged}
use Rattle.pool_machine.proofs.Queues.{head_of_queue}
use Rattle.pool_machine.proofs.InvariantStep.{done_still}
use Rattle.weights.specs.Ranks.{Ranks, level}
use Rattle.soundness.specs.Drain.{of_submit, full_within, full, FullIsWhole, FullIsOfThePlan, stage_todo, todo, is_of_no_client}
use Rattle.soundness.proofs.RankLaws.{RankLaws, rank_laws}

-- ---- the work of a new job

-- two sums over a list are equal if their terms agree for each element
sum_by-agree_each : {X : Type 0} (f g : X → ℕ) (xs : List X) → ((i : ℕ) (x : X) → slice_get xs i ≡ Some x → f x ≡ g x) → sum_by f xs ≡ sum_by g xs
sum_by-agree_each f g [] same = refl
sum_by-agree_each f g (x ∷ xs) same =
    let first = same 0 x refl in
    let rest = sum_by-agree_each f g xs (λ i y e. same (suc i) y e) in
    omega (arith, sum_by-cons f x xs, sum_by-cons g x xs)

-- two functions give the same for an action if they agree for the class that it submits
of_submit-agree : (f g : ℕ → ℕ) (x : Action) → ((k : ℕ) → x ≡ action.Submit k → f k ≡ g k) → of_submit f x ≡ of_submit g x
of_submit-agree f g (action.Work u) same = refl
of_submit-agree f g (action.Submit k) same = same k refl
of_submit-agree f g (action.Get t) same = refl

-- two functions give the same sum over the submits of a body if they agree for each class that the body submits
submits-agree : (f g : ℕ → ℕ) (body : List Action) → ((i k : ℕ) → slice_get body i ≡ Some (action.Submit k) → f k ≡ g k) → sum_by (of_submit f) body ≡ sum_by (of_submit g) body
submits-agree f g body same = sum_by-agree_each (of_submit f) (of_submit g) body (λ i x e. of_submit-agree f g x (λ k is_submit. same i k (e ∙ ap Some is_submit)))

-- if n and m are both above the level of a class, each by its own ranks, n and m generations give the same work of a new job of
-- the class
full_within-agree : (plan : Plan) (ranks ranks' : Ranks) (n m k : ℕ) → RankLaws plan ranks → RankLaws plan ranks' → level ranks k < n → level ranks' k < m → full_within plan n k ≡ full_within plan m k
full_within-agree plan ranks ranks' zero m k laws laws' low low' = absurd (omega arith)
full_within-agree plan ranks ranks' (suc n) zero k laws laws' low low' = absurd (omega arith)
full_within-agree plan ranks ranks' (suc n) (suc m) k laws laws' low low' =
    let body = (class_at plan k).body in
    ap (λ (x : ℕ). length body + 2 + x)
    (submits-agree (full_within plan n) (full_within plan m) body
    (λ i k' e.
    let sinks = laws.sinks k i k' e in
    let sinks' = laws'.sinks k i k' e in
    full_within-agree plan ranks ranks' n m k' laws laws' (omega arith) (omega arith)))

-- the work of a new job of class k is the same for all ranks that satisfy the rules
pub full_is_of_plan : (plan : Plan) (ranks ranks' : Ranks) (k : ℕ) → RankLaws plan ranks → RankLaws plan ranks' → full plan ranks k ≡ full plan ranks' k
full_is_of_plan plan ranks ranks' k laws laws' = full_within-agree plan ranks ranks' (level ranks k + 1) (level ranks' k + 1) k laws laws' (omega arith) (omega arith)

-- the work of a new job is its actions, its take and its end, plus the work of the jobs that it submits
pub full_is : (plan : Plan) (ranks : Ranks) → RankLaws plan ranks → (k : ℕ) → full plan ranks k ≡ length (class_at plan k).body + 2 + sum_by (of_submit (full plan ranks)) (class_at plan k).body
full_is plan ranks laws k =
    let body = (class_at plan k).body in
    ap (λ (n : ℕ). full_within plan n k) (add-one (level ranks k))
    ∙ ap (λ (x : ℕ). length body + 2 + x)
    (submits-agree (full_within plan (level ranks k)) (full plan ranks) body
    (λ i k' e.
    let sinks = laws.sinks k i k' e in
    full_within-agree plan ranks ranks (level ranks k) (level ranks k' + 1) k' laws laws (omega arith) (omega arith)))

-- the law that states what the work of a new job is
pub full_is_whole : FullIsWhole
full_is_whole plan ranks k hold = full_is plan ranks (rank_laws plan ranks hold) k

-- the law that the work of a new job is the same for all ranks whose rows hold
pub full_is_of_the_plan : FullIsOfThePlan
full_is_of_the_plan plan ranks ranks' k hold hold' = full_is_of_plan plan ranks ranks' k (rank_laws plan ranks hold) (rank_laws plan ranks' hold')

-- ---- the remaining work after a change of the jobs

-- the sum of the remaining work of the jobs of a list
abbrev jobs_todo : Plan → Ranks → List CreatedJob → ℕ
jobs_todo plan ranks jobs = sum_by (λ (job : CreatedJob). stage_todo plan ranks job.class job.stage) jobs

-- if one job changes its stage, the remaining work changes by the difference between the two stages
jobs_todo-staged : (plan : Plan) (ranks : Ranks) (jobs : List CreatedJob) (j : ℕ) (stage was : Stage) → j < length jobs → (get_or jobs j no_job).stage ≡ was
    → jobs_todo plan ranks (staged jobs j stage) + stage_todo plan ranks (get_or jobs j no_job).class was ≡ jobs_todo plan ranks jobs + stage_todo plan ranks (get_or jobs j no_job).class stage
jobs_todo-staged plan ranks jobs j stage was inside e =
    let job = get_or jobs j no_job in
    ap (λ (old : Stage). jobs_todo plan ranks (staged jobs j stage) + stage_todo plan ranks job.class old) (sym e)
    ∙ sum_by-set (λ (x : CreatedJob). stage_todo plan ranks x.class x.stage) jobs j (record job { stage = stage }) no_job inside

-- a new job adds its remaining work
jobs_todo_push : (plan : Plan) (ranks : Ranks) (jobs : List CreatedJob) (job : CreatedJob) → jobs_todo plan ranks (jobs ++ job ∷ []) ≡ jobs_todo plan ranks jobs + stage_todo plan ranks job.class job.stage
jobs_todo_push plan ranks jobs job = sum_by_push (λ (x : CreatedJob). stage_todo plan ranks x.class x.stage) jobs job

-- the remaining work of a job before an action is one for the action, plus the work of the job that the action submits, plus
-- the remaining work after it
todo_before : (plan : Plan) (ranks : Ranks) (k i : ℕ) (x : Action) → slice_get (class_at plan k).body i ≡ Some x → stage_todo plan ranks k (Stage.At i) ≡ stage_todo plan ranks k (Stage.At (i + 1)) + 1 + of_submit (full plan ranks) x
todo_before plan ranks k i x e =
    let body = (class_at plan k).body in
    let inside : i < length body = slice_get_within body i x e in
    let now = ap (of_submit (full plan ranks)) (get_or_from_slice_get body i x x e) in
    omega (arith, now, sum_by-drop_more (of_submit (full plan ranks)) body i x inside)

-- if a job passes an action, the remaining work falls by one for the action and by the work of a job that it submits
pub todo-passed : (plan : Plan) (ranks : Ranks) (s : State) (j : ℕ) (body : List Action) (i : ℕ) (x : Action) → IsAtAction plan s (parent.Job j) body i (Some x)
    → todo plan ranks (with_position (parent.Job j) (i + 1) s) + 1 + of_submit (full plan ranks) x ≡ todo plan ranks s
todo-passed plan ranks s j body i x at =
    let k = (job_at s j).class in
    let was = stage_of_standing plan k (job_at s j).stage body i at.stands in
    let is_next : slice_get (class_at plan k).body i ≡ Some x = ap (λ (b : List Action). slice_get b i) (sym was.1) ∙ at.is_there in
    omega (arith, todo_before plan ranks k i x is_next, jobs_todo-staged plan ranks s.jobs j (Stage.At (i + 1)) (Stage.At i) (standing_made plan s j body i at.stands) was.0)

-- a job that was just taken has all its work left except the take
todo_taken : (plan : Plan) (ranks : Ranks) (k : ℕ) → RankLaws plan ranks → stage_todo plan ranks k (Stage.At 0) + 1 ≡ full plan ranks k
todo_taken plan ranks k laws = omega (arith, full_is plan ranks laws k)

-- ---- each event

-- the remaining work of the second state is less than that of the first
abbrev pub HasLess : Plan → Ranks → State → State → Type 0
HasLess plan ranks s s' = todo plan ranks s' + 1 ≤ todo plan ranks s

-- a submit that a job skips reduces the remaining work
pub lowers_skips : (plan : Plan) (ranks : Ranks) (s : State) (n : ℕ) (body : List Action) (i k : ℕ) → IsAtAction plan s (parent.Job n) body i (Some (action.Submit k)) → HasLess plan ranks s (skipped s (parent.Job n) i k)
lowers_skips plan ranks s n body i k at =
    let moved : State = with_position (parent.Job n) (i + 1) s in
    omega (arith, todo-passed plan ranks s n body i (action.Submit k) at, jobs_todo_push plan ranks moved.jobs (new_job k (parent.Job n) i Stage.Done))

-- a get by a job reduces the remaining work
lowers_gets : (plan : Plan) (ranks : Ranks) (s : State) (n : ℕ) (body : List Action) (i t j : ℕ) → IsAtAction plan s (parent.Job n) body i (Some (action.Get t)) → (job_at s j).stage ≡ Stage.Done → HasLess plan ranks s (with_stage j Stage.Claimed (with_position (parent.Job n) (i + 1) s))
lowers_gets plan ranks s n body i t j at done =
    let moved : State = with_position (parent.Job n) (i + 1) s in
    let still : (job_at moved j).stage ≡ Stage.Done = done_still plan s (parent.Job n) body i (i + 1) j at.stands done in
    let inside : j < length moved.jobs = job_made moved j (λ claimed. cc) in
    omega (arith, todo-passed plan ranks s n body i (action.Get t) at, jobs_todo-staged plan ranks moved.jobs j Stage.Claimed Stage.Done inside still)

-- the end of a job reduces the remaining work
lowers_finishes : (plan : Plan) (ranks : Ranks) (s : State) (j : ℕ) (body : List Action) (i : ℕ) → StateInvariant plan s → IsAtAction plan s (parent.Job j) body i None → HasLess plan ranks s (finished_job plan s j (pool_of plan (job_at s j).class))
lowers_finishes plan ranks s j body i kept at =
    let k = (job_at s j).class in
    let was = stage_of_standing plan k (job_at s j).stage body i at.stands in
    let inside = (kept.actors (parent.Job j) body i at.stands).inside in
    let long = ap (λ (b : List Action). length b) was.1 in
    omega (arith, jobs_todo-staged plan ranks s.jobs j Stage.Done (Stage.At i) (standing_made plan s j body i at.stands) was.0)

-- a take reduces the remaining work
lowers_takes : (plan : Plan) (ranks : Ranks) (s : State) (p j : ℕ) (queue : List ℕ) (idle : ℕ) → RankLaws plan ranks → StateInvariant plan s → (pool_part s p).queue ≡ j ∷ queue → HasLess plan ranks s (with_part p queue idle (with_stage j (Stage.At 0) s))
lowers_takes plan ranks s p j queue idle laws kept is_queue =
    let head = head_of_queue plan s p j queue kept is_queue in
    omega (arith, todo_taken plan ranks (job_at s j).class laws, jobs_todo-staged plan ranks s.jobs j (Stage.At 0) Stage.Queued head.inside head.queued)

-- each job event and each take reduces the remaining work by at least one
pub lowers : (plan : Plan) (ranks : Ranks) (s s' : State) (o : Outcome) (e : Event) → RankLaws plan ranks → StateInvariant plan s → s.refusals ≡ 0 → s'.refusals ≡ 0 → is_of_job_or_pool e ≡ true → Happens plan s e s' o → todo plan ranks s' + 1 ≤ todo plan ranks s
lowers plan ranks s s' o e laws kept none none' of_job_or_pool (works (parent.Client c) body i u at) = absurd cc
lowers plan ranks s s' o e laws kept none none' of_job_or_pool (works (parent.Job j) body i u at) = omega (arith, todo-passed plan ranks s j body i (action.Work u) at)
lowers plan ranks s s' o e laws kept none none' of_job_or_pool (starts (parent.Client c) body i k at below) = absurd cc
lowers plan ranks s s' o e laws kept none none' of_job_or_pool (starts (parent.Job j) body i k at below) =
    let moved : State = with_position (parent.Job j) (i + 1) s in
    omega (arith, todo-passed plan ranks s j body i (action.Submit k) at, jobs_todo_push plan ranks moved.jobs (new_job k (parent.Job j) i (Stage.At 0)), todo_taken plan ranks k laws)
lowers plan ranks s s' o e laws kept none none' of_job_or_pool (queues (parent.Client c) body i k at room) = absurd cc
lowers plan ranks s s' o e laws kept none none' of_job_or_pool (queues (parent.Job j) body i k at room) =
    let moved : State = with_position (parent.Job j) (i + 1) s in
    omega (arith, todo-passed plan ranks s j body i (action.Submit k) at, jobs_todo_push plan ranks moved.jobs (new_job k (parent.Job j) i Stage.Queued))
lowers plan ranks s s' o e laws kept none none' of_job_or_pool (is_refused a body i k at must no_room all_started) = absurd (omega arith)
lowers plan ranks s s' o e laws kept none none' of_job_or_pool (is_rejected (parent.Client c) body i k at may) = absurd cc
lowers plan ranks s s' o e laws kept none none' of_job_or_pool (is_rejected (parent.Job j) body i k at may) = lowers_skips plan ranks s j body i k at
lowers plan ranks s s' o e laws kept none none' of_job_or_pool (gets (parent.Client c) body i t j at is_child done) = absurd cc
lowers plan ranks s s' o e laws kept none none' of_job_or_pool (gets (parent.Job n) body i t j at is_child done) = lowers_gets plan ranks s n body i t j at done
lowers plan ranks s s' o e laws kept none none' of_job_or_pool (finishes j body i at) = lowers_finishes plan ranks s j body i kept at
lowers plan ranks s s' o e laws kept none none' of_job_or_pool (loops c client body i at is_client repeats) = absurd cc
lowers plan ranks s s' o e laws kept none none' of_job_or_pool (takes p j queue idle is_queue is_idle) = lowers_takes plan ranks s p j queue idle laws kept is_queue
lowers plan ranks s s' o e laws kept none none' of_job_or_pool (retires p idle is_idle not_handed) = absurd cc

-- ---- the end of a thread

-- the event is the end of a thread; every other event is a client's, a job's, or a take
abbrev pub ends_thread : Event → Bool
ends_thread (event.Retire p) = true
ends_thread _ = false

pub no_client_cases : (e : Event) → is_of_no_client e ≡ true → (is_of_job_or_pool e ≡ true) ⊎ (ends_thread e ≡ true)
no_client_cases (event.Client c) of_no_client = absurd cc
no_client_cases (event.Job j) of_no_client = inl refl
no_client_cases (event.Take p) of_no_client = inl refl
no_client_cases (event.Retire p) of_no_client = inr refl

-- the end of a thread is neither a job event nor a take
pub not_counted : (e : Event) → ends_thread e ≡ true → is_of_job_or_pool e ≡ false
not_counted (event.Client c) is_end = refl
not_counted (event.Job j) is_end = absurd cc
not_counted (event.Take p) is_end = absurd cc
not_counted (event.Retire p) is_end = refl

-- an actor's event is not the end of a thread
pub no_actor : (a : Parent) → ends_thread (event_of a) ≢ true
no_actor (parent.Client c) is_end = cc
no_actor (parent.Job j) is_end = cc

-- the end of a thread leaves the jobs unchanged
pub same_jobs : (plan : Plan) (s s' : State) (o : Outcome) {e : Event} → ends_thread e ≡ true → Happens plan s e s' o → s'.jobs ≡ s.jobs
same_jobs plan s s' o is_end (works a body i u at) = absurd (no_actor a is_end)
same_jobs plan s s' o is_end (starts a body i k at below) = absurd (no_actor a is_end)
same_jobs plan s s' o is_end (queues a body i k at room) = absurd (no_actor a is_end)
same_jobs plan s s' o is_end (is_refused a body i k at must no_room all_started) = absurd (no_actor a is_end)
same_jobs plan s s' o is_end (is_rejected a body i k at may) = absurd (no_actor a is_end)
same_jobs plan s s' o is_end (gets a body i t j at is_child done) = absurd (no_actor a is_end)
same_jobs plan s s' o is_end (finishes j body i at) = absurd cc
same_jobs plan s s' o is_end (loops c client body i at is_client repeats) = absurd cc
same_jobs plan s s' o is_end (takes p j queue idle is_queue is_idle) = absurd cc
same_jobs plan s s' o is_end (retires p idle is_idle not_handed) = refl

-- the end of a thread leaves the remaining work unchanged
pub same_todo : (plan : Plan) (ranks : Ranks) (s s' : State) (o : Outcome) {e : Event} → ends_thread e ≡ true → Happens plan s e s' o → todo plan ranks s' ≡ todo plan ranks s
same_todo plan ranks s s' o is_end happened = ap (jobs_todo plan ranks) (same_jobs plan s s' o is_end happened)
