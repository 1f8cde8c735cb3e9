-- Proofs of a bound: the number of threads and queued jobs of a pool is at most the number of jobs that were created for the pool, plus its
-- prestarted threads.
use Rattle.std.proofs.Common.{◌≡◌, ℕ, suc, ◌+◌, ◌<◌, ◌≤◌, eqb, List, [], ◌∷◌, ◌++◌, length, Some, None, sym, ap, subst, refl, ◌∙◌, Bool, true, false, ◌&&◌, arith}
use Rattle.std.specs.List.{count_by}
use Rattle.std.proofs.lemmas.Bool.{eq-eqb, and_left, and_parts}
use Rattle.std.proofs.lemmas.List.{length_push}
use Rattle.std.proofs.lemmas.List.Sums.{sum_by_push}
use Rattle.support.proofs.PassingPlaces.{length-places}
use Rattle.support.proofs.Sums.{count_by-le-sum_by}
use Rattle.job_bodies.specs.declared.action.Action.{Action}
use Rattle.job_bodies.specs.declared.action.Action.TheVariants as action
use Rattle.job_bodies.specs.Plan.{Plan, pool_at, first_workers}
use Rattle.job_bodies.proofs.Bodies.{HasValidBodies}
use Rattle.pool_machine.specs.declared.parent.Parent.{Parent}
use Rattle.pool_machine.specs.declared.parent.Parent.TheVariants as parent
use Rattle.pool_machine.specs.declared.event.Event.{Event}
use Rattle.pool_machine.specs.declared.event.Outcome.{Outcome}
use Rattle.pool_machine.specs.declared.event.Outcome.TheVariants as outcome
use Rattle.pool_machine.specs.State.{Stage, State, CreatedJob, PoolPart, no_job, job_at, pool_part, pool_of, is_at, is_queued, is_busy_in, is_queued_in, threads}
use Rattle.pool_machine.specs.Step.{point, with_stage, with_position, with_job, new_job, skipped, moved_jobs, finished_job}
use Rattle.pool_machine.specs.Reach.{start}
use Rattle.pool_machine.specs.JobsMade.{is_of_pool, jobs_made, HasJobs}
use Rattle.pool_machine.proofs.Events.{IsAtAction, with_part, Happens, works, starts, queues, is_refused, is_rejected, gets, finishes, loops, takes, retires}
use Rattle.pool_machine.proofs.Positions.{stage_of_standing, standing_made}
use Rattle.pool_machine.proofs.StateInvariant.{StateInvariant, busy_jobs}
use Rattle.pool_machine.proofs.Stages.{staged, count-staged}
use Rattle.pool_machine.proofs.Queues.{head_of_queue}
use Rattle.pool_machine.proofs.Busy.{one_if, busy_in-as, busy-staged_same, busy-staged_elsewhere, busy-staged_here, busy-moved, busy_push, busy_push_same}
use Rattle.pool_machine.proofs.PoolInvariants.{pools_with_part}
use Rattle.pool_machine.proofs.InvariantStep.{done_still}
use Rattle.pool_machine.proofs.InvariantAtStart.{pool_part_at_start}
use Rattle.pool_machine.proofs.InvariantSubmits.{class_exists}

-- ---- the jobs that were created for a pool, after a change of the jobs

-- the number of jobs in the list whose class belongs to pool p
abbrev pub made_jobs : Plan → List CreatedJob → ℕ → ℕ
made_jobs plan jobs p = count_by (is_of_pool plan p) jobs

-- a new stage of a job does not change the number of jobs that were created for a pool
pub made_jobs-staged : (plan : Plan) (jobs : List CreatedJob) (j : ℕ) (stage : Stage) (p : ℕ) → made_jobs plan (staged jobs j stage) p ≡ made_jobs plan jobs p
made_jobs-staged plan jobs j stage p = count-staged (is_of_pool plan p) jobs j stage refl

pub made_jobs-moved : (plan : Plan) (s : State) (a : Parent) (i p : ℕ) → made_jobs plan (moved_jobs a i s) p ≡ made_jobs plan s.jobs p
made_jobs-moved plan s (parent.Client c) i p = refl
made_jobs-moved plan s (parent.Job j) i p = made_jobs-staged plan s.jobs j (Stage.At i) p

-- a new job of the pool increases the number of jobs that were created for it by one
pub made_jobs_push : (plan : Plan) (jobs : List CreatedJob) (job : CreatedJob) (p : ℕ) → made_jobs plan (jobs ++ job ∷ []) p ≡ made_jobs plan jobs p + one_if (is_of_pool plan p job)
made_jobs_push plan jobs job p = sum_by_push (λ (x : CreatedJob). one_if (is_of_pool plan p x)) jobs job

-- ---- the bound

-- the bound on threads and queued jobs holds for pool p, given the list of jobs and the pool's queue and idle workers
abbrev PartHasJobs : Plan → List CreatedJob → ℕ → PoolPart → Type 0
PartHasJobs plan jobs p part = part.idle + busy_jobs plan jobs p + length part.queue ≤ made_jobs plan jobs p + first_workers (pool_at plan p)

-- the bound on threads and queued jobs holds for each pool of the plan in `among`
abbrev pub HaveJobs : Plan → (ℕ → Type 0) → State → Type 0
HaveJobs plan among s = (p : ℕ) → p < length plan.pools → among p → HasJobs plan s p

-- the queued jobs of a pool were created for it
pub queue-le_made : (plan : Plan) (s : State) (p : ℕ) → StateInvariant plan s → p < length plan.pools → length (pool_part s p).queue ≤ jobs_made plan s p
queue-le_made plan s p kept inside =
    let queued : length (pool_part s p).queue ≡ count_by (is_queued_in plan p) s.jobs = ap length (kept.pools p inside).queue ∙ length-places (is_queued_in plan p) s.jobs in
    let each = count_by-le-sum_by (is_queued_in plan p) (λ (job : CreatedJob). one_if (is_of_pool plan p job)) s.jobs no_job
    (λ j made passes.
    let of_pool = ap one_if (and_parts (is_queued (job_at s j).stage) (eqb (pool_of plan (job_at s j).class) p) passes).1 in
    omega arith) in
    omega arith

-- ---- the initial state

-- the bound on threads and queued jobs holds in the initial state, in which each pool has its prestarted threads and an empty queue
pub have_jobs_start : (plan : Plan) (among : ℕ → Type 0) → HaveJobs plan among (start plan)
have_jobs_start plan among p inside is_among = subst (PartHasJobs plan [] p) (sym (pool_part_at_start plan p inside)) (omega arith)

-- ---- each event

-- a move of an actor preserves the bound on threads and queued jobs
have_jobs_moved : (plan : Plan) (among : ℕ → Type 0) (s : State) (a : Parent) (body : List Action) (i i' : ℕ) → HaveJobs plan among s → point plan s a ≡ Some (record { body = body; position = i }) → HaveJobs plan among (with_position a i' s)
have_jobs_moved plan among s a body i i' have stands p inside is_among =
    let had = have p inside is_among in
    omega (arith, made_jobs-moved plan s a i' p, busy-moved plan s a body i i' p stands)

-- a new job that runs at once preserves the bound on threads and queued jobs
have_jobs_starts : (plan : Plan) (among : ℕ → Type 0) (s : State) (job : CreatedJob) → is_at job.stage ≡ true → HaveJobs plan among s → HaveJobs plan among (with_job job s)
have_jobs_starts plan among s job begins have p inside is_among =
    let had = have p inside is_among in
    let both : one_if (is_at job.stage && eqb (pool_of plan job.class) p) ≡ one_if (is_of_pool plan p job) = ap (λ (b : Bool). one_if (b && eqb (pool_of plan job.class) p)) begins in
    omega (arith, busy_push plan s.jobs job p, made_jobs_push plan s.jobs job p, both)

-- a new job that is appended to the queue of its pool preserves the bound on threads and queued jobs
have_jobs_queues : (plan : Plan) (among : ℕ → Type 0) (s : State) (job : CreatedJob) (n : ℕ) → length s.pools ≡ length plan.pools → is_at job.stage ≡ false → HaveJobs plan among s
    → HaveJobs plan among (with_part (pool_of plan job.class) ((pool_part s (pool_of plan job.class)).queue ++ n ∷ []) (pool_part s (pool_of plan job.class)).idle (with_job job s))
have_jobs_queues plan among s job n as_many waits have =
    let q = pool_of plan job.class in
    let part = pool_part s q in
    let jobs = s.jobs ++ job ∷ [] in
    pools_with_part plan (with_job job s) q (part.queue ++ n ∷ []) part.idle (λ p now. among p → PartHasJobs plan jobs p now) as_many
    (λ exists is_among.
    let had = have q exists is_among in
    let one_more : one_if (is_of_pool plan q job) ≡ 1 = ap one_if (eq-eqb q q refl) in
    omega (arith, busy_push_same plan s.jobs job q (not_busy q), made_jobs_push plan s.jobs job q, one_more, length_push part.queue n))
    (λ p inside other is_among.
    let had = have p inside is_among in
    omega (arith, busy_push_same plan s.jobs job p (not_busy p), made_jobs_push plan s.jobs job p))
  where
    not_busy : (p : ℕ) → is_busy_in plan p job ≡ false
    not_busy p = and_left (is_at job.stage) (eqb (pool_of plan job.class) p) waits

-- a skipped submit preserves the bound on threads and queued jobs, because the new job does not run
pub have_jobs_skips : (plan : Plan) (among : ℕ → Type 0) (s : State) (a : Parent) (body : List Action) (i k : ℕ) → HaveJobs plan among s → IsAtAction plan s a body i (Some (action.Submit k)) → HaveJobs plan among (skipped s a i k)
have_jobs_skips plan among s a body i k have at p inside is_among =
    let had = have_jobs_moved plan among s a body i (i + 1) have at.stands p inside is_among in
    let jobs = moved_jobs a (i + 1) s in
    let job = new_job k a i Stage.Done in
    omega (arith, busy_push_same plan jobs job p refl, made_jobs_push plan jobs job p)

-- a new stage of job j of pool q, with a new queue and new idle workers of q, preserves the bound on threads and queued jobs if the bound
-- holds for q afterwards
have_jobs_worker : (plan : Plan) (among : ℕ → Type 0) (s : State) (j : ℕ) (stage : Stage) (q : ℕ) (queue : List ℕ) (idle : ℕ) → length s.pools ≡ length plan.pools → j < length s.jobs → pool_of plan (job_at s j).class ≡ q
    → idle + busy_jobs plan (staged s.jobs j stage) q + length queue ≤ threads plan s q + length (pool_part s q).queue → HaveJobs plan among s → HaveJobs plan among (with_part q queue idle (with_stage j stage s))
have_jobs_worker plan among s j stage q queue idle as_many made of_pool no_more have =
    let jobs = staged s.jobs j stage in
    pools_with_part plan (with_stage j stage s) q queue idle (λ p now. among p → PartHasJobs plan jobs p now) as_many
    (λ exists is_among. let had = have q exists is_among in omega (arith, made_jobs-staged plan s.jobs j stage q))
    (λ p inside other is_among.
    let had = have p inside is_among in
    omega (arith, made_jobs-staged plan s.jobs j stage p, busy-staged_elsewhere plan s.jobs j stage p (λ same. other (sym same ∙ of_pool))))

-- the end of a running job preserves the bound on threads and queued jobs
have_jobs_finishes : (plan : Plan) (among : ℕ → Type 0) (s : State) (j : ℕ) (body : List Action) (i : ℕ) → StateInvariant plan s → HaveJobs plan among s → IsAtAction plan s (parent.Job j) body i None → HaveJobs plan among (finished_job plan s j (pool_of plan (job_at s j).class))
have_jobs_finishes plan among s j body i kept have at =
    let q = pool_of plan (job_at s j).class in
    let made = standing_made plan s j body i at.stands in
    let was = stage_of_standing plan (job_at s j).class (job_at s j).stage body i at.stands in
    have_jobs_worker plan among s j Stage.Done q (pool_part s q).queue ((pool_part s q).idle + 1) kept.as_many made refl
    (omega (arith, busy-staged_here plan s.jobs j Stage.Done q refl made, ap (λ (stage : Stage). one_if (is_at stage)) was.0)) have

-- an idle worker that takes the head of a queue preserves the bound on threads and queued jobs
have_jobs_takes : (plan : Plan) (among : ℕ → Type 0) (s : State) (p j : ℕ) (queue : List ℕ) (idle : ℕ) → StateInvariant plan s → HaveJobs plan among s → (pool_part s p).queue ≡ j ∷ queue → (pool_part s p).idle ≡ suc idle → HaveJobs plan among (with_part p queue idle (with_stage j (Stage.At 0) s))
have_jobs_takes plan among s p j queue idle kept have is_queue is_idle =
    let head = head_of_queue plan s p j queue kept is_queue in
    let long : length (pool_part s p).queue ≡ suc (length queue) = ap length is_queue in
    have_jobs_worker plan among s j (Stage.At 0) p queue idle kept.as_many head.inside head.of_pool
    (omega (arith, busy-staged_here plan s.jobs j (Stage.At 0) p head.of_pool head.inside, ap (λ (stage : Stage). one_if (is_at stage)) head.queued)) have

-- a get that claims a done job preserves the bound on threads and queued jobs
have_jobs_gets : (plan : Plan) (among : ℕ → Type 0) (s : State) (a : Parent) (body : List Action) (i j : ℕ) → HaveJobs plan among s → point plan s a ≡ Some (record { body = body; position = i }) → (job_at s j).stage ≡ Stage.Done → HaveJobs plan among (with_stage j Stage.Claimed (with_position a (i + 1) s))
have_jobs_gets plan among s a body i j have stands done p inside is_among =
    let moved : State = with_position a (i + 1) s in
    let still : (job_at moved j).stage ≡ Stage.Done = done_still plan s a body i (i + 1) j stands done in
    let had = have_jobs_moved plan among s a body i (i + 1) have stands p inside is_among in
    omega (arith, made_jobs-staged plan moved.jobs j Stage.Claimed p, busy-staged_same plan moved.jobs j Stage.Claimed p (busy_in-as plan p (job_at moved j) Stage.Claimed (sym (ap is_at still))))

-- every event preserves the bound on threads and queued jobs
pub have_jobs_step : (plan : Plan) (among : ℕ → Type 0) (s s' : State) (o : Outcome) {e : Event} → StateInvariant plan s → HaveJobs plan among s → Happens plan s e s' o → HaveJobs plan among s'
have_jobs_step plan among s s' o kept have (works a body i u at) = have_jobs_moved plan among s a body i (i + 1) have at.stands
have_jobs_step plan among s s' o kept have (starts a body i k at below) =
    have_jobs_starts plan among (with_position a (i + 1) s) (new_job k a i (Stage.At 0)) refl (have_jobs_moved plan among s a body i (i + 1) have at.stands)
have_jobs_step plan among s s' o kept have (queues a body i k at room) =
    have_jobs_queues plan among (with_position a (i + 1) s) (new_job k a i Stage.Queued) (length s.jobs) kept.as_many refl (have_jobs_moved plan among s a body i (i + 1) have at.stands)
have_jobs_step plan among s s' o kept have (is_refused a body i k at must no_room all_started) = have
have_jobs_step plan among s s' o kept have (is_rejected a body i k at may) = have_jobs_skips plan among s a body i k have at
have_jobs_step plan among s s' o kept have (gets a body i t j at is_child done) = have_jobs_gets plan among s a body i j have at.stands done
have_jobs_step plan among s s' o kept have (finishes j body i at) = have_jobs_finishes plan among s j body i kept have at
have_jobs_step plan among s s' o kept have (loops c client body i at is_client repeats) = have_jobs_moved plan among s (parent.Client c) body i 0 have at.stands
have_jobs_step plan among s s' o kept have (takes p j queue idle is_queue is_idle) = have_jobs_takes plan among s p j queue idle kept have is_queue is_idle
have_jobs_step plan among s s' o kept have (retires p idle is_idle not_handed) =
    pools_with_part plan s p (pool_part s p).queue idle (λ q now. among q → PartHasJobs plan s.jobs q now) kept.as_many (λ exists is_among. let had = have p exists is_among in omega arith) (λ q inside other. have q inside)

-- ---- refusals

-- a pool that refuses a job has a full queue and its maximum of threads
pub refused_when : (plan : Plan) (s s' : State) (p : ℕ) {e : Event} → HasValidBodies plan → Happens plan s e s' (outcome.Refused p)
    → (p < length plan.pools) × ((pool_at plan p).queue ≤ length (pool_part s p).queue) × ((pool_at plan p).max ≤ threads plan s p)
refused_when plan s s' p ordered (is_refused a body i k at must no_room all_started) = (ordered.pools k (class_exists plan s a body i k ordered at), no_room.1, all_started)
