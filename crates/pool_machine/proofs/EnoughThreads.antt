-- Proofs that a pool with a queued job has enough threads: at least core, or at least one if its core threads may time out.
use Rattle.std.proofs.Common.{◌≡◌, ℕ, suc, ◌+◌, ◌<◌, ◌≤◌, Bool, true, false, cond, inl, inr, List, [], ◌∷◌, ◌++◌, length, Some, refl, sym, ap, subst, ◌∙◌, arith}
use Rattle.job_bodies.specs.declared.action.Action.{Action}
use Rattle.job_bodies.specs.Plan.{Plan, Pool, pool_at, least_threads}
use Rattle.job_bodies.proofs.Bodies.{HasValidBodies}
use Rattle.pool_machine.proofs.PoolEvents.{HasSpareThread}
use Rattle.pool_machine.specs.declared.parent.Parent.{Parent}
use Rattle.pool_machine.specs.declared.parent.Parent.TheVariants as parent
use Rattle.pool_machine.specs.declared.event.Event.{Event}
use Rattle.pool_machine.specs.declared.event.Outcome.{Outcome}
use Rattle.pool_machine.specs.State.{Stage, State, CreatedJob, PoolPart, job_at, pool_part, pool_of, pool_seen, is_at, threads}
use Rattle.pool_machine.specs.Step.{point, with_stage, with_position, with_job, new_job, moved_jobs}
use Rattle.pool_machine.specs.Reach.{start}
use Rattle.pool_machine.specs.Laws.{HasThreads}
use Rattle.pool_machine.proofs.Events.{with_part, queued_state, KeepsThreads, Happens, works, starts, queues, is_refused, is_rejected, gets, finishes, loops, takes, retires}
use Rattle.pool_machine.proofs.Positions.{stage_of_standing, standing_made}
use Rattle.pool_machine.proofs.StateInvariant.{StateInvariant, busy_jobs}
use Rattle.pool_machine.proofs.Stages.{staged}
use Rattle.pool_machine.proofs.Queues.{head_of_queue}
use Rattle.pool_machine.proofs.Busy.{one_if, busy_in-as, busy-staged_same, busy-staged_elsewhere, busy-staged_here, busy-moved, busy_push, busy_push_same}
use Rattle.pool_machine.proofs.PoolInvariants.{pools_with_part}
use Rattle.pool_machine.proofs.InvariantStep.{done_still}
use Rattle.pool_machine.proofs.InvariantAtStart.{pool_part_at_start}

-- pool p has enough threads, given the list of jobs and the pool's queue and idle workers
abbrev PartHasThreads : Plan → List CreatedJob → ℕ → PoolPart → Type 0
PartHasThreads plan jobs p part = 1 ≤ length part.queue → least_threads (pool_at plan p) ≤ part.idle + busy_jobs plan jobs p

-- each pool of the plan has enough threads
abbrev pub HaveThreads : Plan → State → Type 0
HaveThreads plan s = (p : ℕ) → p < length plan.pools → HasThreads plan s p

-- ---- the number of threads that are enough

-- core threads are enough
pub least-le_core : (pool : Pool) → 1 ≤ pool.core → least_threads pool ≤ pool.core
least-le_core pool some = at_most pool.core_timeout
  where
    at_most : (timeout : Bool) → cond timeout 1 pool.core ≤ pool.core
    at_most true = some
    at_most false = omega arith

-- one thread is enough if core threads may time out
pub one_is_enough : (pool : Pool) → pool.core_timeout ≡ true → least_threads pool ≡ 1
one_is_enough pool timeout = ap (λ (b : Bool). cond b 1 pool.core) timeout

-- ---- the initial state

-- the queues are empty in the initial state
pub have_threads_start : (plan : Plan) → HaveThreads plan (start plan)
have_threads_start plan p inside = subst (PartHasThreads plan [] p) (sym (pool_part_at_start plan p inside)) (λ some. absurd (omega arith))

-- ---- each event

-- a pool still has enough threads if none ended and no job was queued
no_fewer : (plan : Plan) (s : State) (jobs : List CreatedJob) (p : ℕ) (part : PoolPart) → threads plan s p ≤ part.idle + busy_jobs plan jobs p → length part.queue ≤ length (pool_part s p).queue → HasThreads plan s p → PartHasThreads plan jobs p part
no_fewer plan s jobs p part more shorter had some =
    let enough = had (omega arith) in
    omega arith

-- a pool still has enough threads after an actor moved
enough_moved : (plan : Plan) (s : State) (a : Parent) (body : List Action) (i i' p : ℕ) → point plan s a ≡ Some (record { body = body; position = i }) → HasThreads plan s p → HasThreads plan (with_position a i' s) p
enough_moved plan s a body i i' p stands = no_fewer plan s (moved_jobs a i' s) p (pool_part s p) (omega (arith, busy-moved plan s a body i i' p stands)) (omega arith)

-- a pool still has enough threads after a submit that queues no job
pub enough_submitted : (plan : Plan) (s : State) (a : Parent) (body : List Action) (i k p : ℕ) (stage : Stage) → point plan s a ≡ Some (record { body = body; position = i }) → HasThreads plan s p → HasThreads plan (with_job (new_job k a i stage) (with_position a (i + 1) s)) p
enough_submitted plan s a body i k p stage stands =
    let jobs = moved_jobs a (i + 1) s in
    let job = new_job k a i stage in
    no_fewer plan s (jobs ++ job ∷ []) p (pool_part s p) (omega (arith, busy_push plan jobs job p, busy-moved plan s a body i (i + 1) p stands)) (omega arith)

-- a pool still has enough threads after a submit queued a job, if that pool had at least core threads
enough_queued : (plan : Plan) (s : State) (a : Parent) (body : List Action) (i k p : ℕ) → HasValidBodies plan → StateInvariant plan s → point plan s a ≡ Some (record { body = body; position = i }) → p < length plan.pools
    → (pool_of plan k ≡ p → (pool_at plan p).core ≤ threads plan s p) → HasThreads plan s p → HasThreads plan (queued_state plan s a i k) p
enough_queued plan s a body i k p ordered kept stands inside =
    let q = pool_of plan k in
    let jobs = moved_jobs a (i + 1) s in
    let job = new_job k a i Stage.Queued in
    let made : State = with_job job (with_position a (i + 1) s) in
    pools_with_part plan made q ((pool_part s q).queue ++ length s.jobs ∷ []) (pool_part s q).idle
    (λ r part. (q ≡ r → (pool_at plan r).core ≤ threads plan s r) → HasThreads plan s r → PartHasThreads plan made.jobs r part) kept.as_many
    (λ exists at_core had some.
    let enough = at_core refl in
    omega (arith, least-le_core (pool_at plan q) (ordered.core q exists), busy_push_same plan jobs job q refl, busy-moved plan s a body i (i + 1) q stands))
    (λ r within other at_core. no_fewer plan s made.jobs r (pool_part s r) (omega (arith, busy_push_same plan jobs job r refl, busy-moved plan s a body i (i + 1) r stands)) (omega arith)) p inside

-- a pool still has enough threads after a worker of pool q took or finished a job
enough_worker : (plan : Plan) (s : State) (j : ℕ) (stage : Stage) (q : ℕ) (queue : List ℕ) (idle p : ℕ) → length s.pools ≡ length plan.pools → pool_of plan (job_at s j).class ≡ q
    → threads plan s q ≤ idle + busy_jobs plan (staged s.jobs j stage) q → length queue ≤ length (pool_part s q).queue → p < length plan.pools → HasThreads plan s p → HasThreads plan (with_part q queue idle (with_stage j stage s)) p
enough_worker plan s j stage q queue idle p as_many of_pool more shorter inside =
    let jobs = staged s.jobs j stage in
    pools_with_part plan (with_stage j stage s) q queue idle (λ r part. HasThreads plan s r → PartHasThreads plan jobs r part) as_many
    (λ exists. no_fewer plan s jobs q (record { queue = queue; idle = idle }) more shorter)
    (λ r within other. no_fewer plan s jobs r (pool_part s r) (omega (arith, busy-staged_elsewhere plan s.jobs j stage r (λ same. other (sym same ∙ of_pool)))) (omega arith)) p inside

-- a pool still has enough threads after a get claimed a done job
enough_gets : (plan : Plan) (s : State) (a : Parent) (body : List Action) (i j p : ℕ) → point plan s a ≡ Some (record { body = body; position = i }) → (job_at s j).stage ≡ Stage.Done → HasThreads plan s p → HasThreads plan (with_stage j Stage.Claimed (with_position a (i + 1) s)) p
enough_gets plan s a body i j p stands done =
    let moved : State = with_position a (i + 1) s in
    let still : (job_at moved j).stage ≡ Stage.Done = done_still plan s a body i (i + 1) j stands done in
    no_fewer plan s (staged moved.jobs j Stage.Claimed) p (pool_part s p)
    (omega (arith, busy-staged_same plan moved.jobs j Stage.Claimed p (busy_in-as plan p (job_at moved j) Stage.Claimed (sym (ap is_at still))), busy-moved plan s a body i (i + 1) p stands)) (omega arith)

-- the threads that are left are enough if the pool did not need the one that ended
spare_ended : (plan : Plan) (s : State) (p idle : ℕ) → 1 ≤ (pool_at plan p).core → (pool_part s p).idle ≡ suc idle → HasSpareThread (pool_seen plan s p) → PartHasThreads plan s.jobs p (record { queue = (pool_part s p).queue; idle = idle })
spare_ended plan s p idle core is_idle (inl above) some =
    let above_core : (pool_at plan p).core < threads plan s p = above in
    omega (arith, least-le_core (pool_at plan p) core)
spare_ended plan s p idle core is_idle (inr (timeout, inl another)) some =
    let two : 1 < threads plan s p = another in
    omega (arith, one_is_enough (pool_at plan p) timeout)
spare_ended plan s p idle core is_idle (inr (timeout, inr empty)) some =
    let none : length (pool_part s p).queue ≡ 0 = empty in
    absurd (omega arith)

-- a pool still has enough threads after a thread of pool q ended, if q did not need it
enough_retired : (plan : Plan) (s : State) (q idle p : ℕ) → HasValidBodies plan → StateInvariant plan s → (pool_part s q).idle ≡ suc idle → p < length plan.pools → (q ≡ p → HasSpareThread (pool_seen plan s p)) → HasThreads plan s p
    → HasThreads plan (with_part q (pool_part s q).queue idle s) p
enough_retired plan s q idle p ordered kept is_idle inside =
    pools_with_part plan s q (pool_part s q).queue idle (λ r part. (q ≡ r → HasSpareThread (pool_seen plan s r)) → HasThreads plan s r → PartHasThreads plan s.jobs r part) kept.as_many
    (λ exists spare had. spare_ended plan s q idle (ordered.core q exists) is_idle (spare refl))
    (λ r within other spare had. had) p inside

-- each event leaves pool p with enough threads, if it keeps threads there
pub threads_step : (plan : Plan) (s s' : State) (o : Outcome) {e : Event} → HasValidBodies plan → StateInvariant plan s → (happened : Happens plan s e s' o) → (p : ℕ) → p < length plan.pools → KeepsThreads plan s p e s' o happened → HasThreads plan s p → HasThreads plan s' p
threads_step plan s s' o ordered kept (works a body i u at) p inside keeps = enough_moved plan s a body i (i + 1) p at.stands
threads_step plan s s' o ordered kept (starts a body i k at below) p inside keeps = enough_submitted plan s a body i k p (Stage.At 0) at.stands
threads_step plan s s' o ordered kept (queues a body i k at room) p inside keeps = enough_queued plan s a body i k p ordered kept at.stands inside keeps
threads_step plan s s' o ordered kept (is_refused a body i k at must no_room all_started) p inside keeps = λ had. had
threads_step plan s s' o ordered kept (is_rejected a body i k at may) p inside keeps = enough_submitted plan s a body i k p Stage.Done at.stands
threads_step plan s s' o ordered kept (gets a body i t j at is_child done) p inside keeps = enough_gets plan s a body i j p at.stands done
threads_step plan s s' o ordered kept (finishes j body i at) p inside keeps =
    let q = pool_of plan (job_at s j).class in
    let was = stage_of_standing plan (job_at s j).class (job_at s j).stage body i at.stands in
    enough_worker plan s j Stage.Done q (pool_part s q).queue ((pool_part s q).idle + 1) p kept.as_many refl
    (omega (arith, busy-staged_here plan s.jobs j Stage.Done q refl (standing_made plan s j body i at.stands), ap (λ (stage : Stage). one_if (is_at stage)) was.0)) (omega arith) inside
threads_step plan s s' o ordered kept (loops c client body i at is_client repeats) p inside keeps = enough_moved plan s (parent.Client c) body i 0 p at.stands
threads_step plan s s' o ordered kept (takes q j queue idle is_queue is_idle) p inside keeps =
    let head = head_of_queue plan s q j queue kept is_queue in
    let long : length (pool_part s q).queue ≡ suc (length queue) = ap length is_queue in
    enough_worker plan s j (Stage.At 0) q queue idle p kept.as_many head.of_pool
    (omega (arith, busy-staged_here plan s.jobs j (Stage.At 0) q head.of_pool head.inside, ap (λ (stage : Stage). one_if (is_at stage)) head.queued)) (omega arith) inside
threads_step plan s s' o ordered kept (retires q idle is_idle not_handed) p inside keeps = enough_retired plan s q idle p ordered kept is_idle inside keeps
