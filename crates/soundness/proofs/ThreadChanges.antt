-- The effect of an event on the number of a pool's threads.
use Rattle.std.specs.Prelude.{⊤}
use Rattle.std.proofs.Common.{◌≡◌, ℕ, inl, inr, false, ◌+◌, ◌<◌, ◌≤◌, List, [], ◌∷◌, ◌++◌, length, Some, refl, sym, ap, ◌∙◌, arith}
use Rattle.std.proofs.lemmas.Bool.{false≢true}
use Rattle.job_bodies.specs.declared.action.Action.{Action}
use Rattle.job_bodies.specs.Plan.{Plan, pool_at}
use Rattle.pool_machine.proofs.PoolEvents.{HasSpareThread}
use Rattle.pool_machine.specs.declared.parent.Parent.{Parent}
use Rattle.pool_machine.specs.declared.parent.Parent.TheVariants as parent
use Rattle.pool_machine.specs.declared.event.Event.{Event}
use Rattle.pool_machine.specs.declared.event.Outcome.{Outcome}
use Rattle.pool_machine.specs.State.{Stage, State, CreatedJob, PoolPart, job_at, pool_part, pool_of, pool_seen, is_at, threads}
use Rattle.pool_machine.specs.Step.{point, with_position, new_job, moved_jobs}
use Rattle.pool_machine.proofs.Events.{with_part, KeepsThreads, Happens, works, starts, queues, is_refused, is_rejected, gets, finishes, loops, takes, retires}
use Rattle.pool_machine.proofs.Positions.{stage_of_standing, standing_made}
use Rattle.pool_machine.proofs.StateInvariant.{StateInvariant, busy_jobs}
use Rattle.pool_machine.proofs.Stages.{staged}
use Rattle.pool_machine.proofs.Queues.{head_of_queue}
use Rattle.pool_machine.proofs.Busy.{one_if, busy_in-as, busy-staged_same, busy-staged_elsewhere, busy-staged_here, busy-moved, busy_push, busy_push_same}
use Rattle.pool_machine.proofs.PoolInvariants.{pools_with_part}
use Rattle.pool_machine.proofs.InvariantStep.{done_still}
use Rattle.pool_machine.proofs.JobsMade.{made_jobs, made_jobs-staged, made_jobs-moved, made_jobs_push}

-- the core threads of pool p never time out
abbrev pub IsLasting : Plan → ℕ → Type 0
IsLasting plan p = (pool_at plan p).core_timeout ≡ false

-- the effect of a change on the threads of pool p: their number grows by at most the number of jobs that are newly submitted to
-- the pool; none of its jobs is removed; and if core threads never time out, the event keeps threads, and there were at least core threads
-- before the change, there are at least core threads afterwards
pub record ThreadsChange (plan : Plan) (s : State) (keeps : Type 0) (jobs : List CreatedJob) (p : ℕ) (part : PoolPart) : Type 0 where
  pub by_jobs : part.idle + busy_jobs plan jobs p + made_jobs plan s.jobs p ≤ threads plan s p + made_jobs plan jobs p
  pub no_fewer : made_jobs plan s.jobs p ≤ made_jobs plan jobs p
  pub at_core : keeps → IsLasting plan p → (pool_at plan p).core ≤ threads plan s p → (pool_at plan p).core ≤ part.idle + busy_jobs plan jobs p

-- a change that leaves the number of a pool's threads unchanged and removes no job satisfies `ThreadsChange`
change_same : (plan : Plan) (s : State) (keeps : Type 0) (jobs : List CreatedJob) (p : ℕ) (part : PoolPart) → part.idle + busy_jobs plan jobs p ≡ threads plan s p → made_jobs plan s.jobs p ≤ made_jobs plan jobs p → ThreadsChange plan s keeps jobs p part
change_same plan s keeps jobs p part same no_fewer = record { by_jobs = omega arith; no_fewer = no_fewer; at_core = λ kept lasting enough. omega arith }

-- the effect on a pool's threads if an actor changes its position
change_moved : (plan : Plan) (s : State) (a : Parent) (body : List Action) (i i' p : ℕ) → point plan s a ≡ Some (record { body = body; position = i }) → ThreadsChange plan s ⊤ (moved_jobs a i' s) p (pool_part s p)
change_moved plan s a body i i' p stands =
    change_same plan s ⊤ (moved_jobs a i' s) p (pool_part s p) (omega (arith, busy-moved plan s a body i i' p stands)) (omega (arith, made_jobs-moved plan s a i' p))

-- the effect on a pool's threads if a submit starts its job
change_starts : (plan : Plan) (s : State) (a : Parent) (body : List Action) (i k p : ℕ) → point plan s a ≡ Some (record { body = body; position = i })
    → ThreadsChange plan s ⊤ (moved_jobs a (i + 1) s ++ new_job k a i (Stage.At 0) ∷ []) p (pool_part s p)
change_starts plan s a body i k p stands =
    let jobs = moved_jobs a (i + 1) s in
    let job = new_job k a i (Stage.At 0) in
    let busy = busy_push plan jobs job p in
    let made = made_jobs_push plan jobs job p in
    let as_busy = busy-moved plan s a body i (i + 1) p stands in
    let as_made = made_jobs-moved plan s a (i + 1) p in
    record { by_jobs = omega arith; no_fewer = omega arith; at_core = λ kept lasting enough. omega arith }

-- the effect on a pool's threads if a submit queues its job
change_queues : (plan : Plan) (s : State) (keeps : Type 0) (a : Parent) (body : List Action) (i k : ℕ) (part : PoolPart) (p : ℕ) → point plan s a ≡ Some (record { body = body; position = i }) → part.idle ≡ (pool_part s p).idle
    → ThreadsChange plan s keeps (moved_jobs a (i + 1) s ++ new_job k a i Stage.Queued ∷ []) p part
change_queues plan s keeps a body i k part p stands same_idle =
    let jobs = moved_jobs a (i + 1) s in
    let job = new_job k a i Stage.Queued in
    change_same plan s keeps (jobs ++ job ∷ []) p part
    (omega (arith, busy_push_same plan jobs job p refl, busy-moved plan s a body i (i + 1) p stands))
    (omega (arith, made_jobs_push plan jobs job p, made_jobs-moved plan s a (i + 1) p))

-- a skipped submit leaves the number of threads of each pool unchanged
pub change_skipped : (plan : Plan) (s : State) (a : Parent) (body : List Action) (i k p : ℕ) → point plan s a ≡ Some (record { body = body; position = i })
    → ThreadsChange plan s ⊤ (moved_jobs a (i + 1) s ++ new_job k a i Stage.Done ∷ []) p (pool_part s p)
change_skipped plan s a body i k p stands =
    let jobs = moved_jobs a (i + 1) s in
    let job = new_job k a i Stage.Done in
    change_same plan s ⊤ (jobs ++ job ∷ []) p (pool_part s p)
    (omega (arith, busy_push_same plan jobs job p refl, busy-moved plan s a body i (i + 1) p stands))
    (omega (arith, made_jobs_push plan jobs job p, made_jobs-moved plan s a (i + 1) p))

-- the effect on a pool's threads if a get claims a done job
change_gets : (plan : Plan) (s : State) (a : Parent) (body : List Action) (i j p : ℕ) → point plan s a ≡ Some (record { body = body; position = i }) → (job_at s j).stage ≡ Stage.Done
    → ThreadsChange plan s ⊤ (staged (moved_jobs a (i + 1) s) j Stage.Claimed) p (pool_part s p)
change_gets plan s a body i j p stands done =
    let jobs = moved_jobs a (i + 1) s in
    let still : (job_at (with_position a (i + 1) s) j).stage ≡ Stage.Done = done_still plan s a body i (i + 1) j stands done in
    let as_busy = busy-staged_same plan jobs j Stage.Claimed p (busy_in-as plan p (job_at (with_position a (i + 1) s) j) Stage.Claimed (sym (ap is_at still))) in
    change_same plan s ⊤ (staged jobs j Stage.Claimed) p (pool_part s p)
    (omega (arith, busy-moved plan s a body i (i + 1) p stands))
    (omega (arith, made_jobs-staged plan jobs j Stage.Claimed p, made_jobs-moved plan s a (i + 1) p))

-- the effect on a pool's threads if a worker takes or finishes a job
change_worker : (plan : Plan) (s : State) (j : ℕ) (stage : Stage) (q : ℕ) (queue : List ℕ) (idle : ℕ) → length s.pools ≡ length plan.pools → pool_of plan (job_at s j).class ≡ q → idle + busy_jobs plan (staged s.jobs j stage) q ≡ threads plan s q
    → (p : ℕ) → p < length plan.pools → ThreadsChange plan s ⊤ (staged s.jobs j stage) p (pool_part (with_part q queue idle s) p)
change_worker plan s j stage q queue idle as_many of_pool same =
    let jobs = staged s.jobs j stage in
    pools_with_part plan s q queue idle (ThreadsChange plan s ⊤ jobs) as_many
    (λ exists. change_same plan s ⊤ jobs q (record { queue = queue; idle = idle }) same (omega (arith, made_jobs-staged plan s.jobs j stage q)))
    (λ p inside other.
    change_same plan s ⊤ jobs p (pool_part s p) (omega (arith, busy-staged_elsewhere plan s.jobs j stage p (λ same_pool. other (sym same_pool ∙ of_pool)))) (omega (arith, made_jobs-staged plan s.jobs j stage p)))

-- a pool whose core threads never time out has more than core threads if it does not need one
above_core : (plan : Plan) (s : State) (p : ℕ) → IsLasting plan p → HasSpareThread (pool_seen plan s p) → (pool_at plan p).core < threads plan s p
above_core plan s p lasting (inl above) = above
above_core plan s p lasting (inr timeout) = absurd (false≢true (sym lasting ∙ timeout.0))

-- the effect of each event on the threads of each pool
pub threads_change : (plan : Plan) (s s' : State) (o : Outcome) {e : Event} → StateInvariant plan s → (happened : Happens plan s e s' o) → (p : ℕ) → p < length plan.pools → ThreadsChange plan s (KeepsThreads plan s p e s' o happened) s'.jobs p (pool_part s' p)
threads_change plan s s' o kept (works a body i u at) p inside = change_moved plan s a body i (i + 1) p at.stands
threads_change plan s s' o kept (starts a body i k at below) p inside = change_starts plan s a body i k p at.stands
threads_change plan s s' o kept (queues a body i k at room) p inside =
    let q = pool_of plan k in
    let jobs = moved_jobs a (i + 1) s ++ new_job k a i Stage.Queued ∷ [] in
    pools_with_part plan s q ((pool_part s q).queue ++ length s.jobs ∷ []) (pool_part s q).idle (λ r part. ThreadsChange plan s (q ≡ r → (pool_at plan r).core ≤ threads plan s r) jobs r part) kept.as_many
    (λ exists. change_queues plan s (q ≡ q → (pool_at plan q).core ≤ threads plan s q) a body i k (record { queue = (pool_part s q).queue ++ length s.jobs ∷ []; idle = (pool_part s q).idle }) q at.stands refl)
    (λ r within other. change_queues plan s (q ≡ r → (pool_at plan r).core ≤ threads plan s r) a body i k (pool_part s r) r at.stands refl) p inside
threads_change plan s s' o kept (is_refused a body i k at must no_room all_started) p inside = change_same plan s ⊤ s.jobs p (pool_part s p) refl (omega arith)
threads_change plan s s' o kept (is_rejected a body i k at may) p inside = change_skipped plan s a body i k p at.stands
threads_change plan s s' o kept (gets a body i t j at is_child done) p inside = change_gets plan s a body i j p at.stands done
threads_change plan s s' o kept (finishes j body i at) p inside =
    let q = pool_of plan (job_at s j).class in
    let was = stage_of_standing plan (job_at s j).class (job_at s j).stage body i at.stands in
    change_worker plan s j Stage.Done q (pool_part s q).queue ((pool_part s q).idle + 1) kept.as_many refl
    (omega (arith, busy-staged_here plan s.jobs j Stage.Done q refl (standing_made plan s j body i at.stands), ap (λ (stage : Stage). one_if (is_at stage)) was.0)) p inside
threads_change plan s s' o kept (loops c client body i at is_client repeats) p inside = change_moved plan s (parent.Client c) body i 0 p at.stands
threads_change plan s s' o kept (takes q j queue idle is_queue is_idle) p inside =
    let head = head_of_queue plan s q j queue kept is_queue in
    change_worker plan s j (Stage.At 0) q queue idle kept.as_many head.of_pool
    (omega (arith, busy-staged_here plan s.jobs j (Stage.At 0) q head.of_pool head.inside, ap (λ (stage : Stage). one_if (is_at stage)) head.queued)) p inside
threads_change plan s s' o kept (retires q idle is_idle not_handed) p inside =
    pools_with_part plan s q (pool_part s q).queue idle (λ r part. ThreadsChange plan s (q ≡ r → HasSpareThread (pool_seen plan s r)) s.jobs r part) kept.as_many
    (λ exists. record { by_jobs = omega arith; no_fewer = omega arith; at_core = λ keeps lasting enough. let above = above_core plan s q lasting (keeps refl) in omega arith })
    (λ r within other. change_same plan s (q ≡ r → HasSpareThread (pool_seen plan s r)) s.jobs r (pool_part s r) refl (omega arith)) p inside
