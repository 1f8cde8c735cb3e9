-- Lemmas about the jobs that run in a pool, and their number, after a change of the jobs.
use Rattle.std.proofs.Common.{◌≡◌, ◌≢◌, ℕ, ◌+◌, ◌<◌, Bool, true, false, cond, ◌&&◌, eqb, List, [], ◌∷◌, ◌++◌, length, get_or, Some, refl, sym, ap, ◌∙◌, arith}
use Rattle.std.proofs.lemmas.Bool.{and_right, eq-eqb, ne_eqb}
use Rattle.std.proofs.lemmas.List.Sums.{sum_by_push}
use Rattle.support.proofs.Sums.{count_by-set}
use Rattle.job_bodies.specs.declared.action.Action.{Action}
use Rattle.job_bodies.specs.Plan.{Plan}
use Rattle.pool_machine.specs.declared.parent.Parent.{Parent}
use Rattle.pool_machine.specs.declared.parent.Parent.TheVariants as parent
use Rattle.pool_machine.specs.State.{Stage, State, CreatedJob, no_job, job_at, pool_of, is_at, is_busy_in}
use Rattle.pool_machine.specs.Step.{point, moved_jobs}
use Rattle.pool_machine.proofs.Positions.{stage_of_standing}
use Rattle.pool_machine.proofs.StateInvariant.{busy_jobs}
use Rattle.pool_machine.proofs.Stages.{staged, count-staged}

abbrev pub one_if : Bool → ℕ
one_if b = cond b 1 0

-- ---- one job

-- a new stage of a job does not change whether the job runs in a pool if both stages are positions, or neither is
pub busy_in-as : (plan : Plan) (p : ℕ) (job : CreatedJob) (stage : Stage) → is_at stage ≡ is_at job.stage → is_busy_in plan p (record job { stage = stage }) ≡ is_busy_in plan p job
busy_in-as plan p job stage same = ap (λ (b : Bool). b && eqb (pool_of plan job.class) p) same

-- a job of a class of another pool does not run in this pool
pub busy_in_other : (plan : Plan) (p : ℕ) (job : CreatedJob) → pool_of plan job.class ≢ p → is_busy_in plan p job ≡ false
busy_in_other plan p job other = and_right (is_at job.stage) (eqb (pool_of plan job.class) p) (ne_eqb (pool_of plan job.class) p other)

-- a job of a class of the pool runs in it exactly when its stage is a position
pub busy_in_own : (plan : Plan) (p : ℕ) (job : CreatedJob) → pool_of plan job.class ≡ p → is_busy_in plan p job ≡ is_at job.stage
busy_in_own plan p job of_pool = ap (λ (b : Bool). is_at job.stage && b) (eq-eqb (pool_of plan job.class) p of_pool) ∙ and_true (is_at job.stage)
  where
    and_true : (b : Bool) → (b && true) ≡ b
    and_true true = refl
    and_true false = refl

-- ---- the stage of a job changes

-- the number of jobs that run in a pool is unchanged if the job runs in it after the change exactly when it did before
pub busy-staged_same : (plan : Plan) (jobs : List CreatedJob) (j : ℕ) (stage : Stage) (p : ℕ) → is_busy_in plan p (record (get_or jobs j no_job) { stage = stage }) ≡ is_busy_in plan p (get_or jobs j no_job) → busy_jobs plan (staged jobs j stage) p ≡ busy_jobs plan jobs p
busy-staged_same plan jobs j stage p same = count-staged (is_busy_in plan p) jobs j stage same

-- the number of running jobs of each pool other than the job's own is unchanged
pub busy-staged_elsewhere : (plan : Plan) (jobs : List CreatedJob) (j : ℕ) (stage : Stage) (p : ℕ) → pool_of plan (get_or jobs j no_job).class ≢ p → busy_jobs plan (staged jobs j stage) p ≡ busy_jobs plan jobs p
busy-staged_elsewhere plan jobs j stage p other =
    let job = get_or jobs j no_job in
    busy-staged_same plan jobs j stage p (busy_in_other plan p (record job { stage = stage }) other ∙ sym (busy_in_other plan p job other))

-- the number of running jobs in the job's own pool, given whether the job ran before and runs after the change
pub busy-staged_here : (plan : Plan) (jobs : List CreatedJob) (j : ℕ) (stage : Stage) (p : ℕ) → pool_of plan (get_or jobs j no_job).class ≡ p → j < length jobs
    → busy_jobs plan (staged jobs j stage) p + one_if (is_at (get_or jobs j no_job).stage) ≡ busy_jobs plan jobs p + one_if (is_at stage)
busy-staged_here plan jobs j stage p of_pool inside =
    let job = get_or jobs j no_job in
    let changed : CreatedJob = record job { stage = stage } in
    ap (λ (b : Bool). busy_jobs plan (staged jobs j stage) p + one_if b) (sym (busy_in_own plan p job of_pool))
    ∙ count_by-set (is_busy_in plan p) jobs j changed no_job inside
    ∙ ap (λ (b : Bool). busy_jobs plan jobs p + one_if b) (busy_in_own plan p changed of_pool)

-- a move of an actor does not change the number of running jobs of any pool
pub busy-moved : (plan : Plan) (s : State) (a : Parent) (body : List Action) (i i' p : ℕ) → point plan s a ≡ Some (record { body = body; position = i }) → busy_jobs plan (moved_jobs a i' s) p ≡ busy_jobs plan s.jobs p
busy-moved plan s (parent.Client c) body i i' p stands = refl
busy-moved plan s (parent.Job j) body i i' p stands =
    busy-staged_same plan s.jobs j (Stage.At i') p (busy_in-as plan p (job_at s j) (Stage.At i') (sym (ap is_at (stage_of_standing plan (job_at s j).class (job_at s j).stage body i stands).0)))

-- ---- a job is created

pub busy_push : (plan : Plan) (jobs : List CreatedJob) (job : CreatedJob) (p : ℕ) → busy_jobs plan (jobs ++ job ∷ []) p ≡ busy_jobs plan jobs p + one_if (is_busy_in plan p job)
busy_push plan jobs job p = sum_by_push (λ (x : CreatedJob). one_if (is_busy_in plan p x)) jobs job

-- a new job that does not run in the pool does not change the number of jobs that run in it
pub busy_push_same : (plan : Plan) (jobs : List CreatedJob) (job : CreatedJob) (p : ℕ) → is_busy_in plan p job ≡ false → busy_jobs plan (jobs ++ job ∷ []) p ≡ busy_jobs plan jobs p
busy_push_same plan jobs job p not_busy =
    let none : one_if (is_busy_in plan p job) ≡ 0 = ap one_if not_busy in
    omega (arith, busy_push plan jobs job p, none)

-- a new job increases the number of running jobs of its own pool by one if it runs at once
pub busy_push_here : (plan : Plan) (jobs : List CreatedJob) (job : CreatedJob) → busy_jobs plan (jobs ++ job ∷ []) (pool_of plan job.class) ≡ busy_jobs plan jobs (pool_of plan job.class) + one_if (is_at job.stage)
busy_push_here plan jobs job =
    let p = pool_of plan job.class in
    busy_push plan jobs job p ∙ ap (λ (b : Bool). busy_jobs plan jobs p + one_if b) (busy_in_own plan p job refl)
