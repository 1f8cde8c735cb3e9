-- A pool with a standing or a lifetime vector whose rows hold refuses no submit.
use Rattle.std.proofs.Common.{◌≡◌, ℕ, ◌+◌, ◌-◌, ◌<◌, ◌≤◌, Bool, true, cond, inl, inr, eqb, List, length, get_or, Some, refl, sym, ap, subst, ◌∙◌, arith, false}
use Rattle.std.specs.List.{count_by}
use Rattle.std.proofs.lemmas.Bool.{and_parts, eqb-true}
use Rattle.std.proofs.lemmas.Option.{slice_get_within}
use Rattle.support.proofs.PassingPlaces.{length-places}
use Rattle.support.proofs.Sums.{count_by-le-sum_by}
use Rattle.job_bodies.specs.declared.action.Action.{Action}
use Rattle.job_bodies.specs.declared.action.Action.TheVariants as action
use Rattle.job_bodies.specs.Plan.{Pool, Plan, pool_at, class_at, first_workers}
use Rattle.job_bodies.proofs.Bodies.{HasValidBodies}
use Rattle.pool_machine.specs.declared.parent.Parent.{Parent}
use Rattle.pool_machine.specs.declared.parent.Parent.TheVariants as parent
use Rattle.pool_machine.specs.declared.event.Event.{Event}
use Rattle.pool_machine.specs.declared.event.Outcome.TheVariants as outcome
use Rattle.pool_machine.specs.State.{Stage, State, CreatedJob, no_job, job_at, pool_part, pool_of, is_queued, is_queued_in, threads}
use Rattle.pool_machine.specs.Step.{point_of_job, with_position, new_job, moved_jobs}
use Rattle.pool_machine.specs.JobsMade.{is_of_pool, jobs_made}
use Rattle.pool_machine.proofs.Events.{IsAtAction, Happens, is_refused, HasNoRoom}
use Rattle.pool_machine.proofs.StateInvariant.{StateInvariant}
use Rattle.pool_machine.proofs.Stages.{HaveClasses, classes_moved}
use Rattle.pool_machine.proofs.Queues.{queued_stage, places-moved}
use Rattle.pool_machine.proofs.Actors.{standing-moved}
use Rattle.pool_machine.proofs.InvariantSubmits.{class_exists}
use Rattle.pool_machine.proofs.JobsMade.{made_jobs, made_jobs-moved, queue-le_made, HaveJobs}
use Rattle.weights.specs.declared.get_return.GetReturn.{GetReturn}
use Rattle.weights.specs.declared.get_return.GetReturn.TheVariants.{DoneWeight, NoWeight}
use Rattle.weights.specs.declared.bound.Bound.{Bound}
use Rattle.weights.specs.declared.bound.Bound.TheVariants.{Standing, Lifetime}
use Rattle.weights.specs.Vector.{Vector, queued_weight, total}
use Rattle.weights.specs.Lifetime.{lifetime_limit}
use Rattle.weights.specs.Bound.{bound_vector, bound_get_return}
use Rattle.soundness.specs.WeightedSum.{stage_weight}
use Rattle.soundness.proofs.VectorLaws.{VectorLaws}
use Rattle.soundness.proofs.BoundLaws.{StandingLaws, LifetimeLaws, BoundLaws}
use Rattle.soundness.proofs.Rejections.{IsDeclined}
use Rattle.soundness.proofs.ThreadChanges.{IsLasting}
use Rattle.soundness.proofs.NeverRises.{jobs_weight, IsBalanced, busy_workers_weight-with_position, actors_weight-with_job, busy_workers_weight-with_job, never_rises_queued}
use Rattle.soundness.proofs.WithinTotal.{busy_workers_weight-le, actors_weight-le-total}

-- at a submit, the weight of all jobs, plus that of the submitted job when queued, is at most the total
submit_within_total : (get_return : GetReturn) (plan : Plan) (v : Vector) (s : State) (a : Parent) (body : List Action) (i k : ℕ) → HasValidBodies plan → VectorLaws get_return plan v → StateInvariant plan s → IsBalanced get_return plan v s → IsAtAction plan s a body i (Some (action.Submit k))
    → jobs_weight get_return plan v (moved_jobs a (i + 1) s) + queued_weight v k ≤ total plan v
submit_within_total get_return plan v s a body i k ordered laws kept balanced at =
    let moved : State = with_position a (i + 1) s in
    let job = new_job k a i Stage.Queued in
    let no_heavier = never_rises_queued get_return plan v s a body i k laws at in
    omega (arith, no_heavier, busy_workers_weight-le plan v s ordered kept, busy_workers_weight-with_position plan v s a body i (i + 1) at.stands, actors_weight-with_job get_return plan v moved job, busy_workers_weight-with_job plan v moved job)

-- ---- a standing vector

-- the number of queued jobs of the pool is at most the weight of all jobs, because each queued job weighs at least 1
pub queued-le-actors_weight : (plan : Plan) (v : Vector) (p : ℕ) (jobs : List CreatedJob) → ((k : ℕ) → k < length plan.classes → pool_of plan k ≡ p → 1 ≤ queued_weight v k) → HaveClasses (length plan.classes) jobs → count_by (is_queued_in plan p) jobs ≤ jobs_weight DoneWeight plan v jobs
queued-le-actors_weight plan v p jobs weighs classes =
    count_by-le-sum_by (is_queued_in plan p) (λ (job : CreatedJob). stage_weight DoneWeight plan v job.class job.stage) jobs no_job
    (λ j inside passes.
    let job = get_or jobs j no_job in
    let parts = and_parts (is_queued job.stage) (eqb (pool_of plan job.class) p) passes in
    subst (λ (stage : Stage). 1 ≤ stage_weight DoneWeight plan v job.class stage) (sym (queued_stage job.stage parts.0)) (weighs job.class (classes j no_job inside) (eqb-true (pool_of plan job.class) p parts.1)))

-- no submit finds the queue of a pool with a standing vector full, because otherwise the queued jobs and the submitted one
-- would weigh more than the total
pub standing_refuses_nothing : (plan : Plan) (v : Vector) (s : State) (a : Parent) (body : List Action) (i k : ℕ) → HasValidBodies plan → StandingLaws plan (pool_of plan k) v → StateInvariant plan s → IsBalanced DoneWeight plan v s → IsAtAction plan s a body i (Some (action.Submit k))
    → HasNoRoom plan s (pool_of plan k) → ⊥
standing_refuses_nothing plan v s a body i k ordered laws kept balanced at no_room =
    let p = pool_of plan k in
    let jobs = moved_jobs a (i + 1) s in
    let exists = class_exists plan s a body i k ordered at in
    let within = submit_within_total DoneWeight plan v s a body i k ordered laws.laws kept balanced at in
    let enough = queued-le-actors_weight plan v p jobs (laws.queued no_room.0) (classes_moved (length plan.classes) s a (i + 1) kept.classes) in
    let one = laws.queued no_room.0 k exists refl in
    let limit = laws.within no_room.0 in
    let full = no_room.1 in
    let queued : length (pool_part s p).queue ≡ count_by (is_queued_in plan p) jobs =
    ap length ((kept.pools p (ordered.pools k exists)).queue ∙ sym (places-moved plan s a body i (i + 1) p at.stands)) ∙ length-places (is_queued_in plan p) jobs in
    omega arith

-- ---- a lifetime vector

-- the position of each running job of the list is at most the length of the job's body
abbrev AreInside : Plan → List CreatedJob → Type 0
AreInside plan jobs = (j n : ℕ) → (get_or jobs j no_job).stage ≡ Stage.At n → n ≤ length (class_at plan (get_or jobs j no_job).class).body

-- in a state that satisfies the invariants, the position of each running job is at most the length of the job's body
are_inside : (plan : Plan) (s : State) → StateInvariant plan s → AreInside plan s.jobs
are_inside plan s kept j n e = (kept.actors (parent.Job j) (class_at plan (job_at s j).class).body n (ap (point_of_job plan (job_at s j).class) e)).inside

-- after an actor passes an action, the position of each running job is at most the length of the job's body
are_inside_moved : (plan : Plan) (s : State) (a : Parent) (body : List Action) (i : ℕ) (x : Action) → StateInvariant plan s → IsAtAction plan s a body i (Some x) → AreInside plan (moved_jobs a (i + 1) s)
are_inside_moved plan s a body i x kept at j n e =
    let job = get_or (moved_jobs a (i + 1) s) j no_job in
    elim (standing-moved plan s a body i (i + 1) at.stands (parent.Job j) (class_at plan job.class).body n (ap (point_of_job plan job.class) e)) [
      | inl same ↦
          let there_is : i < length body = slice_get_within body i x at.is_there in
          let long : length (class_at plan job.class).body ≡ length body = ap (λ (b : List Action). length b) same.1 in
          let next : n ≡ i + 1 = same.2 in
          omega arith
      | inr other ↦ (kept.actors (parent.Job j) (class_at plan job.class).body n other.1).inside
    ]

-- a job of the pool weighs at least 1 at every stage
job_weighs_one : (plan : Plan) (v : Vector) (p k : ℕ) (stage : Stage) → LifetimeLaws plan p v → (pool_at plan p).unbounded ≡ false → k < length plan.classes → pool_of plan k ≡ p → ((n : ℕ) → stage ≡ Stage.At n → n ≤ length (class_at plan k).body) → 1 ≤ stage_weight NoWeight plan v k stage
job_weighs_one plan v p k Stage.Queued laws bounded exists of_pool inside = laws.queued bounded k exists of_pool
job_weighs_one plan v p k (Stage.At n) laws bounded exists of_pool inside = laws.position bounded k n exists of_pool (inside n refl)
job_weighs_one plan v p k Stage.Done laws bounded exists of_pool inside = laws.done bounded k exists of_pool
job_weighs_one plan v p k Stage.Claimed laws bounded exists of_pool inside = laws.done bounded k exists of_pool

-- the number of jobs submitted to the pool is at most the weight of all jobs, because each of them weighs at least 1
made-le-actors_weight : (plan : Plan) (v : Vector) (p : ℕ) (jobs : List CreatedJob) → LifetimeLaws plan p v → (pool_at plan p).unbounded ≡ false → HaveClasses (length plan.classes) jobs → AreInside plan jobs → made_jobs plan jobs p ≤ jobs_weight NoWeight plan v jobs
made-le-actors_weight plan v p jobs laws bounded classes inside =
    count_by-le-sum_by (is_of_pool plan p) (λ (job : CreatedJob). stage_weight NoWeight plan v job.class job.stage) jobs no_job
    (λ j made passes.
    let job = get_or jobs j no_job in
    job_weighs_one plan v p job.class job.stage laws bounded (classes j no_job made) (eqb-true (pool_of plan job.class) p passes) (inside j))

-- at a submit to a pool with a lifetime vector, fewer jobs were submitted to the pool than its lifetime limit; otherwise the jobs would
-- weigh more than the total
pub lifetime_leaves_room : (plan : Plan) (v : Vector) (s : State) (a : Parent) (body : List Action) (i k : ℕ) → HasValidBodies plan → LifetimeLaws plan (pool_of plan k) v → (pool_at plan (pool_of plan k)).unbounded ≡ false → StateInvariant plan s → IsBalanced NoWeight plan v s → IsAtAction plan s a body i (Some (action.Submit k))
    → lifetime_limit (pool_at plan (pool_of plan k)) ≤ jobs_made plan s (pool_of plan k) → ⊥
lifetime_leaves_room plan v s a body i k ordered laws bounded kept balanced at as_many =
    let p = pool_of plan k in
    let exists = class_exists plan s a body i k ordered at in
    let within = submit_within_total NoWeight plan v s a body i k ordered laws.laws kept balanced at in
    let enough = made-le-actors_weight plan v p (moved_jobs a (i + 1) s) laws bounded (classes_moved (length plan.classes) s a (i + 1) kept.classes) (are_inside_moved plan s a body i (action.Submit k) kept at) in
    let one = laws.queued bounded k exists refl in
    let limit = laws.within bounded in
    omega (arith, made_jobs-moved plan s a (i + 1) p)

-- a pool reaches its lifetime limit if its queue was full, and if it has max threads unless its core threads may time out
pub limit_reached : (pool : Pool) (made : ℕ) → pool.queue ≤ made → (pool.core_timeout ≡ false → pool.queue + pool.max ≤ made + first_workers pool) → lifetime_limit pool ≤ made
limit_reached pool made queued lasting = by_cases pool.core_timeout lasting
  where
    by_cases : (timeout : Bool) → (timeout ≡ false → pool.queue + pool.max ≤ made + first_workers pool) → cond timeout pool.queue (pool.queue + pool.max - first_workers pool) ≤ made
    by_cases true all = queued
    by_cases false all =
        let many = all refl in
        omega arith

-- no submit to a pool with a lifetime vector finds the queue full while the pool has max threads, because that many jobs cannot
-- have been submitted before
lifetime_refuses_nothing : (plan : Plan) (v : Vector) (s : State) (a : Parent) (body : List Action) (i k : ℕ) → HasValidBodies plan → LifetimeLaws plan (pool_of plan k) v → StateInvariant plan s → HaveJobs plan (IsLasting plan) s → IsBalanced NoWeight plan v s → IsAtAction plan s a body i (Some (action.Submit k))
    → HasNoRoom plan s (pool_of plan k) → (pool_at plan (pool_of plan k)).max ≤ threads plan s (pool_of plan k) → ⊥
lifetime_refuses_nothing plan v s a body i k ordered laws kept have balanced at no_room all_started =
    let p = pool_of plan k in
    let inside = ordered.pools k (class_exists plan s a body i k ordered at) in
    let full = no_room.1 in
    let queued : (pool_at plan p).queue ≤ jobs_made plan s p = omega (arith, queue-le_made plan s p kept inside) in
    lifetime_leaves_room plan v s a body i k ordered laws no_room.0 kept balanced at
    (limit_reached (pool_at plan p) (jobs_made plan s p) queued (λ lasting. let made = have p inside lasting in omega arith))

-- the number of jobs submitted to a pool is at most the total of its lifetime vector
pub jobs-le-total : (plan : Plan) (v : Vector) (s : State) (p : ℕ) → HasValidBodies plan → LifetimeLaws plan p v → (pool_at plan p).unbounded ≡ false → StateInvariant plan s → IsBalanced NoWeight plan v s → jobs_made plan s p ≤ total plan v
jobs-le-total plan v s p ordered laws bounded kept balanced =
    omega (arith, made-le-actors_weight plan v p s.jobs laws bounded kept.classes (are_inside plan s kept), actors_weight-le-total NoWeight plan v s ordered kept balanced)

-- ---- a standing or a lifetime vector

-- no submit to a pool with a bound whose rows hold finds the queue full while the pool has max threads
pub not_refused : (plan : Plan) (bound : Bound) (s : State) (a : Parent) (body : List Action) (i k : ℕ) → HasValidBodies plan → BoundLaws plan (pool_of plan k) bound → StateInvariant plan s → HaveJobs plan (IsLasting plan) s
    → IsBalanced (bound_get_return bound) plan (bound_vector bound) s → IsAtAction plan s a body i (Some (action.Submit k))
    → HasNoRoom plan s (pool_of plan k) → (pool_at plan (pool_of plan k)).max ≤ threads plan s (pool_of plan k) → ⊥
not_refused plan (Standing v) s a body i k ordered laws kept have balanced at no_room all_started = standing_refuses_nothing plan v s a body i k ordered laws kept balanced at no_room
not_refused plan (Lifetime v) s a body i k ordered laws kept have balanced at no_room all_started = lifetime_refuses_nothing plan v s a body i k ordered laws kept have balanced at no_room all_started

-- no event refuses a submit to a pool with a bound whose rows hold
pub never_refused : (plan : Plan) (bound : Bound) (s s' : State) (p : ℕ) {e : Event} → HasValidBodies plan → BoundLaws plan p bound → StateInvariant plan s → HaveJobs plan (IsLasting plan) s → IsBalanced (bound_get_return bound) plan (bound_vector bound) s → Happens plan s e s' (outcome.Refused p) → ⊥
never_refused plan bound s s' p ordered laws kept have balanced (is_refused a body i k at must no_room all_started) = not_refused plan bound s a body i k ordered laws kept have balanced at no_room all_started

-- if the rows of a pool's bound hold, no actor is at a submit to this pool while its queue is full and it has max threads
pub never_declined : (plan : Plan) (bound : Bound) (s : State) (p : ℕ) → HasValidBodies plan → BoundLaws plan p bound → StateInvariant plan s → HaveJobs plan (IsLasting plan) s → IsBalanced (bound_get_return bound) plan (bound_vector bound) s → IsDeclined plan s p → ⊥
never_declined plan bound s p ordered laws kept have balanced full =
    not_refused plan bound s full.actor full.body full.position full.class ordered (subst (λ (q : ℕ). BoundLaws plan q bound) (sym full.of_pool) laws) kept have balanced full.at full.no_room full.all_started
