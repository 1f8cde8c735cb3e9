-- Lemmas about the queues of the pools, which the list of jobs determines.
use Rattle.std.proofs.Common.{◌≡◌, ◌≢◌, ℕ, ◌<◌, ◌≤◌, Bool, true, false, ◌&&◌, eqb, inl, inr, List, [], ◌∷◌, ◌++◌, length, get_or, Some, refl, sym, ap, subst, ◌∙◌, arith, append-nil}
use Rattle.std.proofs.lemmas.Bool.{false≢true, cases_lt, and_parts, and_from, and_left, and_right, eqb-true, eq-eqb, ne_eqb}
use Rattle.std.proofs.lemmas.List.{get_or_past}
use Rattle.support.specs.In.{In}
use Rattle.support.specs.Places.{cons_if}
use Rattle.support.proofs.PassingPlaces.{places_where_push, places_where-set_same, first_where, In-places_where}
use Rattle.job_bodies.specs.declared.action.Action.{Action}
use Rattle.job_bodies.specs.Plan.{Plan}
use Rattle.job_bodies.proofs.Bodies.{HasValidBodies}
use Rattle.pool_machine.specs.declared.parent.Parent.{Parent}
use Rattle.pool_machine.specs.declared.parent.Parent.TheVariants as parent
use Rattle.pool_machine.specs.State.{Stage, State, CreatedJob, PoolPart, no_job, no_pool_part, job_at, pool_part, pool_of, is_queued, is_queued_in}
use Rattle.pool_machine.specs.Step.{point, moved_jobs}
use Rattle.pool_machine.proofs.Positions.{stage_of_standing, job_made}
use Rattle.pool_machine.proofs.StateInvariant.{StateInvariant, places}
use Rattle.pool_machine.proofs.Stages.{staged}

-- ---- the jobs in a queue

pub queued_stage : (stage : Stage) → is_queued stage ≡ true → stage ≡ Stage.Queued
queued_stage Stage.Queued e = refl
queued_stage (Stage.At i) e = absurd (false≢true e)
queued_stage Stage.Done e = absurd (false≢true e)
queued_stage Stage.Claimed e = absurd (false≢true e)

pub Queued≢Claimed : {stage : Stage} → stage ≡ Stage.Queued → stage ≢ Stage.Claimed
Queued≢Claimed queued claimed = cc

-- job j, the head of the queue of pool p, is queued in p, and `rest` has the other jobs that are queued in p
pub record IsHead (plan : Plan) (s : State) (p j : ℕ) (rest : List ℕ) : Type 0 where
  pub exists : p < length plan.pools
  pub inside : j < length s.jobs
  pub queued : (job_at s j).stage ≡ Stage.Queued
  pub of_pool : pool_of plan (job_at s j).class ≡ p
  pub others : (stage : Stage) → is_queued stage ≡ false → rest ≡ places plan (staged s.jobs j stage) p

pub pool_exists : (s : State) (p j : ℕ) (rest : List ℕ) → (pool_part s p).queue ≡ j ∷ rest → p < length s.pools
pool_exists s p j rest e = elim (cases_lt p (length s.pools)) [
  | inl inside ↦ inside
  | inr past ↦
      let none : (pool_part s p).queue ≡ [] = ap (λ (part : PoolPart). part.queue) (get_or_past s.pools p no_pool_part past) in
      absurd cc
]

pub head_of_queue : (plan : Plan) (s : State) (p j : ℕ) (rest : List ℕ) → StateInvariant plan s → (pool_part s p).queue ≡ j ∷ rest → IsHead plan s p j rest
head_of_queue plan s p j rest kept e =
    let found : p < length s.pools = pool_exists s p j rest e in
    let exists : p < length plan.pools = omega (arith, kept.as_many) in
    let first = first_where (is_queued_in plan p) s.jobs j rest (sym (kept.pools p exists).queue ∙ e) in
    let parts = and_parts (is_queued (job_at s j).stage) (eqb (pool_of plan (job_at s j).class) p) (first.passes no_job) in
    record {
      exists = exists;
      inside = first.inside;
      queued = queued_stage (job_at s j).stage parts.0;
      of_pool = eqb-true (pool_of plan (job_at s j).class) p parts.1;
      others = λ stage gone. sym (first.without (record (job_at s j) { stage = stage }) (and_left (is_queued stage) (eqb (pool_of plan (job_at s j).class) p) gone));
    }

-- the pool of an existing job exists
pub pool_of_made : (plan : Plan) (s : State) (j : ℕ) → HasValidBodies plan → StateInvariant plan s → j < length s.jobs → pool_of plan (job_at s j).class < length plan.pools
pool_of_made plan s j ordered kept inside = ordered.pools (job_at s j).class (kept.classes j no_job inside)

-- a queued job is in the queue of its pool
pub In-queue : (plan : Plan) (s : State) (j : ℕ) → HasValidBodies plan → StateInvariant plan s → (job_at s j).stage ≡ Stage.Queued → In j (pool_part s (pool_of plan (job_at s j).class)).queue
In-queue plan s j ordered kept queued =
    let p = pool_of plan (job_at s j).class in
    let inside = job_made s j (Queued≢Claimed queued) in
    let passes : is_queued_in plan p (job_at s j) ≡ true = and_from (is_queued (job_at s j).stage) (eqb p p) (ap is_queued queued) (eq-eqb p p refl) in
    subst (In j) (sym (kept.pools p (pool_of_made plan s j ordered kept inside)).queue) (In-places_where (is_queued_in plan p) s.jobs j no_job inside passes)

length-In : (ns : List ℕ) (n : ℕ) → In n ns → 1 ≤ length ns
length-In [] n i = elim i [ ]
length-In (m ∷ ns) n i = omega arith

pub queued_in_queue : (plan : Plan) (s : State) (j : ℕ) → HasValidBodies plan → StateInvariant plan s → (job_at s j).stage ≡ Stage.Queued → 1 ≤ length (pool_part s (pool_of plan (job_at s j).class)).queue
queued_in_queue plan s j ordered kept queued = length-In (pool_part s (pool_of plan (job_at s j).class)).queue j (In-queue plan s j ordered kept queued)

-- ---- the queues after a change of the jobs

-- a new stage of a job does not change any queue if its old and its new stage are both queued, or neither is
pub places-staged : (plan : Plan) (jobs : List CreatedJob) (j : ℕ) (stage : Stage) (p : ℕ) → is_queued stage ≡ is_queued (get_or jobs j no_job).stage → places plan (staged jobs j stage) p ≡ places plan jobs p
places-staged plan jobs j stage p same =
    places_where-set_same (is_queued_in plan p) jobs j (record (get_or jobs j no_job) { stage = stage }) no_job (ap (λ (b : Bool). b && eqb (pool_of plan (get_or jobs j no_job).class) p) same)

pub places-moved : (plan : Plan) (s : State) (a : Parent) (body : List Action) (i i' p : ℕ) → point plan s a ≡ Some (record { body = body; position = i }) → places plan (moved_jobs a i' s) p ≡ places plan s.jobs p
places-moved plan s (parent.Client c) body i i' p stands = refl
places-moved plan s (parent.Job j) body i i' p stands =
    places-staged plan s.jobs j (Stage.At i') p (sym (ap is_queued (stage_of_standing plan (job_at s j).class (job_at s j).stage body i stands).0))

pub places_push : (plan : Plan) (jobs : List CreatedJob) (job : CreatedJob) (p : ℕ) → places plan (jobs ++ job ∷ []) p ≡ places plan jobs p ++ cons_if (is_queued_in plan p job) (length jobs) []
places_push plan jobs job p = places_where_push (is_queued_in plan p) jobs job

pub places_push_same : (plan : Plan) (jobs : List CreatedJob) (job : CreatedJob) (p : ℕ) → is_queued_in plan p job ≡ false → places plan (jobs ++ job ∷ []) p ≡ places plan jobs p
places_push_same plan jobs job p elsewhere =
    places_push plan jobs job p ∙ ap (λ (b : Bool). places plan jobs p ++ cons_if b (length jobs) []) elsewhere ∙ append-nil (places plan jobs p)

-- a new stage of a job does not change the queues of other pools
pub places-staged_elsewhere : (plan : Plan) (jobs : List CreatedJob) (j : ℕ) (stage : Stage) (p : ℕ) → pool_of plan (get_or jobs j no_job).class ≢ p → places plan (staged jobs j stage) p ≡ places plan jobs p
places-staged_elsewhere plan jobs j stage p other =
    let elsewhere = ne_eqb (pool_of plan (get_or jobs j no_job).class) p other in
    places_where-set_same (is_queued_in plan p) jobs j (record (get_or jobs j no_job) { stage = stage }) no_job
    (and_right (is_queued stage) (eqb (pool_of plan (get_or jobs j no_job).class) p) elsewhere ∙ sym (and_right (is_queued (get_or jobs j no_job).stage) (eqb (pool_of plan (get_or jobs j no_job).class) p) elsewhere))
