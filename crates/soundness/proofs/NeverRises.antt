-- No event increases the weight of a state.
use Rattle.std.proofs.Common.{◌≡◌, ◌≢◌, ℕ, zero, suc, ◌+◌, ◌*◌, ◌<◌, ◌≤◌, cond, true, List, [], ◌∷◌, length, get_or, slice_get, sum_by, flat_map, Some, None, refl, sym, ap, subst, ◌∙◌, arith}
use Rattle.std.specs.List.{enumerate_from}
use Rattle.std.proofs.lemmas.List.Folds.{sum_by-replicate}
use Rattle.std.proofs.lemmas.List.Sums.{sum_by_push, sum_by-set}
use Rattle.std.proofs.lemmas.Option.{same_Some, slice_get_within, get_or_from_slice_get}
use Rattle.support.proofs.Sums.{sum_by-agree, sum_by-flat_map}
use Rattle.job_bodies.specs.declared.action.Action.{Action}
use Rattle.job_bodies.specs.declared.action.Action.TheVariants as action
use Rattle.job_bodies.specs.Plan.{Client, Plan, class_at, client_at, submitted_class}
use Rattle.job_bodies.proofs.Bodies.{HasValidBodies}
use Rattle.pool_machine.specs.declared.client_state.ClientState.{ClientState}
use Rattle.pool_machine.specs.declared.parent.Parent.{Parent}
use Rattle.pool_machine.specs.declared.parent.Parent.TheVariants as parent
use Rattle.pool_machine.specs.declared.event.Event.{Event}
use Rattle.pool_machine.specs.declared.event.Outcome.{Outcome}
use Rattle.pool_machine.specs.State.{Stage, State, CreatedJob, no_job, no_client_state, job_at, client_state, pool_part, pool_of, is_at, child}
use Rattle.pool_machine.specs.Step.{point, with_stage, with_position, with_job, new_job, skipped, finished_job}
use Rattle.pool_machine.specs.Reach.{new_clients, start}
use Rattle.pool_machine.proofs.Events.{IsAtAction, with_part, queued_state, Happens, works, starts, queues, is_refused, is_rejected, gets, finishes, loops, takes, retires}
use Rattle.pool_machine.proofs.Positions.{stage_of_standing, job_made, standing_made, client_standing, job_at-with_position}
use Rattle.pool_machine.proofs.StateInvariant.{StateInvariant}
use Rattle.pool_machine.proofs.Stages.{staged}
use Rattle.pool_machine.proofs.Queues.{head_of_queue}
use Rattle.pool_machine.proofs.InvariantSubmits.{class_exists}
use Rattle.pool_machine.proofs.ReachedLaws.{child_at_get}
use Rattle.weights.specs.declared.get_return.GetReturn.{GetReturn}
use Rattle.weights.specs.declared.get_return.GetReturn.TheVariants.{DoneWeight, NoWeight}
use Rattle.weights.specs.Vector.{Vector, workers_weight, queued_weight, job_weight, done_weight, client_weight}
use Rattle.weights.specs.GetReturn.{returned_weight, claimed_weight}
use Rattle.soundness.specs.WeightedSum.{stage_weight}
use Rattle.soundness.specs.WeightLaws.{RejectedAreLight}
use Rattle.soundness.proofs.VectorLaws.{BodyLaws, VectorLaws}

-- ---- the parts of the weight

-- the weight of the jobs of a list
abbrev pub jobs_weight : GetReturn → Plan → Vector → List CreatedJob → ℕ
jobs_weight get_return plan v jobs = sum_by (λ (job : CreatedJob). stage_weight get_return plan v job.class job.stage) jobs

-- the weight of the clients and jobs of a state
abbrev pub actors_weight : GetReturn → Plan → Vector → State → ℕ
actors_weight get_return plan v s = sum_by (λ (client : ClientState). client_weight v client.kind client.position) s.clients + jobs_weight get_return plan v s.jobs

-- the weight of a job's worker: the weight of a worker of its pool if the job is running, and otherwise 0
abbrev pub worker_weight : Plan → Vector → ℕ → Stage → ℕ
worker_weight plan v k stage = cond (is_at stage) (workers_weight v (pool_of plan k)) 0

-- the weight of the workers that run the jobs of a list
abbrev pub workers_weight_of_jobs : Plan → Vector → List CreatedJob → ℕ
workers_weight_of_jobs plan v jobs = sum_by (λ (job : CreatedJob). worker_weight plan v job.class job.stage) jobs

-- the weight of all busy workers of a state
abbrev pub busy_workers_weight : Plan → Vector → State → ℕ
busy_workers_weight plan v s = workers_weight_of_jobs plan v s.jobs

-- the weight of the clients at the start
abbrev pub initial_clients_weight : Plan → Vector → ℕ
initial_clients_weight plan v = sum_by (λ (entry : ℕ × Client). entry.1.count * client_weight v entry.0 0) (enumerate_from 0 plan.clients)

-- the weight of the clients and jobs is at most the weight of the clients at the start and of the busy workers
abbrev pub IsBalanced : GetReturn → Plan → Vector → State → Type 0
IsBalanced get_return plan v s = actors_weight get_return plan v s ≤ initial_clients_weight plan v + busy_workers_weight plan v s

-- the weight of the clients and jobs minus the weight of the busy workers does not rise from s to s'
abbrev pub DoesNotIncrease : GetReturn → Plan → Vector → State → State → Type 0
DoesNotIncrease get_return plan v s s' = actors_weight get_return plan v s' + busy_workers_weight plan v s ≤ actors_weight get_return plan v s + busy_workers_weight plan v s'

-- ---- the initial state

-- the initial state is balanced, because it has no jobs and its clients have their initial weight
pub balanced_start : (get_return : GetReturn) (plan : Plan) (v : Vector) → IsBalanced get_return plan v (start plan)
balanced_start get_return plan v =
    let weight = λ (client : ClientState). client_weight v client.kind client.position in
    let numbered = enumerate_from 0 plan.clients in
    let as_initial : sum_by weight (flat_map new_clients numbered) ≡ initial_clients_weight plan v =
    sum_by-flat_map weight new_clients numbered
    ∙ sum_by-agree (λ (entry : ℕ × Client). sum_by weight (new_clients entry)) (λ (entry : ℕ × Client). entry.1.count * client_weight v entry.0 0) numbered
    (λ entry. sum_by-replicate weight entry.1.count (record { kind = entry.0; position = 0 })) in
    omega (arith, as_initial)

-- ---- a job changes its stage

-- if one job changes its stage, the weight of the jobs changes by the difference between the two stages
pub jobs_weight-staged : (get_return : GetReturn) (plan : Plan) (v : Vector) (jobs : List CreatedJob) (j : ℕ) (stage was : Stage) → j < length jobs → (get_or jobs j no_job).stage ≡ was
    → jobs_weight get_return plan v (staged jobs j stage) + stage_weight get_return plan v (get_or jobs j no_job).class was ≡ jobs_weight get_return plan v jobs + stage_weight get_return plan v (get_or jobs j no_job).class stage
jobs_weight-staged get_return plan v jobs j stage was inside e =
    let job = get_or jobs j no_job in
    ap (λ (old : Stage). jobs_weight get_return plan v (staged jobs j stage) + stage_weight get_return plan v job.class old) (sym e)
    ∙ sum_by-set (λ (x : CreatedJob). stage_weight get_return plan v x.class x.stage) jobs j (record job { stage = stage }) no_job inside

-- if one job changes its stage, the weight of the busy workers changes by the difference between the two stages
pub workers_weight_of_jobs-staged : (plan : Plan) (v : Vector) (jobs : List CreatedJob) (j : ℕ) (stage was : Stage) → j < length jobs → (get_or jobs j no_job).stage ≡ was
    → workers_weight_of_jobs plan v (staged jobs j stage) + worker_weight plan v (get_or jobs j no_job).class was ≡ workers_weight_of_jobs plan v jobs + worker_weight plan v (get_or jobs j no_job).class stage
workers_weight_of_jobs-staged plan v jobs j stage was inside e =
    let job = get_or jobs j no_job in
    ap (λ (old : Stage). workers_weight_of_jobs plan v (staged jobs j stage) + worker_weight plan v job.class old) (sym e)
    ∙ sum_by-set (λ (x : CreatedJob). worker_weight plan v x.class x.stage) jobs j (record job { stage = stage }) no_job inside

-- ---- an actor changes its position

-- the weight of an actor if it is at position i
abbrev pub actor_weight : Vector → State → Parent → ℕ → ℕ
actor_weight v s (parent.Client c) i = client_weight v (client_state s c).kind i
actor_weight v s (parent.Job j) i = job_weight v (job_at s j).class i

-- if an actor moves from position i to i', the weight of the clients and jobs changes by the difference between the two positions
pub actors_weight-with_position : (get_return : GetReturn) (plan : Plan) (v : Vector) (s : State) (a : Parent) (body : List Action) (i i' : ℕ) → point plan s a ≡ Some (record { body = body; position = i })
    → actors_weight get_return plan v (with_position a i' s) + actor_weight v s a i ≡ actors_weight get_return plan v s + actor_weight v s a i'
actors_weight-with_position get_return plan v s (parent.Client c) body i i' stands =
    let client = client_standing plan (slice_get s.clients c) body i stands in
    let inside : c < length s.clients = slice_get_within s.clients c client.0 client.1 in
    let position : (client_state s c).position ≡ i = ap (λ (x : ClientState). x.position) (get_or_from_slice_get s.clients c client.0 no_client_state client.1) ∙ client.3 in
    let was = ap (client_weight v (client_state s c).kind) position in
    omega (arith, was, sum_by-set (λ (x : ClientState). client_weight v x.kind x.position) s.clients c (record (client_state s c) { position = i' }) no_client_state inside)
actors_weight-with_position get_return plan v s (parent.Job j) body i i' stands =
    let was = (stage_of_standing plan (job_at s j).class (job_at s j).stage body i stands).0 in
    omega (arith, jobs_weight-staged get_return plan v s.jobs j (Stage.At i') (Stage.At i) (standing_made plan s j body i stands) was)

-- a move of an actor from one position to another leaves the weight of the busy workers unchanged
pub busy_workers_weight-with_position : (plan : Plan) (v : Vector) (s : State) (a : Parent) (body : List Action) (i i' : ℕ) → point plan s a ≡ Some (record { body = body; position = i }) → busy_workers_weight plan v (with_position a i' s) ≡ busy_workers_weight plan v s
busy_workers_weight-with_position plan v s (parent.Client c) body i i' stands = refl
busy_workers_weight-with_position plan v s (parent.Job j) body i i' stands =
    let was = (stage_of_standing plan (job_at s j).class (job_at s j).stage body i stands).0 in
    omega (arith, workers_weight_of_jobs-staged plan v s.jobs j (Stage.At i') (Stage.At i) (standing_made plan s j body i stands) was)

-- the body of a client is that of its client kind
body_of_client : (plan : Plan) (s : State) (c : ℕ) (body : List Action) (i : ℕ) → point plan s (parent.Client c) ≡ Some (record { body = body; position = i }) → body ≡ (client_at plan (client_state s c).kind).body
body_of_client plan s c body i stands =
    let client = client_standing plan (slice_get s.clients c) body i stands in
    client.2 ∙ ap (λ (x : ClientState). (client_at plan x.kind).body) (sym (get_or_from_slice_get s.clients c client.0 no_client_state client.1))

-- the inequalities of a vector hold for the body of each actor
actor_laws : (get_return : GetReturn) (plan : Plan) (v : Vector) (s : State) (a : Parent) (body : List Action) (i : ℕ) → VectorLaws get_return plan v → point plan s a ≡ Some (record { body = body; position = i }) → BodyLaws get_return plan v (actor_weight v s a) body
actor_laws get_return plan v s (parent.Client c) body i laws stands =
    subst (BodyLaws get_return plan v (client_weight v (client_state s c).kind)) (sym (body_of_client plan s c body i stands)) (laws.clients (client_state s c).kind)
actor_laws get_return plan v s (parent.Job j) body i laws stands =
    subst (BodyLaws get_return plan v (job_weight v (job_at s j).class)) (sym (stage_of_standing plan (job_at s j).class (job_at s j).stage body i stands).1) (laws.classes (job_at s j).class)

-- ---- a job is created

-- a new job increases the weight of the clients and jobs by the weight of its stage
pub actors_weight-with_job : (get_return : GetReturn) (plan : Plan) (v : Vector) (s : State) (job : CreatedJob) → actors_weight get_return plan v (with_job job s) ≡ actors_weight get_return plan v s + stage_weight get_return plan v job.class job.stage
actors_weight-with_job get_return plan v s job = omega (arith, sum_by_push (λ (x : CreatedJob). stage_weight get_return plan v x.class x.stage) s.jobs job)

-- a new job increases the weight of the busy workers by the weight of its worker
pub busy_workers_weight-with_job : (plan : Plan) (v : Vector) (s : State) (job : CreatedJob) → busy_workers_weight plan v (with_job job s) ≡ busy_workers_weight plan v s + worker_weight plan v job.class job.stage
busy_workers_weight-with_job plan v s job = sum_by_push (λ (x : CreatedJob). worker_weight plan v x.class x.stage) s.jobs job

-- ---- each event

-- V2: work does not increase the weight of its actor
never_rises_works : (get_return : GetReturn) (plan : Plan) (v : Vector) (s : State) (a : Parent) (body : List Action) (i u : ℕ) → VectorLaws get_return plan v → IsAtAction plan s a body i (Some (action.Work u)) → DoesNotIncrease get_return plan v s (with_position a (i + 1) s)
never_rises_works get_return plan v s a body i u laws at =
    let falls = (actor_laws get_return plan v s a body i laws at.stands).work i u at.is_there in
    omega (arith, falls, actors_weight-with_position get_return plan v s a body i (i + 1) at.stands, busy_workers_weight-with_position plan v s a body i (i + 1) at.stands)

-- V3 and V4: a submit that starts its job does not increase the weight, because the actor's loss and the weight of a worker cover
-- the running job
never_rises_starts : (get_return : GetReturn) (plan : Plan) (v : Vector) (s : State) (a : Parent) (body : List Action) (i k : ℕ) → k < length plan.classes → VectorLaws get_return plan v → IsAtAction plan s a body i (Some (action.Submit k))
    → DoesNotIncrease get_return plan v s (with_job (new_job k a i (Stage.At 0)) (with_position a (i + 1) s))
never_rises_starts get_return plan v s a body i k inside laws at =
    let job = new_job k a i (Stage.At 0) in
    let pays = (actor_laws get_return plan v s a body i laws at.stands).submit i k at.is_there in
    let begins = laws.begins k inside in
    omega (arith, pays, begins, actors_weight-with_position get_return plan v s a body i (i + 1) at.stands, busy_workers_weight-with_position plan v s a body i (i + 1) at.stands, actors_weight-with_job get_return plan v (with_position a (i + 1) s) job, busy_workers_weight-with_job plan v (with_position a (i + 1) s) job)

-- V3: a submit that queues its job does not increase the weight, whether or not the queue has room
pub never_rises_queued : (get_return : GetReturn) (plan : Plan) (v : Vector) (s : State) (a : Parent) (body : List Action) (i k : ℕ) → VectorLaws get_return plan v → IsAtAction plan s a body i (Some (action.Submit k))
    → DoesNotIncrease get_return plan v s (queued_state plan s a i k)
never_rises_queued get_return plan v s a body i k laws at =
    let job = new_job k a i Stage.Queued in
    let pays = (actor_laws get_return plan v s a body i laws at.stands).submit i k at.is_there in
    omega (arith, pays, actors_weight-with_position get_return plan v s a body i (i + 1) at.stands, busy_workers_weight-with_position plan v s a body i (i + 1) at.stands, actors_weight-with_job get_return plan v (with_position a (i + 1) s) job, busy_workers_weight-with_job plan v (with_position a (i + 1) s) job)

-- a get divides the weight of a done job into the part that it returns and the part that remains
shares : (get_return : GetReturn) (plan : Plan) (v : Vector) (k : ℕ) → returned_weight get_return plan v k + claimed_weight get_return plan v k ≡ done_weight plan v k
shares DoneWeight plan v k = omega arith
shares NoWeight plan v k = omega arith

-- a done job is not at a position
done_nowhere : {stage : Stage} → stage ≡ Stage.Done → (n : ℕ) → stage ≢ Stage.At n
done_nowhere done n e = cc

-- a done job is not claimed
done_unclaimed : {stage : Stage} → stage ≡ Stage.Done → stage ≢ Stage.Claimed
done_unclaimed done e = cc

-- V5 or L5: a get does not increase the weight, because the actor gains at most what the done job returns
never_rises_gets : (get_return : GetReturn) (plan : Plan) (v : Vector) (s : State) (a : Parent) (body : List Action) (i t j : ℕ) → HasValidBodies plan → VectorLaws get_return plan v → StateInvariant plan s → IsAtAction plan s a body i (Some (action.Get t))
    → child s a t ≡ Some j → (job_at s j).stage ≡ Stage.Done → DoesNotIncrease get_return plan v s (with_stage j Stage.Claimed (with_position a (i + 1) s))
never_rises_gets get_return plan v s a body i t j ordered laws kept at is_child done =
    let moved : State = with_position a (i + 1) s in
    let got = child_at_get plan s a body i t ordered kept at in
    let same : got.number ≡ j = same_Some got.number j (sym got.is_child ∙ is_child) in
    let still : job_at moved j ≡ job_at s j = job_at-with_position plan s a body i (i + 1) j at.stands (done_nowhere done) in
    let still_done : (job_at moved j).stage ≡ Stage.Done = ap (λ (job : CreatedJob). job.stage) still ∙ done in
    let of_class : (job_at moved j).class ≡ submitted_class body t = ap (λ (job : CreatedJob). job.class) still ∙ ap (λ (n : ℕ). (job_at s n).class) (sym same) ∙ got.of_class in
    let inside : j < length moved.jobs = job_made moved j (done_unclaimed still_done) in
    let gives = (actor_laws get_return plan v s a body i laws at.stands).get i t at.is_there in
    let was = ap (λ (k : ℕ). done_weight plan v k) of_class in
    let left = ap (λ (k : ℕ). claimed_weight get_return plan v k) of_class in
    omega (
      arith,
      gives,
      was,
      left,
      shares get_return plan v (submitted_class body t),
      actors_weight-with_position get_return plan v s a body i (i + 1) at.stands,
      busy_workers_weight-with_position plan v s a body i (i + 1) at.stands,
      jobs_weight-staged get_return plan v moved.jobs j Stage.Claimed Stage.Done inside still_done,
      workers_weight_of_jobs-staged plan v moved.jobs j Stage.Claimed Stage.Done inside still_done,
    )

-- a position at which a body has no action is at or after the end of the body
at_end : (body : List Action) (i : ℕ) → slice_get body i ≡ None → length body ≤ i
at_end [] i e = omega arith
at_end (x ∷ xs) zero e = absurd cc
at_end (x ∷ xs) (suc i) e = let later = at_end xs i e in omega arith

-- an actor without a next action is at the end of its body
stands_at_end : (plan : Plan) (s : State) (a : Parent) (body : List Action) (i : ℕ) → StateInvariant plan s → IsAtAction plan s a body i None → i ≡ length body
stands_at_end plan s a body i kept at =
    let inside = (kept.actors a body i at.stands).inside in
    omega (arith, at_end body i at.is_there)

-- V6: the end of a job does not increase the weight, because its weight at its end covers the done job and the worker
never_rises_finishes : (get_return : GetReturn) (plan : Plan) (v : Vector) (s : State) (j : ℕ) (body : List Action) (i : ℕ) → VectorLaws get_return plan v → StateInvariant plan s → IsAtAction plan s (parent.Job j) body i None
    → DoesNotIncrease get_return plan v s (finished_job plan s j (pool_of plan (job_at s j).class))
never_rises_finishes get_return plan v s j body i laws kept at =
    let k = (job_at s j).class in
    let was = stage_of_standing plan k (job_at s j).stage body i at.stands in
    let inside : j < length s.jobs = standing_made plan s j body i at.stands in
    let last : i ≡ length (class_at plan k).body = stands_at_end plan s (parent.Job j) body i kept at ∙ ap (λ (b : List Action). length b) was.1 in
    let ends = laws.ends k (kept.classes j no_job inside) in
    let weighs = ap (job_weight v k) last in
    omega (arith, ends, weighs, jobs_weight-staged get_return plan v s.jobs j Stage.Done (Stage.At i) inside was.0, workers_weight_of_jobs-staged plan v s.jobs j Stage.Done (Stage.At i) inside was.0)

-- V7: a client that begins again does not increase the weight, because its weight at its end covers that at its start
never_rises_loops : (get_return : GetReturn) (plan : Plan) (v : Vector) (s : State) (c : ℕ) (client : ClientState) (body : List Action) (i : ℕ) → VectorLaws get_return plan v → StateInvariant plan s → IsAtAction plan s (parent.Client c) body i None
    → slice_get s.clients c ≡ Some client → (client_at plan client.kind).repeat ≡ true → DoesNotIncrease get_return plan v s (with_position (parent.Client c) 0 s)
never_rises_loops get_return plan v s c client body i laws kept at is_client repeats =
    let kind = (client_state s c).kind in
    let found : client_state s c ≡ client = get_or_from_slice_get s.clients c client no_client_state is_client in
    let again : (client_at plan kind).repeat ≡ true = ap (λ (x : ClientState). (client_at plan x.kind).repeat) found ∙ repeats in
    let last : i ≡ length (client_at plan kind).body = stands_at_end plan s (parent.Client c) body i kept at ∙ ap (λ (b : List Action). length b) (body_of_client plan s c body i at.stands) in
    let pays = laws.loops kind again in
    let weighs = ap (client_weight v kind) last in
    omega (arith, pays, weighs, actors_weight-with_position get_return plan v s (parent.Client c) body i 0 at.stands)

-- V4: a take does not increase the weight, because the weights of a queued job and of a worker cover the running job
never_rises_takes : (get_return : GetReturn) (plan : Plan) (v : Vector) (s : State) (p j : ℕ) (queue : List ℕ) (idle : ℕ) → VectorLaws get_return plan v → StateInvariant plan s → (pool_part s p).queue ≡ j ∷ queue → DoesNotIncrease get_return plan v s (with_part p queue idle (with_stage j (Stage.At 0) s))
never_rises_takes get_return plan v s p j queue idle laws kept is_queue =
    let head = head_of_queue plan s p j queue kept is_queue in
    let begins = laws.begins (job_at s j).class (kept.classes j no_job head.inside) in
    omega (arith, begins, jobs_weight-staged get_return plan v s.jobs j (Stage.At 0) Stage.Queued head.inside head.queued, workers_weight_of_jobs-staged plan v s.jobs j (Stage.At 0) Stage.Queued head.inside head.queued)

-- a skipped submit does not increase the weight if a done job of the class weighs at most as much as a queued one
pub no_heavier_skipped : (get_return : GetReturn) (plan : Plan) (v : Vector) (s : State) (a : Parent) (body : List Action) (i k : ℕ) → VectorLaws get_return plan v → done_weight plan v k ≤ queued_weight v k → IsAtAction plan s a body i (Some (action.Submit k))
    → DoesNotIncrease get_return plan v s (skipped s a i k)
no_heavier_skipped get_return plan v s a body i k laws no_more at =
    let moved : State = with_position a (i + 1) s in
    let queued = new_job k a i Stage.Queued in
    let done = new_job k a i Stage.Done in
    let as_queued = never_rises_queued get_return plan v s a body i k laws at in
    omega (arith, actors_weight-with_job get_return plan v moved queued, busy_workers_weight-with_job plan v moved queued, actors_weight-with_job get_return plan v moved done, busy_workers_weight-with_job plan v moved done)

-- no event increases the weight
pub never_rises : (get_return : GetReturn) (plan : Plan) (v : Vector) (s s' : State) (o : Outcome) {e : Event} → HasValidBodies plan → VectorLaws get_return plan v → RejectedAreLight plan v → StateInvariant plan s → Happens plan s e s' o → DoesNotIncrease get_return plan v s s'
never_rises get_return plan v s s' o ordered laws light kept (works a body i u at) = never_rises_works get_return plan v s a body i u laws at
never_rises get_return plan v s s' o ordered laws light kept (starts a body i k at below) = never_rises_starts get_return plan v s a body i k (class_exists plan s a body i k ordered at) laws at
never_rises get_return plan v s s' o ordered laws light kept (queues a body i k at room) = never_rises_queued get_return plan v s a body i k laws at
never_rises get_return plan v s s' o ordered laws light kept (is_refused a body i k at must no_room all_started) = omega arith
never_rises get_return plan v s s' o ordered laws light kept (is_rejected a body i k at may) =
    no_heavier_skipped get_return plan v s a body i k laws (light k (class_exists plan s a body i k ordered at) may) at
never_rises get_return plan v s s' o ordered laws light kept (gets a body i t j at is_child done) = never_rises_gets get_return plan v s a body i t j ordered laws kept at is_child done
never_rises get_return plan v s s' o ordered laws light kept (finishes j body i at) = never_rises_finishes get_return plan v s j body i laws kept at
never_rises get_return plan v s s' o ordered laws light kept (loops c client body i at is_client repeats) = never_rises_loops get_return plan v s c client body i laws kept at is_client repeats
never_rises get_return plan v s s' o ordered laws light kept (takes p j queue idle is_queue is_idle) = never_rises_takes get_return plan v s p j queue idle laws kept is_queue
never_rises get_return plan v s s' o ordered laws light kept (retires p idle is_idle not_handed) = omega arith

-- a state is balanced if the state before it is balanced and the weight does not rise between them
pub balanced_step : (get_return : GetReturn) (plan : Plan) (v : Vector) (s s' : State) → DoesNotIncrease get_return plan v s s' → IsBalanced get_return plan v s → IsBalanced get_return plan v s'
balanced_step get_return plan v s s' no_heavier balanced = omega arith
