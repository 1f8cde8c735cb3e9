-- Proofs that moves and submits preserve the invariant.
use Rattle.std.proofs.Common.{◌≡◌, ◌≢◌, ℕ, ◌+◌, ◌<◌, Bool, true, cond, eqb, inl, inr, List, [], ◌∷◌, ◌++◌, length, Some, refl, sym, ap, ap₂, subst, ◌∙◌, arith}
use Rattle.std.proofs.lemmas.Bool.{eqb-true, eq-eqb, ne_eqb}
use Rattle.std.proofs.lemmas.List.{length-set}
use Rattle.support.specs.Places.{cons_if}
use Rattle.job_bodies.specs.declared.action.Action.{Action}
use Rattle.job_bodies.specs.declared.action.Action.TheVariants as action
use Rattle.job_bodies.specs.Plan.{Plan, pool_at}
use Rattle.job_bodies.specs.ValidBody.{IsValidBody}
use Rattle.job_bodies.proofs.Bodies.{HasValidBodies}
use Rattle.pool_machine.specs.PoolState.{room_limit}
use Rattle.pool_machine.specs.declared.parent.Parent.{Parent}
use Rattle.pool_machine.specs.State.{Stage, State, PoolPart, pool_part, pool_of, threads}
use Rattle.pool_machine.specs.Step.{with_position, with_job, new_job, skipped, moved_jobs}
use Rattle.pool_machine.proofs.Events.{IsAtAction, MayStart, with_part, queued_state}
use Rattle.pool_machine.proofs.Positions.{At≢Claimed, valid_point}
use Rattle.pool_machine.proofs.StateInvariant.{ActorInvariant, StateInvariant, places, busy_jobs}
use Rattle.pool_machine.proofs.Stages.{length-moved, classes_moved, classes_pushed, parents_moved, parents_pushed}
use Rattle.pool_machine.proofs.Queues.{Queued≢Claimed, places-moved, places_push, places_push_same}
use Rattle.pool_machine.proofs.Busy.{busy-moved, busy_push, busy_push_same}
use Rattle.pool_machine.proofs.PoolInvariants.{same_pool, started_pool, queued_pool, HasPoolInvariant, pools_with_part}
use Rattle.pool_machine.proofs.Actors.{IsAtPosition, point_same, same_position, standing-moved, standing-pushed}
use Rattle.pool_machine.proofs.ActorInvariants.{is_after, actor_begins, actor_moved, actor_submits, other_submits}

-- ---- an actor moved to another position

pub kept_moved : (plan : Plan) (s : State) (a : Parent) (body : List Action) (i i' : ℕ) → StateInvariant plan s → IsAtPosition plan s a body i → ActorInvariant s.jobs a body i' → StateInvariant plan (with_position a i' s)
kept_moved plan s a body i i' kept stands next = record {
  classes = classes_moved (length plan.classes) s a i' kept.classes;
  parents = parents_moved s a i' kept.parents;
  as_many = kept.as_many;
  pools = λ p inside. same_pool (pool_at plan p) (pool_part s p) (pool_part s p) (places plan s.jobs p) (places plan (moved_jobs a i' s) p) (busy_jobs plan s.jobs p) (busy_jobs plan (moved_jobs a i' s) p) refl (places-moved plan s a body i i' p stands) (busy-moved plan s a body i i' p stands) (kept.pools p inside);
  actors = λ b body' n now. elim (standing-moved plan s a body i i' stands b body' n now) [
    | inl same ↦ rw (same.0, same.1, same.2) (actor_moved s a i' a body i' next)
    | inr other ↦ actor_moved s a i' b body' n (kept.actors b body' n other.1)
  ];
}

-- ---- an actor submitted a job

pub made_actors : (plan : Plan) (s : State) (a : Parent) (body : List Action) (i k : ℕ) (stage : Stage) → StateInvariant plan s → IsAtAction plan s a body i (Some (action.Submit k)) → stage ≢ Stage.Claimed → ((n : ℕ) → stage ≡ Stage.At n → n ≡ 0)
    → (b : Parent) (body' : List Action) (n : ℕ) → IsAtPosition plan (with_job (new_job k a i stage) (with_position a (i + 1) s)) b body' n → ActorInvariant (moved_jobs a (i + 1) s ++ new_job k a i stage ∷ []) b body' n
made_actors plan s a body i k stage kept at unclaimed begins b body' n now = elim (standing-pushed plan (with_position a (i + 1) s) (new_job k a i stage) b body' n now) [
  | inl new ↦ subst (ActorInvariant (moved_jobs a (i + 1) s ++ new_job k a i stage ∷ []) b body') (sym (begins n new.1)) (actor_begins (moved_jobs a (i + 1) s ++ new_job k a i stage ∷ []) b body')
  | inr before ↦ elim (standing-moved plan s a body i (i + 1) at.stands b body' n before) [
    | inl same ↦ rw (same.0, same.1, same.2) (actor_submits plan s a body i k stage (kept.actors a body i at.stands) at.stands at.is_there unclaimed)
    | inr other ↦ other_submits s a i k stage b body' n other.0 (kept.actors b body' n other.1)
  ]
]

-- the class that a submit names exists
pub class_exists : (plan : Plan) (s : State) (a : Parent) (body : List Action) (i k : ℕ) → HasValidBodies plan → IsAtAction plan s a body i (Some (action.Submit k)) → k < length plan.classes
class_exists plan s a body i k ordered at =
    let valid : IsValidBody plan body = valid_point plan s a body i ordered at.stands in
    valid.submit i k at.is_there

pub room_for_thread : (plan : Plan) (s : State) (q : ℕ) → HasValidBodies plan → q < length plan.pools → MayStart plan s q → threads plan s q < (pool_at plan q).max
room_for_thread plan s q ordered inside (inl below) = below.0
room_for_thread plan s q ordered inside (inr below) = let sizes = ordered.max q inside in omega arith

started_pools : (plan : Plan) (s : State) (a : Parent) (body : List Action) (i k : ℕ) → HasValidBodies plan → StateInvariant plan s → IsAtAction plan s a body i (Some (action.Submit k))
    → MayStart plan s (pool_of plan k)
    → (p : ℕ) → p < length plan.pools → HasPoolInvariant plan (moved_jobs a (i + 1) s ++ new_job k a i (Stage.At 0) ∷ []) p (pool_part s p)
started_pools plan s a body i k ordered kept at below p inside =
    let jobs = moved_jobs a (i + 1) s in
    let job = new_job k a i (Stage.At 0) in
    let here = eqb (pool_of plan k) p in
    let room = λ (e : here ≡ true).
    subst (λ (x : ℕ). threads plan s x < (pool_at plan x).max) (eqb-true (pool_of plan k) p e) (room_for_thread plan s (pool_of plan k) ordered (ordered.pools k (class_exists plan s a body i k ordered at)) below) in
    same_pool (pool_at plan p) (pool_part s p) (pool_part s p) (places plan s.jobs p) (places plan (jobs ++ job ∷ []) p) (busy_jobs plan s.jobs p + cond here 1 0) (busy_jobs plan (jobs ++ job ∷ []) p) refl
    (places_push_same plan jobs job p refl ∙ places-moved plan s a body i (i + 1) p at.stands)
    (busy_push plan jobs job p ∙ ap (λ (n : ℕ). n + cond here 1 0) (busy-moved plan s a body i (i + 1) p at.stands))
    (started_pool (pool_at plan p) (pool_part s p) (places plan s.jobs p) (busy_jobs plan s.jobs p) here (kept.pools p inside) room)

-- a queued job is not at a position
queued_nowhere : (n : ℕ) → Stage.Queued ≡ Stage.At n → n ≡ 0
queued_nowhere n e = absurd cc

pub kept_starts : (plan : Plan) (s : State) (a : Parent) (body : List Action) (i k : ℕ) → HasValidBodies plan → StateInvariant plan s → IsAtAction plan s a body i (Some (action.Submit k))
    → MayStart plan s (pool_of plan k)
    → StateInvariant plan (with_job (new_job k a i (Stage.At 0)) (with_position a (i + 1) s))
kept_starts plan s a body i k ordered kept at below = record {
  classes = classes_pushed (length plan.classes) (moved_jobs a (i + 1) s) (new_job k a i (Stage.At 0)) (classes_moved (length plan.classes) s a (i + 1) kept.classes) (class_exists plan s a body i k ordered at);
  parents = parents_pushed (moved_jobs a (i + 1) s) (new_job k a i (Stage.At 0)) (parents_moved s a (i + 1) kept.parents) (is_after plan s a body i (i + 1) at.stands);
  as_many = kept.as_many;
  pools = started_pools plan s a body i k ordered kept at below;
  actors = made_actors plan s a body i k (Stage.At 0) kept at (At≢Claimed refl) (λ n e. sym (same_position 0 n e));
}

-- the pool to whose queue the new job was appended satisfies the invariant
queued_here : (plan : Plan) (s : State) (a : Parent) (body : List Action) (i k : ℕ) → StateInvariant plan s → IsAtAction plan s a body i (Some (action.Submit k)) → pool_of plan k < length plan.pools
    → length (pool_part s (pool_of plan k)).queue < room_limit (pool_at plan (pool_of plan k)).unbounded (pool_at plan (pool_of plan k)).queue (pool_part s (pool_of plan k)).idle (length (pool_part s (pool_of plan k)).queue)
    → HasPoolInvariant plan (moved_jobs a (i + 1) s ++ new_job k a i Stage.Queued ∷ []) (pool_of plan k) (record { queue = (pool_part s (pool_of plan k)).queue ++ length s.jobs ∷ []; idle = (pool_part s (pool_of plan k)).idle })
queued_here plan s a body i k kept at exists room =
    let q = pool_of plan k in
    let jobs = moved_jobs a (i + 1) s in
    let job = new_job k a i Stage.Queued in
    let part : PoolPart = record { queue = (pool_part s q).queue ++ length s.jobs ∷ []; idle = (pool_part s q).idle } in
    let at_work : busy_jobs plan (jobs ++ job ∷ []) q ≡ busy_jobs plan jobs q + 0 = busy_push plan jobs job q in
    let as_before = busy-moved plan s a body i (i + 1) q at.stands in
    same_pool (pool_at plan q) part part (places plan s.jobs q ++ length s.jobs ∷ []) (places plan (jobs ++ job ∷ []) q) (busy_jobs plan s.jobs q) (busy_jobs plan (jobs ++ job ∷ []) q) refl
    (places_push plan jobs job q ∙ ap (λ (b : Bool). places plan jobs q ++ cons_if b (length jobs) []) (eq-eqb q q refl)
    ∙ ap₂ (λ (ns : List ℕ) (n : ℕ). ns ++ n ∷ []) (places-moved plan s a body i (i + 1) q at.stands) (length-moved s a (i + 1)))
    (omega arith)
    (queued_pool (pool_at plan q) (pool_part s q) (places plan s.jobs q) (busy_jobs plan s.jobs q) (length s.jobs) (kept.pools q exists) room)

queued_elsewhere : (plan : Plan) (s : State) (a : Parent) (body : List Action) (i k : ℕ) → StateInvariant plan s → IsAtAction plan s a body i (Some (action.Submit k))
    → (p : ℕ) → p < length plan.pools → p ≢ pool_of plan k → HasPoolInvariant plan (moved_jobs a (i + 1) s ++ new_job k a i Stage.Queued ∷ []) p (pool_part s p)
queued_elsewhere plan s a body i k kept at p inside other =
    let jobs = moved_jobs a (i + 1) s in
    let job = new_job k a i Stage.Queued in
    let at_work : busy_jobs plan (jobs ++ job ∷ []) p ≡ busy_jobs plan jobs p + 0 = busy_push plan jobs job p in
    let as_before = busy-moved plan s a body i (i + 1) p at.stands in
    same_pool (pool_at plan p) (pool_part s p) (pool_part s p) (places plan s.jobs p) (places plan (jobs ++ job ∷ []) p) (busy_jobs plan s.jobs p) (busy_jobs plan (jobs ++ job ∷ []) p) refl
    (places_push_same plan jobs job p (ne_eqb (pool_of plan k) p (λ (same : pool_of plan k ≡ p). other (sym same))) ∙ places-moved plan s a body i (i + 1) p at.stands)
    (omega arith)
    (kept.pools p inside)

pub kept_queues : (plan : Plan) (s : State) (a : Parent) (body : List Action) (i k : ℕ) → HasValidBodies plan → StateInvariant plan s → IsAtAction plan s a body i (Some (action.Submit k))
    → length (pool_part s (pool_of plan k)).queue < room_limit (pool_at plan (pool_of plan k)).unbounded (pool_at plan (pool_of plan k)).queue (pool_part s (pool_of plan k)).idle (length (pool_part s (pool_of plan k)).queue)
    → StateInvariant plan (queued_state plan s a i k)
kept_queues plan s a body i k ordered kept at room =
    let q = pool_of plan k in
    let made : State = with_job (new_job k a i Stage.Queued) (with_position a (i + 1) s) in
    let queue = (pool_part s q).queue ++ length s.jobs ∷ [] in
    let idle = (pool_part s q).idle in
    record {
      classes = classes_pushed (length plan.classes) (moved_jobs a (i + 1) s) (new_job k a i Stage.Queued) (classes_moved (length plan.classes) s a (i + 1) kept.classes) (class_exists plan s a body i k ordered at);
      parents = parents_pushed (moved_jobs a (i + 1) s) (new_job k a i Stage.Queued) (parents_moved s a (i + 1) kept.parents) (is_after plan s a body i (i + 1) at.stands);
      as_many = length-set s.pools q (record { queue = queue; idle = idle }) ∙ kept.as_many;
      pools = pools_with_part plan made q queue idle (HasPoolInvariant plan made.jobs) kept.as_many (λ exists. queued_here plan s a body i k kept at exists room) (queued_elsewhere plan s a body i k kept at);
      actors = λ b body' n now. made_actors plan s a body i k Stage.Queued kept at (Queued≢Claimed refl) queued_nowhere b body' n (sym (point_same plan made (with_part q queue idle made) b refl refl) ∙ now);
    }

-- ---- an actor skipped a submit

done_unclaimed : Stage.Done ≢ Stage.Claimed
done_unclaimed e = cc

done_nowhere : (n : ℕ) → Stage.Done ≡ Stage.At n → n ≡ 0
done_nowhere n e = absurd cc

-- a skipped submit preserves the invariant, because the new job is neither queued nor running
pub kept_skips : (plan : Plan) (s : State) (a : Parent) (body : List Action) (i k : ℕ) → HasValidBodies plan → StateInvariant plan s → IsAtAction plan s a body i (Some (action.Submit k)) → StateInvariant plan (skipped s a i k)
kept_skips plan s a body i k ordered kept at =
    let jobs = moved_jobs a (i + 1) s in
    let job = new_job k a i Stage.Done in
    record {
      classes = classes_pushed (length plan.classes) jobs job (classes_moved (length plan.classes) s a (i + 1) kept.classes) (class_exists plan s a body i k ordered at);
      parents = parents_pushed jobs job (parents_moved s a (i + 1) kept.parents) (is_after plan s a body i (i + 1) at.stands);
      as_many = kept.as_many;
      pools = λ p inside. same_pool (pool_at plan p) (pool_part s p) (pool_part s p) (places plan s.jobs p) (places plan (jobs ++ job ∷ []) p) (busy_jobs plan s.jobs p) (busy_jobs plan (jobs ++ job ∷ []) p) refl
          (places_push_same plan jobs job p refl ∙ places-moved plan s a body i (i + 1) p at.stands)
          (busy_push_same plan jobs job p refl ∙ busy-moved plan s a body i (i + 1) p at.stands)
          (kept.pools p inside);
      actors = made_actors plan s a body i k Stage.Done kept at done_unclaimed done_nowhere;
    }
