-- Proofs that each event preserves the invariant.
use Rattle.std.proofs.Common.{◌≡◌, ◌≢◌, ℕ, suc, ◌+◌, ◌<◌, ◌≤◌, inl, inr, List, ◌∷◌, length, Some, None, refl, sym, ap, subst, ◌∙◌, arith, false}
use Rattle.std.proofs.lemmas.List.{length-set}
use Rattle.job_bodies.specs.declared.action.Action.{Action}
use Rattle.job_bodies.specs.declared.action.Action.TheVariants as action
use Rattle.job_bodies.specs.Plan.{Plan, pool_at}
use Rattle.job_bodies.proofs.Bodies.{HasValidBodies}
use Rattle.pool_machine.specs.declared.parent.Parent.{Parent}
use Rattle.pool_machine.specs.declared.parent.Parent.TheVariants as parent
use Rattle.pool_machine.specs.declared.event.Event.{Event}
use Rattle.pool_machine.specs.declared.event.Outcome.{Outcome}
use Rattle.pool_machine.specs.State.{Stage, State, CreatedJob, job_at, pool_part, pool_of, is_at, is_queued, child}
use Rattle.pool_machine.specs.Step.{with_stage, with_position, moved_jobs, finished_job}
use Rattle.pool_machine.proofs.Events.{IsAtAction, with_part, Happens, works, starts, queues, is_refused, is_rejected, gets, finishes, loops, takes, retires}
use Rattle.pool_machine.proofs.Positions.{At≢Claimed, stage_of_standing, standing_made, job_at-with_position, valid_point}
use Rattle.pool_machine.proofs.StateInvariant.{ActorInvariant, PoolInvariant, StateInvariant, places, busy_jobs}
use Rattle.pool_machine.proofs.Stages.{staged, classes_staged, classes_moved, parents_staged, parents_moved}
use Rattle.pool_machine.proofs.Queues.{head_of_queue, places-staged, places-moved, places-staged_elsewhere}
use Rattle.pool_machine.proofs.Busy.{one_if, busy_in-as, busy-staged_same, busy-staged_elsewhere, busy-staged_here, busy-moved}
use Rattle.pool_machine.proofs.PoolInvariants.{same_pool, taken_pool, finished_pool, retired_pool, HasPoolInvariant, pools_with_part}
use Rattle.pool_machine.proofs.Actors.{IsAtPosition, point_same, same_position, standing-moved, standing-staged}
use Rattle.pool_machine.proofs.ActorInvariants.{actor_begins, actor_passes, actor_staged, actor_gets, other_gets}
use Rattle.pool_machine.proofs.InvariantSubmits.{kept_moved, kept_starts, kept_queues, kept_skips}

-- a claimed job is not at a position
claimed_nowhere : (n : ℕ) → Stage.Claimed ≢ Stage.At n
claimed_nowhere n e = cc

done_nowhere : {stage : Stage} → stage ≡ Stage.Done → (n : ℕ) → stage ≢ Stage.At n
done_nowhere done n at = cc

Done≢Claimed : {stage : Stage} → stage ≡ Stage.Done → stage ≢ Stage.Claimed
Done≢Claimed done claimed = cc

-- ---- an event of an actor

kept_works : (plan : Plan) (s : State) (a : Parent) (body : List Action) (i u : ℕ) → HasValidBodies plan → StateInvariant plan s → IsAtAction plan s a body i (Some (action.Work u)) → StateInvariant plan (with_position a (i + 1) s)
kept_works plan s a body i u ordered kept at =
    kept_moved plan s a body i (i + 1) kept at.stands
    (actor_passes plan s.jobs a body i (action.Work u) (valid_point plan s a body i ordered at.stands) (kept.actors a body i at.stands) at.is_there refl)

-- a refusal preserves the invariant, because it changes only the number of refusals
kept_refuses : (plan : Plan) (s : State) → StateInvariant plan s → StateInvariant plan (record s { refusals = s.refusals + 1 })
kept_refuses plan s kept = record {
  classes = kept.classes;
  parents = kept.parents;
  as_many = kept.as_many;
  pools = kept.pools;
  actors = λ a body i now. kept.actors a body i (sym (point_same plan s (record s { refusals = s.refusals + 1 }) a refl refl) ∙ now);
}

-- a done job is still done after an actor moved
pub done_still : (plan : Plan) (s : State) (a : Parent) (body : List Action) (i i' j : ℕ) → IsAtPosition plan s a body i → (job_at s j).stage ≡ Stage.Done → (job_at (with_position a i' s) j).stage ≡ Stage.Done
done_still plan s a body i i' j stands done =
    ap (λ (job : CreatedJob). job.stage) (job_at-with_position plan s a body i i' j stands (done_nowhere done)) ∙ done

got_pools : (plan : Plan) (s : State) (a : Parent) (body : List Action) (i j : ℕ) → StateInvariant plan s → IsAtPosition plan s a body i → (job_at s j).stage ≡ Stage.Done
    → (p : ℕ) → p < length plan.pools → HasPoolInvariant plan (staged (moved_jobs a (i + 1) s) j Stage.Claimed) p (pool_part s p)
got_pools plan s a body i j kept stands done p inside =
    let jobs = moved_jobs a (i + 1) s in
    let still : (job_at (with_position a (i + 1) s) j).stage ≡ Stage.Done = done_still plan s a body i (i + 1) j stands done in
    same_pool (pool_at plan p) (pool_part s p) (pool_part s p) (places plan s.jobs p) (places plan (staged jobs j Stage.Claimed) p) (busy_jobs plan s.jobs p) (busy_jobs plan (staged jobs j Stage.Claimed) p) refl
    (places-staged plan jobs j Stage.Claimed p (sym (ap is_queued still)) ∙ places-moved plan s a body i (i + 1) p stands)
    (busy-staged_same plan jobs j Stage.Claimed p (busy_in-as plan p (job_at (with_position a (i + 1) s) j) Stage.Claimed (sym (ap is_at still))) ∙ busy-moved plan s a body i (i + 1) p stands)
    (kept.pools p inside)

kept_gets : (plan : Plan) (s : State) (a : Parent) (body : List Action) (i t j : ℕ) → HasValidBodies plan → StateInvariant plan s → IsAtAction plan s a body i (Some (action.Get t)) → child s a t ≡ Some j → (job_at s j).stage ≡ Stage.Done
    → StateInvariant plan (with_stage j Stage.Claimed (with_position a (i + 1) s))
kept_gets plan s a body i t j ordered kept at is_child done = record {
  classes = classes_staged (length plan.classes) (moved_jobs a (i + 1) s) j Stage.Claimed (classes_moved (length plan.classes) s a (i + 1) kept.classes);
  parents = parents_staged (moved_jobs a (i + 1) s) j Stage.Claimed (parents_moved s a (i + 1) kept.parents);
  as_many = kept.as_many;
  pools = got_pools plan s a body i j kept at.stands done;
  actors = λ b body' n now. elim (standing-staged plan (with_position a (i + 1) s) j Stage.Claimed b body' n now) [
    | inl itself ↦ absurd (claimed_nowhere n itself.1)
    | inr before ↦ elim (standing-moved plan s a body i (i + 1) at.stands b body' n before.1) [
      | inl same ↦ rw (same.0, same.1, same.2) (actor_gets plan s a body i t j (valid_point plan s a body i ordered at.stands) (kept.actors a body i at.stands) at.is_there is_child)
      | inr other ↦ other_gets s a (i + 1) t j b body' n other.0 (kept.actors b body' n other.1) is_child
    ]
  ];
}

-- ---- a worker of a pool starts or finishes a job

-- a job at position i of its body has the stage of this position
at_work : (plan : Plan) (s : State) (j : ℕ) (body : List Action) (i : ℕ) → IsAtPosition plan s (parent.Job j) body i → (job_at s j).stage ≡ Stage.At i
at_work plan s j body i stands = (stage_of_standing plan (job_at s j).class (job_at s j).stage body i stands).0

kept_finishes : (plan : Plan) (s : State) (j : ℕ) (body : List Action) (i : ℕ) → StateInvariant plan s → IsAtAction plan s (parent.Job j) body i None → StateInvariant plan (finished_job plan s j (pool_of plan (job_at s j).class))
kept_finishes plan s j body i kept at =
    let q = pool_of plan (job_at s j).class in
    let part = pool_part s q in
    let done : State = with_stage j Stage.Done s in
    let was = at_work plan s j body i at.stands in
    let made = standing_made plan s j body i at.stands in
    record {
      classes = classes_staged (length plan.classes) s.jobs j Stage.Done kept.classes;
      parents = parents_staged s.jobs j Stage.Done kept.parents;
      as_many = length-set s.pools q (record { queue = part.queue; idle = part.idle + 1 }) ∙ kept.as_many;
      pools = pools_with_part plan done q part.queue (part.idle + 1) (HasPoolInvariant plan done.jobs) kept.as_many
          (λ exists. subst (λ (ns : List ℕ). PoolInvariant (pool_at plan q) (record { queue = part.queue; idle = part.idle + 1 }) ns (busy_jobs plan done.jobs q)) (sym (places-staged plan s.jobs j Stage.Done q (sym (ap is_queued was))))
          (finished_pool (pool_at plan q) part (places plan s.jobs q) (busy_jobs plan s.jobs q) (busy_jobs plan done.jobs q) (kept.pools q exists) (omega (arith, busy-staged_here plan s.jobs j Stage.Done q refl made, ap (λ (stage : Stage). one_if (is_at stage)) was))))
          (λ p inside other. same_pool (pool_at plan p) (pool_part s p) (pool_part s p) (places plan s.jobs p) (places plan done.jobs p) (busy_jobs plan s.jobs p) (busy_jobs plan done.jobs p) refl
          (places-staged_elsewhere plan s.jobs j Stage.Done p (λ same. other (sym same))) (busy-staged_elsewhere plan s.jobs j Stage.Done p (λ same. other (sym same))) (kept.pools p inside));
      actors = λ b body' n now. elim (standing-staged plan s j Stage.Done b body' n (sym (point_same plan done (finished_job plan s j q) b refl refl) ∙ now)) [
        | inl itself ↦ absurd (done_nowhere refl n itself.1)
        | inr other ↦ actor_staged s.jobs j Stage.Done b body' n (Done≢Claimed refl) (kept.actors b body' n other.1)
      ];
    }

kept_takes : (plan : Plan) (s : State) (p j : ℕ) (queue : List ℕ) (idle : ℕ) → StateInvariant plan s → (pool_part s p).queue ≡ j ∷ queue → (pool_part s p).idle ≡ suc idle → StateInvariant plan (with_part p queue idle (with_stage j (Stage.At 0) s))
kept_takes plan s p j queue idle kept is_queue is_idle =
    let head = head_of_queue plan s p j queue kept is_queue in
    let begun : State = with_stage j (Stage.At 0) s in
    let more : busy_jobs plan begun.jobs p ≡ busy_jobs plan s.jobs p + 1 = omega (arith, busy-staged_here plan s.jobs j (Stage.At 0) p head.of_pool head.inside, ap (λ (stage : Stage). one_if (is_at stage)) head.queued) in
    record {
      classes = classes_staged (length plan.classes) s.jobs j (Stage.At 0) kept.classes;
      parents = parents_staged s.jobs j (Stage.At 0) kept.parents;
      as_many = length-set s.pools p (record { queue = queue; idle = idle }) ∙ kept.as_many;
      pools = pools_with_part plan begun p queue idle (HasPoolInvariant plan begun.jobs) kept.as_many
          (λ exists. subst (PoolInvariant (pool_at plan p) (record { queue = queue; idle = idle }) (places plan begun.jobs p)) (sym more)
          (taken_pool (pool_at plan p) (pool_part s p) (places plan s.jobs p) (places plan begun.jobs p) (busy_jobs plan s.jobs p) j queue idle (kept.pools p exists) is_queue is_idle (head.others (Stage.At 0) refl)))
          (λ q inside other. same_pool (pool_at plan q) (pool_part s q) (pool_part s q) (places plan s.jobs q) (places plan begun.jobs q) (busy_jobs plan s.jobs q) (busy_jobs plan begun.jobs q) refl
          (places-staged_elsewhere plan s.jobs j (Stage.At 0) q (λ same. other (sym same ∙ head.of_pool))) (busy-staged_elsewhere plan s.jobs j (Stage.At 0) q (λ same. other (sym same ∙ head.of_pool))) (kept.pools q inside));
      actors = λ b body' n now. elim (standing-staged plan s j (Stage.At 0) b body' n (sym (point_same plan begun (with_part p queue idle begun) b refl refl) ∙ now)) [
        | inl itself ↦ subst (ActorInvariant begun.jobs b body') (same_position 0 n itself.1) (actor_begins begun.jobs b body')
        | inr other ↦ actor_staged s.jobs j (Stage.At 0) b body' n (At≢Claimed refl) (kept.actors b body' n other.1)
      ];
    }

kept_retires : (plan : Plan) (s : State) (p idle : ℕ) → StateInvariant plan s → (pool_part s p).idle ≡ suc idle → ((pool_at plan p).unbounded ≡ false → (pool_at plan p).queue ≡ 0 → length (pool_part s p).queue ≤ idle) → StateInvariant plan (with_part p (pool_part s p).queue idle s)
kept_retires plan s p idle kept is_idle not_handed = record {
  classes = kept.classes;
  parents = kept.parents;
  as_many = length-set s.pools p (record { queue = (pool_part s p).queue; idle = idle }) ∙ kept.as_many;
  pools = pools_with_part plan s p (pool_part s p).queue idle (HasPoolInvariant plan s.jobs) kept.as_many (λ exists. retired_pool (pool_at plan p) (pool_part s p) (places plan s.jobs p) (busy_jobs plan s.jobs p) idle (kept.pools p exists) is_idle not_handed) (λ q inside other. kept.pools q inside);
  actors = λ a body i now. kept.actors a body i (sym (point_same plan s (with_part p (pool_part s p).queue idle s) a refl refl) ∙ now);
}

-- ---- every event

pub kept_step : (plan : Plan) (s s' : State) (o : Outcome) {e : Event} → HasValidBodies plan → StateInvariant plan s → Happens plan s e s' o → StateInvariant plan s'
kept_step plan s s' o ordered kept (works a body i u at) = kept_works plan s a body i u ordered kept at
kept_step plan s s' o ordered kept (starts a body i k at below) = kept_starts plan s a body i k ordered kept at below
kept_step plan s s' o ordered kept (queues a body i k at room) = kept_queues plan s a body i k ordered kept at room
kept_step plan s s' o ordered kept (is_refused a body i k at must no_room all_started) = kept_refuses plan s kept
kept_step plan s s' o ordered kept (is_rejected a body i k at may) = kept_skips plan s a body i k ordered kept at
kept_step plan s s' o ordered kept (gets a body i t j at is_child done) = kept_gets plan s a body i t j ordered kept at is_child done
kept_step plan s s' o ordered kept (finishes j body i at) = kept_finishes plan s j body i kept at
kept_step plan s s' o ordered kept (loops c client body i at is_client repeats) = kept_moved plan s (parent.Client c) body i 0 kept at.stands (actor_begins s.jobs (parent.Client c) body)
kept_step plan s s' o ordered kept (takes p j queue idle is_queue is_idle) = kept_takes plan s p j queue idle kept is_queue is_idle
kept_step plan s s' o ordered kept (retires p idle is_idle not_handed) = kept_retires plan s p idle kept is_idle not_handed
