-- Accepted plans are safe and make progress if each submit is the separate steps of Java's `execute`, and actors skip submits
-- together with their gets and exchange alike jobs.
use Rattle.std.proofs.Common.{◌≡◌, ℕ, inl, inr, ⊎_elim, List, Option, Some, None, subst, arith}
use Rattle.job_bodies.specs.declared.action.Action.{Action}
use Rattle.job_bodies.specs.declared.action.Action.TheVariants as action
use Rattle.job_bodies.specs.Plan.{Plan}
use Rattle.job_bodies.proofs.Bodies.{HasValidBodies, ordered}
use Rattle.weights.specs.Ranks.{Ranks}
use Rattle.pool_machine.specs.declared.parent.Parent.{Parent}
use Rattle.pool_machine.specs.declared.event.Event.{Event}
use Rattle.pool_machine.specs.State.{Stage, State}
use Rattle.pool_machine.specs.Step.{skipped}
use Rattle.pool_machine.specs.Reach.{start}
use Rattle.pool_machine.proofs.Events.{IsAtAction}
use Rattle.pool_machine.proofs.InvariantSubmits.{class_exists, kept_skips}
use Rattle.pool_machine.proofs.JobsMade.{have_jobs_skips}
use Rattle.pool_machine.proofs.EnoughThreads.{enough_submitted}
use Rattle.weights.specs.declared.get_return.GetReturn.{GetReturn}
use Rattle.weights.specs.declared.get_return.GetReturn.TheVariants.{DoneWeight}
use Rattle.weights.specs.declared.bound.Bound.{Bound}
use Rattle.weights.specs.declared.bound.Bound.TheVariants.{Standing, Lifetime}
use Rattle.weights.specs.Vector.{Vector}
use Rattle.weights.specs.Bound.{bound_vector, bound_get_return}
use Rattle.cert_text.specs.Cert.{Cert, pool_cert_at}
use Rattle.soundness.proofs.VectorLaws.{VectorLaws}
use Rattle.soundness.proofs.BoundLaws.{PoolBoundLaws, bound_vector_laws}
use Rattle.soundness.proofs.Bounded.{IsBoundBalanced}
use Rattle.soundness.proofs.NeverRises.{IsBalanced, no_heavier_skipped, balanced_step}
use Rattle.soundness.proofs.RankLaws.{RankLaws}
use Rattle.soundness.specs.Execute.{JavaState, JavaEvent, without_calls}
use Rattle.soundness.specs.Exchange.{after_exchange}
use Rattle.soundness.specs.Skipping.{Choice, choice_step, ChoicesReach}
use Rattle.soundness.specs.Skipping.Choice.{Acts, Skips, Misses, Exchanges, Leaves, Spares}
use Rattle.soundness.proofs.Walks.{done-le-queued}
use Rattle.soundness.proofs.ThreadChanges.{IsLasting, change_skipped}
use Rattle.soundness.proofs.ExchangedJobs.{AreAlike, IsExchange, is_exchange, kept_exchanged, threads-exchanged, jobs_made-exchanged, have_jobs_exchanged, no_heavier_exchanged}
use Rattle.soundness.proofs.Choices.{IsSkipped, leaves, is_skipped, is_missed, choices_keep}
use Rattle.soundness.specs.Headline.{AcceptedPlansMaySkip, AcceptedPlansMakeProgressWithSkips, bound_of}
use Rattle.soundness.proofs.CertLaws.{CertLaws, cert_laws}
use Rattle.soundness.proofs.Theorem.{Sound}
use Rattle.soundness.proofs.Calls.{QueueWasFull, CallsKept}
use Rattle.soundness.proofs.JavaTheorem.{JavaSound, java_sound_start, java_sound_after, java_sound_step, java_sound_safe, java_makes_progress}

-- ---- a skipped submit

-- after a skip each vector is still balanced, because a done job weighs at most as much as a queued job
balanced_left : (get_return : GetReturn) (plan : Plan) (v : Vector) (ranks : Ranks) (s : State) (a : Parent) (body : List Action) (i k : ℕ) → HasValidBodies plan → RankLaws plan ranks → VectorLaws get_return plan v → IsAtAction plan s a body i (Some (action.Submit k))
    → IsBalanced get_return plan v s → IsBalanced get_return plan v (skipped s a i k)
balanced_left get_return plan v ranks s a body i k ordered ranked laws at balanced =
    let no_more = done-le-queued get_return plan v ranks k ordered ranked laws (class_exists plan s a body i k ordered at) in
    balanced_step get_return plan v s (skipped s a i k) (no_heavier_skipped get_return plan v s a body i k laws no_more at) balanced

-- after a skip the bound of pool p is still balanced
bound_balanced_left : (plan : Plan) (p : ℕ) (bound : Option Bound) (ranks : Ranks) (s : State) (a : Parent) (body : List Action) (i k : ℕ) → HasValidBodies plan → RankLaws plan ranks → PoolBoundLaws plan p bound → IsAtAction plan s a body i (Some (action.Submit k))
    → IsBoundBalanced plan bound s → IsBoundBalanced plan bound (skipped s a i k)
bound_balanced_left plan p None ranks s a body i k ordered ranked laws at balanced = tt
bound_balanced_left plan p (Some bound) ranks s a body i k ordered ranked laws at balanced =
    balanced_left (bound_get_return bound) plan (bound_vector bound) ranks s a body i k ordered ranked (bound_vector_laws plan p bound laws) at balanced

-- after a skip a sound state is still sound
sound_left : (plan : Plan) (cert : Cert) (s : State) (a : Parent) (body : List Action) (i k : ℕ) → HasValidBodies plan → CertLaws plan cert → IsAtAction plan s a body i (Some (action.Submit k)) → Sound plan cert s → Sound plan cert (skipped s a i k)
sound_left plan cert s a body i k ordered laws at held = record {
  bounded = record {
    kept = kept_skips plan s a body i k ordered held.bounded.kept at;
    have_jobs = have_jobs_skips plan (IsLasting plan) s a body i k held.bounded.have_jobs at;
    balanced = λ p inside. bound_balanced_left plan p (bound_of cert p) cert.ranks s a body i k ordered laws.ranks (laws.bound p inside) at (held.bounded.balanced p inside);
    none_refused = held.bounded.none_refused;
  };
  blocked = λ p inside. balanced_left DoneWeight plan (pool_cert_at cert p).blocked cert.ranks s a body i k ordered laws.ranks (laws.blocked p inside).laws at (held.blocked p inside);
}

-- after a skip the invariant of a pool whose queue was full still holds
full_left : (plan : Plan) (bound : Option Bound) (s : State) (a : Parent) (body : List Action) (i k p : ℕ) → IsAtAction plan s a body i (Some (action.Submit k)) → QueueWasFull plan bound s p → QueueWasFull plan bound (skipped s a i k) p
full_left plan None s a body i k p at full = full
full_left plan (Some (Standing v)) s a body i k p at full = full
full_left plan (Some (Lifetime v)) s a body i k p at full =
    let change = change_skipped plan s a body i k p at.stands in
    let by_jobs = change.by_jobs in
    let more = change.no_fewer in
    let was = full.1.0 in
    (full.0, (omega arith, λ lasting. let all = full.1.1 lasting in omega arith))

-- after a skip the invariants of the calls in progress still hold
calls_left : (plan : Plan) (bounds : ℕ → Option Bound) (s : JavaState) (a : Parent) (body : List Action) (i k : ℕ) → IsAtAction plan s.machine a body i (Some (action.Submit k)) → CallsKept plan bounds s → CallsKept plan bounds (record s { machine = skipped s.machine a i k })
calls_left plan bounds s a body i k at calls = record {
  looks = record {
    timeouts = calls.looks.timeouts;
    enough = λ p inside. ⊎_elim inl (λ had. inr (enough_submitted plan s.machine a body i k p Stage.Done at.stands had)) (calls.looks.enough p inside);
  };
  offering = λ b p inside is_there lasting. (change_skipped plan s.machine a body i k p at.stands).at_core tt lasting (calls.offering b p inside is_there lasting);
  requesting = λ b p inside is_there. full_left plan (bounds p) s.machine a body i k p at (calls.requesting b p inside is_there);
}

left_keeps : (plan : Plan) (cert : Cert) (s : JavaState) (e : Event) (s' : JavaState) → HasValidBodies plan → CertLaws plan cert → JavaSound plan cert s → IsSkipped plan s e s' → JavaSound plan cert s'
left_keeps plan cert s e s' ordered laws held (leaves a body i k at not_offering not_requesting) = record {
  sound = sound_left plan cert s.machine a body i k ordered laws at held.sound;
  calls = calls_left plan (bound_of cert) s a body i k at held.calls;
}

-- ---- an exchange

balanced_exchanged : (get_return : GetReturn) (plan : Plan) (v : Vector) (s : State) (a : Parent) (t u : ℕ) → IsBalanced get_return plan v s → IsBalanced get_return plan v (after_exchange a t u s)
balanced_exchanged get_return plan v s a t u balanced = balanced_step get_return plan v s (after_exchange a t u s) (no_heavier_exchanged get_return plan v s a t u) balanced

bound_balanced_exchanged : (plan : Plan) (bound : Option Bound) (s : State) (a : Parent) (t u : ℕ) → IsBoundBalanced plan bound s → IsBoundBalanced plan bound (after_exchange a t u s)
bound_balanced_exchanged plan None s a t u balanced = tt
bound_balanced_exchanged plan (Some bound) s a t u balanced = balanced_exchanged (bound_get_return bound) plan (bound_vector bound) s a t u balanced

-- after an exchange a sound state is still sound
sound_exchanged : (plan : Plan) (cert : Cert) (s : State) (a : Parent) (t u : ℕ) → AreAlike s a t u → Sound plan cert s → Sound plan cert (after_exchange a t u s)
sound_exchanged plan cert s a t u alike held = record {
  bounded = record {
    kept = kept_exchanged plan s a t u alike held.bounded.kept;
    have_jobs = have_jobs_exchanged plan s a t u held.bounded.have_jobs;
    balanced = λ p inside. bound_balanced_exchanged plan (bound_of cert p) s a t u (held.bounded.balanced p inside);
    none_refused = held.bounded.none_refused;
  };
  blocked = λ p inside. balanced_exchanged DoneWeight plan (pool_cert_at cert p).blocked s a t u (held.blocked p inside);
}

-- after an exchange the invariant of a pool whose queue was full still holds
full_exchanged : (plan : Plan) (bound : Option Bound) (s : State) (a : Parent) (t u p : ℕ) → QueueWasFull plan bound s p → QueueWasFull plan bound (after_exchange a t u s) p
full_exchanged plan None s a t u p full = full
full_exchanged plan (Some (Standing v)) s a t u p full = full
full_exchanged plan (Some (Lifetime v)) s a t u p full =
    let was = full.1.0 in
    (full.0, (omega (arith, jobs_made-exchanged plan s a t u p), λ lasting. let all = full.1.1 lasting in omega (arith, threads-exchanged plan s a t u p, jobs_made-exchanged plan s a t u p)))

-- after an exchange the invariants of the calls in progress still hold
calls_exchanged : (plan : Plan) (bounds : ℕ → Option Bound) (s : JavaState) (a : Parent) (t u : ℕ) → CallsKept plan bounds s → CallsKept plan bounds (record s { machine = after_exchange a t u s.machine })
calls_exchanged plan bounds s a t u calls = record {
  looks = record {
    timeouts = calls.looks.timeouts;
    enough = λ p inside. ⊎_elim inl (λ had. inr (λ some. let enough = had some in omega (arith, threads-exchanged plan s.machine a t u p))) (calls.looks.enough p inside);
  };
  offering = λ b p inside is_there lasting. let at_core = calls.offering b p inside is_there lasting in omega (arith, threads-exchanged plan s.machine a t u p);
  requesting = λ b p inside is_there. full_exchanged plan (bounds p) s.machine a t u p (calls.requesting b p inside is_there);
}

exchange_keeps : (plan : Plan) (cert : Cert) (s : JavaState) (a : Parent) (t u : ℕ) (s' : JavaState) → JavaSound plan cert s → IsExchange s a t u s' → JavaSound plan cert s'
exchange_keeps plan cert s a t u s' held done =
    subst (JavaSound plan cert) done.after
    (record { sound = sound_exchanged plan cert s.machine a t u done.alike held.sound; calls = calls_exchanged plan (bound_of cert) s a t u held.calls })

-- ---- every choice

pub choice_keeps : (plan : Plan) (cert : Cert) → HasValidBodies plan → CertLaws plan cert → (s : JavaState) (x : Choice) (s' : JavaState) → JavaSound plan cert s → choice_step plan s x ≡ Some s' → JavaSound plan cert s'
choice_keeps plan cert ordered laws s (Acts e) s' held is_step = java_sound_step plan cert ordered laws s (JavaEvent.Acts e) s' held is_step
choice_keeps plan cert ordered laws s (Skips e) s' held is_step = left_keeps plan cert s e s' ordered laws held (is_skipped plan s e s' is_step)
choice_keeps plan cert ordered laws s (Misses e) s' held is_step = java_sound_after plan cert s s' ordered laws held (is_missed plan s e s' is_step)
choice_keeps plan cert ordered laws s (Exchanges a t u) s' held is_step = exchange_keeps plan cert s a t u s' held (is_exchange plan s a t u s' is_step)
choice_keeps plan cert ordered laws s (Leaves p) s' held is_step = java_sound_step plan cert ordered laws s (JavaEvent.Leaves p) s' held is_step
choice_keeps plan cert ordered laws s (Spares p) s' held is_step = java_sound_step plan cert ordered laws s (JavaEvent.Spares p) s' held is_step

-- every state that choices reach is sound
pub choices_sound : (plan : Plan) (cert : Cert) → HasValidBodies plan → CertLaws plan cert → (choices : List Choice) (s : JavaState) → ChoicesReach plan choices s → JavaSound plan cert s
choices_sound plan cert ordered laws choices s reached = choices_keep plan (JavaSound plan cert) (choice_keeps plan cert ordered laws) choices (without_calls (start plan)) s (java_sound_start plan cert ordered) reached

-- ---- the laws

-- the law that every state that choices reach is safe
pub accepted_plans_may_skip : AcceptedPlansMaySkip
accepted_plans_may_skip plan cert well_formed is_accepted choices s reached =
    let is_ordered = ordered plan well_formed in
    let laws = cert_laws plan cert is_accepted in
    java_sound_safe plan cert s is_ordered laws (choices_sound plan cert is_ordered laws choices s reached)

-- the law that an event of a job or a take is possible in every state with an unfinished job that choices reach
pub accepted_plans_make_progress_with_skips : AcceptedPlansMakeProgressWithSkips
accepted_plans_make_progress_with_skips plan cert well_formed is_accepted choices s reached j still =
    let is_ordered = ordered plan well_formed in
    let laws = cert_laws plan cert is_accepted in
    java_makes_progress plan cert s j is_ordered laws (choices_sound plan cert is_ordered laws choices s reached) still
