-- Choices of other actors and of pools leave an actor undisturbed.
use Rattle.std.proofs.Common.{◌≡◌, ◌≢◌, ℕ, ◌+◌, ⊎_elim, Bool, true, false, List, [], ◌∷◌, ◌++◌, get_or, Some, refl, sym, ap, subst, ◌∙◌, arith}
use Rattle.std.proofs.lemmas.Bool.{false≢true}
use Rattle.std.proofs.lemmas.List.{length-map}
use Rattle.job_bodies.specs.declared.action.Action.{Action}
use Rattle.job_bodies.specs.Plan.{Plan}
use Rattle.job_bodies.proofs.Bodies.{HasValidBodies}
use Rattle.pool_machine.specs.declared.parent.Parent.{Parent}
use Rattle.pool_machine.specs.declared.parent.Parent.TheVariants as parent
use Rattle.pool_machine.specs.declared.event.Event.{Event}
use Rattle.pool_machine.specs.declared.event.Outcome.{Outcome}
use Rattle.pool_machine.specs.State.{Stage, State, no_job, same_parent, job_at, pool_of, child}
use Rattle.pool_machine.specs.Step.{moved_jobs, with_position, with_stage, with_job, new_job, finished_job}
use Rattle.pool_machine.proofs.Events.{event_of, queued_state, with_part, Happens, works, starts, queues, is_refused, is_rejected, gets, finishes, loops, takes, retires}
use Rattle.pool_machine.proofs.StateInvariant.{StateInvariant}
use Rattle.pool_machine.proofs.Stages.{staged}
use Rattle.pool_machine.proofs.Actors.{point_same}
use Rattle.pool_machine.proofs.Queues.{head_of_queue}
use Rattle.pool_machine.proofs.Children.{same_actor_refl, maker_of, child_is, not_by_other}
use Rattle.cert_text.specs.Cert.{Cert}
use Rattle.soundness.specs.Execute.{Call, JavaState, JavaEvent, is_calling, without_calls_of}
use Rattle.soundness.specs.Exchange.{exchanged_job, after_exchange}
use Rattle.soundness.specs.Skipping.{Choice, choice_step}
use Rattle.soundness.specs.Headline.{bound_of}
use Rattle.soundness.specs.Skipping.Choice.{Acts, Skips, Misses, Exchanges, Leaves, Spares}
use Rattle.soundness.proofs.Calls.{calls_found}
use Rattle.soundness.proofs.JavaEvents.{JavaHappens, is_atomic, ends, finds_core, finds_full, finds_all, is_enough, starts_spare, with_spare_thread, call_of_others, one_more, java_happens}
use Rattle.soundness.proofs.JavaTheorem.{JavaSound}
use Rattle.soundness.proofs.Choices.{IsSkipped, leaves, is_skipped, is_missed}
use Rattle.soundness.proofs.ExchangedJobs.{exchanges_swap_two_gets, point-exchanged, is_exchange}
use Rattle.conformance.specs.LaggingRun.{is_event_of, is_choice_of}
use Rattle.conformance.proofs.Undisturbed.{KeepsJobs, keeps_same, keeps_both, keeps_staged, keeps_moved, keeps_pushed, at_not_claimed, at_not_done, queued_not_done, queued_not_at, done_not_claimed, HasPosition, stands_other, stands_staged, stands_pushed, not_that_job}

-- No call of the actor is in progress.
abbrev pub IsQuiet : Parent → JavaState → Type 0
IsQuiet a s = (p : ℕ) → (is_calling s.offering a p ≡ true → ⊥) × (is_calling s.requesting a p ≡ true → ⊥)

-- The actor is still at its position, and it keeps its jobs.
pub record IsUndisturbed (plan : Plan) (a : Parent) (body : List Action) (i m : ℕ) (s s' : State) : Type 0 where
  pub stands : HasPosition plan s' a body i
  pub jobs : KeepsJobs a m s.jobs s'.jobs

-- ---- other actors
own_event : (a b : Parent) → is_event_of a (event_of b) ≡ same_parent a b
own_event (parent.Client c) (parent.Client d) = refl
own_event (parent.Client c) (parent.Job k) = refl
own_event (parent.Job j) (parent.Client d) = refl
own_event (parent.Job j) (parent.Job k) = refl

pub other_actor : (a b : Parent) → is_event_of a (event_of b) ≡ false → same_parent a b ≡ false
other_actor a b other = sym (own_event a b) ∙ other

pub different : (a b : Parent) → same_parent a b ≡ false → a ≢ b
different a b other same = false≢true (sym other ∙ ap (same_parent a) (sym same) ∙ same_actor_refl a)

-- The event in Java's steps is one of the actor. A look at a pool is of no actor.
abbrev pub is_java_event_of : Parent → JavaEvent → Bool
is_java_event_of a (JavaEvent.Acts e) = is_event_of a e
is_java_event_of a _ = false

-- ---- the machine's events
-- Another actor moves, and a job of it is created.
other_submits : (plan : Plan) (a b : Parent) (body bd : List Action) (i m k c : ℕ) (stage : Stage) (s : State) → same_parent a b ≡ false → HasPosition plan s a body i → HasPosition plan s b bd k
    → IsUndisturbed plan a body i m s (with_job (new_job c b k stage) (with_position b (k + 1) s))
other_submits plan a b body bd i m k c stage s other stands his =
    let moved : State = with_position b (k + 1) s in
    let job = new_job c b k stage in
    record {
      stands = stands_pushed plan moved a job body i (stands_other plan s a b body i (k + 1) other stands);
      jobs = keeps_both a m s.jobs (moved_jobs b (k + 1) s) (moved_jobs b (k + 1) s ++ job ∷ []) (keeps_moved plan a m s b bd k (k + 1) his)
          (keeps_pushed a m (moved_jobs b (k + 1) s) job (λ t lt. not_by_other c b k stage a t (different a b other)));
    }

-- Another actor gets a job.
other_gets : (plan : Plan) (a b : Parent) (body bd : List Action) (i m k t j : ℕ) (s : State) → same_parent a b ≡ false → HasPosition plan s a body i → HasPosition plan s b bd k → child s b t ≡ Some j → (job_at s j).stage ≡ Stage.Done
    → IsUndisturbed plan a body i m s (with_stage j Stage.Claimed (with_position b (k + 1) s))
other_gets plan a b body bd i m k t j s other stands his is_child done =
    let moved : State = with_position b (k + 1) s in
    let found = child_is s.jobs b t j is_child in
    let moves = keeps_moved plan a m s b bd k (k + 1) his in
    record {
      stands = stands_staged plan moved a j Stage.Claimed body i (not_that_job plan s a j body i (λ n at. at_not_done n at done) stands) (stands_other plan s a b body i (k + 1) other stands);
      jobs = keeps_both a m s.jobs (moved_jobs b (k + 1) s) (staged (moved_jobs b (k + 1) s) j Stage.Claimed) moves
          (keeps_staged a m (moved_jobs b (k + 1) s) j Stage.Claimed
          (λ own. absurd (different a b other (sym own ∙ moves.parents j found.0 ∙ sym (maker_of (get_or s.jobs j no_job) b t found.1).0))));
    }

pub happens_other : (plan : Plan) (a : Parent) (body : List Action) (i m : ℕ) (s s' : State) (o : Outcome) {e : Event} → StateInvariant plan s → is_event_of a e ≡ false → HasPosition plan s a body i → Happens plan s e s' o → IsUndisturbed plan a body i m s s'
happens_other plan a body i m s s' o kept other stands (works b bd k u at) = record {
  stands = stands_other plan s a b body i (k + 1) (other_actor a b other) stands;
  jobs = keeps_moved plan a m s b bd k (k + 1) at.stands;
}
happens_other plan a body i m s s' o kept other stands (starts b bd k c at room) = other_submits plan a b body bd i m k c (Stage.At 0) s (other_actor a b other) stands at.stands
happens_other plan a body i m s s' o kept other stands (queues b bd k c at room) =
    let submits = other_submits plan a b body bd i m k c Stage.Queued s (other_actor a b other) stands at.stands in
    record { stands = point_same plan (with_job (new_job c b k Stage.Queued) (with_position b (k + 1) s)) (queued_state plan s b k c) a refl refl ∙ submits.stands; jobs = submits.jobs }
happens_other plan a body i m s s' o kept other stands (is_refused b bd k c at must full all) = record {
  stands = point_same plan s (record s { refusals = s.refusals + 1 }) a refl refl ∙ stands;
  jobs = keeps_same a m s.jobs;
}
happens_other plan a body i m s s' o kept other stands (is_rejected b bd k c at may) = other_submits plan a b body bd i m k c Stage.Done s (other_actor a b other) stands at.stands
happens_other plan a body i m s s' o kept other stands (gets b bd k t j at is_child done) = other_gets plan a b body bd i m k t j s (other_actor a b other) stands at.stands is_child done
happens_other plan a body i m s s' o kept other stands (finishes j bd k at) = record {
  stands = point_same plan (with_stage j Stage.Done s) (finished_job plan s j (pool_of plan (job_at s j).class)) a refl refl
      ∙ stands_staged plan s a j Stage.Done body i (different a (parent.Job j) (other_actor a (parent.Job j) other)) stands;
  jobs = keeps_staged a m s.jobs j Stage.Done (λ own. (done_not_claimed, λ is. refl));
}
happens_other plan a body i m s s' o kept other stands (loops c client bd k at found repeats) = record {
  stands = stands_other plan s a (parent.Client c) body i 0 (other_actor a (parent.Client c) other) stands;
  jobs = keeps_same a m s.jobs;
}
happens_other plan a body i m s s' o kept other stands (takes p j queue idle is_queue is_idle) =
    let queued = (head_of_queue plan s p j queue kept is_queue).queued in
    record {
      stands = point_same plan (with_stage j (Stage.At 0) s) (with_part p queue idle (with_stage j (Stage.At 0) s)) a refl refl
          ∙ stands_staged plan s a j (Stage.At 0) body i (not_that_job plan s a j body i (λ n at. queued_not_at n queued at) stands) stands;
      jobs = keeps_staged a m s.jobs j (Stage.At 0) (λ own. (at_not_claimed 0, λ done. absurd (queued_not_done queued done)));
    }
happens_other plan a body i m s s' o kept other stands (retires p idle is_idle not_handed) = record {
  stands = point_same plan s s' a refl refl ∙ stands;
  jobs = keeps_same a m s.jobs;
}

-- ---- calls
still_none : (a b : Parent) (calls : List Call) → ((p : ℕ) → is_calling calls a p ≡ true → ⊥) → (p : ℕ) → is_calling (without_calls_of b calls) a p ≡ true → ⊥
still_none a b calls none p there = none p (call_of_others b a p calls there).0

none_more : (a : Parent) (call : Call) (calls : List Call) → a ≢ call.actor → ((p : ℕ) → is_calling calls a p ≡ true → ⊥) → (p : ℕ) → is_calling (call ∷ calls) a p ≡ true → ⊥
none_more a call calls other none p there = ⊎_elim (λ first. other first.0) (λ later. none p later) (one_more call calls a p there)

-- ---- every choice
-- The machine's actor is undisturbed, and has no call in progress if it had none.
pub record StaysQuiet (plan : Plan) (a : Parent) (body : List Action) (i m : ℕ) (s s' : JavaState) : Type 0 where
  pub undisturbed : IsUndisturbed plan a body i m s.machine s'.machine
  pub quiet : IsQuiet a s → IsQuiet a s'

pub same_machine : (plan : Plan) (a : Parent) (body : List Action) (i m : ℕ) (s : State) → HasPosition plan s a body i → IsUndisturbed plan a body i m s s
same_machine plan a body i m s stands = record { stands = stands; jobs = keeps_same a m s.jobs }

java_other : (plan : Plan) (a : Parent) (body : List Action) (i m : ℕ) (s s' : JavaState) {e : JavaEvent} → StateInvariant plan s.machine → is_java_event_of a e ≡ false → HasPosition plan s.machine a body i → JavaHappens plan s e s' → StaysQuiet plan a body i m s s'
java_other plan a body i m s s' kept other stands (is_atomic e after o looking none happened looks) = record { undisturbed = happens_other plan a body i m s.machine after o kept other stands happened; quiet = λ quiet. quiet }
java_other plan a body i m s s' kept other stands (ends b bd k c after o looking at happened looks) = record {
  undisturbed = happens_other plan a body i m s.machine after o kept other stands happened;
  quiet = λ quiet p. (still_none a b s.offering (λ q. (quiet q).0) p, still_none a b s.requesting (λ q. (quiet q).1) p);
}
java_other plan a body i m s s' kept other stands (finds_core b bd k c at no_request no_offer core) = record {
  undisturbed = same_machine plan a body i m s.machine stands;
  quiet = λ quiet p. (none_more a (record { actor = b; pool = pool_of plan c }) s.offering (different a b (other_actor a b other)) (λ q. (quiet q).0) p, (quiet p).1);
}
java_other plan a body i m s s' kept other stands (finds_full b bd k c at no_request full) = record {
  undisturbed = same_machine plan a body i m s.machine stands;
  quiet = λ quiet p. (still_none a b s.offering (λ q. (quiet q).0) p, none_more a (record { actor = b; pool = pool_of plan c }) s.requesting (different a b (other_actor a b other)) (λ q. (quiet q).1) p);
}
java_other plan a body i m s s' kept other stands (finds_all b bd k c at must request all) = record {
  undisturbed = record { stands = point_same plan s.machine (record s.machine { refusals = s.machine.refusals + 1 }) a refl refl ∙ stands; jobs = keeps_same a m s.machine.jobs };
  quiet = λ quiet p. (still_none a b s.offering (λ q. (quiet q).0) p, still_none a b s.requesting (λ q. (quiet q).1) p);
}
java_other plan a body i m s s' kept other stands (is_enough p there enough) = record { undisturbed = same_machine plan a body i m s.machine stands; quiet = λ quiet. quiet }
java_other plan a body i m s s' kept other stands (starts_spare p there below) = record {
  undisturbed = record { stands = point_same plan s.machine (with_spare_thread p s.machine) a refl refl ∙ stands; jobs = keeps_same a m s.machine.jobs };
  quiet = λ quiet. quiet;
}

skip_other : (plan : Plan) (a : Parent) (body : List Action) (i m : ℕ) (s s' : JavaState) {e : Event} → is_event_of a e ≡ false → HasPosition plan s.machine a body i → IsSkipped plan s e s' → StaysQuiet plan a body i m s s'
skip_other plan a body i m s s' other stands (leaves b bd k c at no_offer no_request) = record {
  undisturbed = other_submits plan a b body bd i m k c Stage.Done s.machine (other_actor a b other) stands at.stands;
  quiet = λ quiet. quiet;
}

exchange_other : (plan : Plan) (a b : Parent) (body : List Action) (i m t u : ℕ) (s : JavaState) → same_parent a b ≡ false → HasPosition plan s.machine a body i → StaysQuiet plan a body i m s (record s { machine = after_exchange b t u s.machine })
exchange_other plan a b body i m t u s other stands =
    let swap = exchanges_swap_two_gets s.machine b t u in
    record {
      undisturbed = record {
        stands = point-exchanged plan s.machine b t u a ∙ stands;
        jobs = record {
          children = λ w lt. swap.actors a w (different a b other);
          longer = let same = length-map s.machine.jobs (exchanged_job b t u) in omega (arith, same);
          classes = λ n inside. swap.classes n;
          parents = λ n inside. swap.creators n;
          unclaimed = λ n inside own kept claimed. kept (sym (swap.stages n) ∙ claimed);
          done = λ n inside own is. swap.stages n ∙ is;
        };
      };
      quiet = λ quiet. quiet;
    }

-- A choice of another actor or of a pool leaves the actor undisturbed.
pub choice_other : (plan : Plan) (cert : Cert) (a : Parent) (body : List Action) (i m : ℕ) (s : JavaState) (x : Choice) (s' : JavaState) → HasValidBodies plan → JavaSound plan cert s → is_choice_of a x ≡ false → HasPosition plan s.machine a body i → choice_step plan s x ≡ Some s'
    → StaysQuiet plan a body i m s s'
choice_other plan cert a body i m s (Acts e) s' ordered sound other stands is_step = java_other plan a body i m s s' sound.sound.bounded.kept other stands (java_happens plan s (JavaEvent.Acts e) s' ordered (calls_found plan (bound_of cert) s sound.calls) is_step)
choice_other plan cert a body i m s (Skips e) s' ordered sound other stands is_step = skip_other plan a body i m s s' other stands (is_skipped plan s e s' is_step)
choice_other plan cert a body i m s (Misses e) s' ordered sound other stands is_step = java_other plan a body i m s s' sound.sound.bounded.kept other stands (is_missed plan s e s' is_step)
choice_other plan cert a body i m s (Exchanges b t u) s' ordered sound other stands is_step =
    subst (StaysQuiet plan a body i m s) (is_exchange plan s b t u s' is_step).after (exchange_other plan a b body i m t u s other stands)
choice_other plan cert a body i m s (Leaves p) s' ordered sound other stands is_step =
    java_other plan a body i m s s' sound.sound.bounded.kept refl stands (java_happens plan s (JavaEvent.Leaves p) s' ordered (calls_found plan (bound_of cert) s sound.calls) is_step)
choice_other plan cert a body i m s (Spares p) s' ordered sound other stands is_step =
    java_other plan a body i m s s' sound.sound.bounded.kept refl stands (java_happens plan s (JavaEvent.Spares p) s' ordered (calls_found plan (bound_of cert) s sound.calls) is_step)
