-- Within three events of an actor that has reached a submit, the pool takes the job or rejects it.
use Rattle.std.proofs.Common.{◌≡◌, ℕ, suc, ◌+◌, inl, inr, Bool, true, false, cond, ltb, eqb, ◌&&◌, ◌||◌, not, List, [], ◌∷◌, ◌++◌, length, slice_get, Some, refl, sym, ap, ap₂, subst, ◌∙◌, arith}
use Rattle.std.proofs.lemmas.Bool.{and_from, eq-eqb, false_from_ne_true}
use Rattle.std.proofs.lemmas.List.{length_push}
use Rattle.job_bodies.specs.declared.action.Action.{Action}
use Rattle.job_bodies.specs.declared.action.Action.TheVariants as action
use Rattle.job_bodies.specs.Plan.{Plan, pool_at}
use Rattle.job_bodies.proofs.Bodies.{HasValidBodies}
use Rattle.pool_machine.specs.PoolState.{room_limit}
use Rattle.pool_machine.specs.declared.offer.Offer.TheVariants as offer
use Rattle.pool_machine.specs.declared.event.Event.{Event}
use Rattle.pool_machine.specs.declared.parent.Parent.{Parent}
use Rattle.pool_machine.specs.declared.event.Outcome.{Outcome}
use Rattle.pool_machine.specs.declared.event.Outcome.TheVariants as outcome
use Rattle.pool_machine.specs.State.{Stage, State, same_parent, pool_of, pool_part, threads}
use Rattle.pool_machine.specs.Step.{moved_jobs, new_job, skipped}
use Rattle.pool_machine.proofs.Stages.{length-moved}
use Rattle.pool_machine.proofs.Children.{same_actor_true, same_actor_refl}
use Rattle.cert_text.specs.Cert.{Cert}
use Rattle.soundness.specs.Execute.{Call, JavaState, JavaEvent, is_calling, without_calls_of, submission_at, submission_of, answers, checks_core, offers_job, requests_thread, java_stepped}
use Rattle.soundness.specs.Skipping.{Choice, choice_step, event_of_actor}
use Rattle.soundness.specs.Headline.{bound_of}
use Rattle.soundness.specs.Skipping.Choice.{Acts, Skips, Misses, Exchanges, Leaves, Spares}
use Rattle.soundness.proofs.Calls.{calls_found}
use Rattle.soundness.proofs.CertLaws.{CertLaws}
use Rattle.soundness.proofs.JavaEvents.{ends_with, JavaHappens, is_atomic, ends, finds_core, finds_full, finds_all, is_enough, starts_spare, java_happens}
use Rattle.soundness.proofs.JavaTheorem.{JavaSound}
use Rattle.soundness.proofs.Choices.{IsSkipped, leaves, is_skipped, is_missed}
use Rattle.soundness.proofs.ExchangedJobs.{is_exchange}
use Rattle.soundness.proofs.Skipping.{choice_keeps}
use Rattle.conformance.specs.LaggingRun.{is_choice_of, OthersAct, stays, acts, NextOfSubmit, IsTakenWithin}
use Rattle.conformance.proofs.Undisturbed.{HasPosition}
use Rattle.conformance.proofs.OthersAct.{IsQuiet, other_actor, is_java_event_of, choice_other}
use Rattle.conformance.proofs.LaggingSteps.{submission_of_actor}

-- ---- the calls of an actor
-- The actor has the same calls in both states.
abbrev HasSameCalls : Parent → JavaState → JavaState → Type 0
HasSameCalls a s s' = (p : ℕ) → (is_calling s'.offering a p ≡ is_calling s.offering a p) × (is_calling s'.requesting a p ≡ is_calling s.requesting a p)

-- A call of another actor.
beside : (a : Parent) (call : Call) (calls : List Call) (p : ℕ) → same_parent a call.actor ≡ false → is_calling (call ∷ calls) a p ≡ is_calling calls a p
beside a call calls p other = ap (λ (b : Bool). (b && eqb p call.pool) || is_calling calls a p) other

without_if : (a b : Parent) (call : Call) (calls : List Call) (p : ℕ) (of : Bool) → same_parent b call.actor ≡ of → same_parent a b ≡ false → is_calling (without_calls_of b calls) a p ≡ is_calling calls a p
    → is_calling (cond (not of) (call ∷ without_calls_of b calls) (without_calls_of b calls)) a p ≡ is_calling (call ∷ calls) a p
without_if a b call calls p true of other same = same ∙ sym (beside a call calls p (ap (same_parent a) (sym (same_actor_true b call.actor of)) ∙ other))
without_if a b call calls p false of other same = ap (λ (there : Bool). (same_parent a call.actor && eqb p call.pool) || there) same

without_others : (a b : Parent) (calls : List Call) (p : ℕ) → same_parent a b ≡ false → is_calling (without_calls_of b calls) a p ≡ is_calling calls a p
without_others a b [] p other = refl
without_others a b (call ∷ calls) p other = without_if a b call calls p (same_parent b call.actor) refl other (without_others a b calls p other)

java_calls : (plan : Plan) (a : Parent) (s s' : JavaState) {e : JavaEvent} → is_java_event_of a e ≡ false → JavaHappens plan s e s' → HasSameCalls a s s'
java_calls plan a s s' other (is_atomic e after o looking none happened looks) = λ p. (refl, refl)
java_calls plan a s s' other (ends b bd k c after o looking at happened looks) = λ p. (without_others a b s.offering p (other_actor a b other), without_others a b s.requesting p (other_actor a b other))
java_calls plan a s s' other (finds_core b bd k c at no_request no_offer core) = λ p. (beside a (record { actor = b; pool = pool_of plan c }) s.offering p (other_actor a b other), refl)
java_calls plan a s s' other (finds_full b bd k c at no_request full) = λ p. (without_others a b s.offering p (other_actor a b other), beside a (record { actor = b; pool = pool_of plan c }) s.requesting p (other_actor a b other))
java_calls plan a s s' other (finds_all b bd k c at must request all) = λ p. (without_others a b s.offering p (other_actor a b other), without_others a b s.requesting p (other_actor a b other))
java_calls plan a s s' other (is_enough q there enough) = λ p. (refl, refl)
java_calls plan a s s' other (starts_spare q there below) = λ p. (refl, refl)

skip_calls : (plan : Plan) (a : Parent) (s s' : JavaState) {e : Event} → IsSkipped plan s e s' → HasSameCalls a s s'
skip_calls plan a s s' (leaves b bd k c at no_offer no_request) = λ p. (refl, refl)

choice_calls : (plan : Plan) (cert : Cert) (a : Parent) (s : JavaState) (x : Choice) (s' : JavaState) → HasValidBodies plan → JavaSound plan cert s → is_choice_of a x ≡ false → choice_step plan s x ≡ Some s' → HasSameCalls a s s'
choice_calls plan cert a s (Acts e) s' ordered sound other is_step = java_calls plan a s s' other (java_happens plan s (JavaEvent.Acts e) s' ordered (calls_found plan (bound_of cert) s sound.calls) is_step)
choice_calls plan cert a s (Skips e) s' ordered sound other is_step = skip_calls plan a s s' (is_skipped plan s e s' is_step)
choice_calls plan cert a s (Misses e) s' ordered sound other is_step = java_calls plan a s s' other (is_missed plan s e s' is_step)
choice_calls plan cert a s (Exchanges b t u) s' ordered sound other is_step = subst (HasSameCalls a s) (is_exchange plan s b t u s' is_step).after (λ p. (refl, refl))
choice_calls plan cert a s (Leaves p) s' ordered sound other is_step = java_calls plan a s s' refl (java_happens plan s (JavaEvent.Leaves p) s' ordered (calls_found plan (bound_of cert) s sound.calls) is_step)
choice_calls plan cert a s (Spares p) s' ordered sound other is_step = java_calls plan a s s' refl (java_happens plan s (JavaEvent.Spares p) s' ordered (calls_found plan (bound_of cert) s sound.calls) is_step)

first_call : (a : Parent) (p : ℕ) (calls : List Call) → is_calling (record { actor = a; pool = p } ∷ calls) a p ≡ true
first_call a p calls = ap (λ (b : Bool). b || is_calling calls a p) (and_from (same_parent a a) (eqb p p) (same_actor_refl a) (eq-eqb p p refl))

module _ (plan : Plan) (cert : Cert) (a : Parent) (body : List Action) (q k : ℕ) (is_ordered : HasValidBodies plan) (laws : CertLaws plan cert) (e : slice_get body q ≡ Some (action.Submit k)) where
  -- The actor is at the submit, in a state that satisfies the invariants.
  record IsAtSubmit (s : JavaState) : Type 0 where
    sound : JavaSound plan cert s
    stands : HasPosition plan s.machine a body q

  record StaysAtSubmit (s s' : JavaState) : Type 0 where
    at : IsAtSubmit s'
    calls : HasSameCalls a s s'

  -- Choices of others leave the actor at the submit, with its calls.
  others_stay : {s s' : JavaState} → OthersAct plan a s s' → IsAtSubmit s → StaysAtSubmit s s'
  others_stay stays at = record { at = at; calls = λ p. (refl, refl) }
  others_stay (acts {s = s} {next = next} x other step rest) at =
      let change = choice_other plan cert a body q q s x next is_ordered at.sound other at.stands step in
      let calls = choice_calls plan cert a s x next is_ordered at.sound other step in
      let later = others_stay rest (record { sound = choice_keeps plan cert is_ordered laws s x next at.sound step; stands = change.undisturbed.stands }) in
      record { at = later.at; calls = λ p. ((later.calls p).0 ∙ (calls p).0, (later.calls p).1 ∙ (calls p).1) }

  -- The actor's event at the submit.
  executed : (s : JavaState) → IsAtSubmit s → (requesting offering : Bool) → is_calling s.requesting a (pool_of plan k) ≡ requesting → is_calling s.offering a (pool_of plan k) ≡ offering
      → choice_step plan s (Acts (event_of_actor a)) ≡ Some (cond requesting (requests_thread plan s a q k) (cond offering (offers_job plan s a q k) (checks_core plan s a q k)))
  executed s at requesting offering is_requesting is_offering =
      ap (java_stepped plan s (event_of_actor a)) (submission_of_actor plan s.machine a ∙ ap (submission_of a) at.stands ∙ ap (submission_at a q) e)
      ∙ ap₂ (λ (r o : Bool). Some (cond r (requests_thread plan s a q k) (cond o (offers_job plan s a q k) (checks_core plan s a q k)))) is_requesting is_offering

  -- There is one more job.
  one_more_job : (s : JavaState) (stage : Stage) → length (moved_jobs a (q + 1) s.machine ++ new_job k a q stage ∷ []) ≡ suc (length s.machine.jobs)
  one_more_job s stage =
      let grown = length_push (moved_jobs a (q + 1) s.machine) (new_job k a q stage) in
      let long = length-moved s.machine a (q + 1) in
      omega (arith, grown, long)

  -- The state after a third step that finds max threads.
  abbrev declined : JavaState → Bool → JavaState
  declined s may = let x : State × Outcome = cond may (skipped s.machine a q k, outcome.Rejected (pool_of plan k) (length s.machine.jobs)) (record s.machine { refusals = s.machine.refusals + 1 }, outcome.Refused (pool_of plan k)) in ends_with s a x.0 s.looking

  -- The third step finds max threads. The pool then may reject the job: otherwise the step refuses it, and the state after a refusal is not
  -- safe.
  decline : (later : JavaState → Type 0) (s : JavaState) → IsAtSubmit s → (may : Bool) → choice_step plan s (Acts (event_of_actor a)) ≡ Some (declined s may) → NextOfSubmit plan a s later
  decline later s at true stepped = record { next = declined s true; is_next = stepped; onward = inl (one_more_job s Stage.Done) }
  decline later s at false stepped =
      let sound = choice_keeps plan cert is_ordered laws s (Acts (event_of_actor a)) (declined s false) at.sound stepped in
      let none : s.machine.refusals + 1 ≡ 0 = sound.sound.bounded.none_refused in
      absurd (omega (arith, none))

  -- The third step.
  request : (later : JavaState → Type 0) (s : JavaState) → IsAtSubmit s → is_calling s.requesting a (pool_of plan k) ≡ true → (below : Bool) → ltb (threads plan s.machine (pool_of plan k)) (pool_at plan (pool_of plan k)).max ≡ below → NextOfSubmit plan a s later
  request later s at is_requesting true is_below = record {
    next = answers plan s a q k offer.Started;
    is_next = executed s at true (is_calling s.offering a (pool_of plan k)) is_requesting refl ∙ ap (λ (b : Bool). Some (answers plan s a q k (cond b offer.Started offer.Refused))) is_below;
    onward = inl (one_more_job s (Stage.At 0));
  }
  request later s at is_requesting false is_below =
      decline later s at (pool_at plan (pool_of plan k)).may_reject
      (executed s at true (is_calling s.offering a (pool_of plan k)) is_requesting refl ∙ ap (λ (b : Bool). Some (answers plan s a q k (cond b offer.Started offer.Refused))) is_below)

  -- The call finds the queue full.
  abbrev finds_no_room : JavaState → JavaState
  finds_no_room s = record s { offering = without_calls_of a s.offering; requesting = record { actor = a; pool = pool_of plan k } ∷ s.requesting }

  -- The call finds the core threads.
  abbrev finds_the_core : JavaState → JavaState
  finds_the_core s = record s { offering = record { actor = a; pool = pool_of plan k } ∷ s.offering }

  -- The second step.
  offers : (s : JavaState) → IsAtSubmit s → is_calling s.requesting a (pool_of plan k) ≡ false → is_calling s.offering a (pool_of plan k) ≡ true
      → (room : Bool) → ltb (length (pool_part s.machine (pool_of plan k)).queue) (room_limit (pool_at plan (pool_of plan k)).unbounded (pool_at plan (pool_of plan k)).queue (pool_part s.machine (pool_of plan k)).idle (length (pool_part s.machine (pool_of plan k)).queue)) ≡ room → NextOfSubmit plan a s (IsTakenWithin 1 plan a)
  offers s at not_requesting is_offering true is_room = record {
    next = answers plan s a q k offer.Queued;
    is_next = executed s at false true not_requesting is_offering ∙ ap (λ (b : Bool). Some (cond b (answers plan s a q k offer.Queued) (finds_no_room s))) is_room;
    onward = inl (one_more_job s Stage.Queued);
  }
  offers s at not_requesting is_offering false is_room =
      let p = pool_of plan k in
      let stepped : choice_step plan s (Acts (event_of_actor a)) ≡ Some (finds_no_room s) = executed s at false true not_requesting is_offering ∙ ap (λ (b : Bool). Some (cond b (answers plan s a q k offer.Queued) (finds_no_room s))) is_room in
      record {
        next = finds_no_room s;
        is_next = stepped;
        onward = inr (
          refl,
          λ s' others.
              let later = others_stay others (record { sound = choice_keeps plan cert is_ordered laws s (Acts (event_of_actor a)) (finds_no_room s) at.sound stepped; stands = at.stands }) in
              request (IsTakenWithin 0 plan a) s' later.at ((later.calls p).1 ∙ first_call a p s.requesting) (ltb (threads plan s'.machine p) (pool_at plan p).max) refl,
        );
      }

  -- The first step.
  checks : (s : JavaState) → IsAtSubmit s → is_calling s.requesting a (pool_of plan k) ≡ false → is_calling s.offering a (pool_of plan k) ≡ false
      → (below : Bool) → ltb (threads plan s.machine (pool_of plan k)) (pool_at plan (pool_of plan k)).core ≡ below → NextOfSubmit plan a s (IsTakenWithin 2 plan a)
  checks s at not_requesting not_offering true is_below = record {
    next = answers plan s a q k offer.Started;
    is_next = executed s at false false not_requesting not_offering ∙ ap (λ (b : Bool). Some (cond b (answers plan s a q k offer.Started) (finds_the_core s))) is_below;
    onward = inl (one_more_job s (Stage.At 0));
  }
  checks s at not_requesting not_offering false is_below =
      let p = pool_of plan k in
      let stepped : choice_step plan s (Acts (event_of_actor a)) ≡ Some (finds_the_core s) = executed s at false false not_requesting not_offering ∙ ap (λ (b : Bool). Some (cond b (answers plan s a q k offer.Started) (finds_the_core s))) is_below in
      record {
        next = finds_the_core s;
        is_next = stepped;
        onward = inr (
          refl,
          λ s' others.
              let later = others_stay others (record { sound = choice_keeps plan cert is_ordered laws s (Acts (event_of_actor a)) (finds_the_core s) at.sound stepped; stands = at.stands }) in
              offers s' later.at ((later.calls p).1 ∙ not_requesting) ((later.calls p).0 ∙ first_call a p s.offering) (ltb (length (pool_part s'.machine p).queue) (room_limit (pool_at plan p).unbounded (pool_at plan p).queue (pool_part s'.machine p).idle (length (pool_part s'.machine p).queue))) refl,
        );
      }

  -- The pool takes or rejects the job within three events.
  pub taken_within : (s : JavaState) → JavaSound plan cert s → HasPosition plan s.machine a body q → IsQuiet a s → IsTakenWithin 3 plan a s
  taken_within s sound stands quiet = λ s' others.
      let p = pool_of plan k in
      let later = others_stay others (record { sound = sound; stands = stands }) in
      checks s' later.at
      ((later.calls p).1 ∙ false_from_ne_true (is_calling s.requesting a p) (quiet p).1)
      ((later.calls p).0 ∙ false_from_ne_true (is_calling s.offering a p) (quiet p).0)
      (ltb (threads plan s'.machine p) (pool_at plan p).core) refl
