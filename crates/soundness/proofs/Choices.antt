-- The effects of choices to skip a submit and to miss an offer, and the properties that lists of choices preserve.
use Rattle.std.proofs.Common.{◌≡◌, ℕ, Bool, true, false, cond, ◌&&◌, eqb, List, [], ◌∷◌, Option, Some, None, refl, subst, arith, not}
use Rattle.std.proofs.lemmas.Bool.{or_parts, and_parts, eqb-true, not-true}
use Rattle.std.proofs.lemmas.Option.{none-some, same_Some}
use Rattle.job_bodies.specs.declared.action.Action.{Action}
use Rattle.job_bodies.specs.declared.action.Action.TheVariants as action
use Rattle.job_bodies.specs.Plan.{Plan, pool_at}
use Rattle.pool_machine.specs.declared.parent.Parent.{Parent}
use Rattle.pool_machine.specs.declared.event.Event.{Event}
use Rattle.pool_machine.specs.State.{pool_of}
use Rattle.pool_machine.specs.Step.{skipped}
use Rattle.pool_machine.proofs.Events.{IsAtAction, event_of}
use Rattle.soundness.specs.Execute.{JavaState, JavaEvent, Submission, is_calling, offer_fails, submission}
use Rattle.soundness.proofs.JavaEvents.{JavaHappens, finds_full, is_submission}
use Rattle.soundness.specs.Skipping.{Choice, after_skip, has_begun, skip_submit, miss_thread, choice_step, choices_replay, has_no_queue}
use Rattle.soundness.specs.Skipping.Choice.{Skips, Misses}

-- ---- a skipped submit

-- the state after the actor of the event skips its submit, which has not begun
pub data IsSkipped (plan : Plan) (s : JavaState) : Event → JavaState → Type 0 where
  leaves : (a : Parent) (body : List Action) (i k : ℕ) → IsAtAction plan s.machine a body i (Some (action.Submit k)) → is_calling s.offering a (pool_of plan k) ≡ false → is_calling s.requesting a (pool_of plan k) ≡ false
      → IsSkipped plan s (event_of a) (record s { machine = skipped s.machine a i k })

not_begun_skips : (plan : Plan) (s : JavaState) (e : Event) (x : Submission) (begun : Bool) (s' : JavaState) → submission plan s.machine e ≡ Some x → has_begun plan s x ≡ begun → cond begun None (Some (record s { machine = after_skip s.machine x })) ≡ Some s' → IsSkipped plan s e s'
not_begun_skips plan s e x true s' is_found is_begun is_after = absurd (none-some s' is_after)
not_begun_skips plan s e x false s' is_found is_begun is_after =
    let submitting = is_submission plan s.machine e x is_found in
    let neither = or_parts (is_calling s.offering x.actor (pool_of plan x.class)) (is_calling s.requesting x.actor (pool_of plan x.class)) is_begun in
    let leaving : IsSkipped plan s (event_of x.actor) (record s { machine = skipped s.machine x.actor x.position x.class }) = leaves x.actor submitting.body x.position x.class submitting.at neither.0 neither.1 in
    subst (IsSkipped plan s e) (same_Some (record s { machine = after_skip s.machine x }) s' is_after) (subst (λ (event : Event). IsSkipped plan s event (record s { machine = after_skip s.machine x })) submitting.same leaving)

found_skips : (plan : Plan) (s : JavaState) (e : Event) (found : Option Submission) (s' : JavaState) → submission plan s.machine e ≡ found → skip_submit plan s found ≡ Some s' → IsSkipped plan s e s'
found_skips plan s e None s' is_found is_after = absurd (none-some s' is_after)
found_skips plan s e (Some x) s' is_found is_after = not_begun_skips plan s e x (has_begun plan s x) s' is_found refl is_after

pub is_skipped : (plan : Plan) (s : JavaState) (e : Event) (s' : JavaState) → choice_step plan s (Skips e) ≡ Some s' → IsSkipped plan s e s'
is_skipped plan s e s' is_after = found_skips plan s e (submission plan s.machine e) s' refl is_after

-- ---- a missed offer

-- an offer that finds no thread at a queue of capacity 0 is one of the possible events
offer_missed : (plan : Plan) (s : JavaState) (e : Event) (x : Submission) (requesting here : Bool) (s' : JavaState) → submission plan s.machine e ≡ Some x → is_calling s.requesting x.actor (pool_of plan x.class) ≡ requesting
    → is_calling s.offering x.actor (pool_of plan x.class) && has_no_queue (pool_at plan (pool_of plan x.class)) ≡ here
    → cond requesting None (cond here (Some (offer_fails plan s x.actor x.class)) None) ≡ Some s' → JavaHappens plan s (JavaEvent.Acts e) s'
offer_missed plan s e x true here s' is_found is_requesting is_here is_after = absurd (none-some s' is_after)
offer_missed plan s e x false false s' is_found is_requesting is_here is_after = absurd (none-some s' is_after)
offer_missed plan s e x false true s' is_found is_requesting is_here is_after =
    let p = pool_of plan x.class in
    let submitting = is_submission plan s.machine e x is_found in
    let parts = and_parts (not (pool_at plan p).unbounded) (eqb (pool_at plan p).queue 0) (and_parts (is_calling s.offering x.actor p) (has_no_queue (pool_at plan p)) is_here).1 in
    let none : (pool_at plan p).queue ≡ 0 = eqb-true (pool_at plan p).queue 0 parts.1 in
    let after = offer_fails plan s x.actor x.class in
    let happened : JavaHappens plan s (JavaEvent.Acts (event_of x.actor)) after = finds_full x.actor submitting.body x.position x.class submitting.at is_requesting (not-true (pool_at plan p).unbounded parts.0, omega arith) in
    subst (JavaHappens plan s (JavaEvent.Acts e)) (same_Some after s' is_after) (subst (λ (event : Event). JavaHappens plan s (JavaEvent.Acts event) after) submitting.same happened)

found_missed : (plan : Plan) (s : JavaState) (e : Event) (found : Option Submission) (s' : JavaState) → submission plan s.machine e ≡ found → miss_thread plan s found ≡ Some s' → JavaHappens plan s (JavaEvent.Acts e) s'
found_missed plan s e None s' is_found is_after = absurd (none-some s' is_after)
found_missed plan s e (Some x) s' is_found is_after =
    let p = pool_of plan x.class in
    offer_missed plan s e x (is_calling s.requesting x.actor p) (is_calling s.offering x.actor p && has_no_queue (pool_at plan p)) s' is_found refl refl is_after

pub is_missed : (plan : Plan) (s : JavaState) (e : Event) (s' : JavaState) → choice_step plan s (Misses e) ≡ Some s' → JavaHappens plan s (JavaEvent.Acts e) s'
is_missed plan s e s' is_after = found_missed plan s e (submission plan s.machine e) s' refl is_after

-- ---- lists of choices

-- no state follows an impossible choice
pub choices_none : (plan : Plan) (choices : List Choice) → choices_replay plan None choices ≡ None
choices_none plan [] = refl
choices_none plan (x ∷ choices) = refl

after_choice : (plan : Plan) (holds : JavaState → Type 0) → ((s : JavaState) (x : Choice) (s' : JavaState) → holds s → choice_step plan s x ≡ Some s' → holds s') → (s : JavaState) (x : Choice) (choices : List Choice) (s' : JavaState)
    → ((next : JavaState) → holds next → choices_replay plan (Some next) choices ≡ Some s' → holds s') → holds s → (found : Option JavaState) → choice_step plan s x ≡ found → choices_replay plan found choices ≡ Some s' → holds s'
after_choice plan holds stays s x choices s' onward held None is_step replayed =
    let none = choices_none plan choices in
    absurd cc
after_choice plan holds stays s x choices s' onward held (Some next) is_step replayed = onward next (stays s x next held is_step) replayed

-- a property that each choice preserves is preserved by every list of choices
pub choices_keep : (plan : Plan) (holds : JavaState → Type 0) → ((s : JavaState) (x : Choice) (s' : JavaState) → holds s → choice_step plan s x ≡ Some s' → holds s') → (choices : List Choice) (s s' : JavaState) → holds s → choices_replay plan (Some s) choices ≡ Some s' → holds s'
choices_keep plan holds stays [] s s' held replayed = subst holds (same_Some s s' replayed) held
choices_keep plan holds stays (x ∷ choices) s s' held replayed =
    after_choice plan holds stays s x choices s' (λ next held' rest. choices_keep plan holds stays choices next s' held' rest) held (choice_step plan s x) refl replayed
