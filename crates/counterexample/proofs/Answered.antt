-- The result of the confirmation is a witness and meets its contract.
use Rattle.std.proofs.Common.{◌≡◌, ◌≤◌, ℕ, inl, inr, ⊎_elim, ◌↔◌, Bool, IsTrue, List, take, drop, Option, Some, None, sym, subst}
use Rattle.std.proofs.lemmas.List.{take-append-drop}
use Rattle.job_bodies.specs.Plan.{Plan, pool_at}
use Rattle.pool_machine.specs.declared.event.Event.{Event}
use Rattle.pool_machine.specs.State.{State, threads}
use Rattle.pool_machine.specs.Reach.{IsReached}
use Rattle.pool_machine.specs.Waiting.{IsWaitingSet}
use Rattle.pool_machine.specs.FullWaitingSets.{IsFull, IsFullWaitingSet}
use Rattle.interleaving.specs.LiveView.{View, live_view}
use Rattle.weights.specs.Vector.{Vector}
use Rattle.counterexample.specs.declared.ending.Ending.{Ending}
use Rattle.counterexample.specs.declared.ending.Ending.TheVariants.{Refused, StuckForever, StuckNow}
use Rattle.counterexample.specs.declared.ending.Reason.{Reason}
use Rattle.counterexample.specs.declared.ending.Reason.TheVariants.{PoolsAreFull, PoolsStayAtCore}
use Rattle.counterexample.specs.Rising.{are_rising}
use Rattle.counterexample.specs.Witness.{LeadsTo, EndsRefused, StaysFor, WaitsForNow, IsWitness}
use Rattle.counterexample.specs.ReplayResult.{ComesTo}
use Rattle.counterexample.specs.Confirmed.{GivenStanding, IsReason, IsStuck, BeginsWith, HasEnding}

-- ---- the result is a witness

stays_for : (plan : Plan) (s : State) (members : List ℕ) (standing : List Vector) (reason : Reason) → IsWaitingSet plan s members → IsReason plan members standing s (Some reason) → StaysFor plan members reason s
stays_for plan s members standing PoolsAreFull waits shown = (record { waits = waits; full = λ p j member queued. inl (shown p j member queued) }, shown)
stays_for plan s members standing PoolsStayAtCore waits shown = record {
  waits = waits;
  starts_no_thread = λ p j member queued.
      ⊎_elim (λ (full : IsFull plan s p). inl full)
      (λ (given : GivenStanding plan standing p × ((pool_at plan p).core ≤ threads plan s p)). inr (record { vector = given.0.vector; hold = given.0.hold; light = given.0.light }, given.1))
      (shown.1 p j member queued);
}

-- if no reason for a permanent wait is proved, some pool with a queued member is not full
waits_for_now : (plan : Plan) (s : State) (members : List ℕ) (standing : List Vector) → IsWaitingSet plan s members → IsReason plan members standing s None → WaitsForNow plan members s
waits_for_now plan s members standing waits shown = record {
  waits = waits;
  not_full = λ (full : IsFullWaitingSet plan s members). shown (λ p j member queued. inl (full.full p j member queued));
}

named_rising : (named members : List ℕ) → named ≡ members → IsTrue (are_rising members) → IsTrue (are_rising named)
named_rising named members same rising = subst (λ (numbers : List ℕ). IsTrue (are_rising numbers)) (sym same) rising

pub is_witness : (plan : Plan) (events : List Event) (members : List ℕ) (standing : List Vector) (front : List Event) (ending : Ending) → HasEnding plan events members standing front ending → IsWitness plan front ending
is_witness plan events members standing front (Refused p) ends = ends.1
is_witness plan events members standing front (StuckForever stuck reason) ends =
    let led = ends.2.leads in
    let stays : LeadsTo plan events (StaysFor plan members reason) = (led.0, led.1, stays_for plan led.0 members standing reason led.2.0 led.2.1) in
    let of_stuck : LeadsTo plan events (StaysFor plan stuck.items reason) = subst (λ (numbers : List ℕ). LeadsTo plan events (StaysFor plan numbers reason)) (sym ends.1) stays in
    (named_rising stuck.items members ends.1 ends.2.rising, subst (λ (list : List Event). LeadsTo plan list (StaysFor plan stuck.items reason)) (sym ends.0) of_stuck)
is_witness plan events members standing front (StuckNow stuck) ends =
    let led = ends.2.leads in
    let waits : LeadsTo plan events (WaitsForNow plan members) = (led.0, led.1, waits_for_now plan led.0 members standing led.2.0 led.2.1) in
    let of_stuck : LeadsTo plan events (WaitsForNow plan stuck.items) = subst (λ (numbers : List ℕ). LeadsTo plan events (WaitsForNow plan numbers)) (sym ends.1) waits in
    (named_rising stuck.items members ends.1 ends.2.rising, subst (λ (list : List Event). LeadsTo plan list (WaitsForNow plan stuck.items)) (sym ends.0) of_stuck)

-- ---- the cases of the result

-- the first n events end in a submit that pool p refuses
pub ends_refused : (plan : Plan) (events : List Event) (members : List ℕ) (standing : List Vector) (front : List Event) (n p : ℕ) → front ≡ take n events → EndsRefused plan (take n events) p → HasEnding plan events members standing front (Refused p)
ends_refused plan events members standing front n p is_front ends =
    subst (λ (list : List Event). BeginsWith events list × EndsRefused plan list p) (sym is_front) ((drop n events, sym (take-append-drop n events)), ends)

-- the members wait only for each other after all events
pub is_stuck : (plan : Plan) (events : List Event) (members : List ℕ) (standing : List Vector) (view : View) (reason : Option Reason) → (comes : ComesTo plan events view) → IsTrue (are_rising members) → IsWaitingSet plan comes.state members → IsReason plan members standing comes.state reason
    → IsStuck plan events members standing reason
is_stuck plan events members standing view reason comes rising waits shown = record { rising = rising; none_refused = comes.none_refused; leads = (comes.state, comes.reaches, (waits, shown)) }

-- the answer of a world whether the members are a waiting set is right for the state that the events reach
pub in_words_at : (plan : Plan) (events : List Event) (members : List ℕ) (view : View) (stuck : Bool) → (comes : ComesTo plan events view)
    → ((s : State) → IsReached plan s → live_view plan s ≡ view → IsTrue stuck ↔ IsWaitingSet plan s members) → IsTrue stuck ↔ IsWaitingSet plan comes.state members
in_words_at plan events members view stuck comes in_words = in_words comes.state (events, comes.reaches) comes.seen

pub reason_at : (plan : Plan) (events : List Event) (members : List ℕ) (standing : List Vector) (view : View) (reason : Option Reason) → (comes : ComesTo plan events view)
    → ((s : State) → IsReached plan s → live_view plan s ≡ view → IsReason plan members standing s reason) → IsReason plan members standing comes.state reason
reason_at plan events members standing view reason comes shown = shown comes.state (events, comes.reaches) comes.seen
