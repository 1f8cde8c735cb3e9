-- The replay of a history with one more event.
use Rattle.std.proofs.Common.{◌≡◌, ◌≢◌, ◌<◌, ◌+◌, ℕ, Bool, false, List, [], ◌∷◌, ◌++◌, length, take, get_or, sum_by, Option, Some, None, sym, ap, subst, ◌∙◌, arith}
use Rattle.std.proofs.lemmas.Option.{none-some, same_Some}
use Rattle.std.proofs.lemmas.List.{length-take-le, take_more}
use Rattle.std.proofs.lemmas.List.Sums.{sum_by-append}
use Rattle.job_bodies.specs.Plan.{Plan}
use Rattle.pool_machine.specs.declared.event.Event.{Event}
use Rattle.pool_machine.specs.declared.event.Outcome.{Outcome}
use Rattle.pool_machine.specs.State.{State}
use Rattle.pool_machine.specs.Step.{step}
use Rattle.pool_machine.specs.Reach.{start, state_after, replay, outcome_of, outcomes, Reaches, IsReached}
use Rattle.interleaving.specs.LiveView.{View, live_view}
use Rattle.interleaving.specs.ViewAnswers.{AnswersAs}
use Rattle.locked_runner.specs.HeldWorld.{IsReachedBy}
use Rattle.locked_runner.proofs.Traces.{reaches_more}
use Rattle.locked_runner.specs.Owner.{owner_in, owner_by, ArePoolsOf}
use Rattle.locked_runner.specs.Replayed.{IsCounted, IsReplayedAs, ReplaysEvent}
use Rattle.locked_runner.specs.Run.{IsLegal, worked, units_done}
use Rattle.locked_runner.proofs.Owners.{pools_grow}

-- the outcomes of a history with one more event are those of the history, followed by that of the event
outcomes_more : (plan : Plan) (x : Option State) (history : List Event) (event : Event) (s : State) → replay plan x history ≡ Some s → outcomes plan x (history ++ event ∷ []) ≡ outcomes plan x history ++ outcome_of (step plan s event) ∷ []
outcomes_more plan x [] event s is = ap (λ (y : Option State). outcomes plan y (event ∷ [])) is
outcomes_more plan None (e ∷ history) event s is = absurd (none-some s is)
outcomes_more plan (Some t) (e ∷ history) event s is =
    ap (λ (os : List (Option Outcome)). outcome_of (step plan t e) ∷ os) (outcomes_more plan (state_after (step plan t e)) history event s is)

units_more : (plan : Plan) (history : List Event) (event : Event) (s s' : State) (outcome : Outcome) → Reaches plan history s → step plan s event ≡ Some (s', outcome) → units_done plan (history ++ event ∷ []) ≡ units_done plan history + worked (Some outcome)
units_more plan history event s s' outcome reached is =
    let last : outcomes plan (Some (start plan)) (history ++ event ∷ []) ≡ outcomes plan (Some (start plan)) history ++ Some outcome ∷ [] =
    outcomes_more plan (Some (start plan)) history event s reached ∙ ap (λ x. outcomes plan (Some (start plan)) history ++ outcome_of x ∷ []) is in
    let all = sum_by-append worked (outcomes plan (Some (start plan)) history) (Some outcome ∷ []) in
    let done : sum_by worked (outcomes plan (Some (start plan)) (history ++ event ∷ [])) ≡ sum_by worked (outcomes plan (Some (start plan)) history ++ Some outcome ∷ []) = ap (sum_by worked) last in
    omega (arith, all, done)

-- if the event was possible, the history with the event is replayed
pub goes_on : (plan : Plan) (history : List Event) (view after : View) (pools : List ℕ) (units units' : Option ℕ) (event : Event) (outcome : Outcome) (pool : ℕ) → IsReplayedAs plan history view pools units
    → ((s : State) → IsReached plan s → live_view plan s ≡ view → AnswersAs plan s event (Some outcome) after)
    → ((s : State) → IsReached plan s → live_view plan s ≡ view → step plan s event ≢ None → owner_by event pool ≡ owner_in plan s event)
    → ((n : ℕ) → IsCounted n units → IsCounted (n + worked (Some outcome)) units')
    → IsReplayedAs plan (history ++ event ∷ []) after (pools ++ pool ∷ []) units'
goes_on plan history view after pools units units' event outcome pool replayed answered owned added =
    let led = replayed.reached in
    let answer = answered led.0 (history, led.1) led.2 in
    record {
      reached = (answer.0, reaches_more plan history event led.0 led.1 ∙ ap state_after answer.1, sym answer.2);
      owned = pools_grow plan history pools event pool replayed.owned
          (λ s reached.
          let same : led.0 ≡ s = same_Some led.0 s (sym led.1 ∙ reached) in
          subst (λ (x : State). owner_by event pool ≡ owner_in plan x event) same
          (owned led.0 (history, led.1) led.2 (λ none. none-some (answer.0, outcome) (sym none ∙ answer.1))));
      counted = subst (λ (n : ℕ). IsCounted n units') (sym (units_more plan history event led.0 answer.0 outcome led.1 answer.1)) (added (units_done plan history) replayed.counted);
    }

-- if the event was not possible, the history with the event is not legal
ends : (plan : Plan) (history : List Event) (view after : View) (event : Event) → IsReachedBy plan history view
    → ((s : State) → IsReached plan s → live_view plan s ≡ view → AnswersAs plan s event None after) → ¬ IsLegal plan (history ++ event ∷ [])
ends plan history view after event led answered legal =
    let none = (answered led.0 (history, led.1) led.2).0 in
    none-some legal.0 (sym (reaches_more plan history event led.0 led.1 ∙ ap state_after none) ∙ legal.1)

pub stays : (plan : Plan) (history : List Event) (view after : View) (pools pools' : List ℕ) (units : Option ℕ) (event : Event) → pools' ≡ pools → IsReplayedAs plan history view pools units
    → ((s : State) → IsReached plan s → live_view plan s ≡ view → AnswersAs plan s event None after) → ReplaysEvent plan history event false after pools' units
stays plan history view after pools pools' units event same replayed answered =
    let led = replayed.reached in (
      ends plan history view after event led answered,
      record {
        reached = (led.0, led.1, sym (answered led.0 (history, led.1) led.2).1);
        owned = subst (λ (ps : List ℕ). ArePoolsOf plan history ps) (sym same) replayed.owned;
        counted = replayed.counted;
      },
    )

-- if the replay ended at an event, the replayed events, followed by this event, are not legal
pub ends_here : (plan : Plan) (history : List Event) (i : ℕ) (d : Event) (after : View) (pools : List ℕ) (units : Option ℕ) (made : Bool) → i < length history → made ≡ false → ReplaysEvent plan (take i history) (get_or history i d) made after pools units
    → ¬ IsLegal plan (take (length pools + 1) history)
ends_here plan history i d after pools units made inside not_made goes legal =
    let ended : ReplaysEvent plan (take i history) (get_or history i d) false after pools units = subst (λ (b : Bool). ReplaysEvent plan (take i history) (get_or history i d) b after pools units) not_made goes in
    let long : length pools ≡ i = ended.1.owned.as_many ∙ length-take-le i history (omega (arith, inside)) in
    let more : take (length pools + 1) history ≡ take i history ++ get_or history i d ∷ [] = ap (λ (n : ℕ). take (n + 1) history) long ∙ take_more history i d inside in
    ended.0 (subst (IsLegal plan) more legal)
