-- The machine that stores the outcome of its last event reaches the same states as the machine of its plan.
use Rattle.std.proofs.Common.{◌≡◌, ◌≢◌, List, [], ◌∷◌, ◌++◌, Option, Some, None, is_some, true, false, refl, sym, ap, subst, ◌∙◌}
use Rattle.std.specs.Option.{option_map}
use Rattle.job_bodies.specs.Plan.{Plan}
use Rattle.pool_machine.specs.declared.event.Event.{Event}
use Rattle.pool_machine.specs.declared.event.Outcome.{Outcome}
use Rattle.pool_machine.specs.State.{State}
use Rattle.pool_machine.specs.Step.{step}
use Rattle.pool_machine.specs.Reach as reach
use Rattle.pool_machine.specs.Reach.{state_after}
use Rattle.std.proofs.lemmas.Option.{none-some, same_Some}
use Rattle.interleaving.specs.LiveView.{View, live_view}
use Rattle.interleaving.specs.ViewAnswers.{AnswersAs}
use Rattle.held_machines.specs.Replay.{replay, Leads, Reaches}
use Rattle.held_machines.specs.StoredState.{IsReached, IsReplayOf, Steps}
use Rattle.locked_runner.specs.declared.certified_world.TracedWorld.{TracedWorld}
use Rattle.locked_runner.specs.Trace.{StateWithOutcome, start, with_outcome, next}
use Rattle.locked_runner.specs.HeldWorld.{IsReachedBy}

abbrev state_of : StateWithOutcome → State
state_of t = t.state

abbrev pub stored_state : Plan → StateWithOutcome → TracedWorld
stored_state plan t = record { world = live_view plan t.state; outcome = t.outcome }

state_with_outcome : (x : Option (State × Outcome)) → option_map state_of (with_outcome x) ≡ state_after x
state_with_outcome None = refl
state_with_outcome (Some x) = refl

-- the replays of both machines reach the same states
same_replay : (plan : Plan) (t : Option StateWithOutcome) (events : List Event) → reach.replay plan (option_map state_of t) events ≡ option_map state_of (replay (next plan) t events)
same_replay plan t [] = refl
same_replay plan None (e ∷ events) = refl
same_replay plan (Some t) (e ∷ events) =
    ap (λ s. reach.replay plan s events) (sym (state_with_outcome (step plan t.state e))) ∙ same_replay plan (next plan t e) events

reached_of : (plan : Plan) (t : StateWithOutcome) → Reaches (next plan) (start plan) t → reach.IsReached plan t.state
reached_of plan t led = (led.0, same_replay plan (Some (start plan)) led.0 ∙ ap (option_map state_of) led.1)

-- a world that is stored for a reachable state of the machine with outcomes is the live view of a reachable state of the plan's machine
pub seen_of : (plan : Plan) (before : TracedWorld) → IsReached (next plan) (start plan) (stored_state plan) before → (s : State) × reach.IsReached plan s × (live_view plan s ≡ before.world)
seen_of plan before led = (led.0.state, reached_of plan led.0 led.1, ap (λ (r : TracedWorld). r.world) led.2)

-- a world that answers like the plan's machine takes a step of the machine with outcomes
pub made : (plan : Plan) (before : TracedWorld) (event : Event) (outcome : Outcome) (after : View) → ((s : State) → reach.IsReached plan s → live_view plan s ≡ before.world → AnswersAs plan s event (Some outcome) after)
    → Steps (next plan) (start plan) (stored_state plan) before event true (record { world = after; outcome = Some outcome })
made plan before event outcome after answered t led seen =
    let answer = answered t.state (reached_of plan t led) (ap (λ (r : TracedWorld). r.world) seen) in (
      record { state = answer.0; outcome = Some outcome },
      ap with_outcome answer.1,
      ap (λ (v : View). record { world = v; outcome = Some outcome }) (sym answer.2),
    )

pub not_made : (plan : Plan) (before : TracedWorld) (event : Event) (view : View) → ((s : State) → reach.IsReached plan s → live_view plan s ≡ before.world → AnswersAs plan s event None view)
    → Steps (next plan) (start plan) (stored_state plan) before event false before
not_made plan before event view answered t led seen =
    ap with_outcome (answered t.state (reached_of plan t led) (ap (λ (r : TracedWorld). r.world) seen)).0

-- a history that leads the machine with outcomes to a state reaches this state in the plan's machine
state_reached : (plan : Plan) (history : List Event) (t : StateWithOutcome) → Leads (next plan) (start plan) history t → reach.Reaches plan history t.state
state_reached plan history t leads = same_replay plan (Some (start plan)) history ∙ ap (option_map state_of) leads

-- the world to which a history leads is the live view of the state that the history reaches
pub seen_reached : (plan : Plan) (history : List Event) (held : TracedWorld) → IsReplayOf (next plan) (start plan) (stored_state plan) history held → IsReachedBy plan history held.world
seen_reached plan history held led = (led.0.state, state_reached plan history led.0 led.1, ap (λ (r : TracedWorld). r.world) led.2)

replay_more : (plan : Plan) (t : Option State) (history : List Event) (event : Event) (s : State) → reach.replay plan t history ≡ Some s → reach.replay plan t (history ++ event ∷ []) ≡ state_after (step plan s event)
replay_more plan t [] event s is = ap (λ x. reach.replay plan x (event ∷ [])) is
replay_more plan None (e ∷ history) event s is = absurd (none-some s is)
replay_more plan (Some t) (e ∷ history) event s is = replay_more plan (state_after (step plan t e)) history event s is

-- the replay of a history with one more event is the step of this event from the state that the history reaches
pub reaches_more : (plan : Plan) (history : List Event) (event : Event) (s : State) → reach.Reaches plan history s → reach.replay plan (Some (reach.start plan)) (history ++ event ∷ []) ≡ state_after (step plan s event)
reaches_more plan history event s reached = replay_more plan (Some (reach.start plan)) history event s reached

no_state_after : (x : Option (State × Outcome)) → false ≡ is_some (with_outcome x) → state_after x ≡ None
no_state_after None stops = refl
no_state_after (Some x) stops = absurd cc

-- if the machine with outcomes has no next state, the event is not possible after the history
pub goes_on_nowhere : (plan : Plan) (history : List Event) (event : Event) (held : TracedWorld) → IsReplayOf (next plan) (start plan) (stored_state plan) history held
    → ((t : StateWithOutcome) → Leads (next plan) (start plan) history t → false ≡ is_some (next plan t event)) → (s : State) → ¬ (reach.Reaches plan (history ++ event ∷ []) s)
goes_on_nowhere plan history event held led stops s reached =
    none-some s (sym (no_state_after (step plan led.0.state event) (stops led.0 led.1)) ∙ (sym (reaches_more plan history event led.0.state (state_reached plan history led.0 led.1)) ∙ reached))

-- if the machine with outcomes has a next state, the event is possible after the history
pub goes_on : (plan : Plan) (history : List Event) (event : Event) (held : TracedWorld) → IsReplayOf (next plan) (start plan) (stored_state plan) history held
    → ((t : StateWithOutcome) → Leads (next plan) (start plan) history t → true ≡ is_some (next plan t event)) → (s : State) → reach.Reaches plan history s → step plan s event ≢ None
goes_on plan history event held led goes s reached none =
    let same : led.0.state ≡ s = same_Some led.0.state s (sym (state_reached plan history led.0 led.1) ∙ reached) in
    let stops : next plan led.0 event ≡ None = ap with_outcome (subst (λ (x : State). step plan x event ≡ None) (sym same) none) in
    let no_more : true ≡ false = goes led.0 led.1 ∙ ap (λ (x : Option StateWithOutcome). is_some x) stops in
    absurd cc
