-- Lemmas about replays of a history with more events.
use Rattle.std.proofs.Common.{◌≡◌, List, [], ◌∷◌, ◌++◌, Some, None, Option, Bool, true, refl, ap, sym, ◌∙◌, subst}
use Rattle.std.proofs.lemmas.Option.{same_Some}
use Rattle.held_machines.specs.StoredState.{IsReplayOf, Answers, Steps}
use Rattle.held_machines.specs.Replay.{replay, Leads}

-- the replay of events after an impossible event has no state
pub replay_none : {I E : Type 0} (next : I → E → Option I) (events : List E) → replay next None events ≡ None
replay_none next [] = refl
replay_none next (e ∷ events) = refl

-- the replay of two joined lists of events is the replay of the second from the state after the first
pub replay_append : {I E : Type 0} (next : I → E → Option I) (s : Option I) (events later : List E) → replay next s (events ++ later) ≡ replay next (replay next s events) later
replay_append next s [] later = refl
replay_append next None (e ∷ events) later = sym (replay_none next later)
replay_append next (Some s) (e ∷ events) later = replay_append next (next s e) events later

-- the replay of a history followed by an event is the step of that event from the state after the history
pub replay_snoc : {I E : Type 0} (next : I → E → Option I) (first i : I) (events : List E) (e : E) → Leads next first events i → replay next (Some first) (events ++ e ∷ []) ≡ next i e
replay_snoc next first i events e leads = rw (replay_append next (Some first) events (e ∷ []), leads) refl

-- after an event was performed, the new stored state is a replay of the history followed by the event
pub grown : {I E S : Type 0} (next : I → E → Option I) (first : I) (stored_state : I → S) (events : List E) (e : E) (before after : S) (done : Bool) → done ≡ true
    → IsReplayOf next first stored_state events before → Steps next first stored_state before e done after → IsReplayOf next first stored_state (events ++ e ∷ []) after
grown next first stored_state events e before after done is held made =
    let answer = subst (λ d. Answers next stored_state held.0 e d after) is (made held.0 (events, held.1) held.2) in
    (answer.0, rw (replay_snoc next first held.0 events e held.1) answer.1, answer.2)

-- after an event was performed, the new stored state is the one for each specification state to which the longer history leads
pub settled : {I E S : Type 0} (next : I → E → Option I) (first : I) (stored_state : I → S) (events : List E) (e : E) (before after : S) (done : Bool) (i : I) → done ≡ true
    → IsReplayOf next first stored_state events before → Steps next first stored_state before e done after → Leads next first (events ++ e ∷ []) i → after ≡ stored_state i
settled next first stored_state events e before after done i is held made leads =
    let new = grown next first stored_state events e before after done is held made in
    sym new.2 ∙ ap stored_state (same_Some new.0 i (sym new.1 ∙ leads))
