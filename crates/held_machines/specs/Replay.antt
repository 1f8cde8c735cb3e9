-- Replays of lists of events, for any machine. The function `next` gives the state after an event, or None if the event is not
-- possible.
use Rattle.std.specs.Prelude.{◌≡◌, List, [], ◌∷◌, Option, Some, None}

-- the state to which the events lead from state s; None if one of the events is not possible, or if s is None
abbrev pub replay : {I E : Type 0} → (I → E → Option I) → Option I → List E → Option I
replay next s [] = s
replay next None (e ∷ events) = None
replay next (Some s) (e ∷ events) = replay next (next s e) events

-- the events lead from the state `first` to the state `last`
abbrev pub Leads : {I E : Type 0} → (I → E → Option I) → I → List E → I → Type 0
Leads next first events last = replay next (Some first) events ≡ Some last

-- some list of events leads from the state `first` to the state `last`
abbrev pub Reaches : {I E : Type 0} → (I → E → Option I) → I → I → Type 0
Reaches {I} {E} next first last = (events : List E) × Leads next first events last
