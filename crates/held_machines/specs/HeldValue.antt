-- A machine with its state and its history, as contracts see it.
use Rattle.std.specs.Prelude.{List, [], ◌∷◌, ◌++◌, Option, Some, None}

pub record HeldValue (M S E : Type 0) : Type 0 where
  pub machine : M
  pub state : S
  pub history : List E

-- the history after an event. If there is a receipt for the event, the event is appended. Otherwise the history is unchanged.
abbrev pub with_event : {E R : Type 0} → List E → E → Option R → List E
with_event history event None = history
with_event history event (Some receipt) = history ++ event ∷ []
