-- The stored states of a machine. `stored_state` maps each state of the specification to the value that a program stores for
-- it.
use Rattle.std.specs.Prelude.{◌≡◌, List, Option, Some, None, Bool, true, false}
use Rattle.held_machines.specs.Replay.{Leads, Reaches}

-- s is the stored state for a state to which some list of events leads from `first`
abbrev pub IsReached : {I E S : Type 0} → (I → E → Option I) → I → (I → S) → S → Type 0
IsReached {I} next first stored_state s = (i : I) × Reaches next first i × (stored_state i ≡ s)

-- s is the stored state for the state to which these events lead from `first`
abbrev pub IsReplayOf : {I E S : Type 0} → (I → E → Option I) → I → (I → S) → List E → S → Type 0
IsReplayOf {I} next first stored_state events s = (i : I) × Leads next first events i × (stored_state i ≡ s)

-- the outcome of the event in state i is right. The outcome true means that the event is possible, and that `after` is the
-- stored state for the next state. The outcome false means that the event is not possible.
abbrev pub Answers : {I E S : Type 0} → (I → E → Option I) → (I → S) → I → E → Bool → S → Type 0
Answers {I} next stored_state i event true after = (j : I) × (next i event ≡ Some j) × (stored_state j ≡ after)
Answers next stored_state i event false after = next i event ≡ None

-- the outcome `done` of the event is right, as `Answers` states, for each reachable state whose stored state is `before`
abbrev pub Steps : {I E S : Type 0} → (I → E → Option I) → I → (I → S) → S → E → Bool → S → Type 0
Steps {I} next first stored_state before event done after = (i : I) → Reaches next first i → stored_state i ≡ before → Answers next stored_state i event done after
