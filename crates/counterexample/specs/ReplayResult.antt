-- The results of the replay of a list of events.
use Rattle.std.specs.Prelude.{◌≡◌, List, take}
use Rattle.job_bodies.specs.Plan.{Plan}
use Rattle.pool_machine.specs.declared.event.Event.{Event}
use Rattle.pool_machine.specs.State.{State}
use Rattle.pool_machine.specs.Reach.{Reaches}
use Rattle.interleaving.specs.LiveView.{View, live_view}
use Rattle.counterexample.specs.declared.replaying.ReplayResult.{ReplayResult}
use Rattle.counterexample.specs.declared.replaying.ReplayResult.TheVariants.{Refused, NotPossible, Whole}
use Rattle.counterexample.specs.Witness.{NoneRefused, EndsRefused}

-- each event is possible, none is a refused submit, and `view` is the live view of the state after the last event
pub record ComesTo (plan : Plan) (events : List Event) (view : View) : Type 0 where
  pub state : State
  pub reaches : Reaches plan events state
  pub seen : live_view plan state ≡ view
  pub none_refused : NoneRefused plan events

-- some event is not possible, and no earlier event is a refused submit
pub record StopsShort (plan : Plan) (events : List Event) : Type 0 where
  pub none_refused : NoneRefused plan events
  pub reaches_none : (s : State) → ¬ Reaches plan events s

abbrev pub Finds : Plan → List Event → View → ReplayResult → Type 0
Finds plan events view (Refused n p) = EndsRefused plan (take n events) p
Finds plan events view NotPossible = StopsShort plan events
Finds plan events view Whole = ComesTo plan events view
