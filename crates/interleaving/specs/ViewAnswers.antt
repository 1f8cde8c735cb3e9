-- The result of an event in a world that stores a live view.
use Rattle.std.specs.Prelude.{◌≡◌, Option, Some, None}
use Rattle.job_bodies.specs.Plan.{Plan}
use Rattle.pool_machine.specs.declared.event.Event.{Event}
use Rattle.pool_machine.specs.declared.event.Outcome.{Outcome}
use Rattle.pool_machine.specs.State.{State}
use Rattle.pool_machine.specs.Step.{step}
use Rattle.interleaving.specs.LiveView.{View, live_view}

-- The answer and the new view match the event in the state. If the event is not possible, the answer is None, and the new view
-- is the live view of the state. Otherwise the answer is the outcome, and the new view is the live view of the state after the
-- event.
abbrev pub AnswersAs : Plan → State → Event → Option Outcome → View → Type 0
AnswersAs plan s event None after = (step plan s event ≡ None) × (after ≡ live_view plan s)
AnswersAs plan s event (Some outcome) after = (s' : State) × (step plan s event ≡ Some (s', outcome)) × (after ≡ live_view plan s')
