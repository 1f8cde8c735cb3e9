-- The results of events in a world, in terms of live views.
use Rattle.std.specs.Prelude.{◌≡◌, Option, Some, None}
use Rattle.job_bodies.specs.Plan.{Plan}
use Rattle.pool_machine.specs.declared.event.Event.{Event}
use Rattle.pool_machine.specs.declared.event.Outcome.{Outcome}
use Rattle.interleaving.specs.LiveView.{View}
use Rattle.interleaving.specs.ViewStep.{view_step}

-- a step with this result gave the answer and changed the old view to the new view. If the result is None, the answer is None
-- and the view is unchanged. Otherwise the result is the new view and the outcome, and the answer is the outcome.
abbrev pub MatchesResult : Option (View × Outcome) → View → Option Outcome → View → Type 0
MatchesResult what old None new = (what ≡ None) × (new ≡ old)
MatchesResult what old (Some outcome) new = what ≡ Some (new, outcome)

-- the event gave the answer and changed the old view to the new view, as `view_step` defines
abbrev pub AnswersIn : Plan → View → Event → Option Outcome → View → Type 0
AnswersIn plan old event answer new = MatchesResult (view_step plan old event) old answer new
