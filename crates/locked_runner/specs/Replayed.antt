-- Histories that were replayed in a world of the plan.
use Rattle.std.specs.Prelude.{◌≡◌, ◌≤◌, ◌^◌, ◌++◌, ◌∷◌, [], ℕ, Bool, true, false, List, Option, Some, None}
use Rattle.job_bodies.specs.Plan.{Plan}
use Rattle.pool_machine.specs.declared.event.Event.{Event}
use Rattle.interleaving.specs.LiveView.{View}
use Rattle.locked_runner.specs.HeldWorld.{IsReachedBy}
use Rattle.locked_runner.specs.Owner.{ArePoolsOf}
use Rattle.locked_runner.specs.Run.{IsLegal, units_done}

-- the option is the number n, or None if n does not fit in 64 bits
abbrev pub IsCounted : ℕ → Option ℕ → Type 0
IsCounted n (Some m) = n ≡ m
IsCounted n None = 2 ^ 64 ≤ n

-- The result of replaying the history: the world after it, the pools that determine the owners of its events, and its units of
-- work.
pub record IsReplayedAs (plan : Plan) (history : List Event) (world : View) (pools : List ℕ) (units : Option ℕ) : Type 0 where
  pub reached : IsReachedBy plan history world
  pub owned : ArePoolsOf plan history pools
  pub counted : IsCounted (units_done plan history) units

-- The result of replaying the event after the history. If the flag is true, the event was possible and is included. If it is
-- false, the event was not possible, and the result is that of the history alone.
abbrev pub ReplaysEvent : Plan → List Event → Event → Bool → View → List ℕ → Option ℕ → Type 0
ReplaysEvent plan history event true world pools units = IsReplayedAs plan (history ++ event ∷ []) world pools units
ReplaysEvent plan history event false world pools units = (¬ IsLegal plan (history ++ event ∷ [])) × IsReplayedAs plan history world pools units
