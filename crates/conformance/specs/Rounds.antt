-- The rounds of a client kind, with the limits of the plan.
use Rattle.std.specs.Prelude.{◌≡◌, ℕ, ◌-◌, ◌≤◌, Bool, false, ◌&&◌, not, nat_lt, if◌then◌else◌, Option, Some, None}
use Rattle.job_bodies.specs.Plan.{Client}
use Rattle.conformance.specs.declared.excess.Excess.{Excess}
use Rattle.conformance.specs.declared.excess.Excess.TheVariants.{Concurrent, InAll}

-- The `count` and `repeat` of the plan, and the numbers of rounds that began and ended.
pub record Rounds : Type 0 where
  pub count : ℕ
  pub repeat : Bool
  pub begun : ℕ
  pub ended : ℕ

abbrev pub no_rounds : Client → Rounds
no_rounds client = record { count = client.count; repeat = client.repeat; begun = 0; ended = 0 }

-- The number of open rounds.
abbrev pub open_rounds : Rounds → ℕ
open_rounds rounds = rounds.begun - rounds.ended

-- How the rounds exceed the plan: more than `count` are open at once, or the kind does not repeat and more than `count` began
-- in all. It is `None` if the rounds are within the plan.
abbrev pub excess_of : Rounds → Option Excess
excess_of rounds =
    if nat_lt rounds.count (open_rounds rounds) then Some (Concurrent (open_rounds rounds) rounds.count)
    else (if not rounds.repeat && nat_lt rounds.count rounds.begun then Some (InAll rounds.begun rounds.count) else None)

-- The number of rounds is within the limits of the plan.
pub record IsWithinPlan (rounds : Rounds) : Type 0 where
  pub concurrent : open_rounds rounds ≤ rounds.count
  pub in_all : rounds.repeat ≡ false → rounds.begun ≤ rounds.count
