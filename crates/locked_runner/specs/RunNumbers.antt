-- The numbers of jobs, units and events of a complete run.
use Rattle.std.specs.Prelude.{◌≡◌, ◌<◌, ◌-◌, ◌^◌, ℕ, zero, suc, ◌+◌, ◌*◌, List, length, slice_index, sum_by, fold, min, max}
use Rattle.job_bodies.specs.declared.action.Action.{Action}
use Rattle.job_bodies.specs.declared.action.Action.TheVariants.{Work}
use Rattle.job_bodies.specs.Plan.{Plan, Class, Client, class_at}
use Rattle.weights.specs.Row.{AllHold}
use Rattle.weights.specs.Ranks.{Ranks, rank_rows}
use Rattle.soundness.specs.Drain.{of_submit}
use Rattle.locked_runner.specs.declared.numbers.Measure.{Measure}
use Rattle.locked_runner.specs.declared.numbers.Measure.TheVariants.{Jobs, Units, Events}
use Rattle.locked_runner.specs.Complete.{rounds_of, events_of_client}

abbrev pub units_of : Action → ℕ
units_of (Work u) = u
units_of _ = 0

-- the units of work that a body declares
abbrev pub units_in : List Action → ℕ
units_in body = sum_by units_of body

-- the sum of f over the submits of the body; each submit adds the value of f for the submitted class
abbrev pub submitted : (ℕ → ℕ) → List Action → ℕ
submitted f body = sum_by (of_submit f) body

-- The quantity of one job of the class, without the jobs that it causes. The events of a job are its actions, a take and its
-- end.
abbrev pub own_quantity : Measure → Class → ℕ
own_quantity Jobs class = 1
own_quantity Units class = units_in class.body
own_quantity Events class = length class.body + 2

-- The quantity of one job of class k and of the jobs that it causes, in n generations. The job itself is the first generation.
abbrev pub quantity_within : Plan → (Class → ℕ) → ℕ → ℕ → ℕ
quantity_within plan own_quantity zero k = 0
quantity_within plan own_quantity (suc n) k = own_quantity (class_at plan k) + submitted (quantity_within plan own_quantity n) (class_at plan k).body

abbrev pub greatest : List ℕ → ℕ
greatest = fold (λ a n. max a n) 0

-- The quantity of one job of class k and of all jobs that it causes. The level of a class is above the levels of the classes
-- that it submits. So no job is in a later generation than those that are counted here.
abbrev pub total_quantity : Plan → Ranks → (Class → ℕ) → ℕ → ℕ
total_quantity plan ranks own_quantity k = quantity_within plan own_quantity (greatest ranks.levels + 1) k

-- the sum of f over the submits of all clients of a kind in all their rounds
abbrev pub submitted_by : ℕ → (ℕ → ℕ) → Client → ℕ
submitted_by rounds f client = client.count * (rounds_of rounds client * submitted f client.body)

-- the quantity of all jobs that the clients cause in all their rounds
abbrev pub by_jobs : Plan → Ranks → ℕ → (Class → ℕ) → ℕ
by_jobs plan ranks rounds own_quantity = sum_by (submitted_by rounds (total_quantity plan ranks own_quantity)) plan.clients

-- the units of work of the clients of a kind in all their rounds
abbrev pub units_of_clients : ℕ → Client → ℕ
units_of_clients rounds client = client.count * (rounds_of rounds client * units_in client.body)

abbrev pub events_of_clients : ℕ → Client → ℕ
events_of_clients rounds client = client.count * events_of_client rounds client

-- the number of jobs of a run
abbrev pub jobs : Plan → Ranks → ℕ → ℕ
jobs plan ranks rounds = by_jobs plan ranks rounds (own_quantity Jobs)

-- the units of work of the jobs and the clients of a run
abbrev pub units : Plan → Ranks → ℕ → ℕ
units plan ranks rounds = by_jobs plan ranks rounds (own_quantity Units) + sum_by (units_of_clients rounds) plan.clients

-- an upper bound of the number of events that the jobs and the clients of a run perform
abbrev pub most_events : Plan → Ranks → ℕ → ℕ
most_events plan ranks rounds = by_jobs plan ranks rounds (own_quantity Events) + sum_by (events_of_clients rounds) plan.clients

-- If the rows (the conditions) of the ranks hold, total quantities add up. The total quantity of a job is its own quantity plus
-- the total quantities of the jobs that its body submits.
abbrev pub TotalsAddUp : Type 0
TotalsAddUp = (plan : Plan) (ranks : Ranks) (own_quantity : Class → ℕ) (k : ℕ) → AllHold (rank_rows plan ranks) → total_quantity plan ranks own_quantity k ≡ own_quantity (class_at plan k) + submitted (total_quantity plan ranks own_quantity) (class_at plan k).body

-- with either of the two ranks, a run has the same numbers of jobs and units, and the same bound of its events
pub record HaveSameNumbers (plan : Plan) (rounds : ℕ) (ranks ranks' : Ranks) : Type 0 where
  pub jobs : jobs plan ranks rounds ≡ jobs plan ranks' rounds
  pub units : units plan ranks rounds ≡ units plan ranks' rounds
  pub most_events : most_events plan ranks rounds ≡ most_events plan ranks' rounds

-- a run has the same numbers for all ranks whose rows (conditions) hold
abbrev pub NumbersAreOfThePlan : Type 0
NumbersAreOfThePlan = (plan : Plan) (rounds : ℕ) (ranks ranks' : Ranks) → AllHold (rank_rows plan ranks) → AllHold (rank_rows plan ranks') → HaveSameNumbers plan rounds ranks ranks'

-- the number, capped at the greatest u64
abbrev pub capped : ℕ → ℕ
capped n = min n (2 ^ 64 - 1)

-- the list has, for each class k of the plan, the number f k, capped at the greatest u64
abbrev pub AreCapped : Plan → (ℕ → ℕ) → List ℕ → Type 0
AreCapped plan f numbers = (k : ℕ) → k < length plan.classes → slice_index numbers k ≡ capped (f k)

-- The list has a quantity for each class of the plan: that of one job and of the jobs that it causes in n generations
-- (`quantity_within`), capped at the greatest u64.
abbrev pub AreQuantities : Plan → (Class → ℕ) → ℕ → List ℕ → Type 0
AreQuantities plan own_quantity n numbers = AreCapped plan (quantity_within plan own_quantity n) numbers
