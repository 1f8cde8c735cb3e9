-- Complete runs of a plan. If the results of the threads are not a complete run, there is a fault.
use Rattle.std.specs.Prelude.{◌≡◌, ◌<◌, ◌≤◌, ◌+◌, ◌⊎◌, ℕ, List, length, take, sum_by, Option, Some, None}
use Rattle.support.specs.declared.number.TheConstants.{MEMORY, STRANGE, MIXED, GATE}
use Rattle.job_bodies.specs.Plan.{Plan}
use Rattle.pool_machine.specs.declared.event.Event.{Event}
use Rattle.pool_machine.specs.State.{State}
use Rattle.pool_machine.specs.declared.event.Outcome.{Outcome}
use Rattle.pool_machine.specs.declared.event.Outcome.TheVariants.{Worked}
use Rattle.pool_machine.specs.Reach.{Reaches, start, outcomes}
use Rattle.held_machines.specs.declared.held.Receipt.{Receipt}
use Rattle.locked_runner.specs.declared.report.ThreadFault.{ThreadFault}
use Rattle.locked_runner.specs.declared.report.ThreadFault.TheVariants as cause
use Rattle.locked_runner.specs.declared.report.RunFault.{RunFault}
use Rattle.locked_runner.specs.Owner.{lists_of}
use Rattle.locked_runner.specs.Receipts.{AreReceipts, AreListsOf}
use Rattle.locked_runner.specs.Complete.{IsComplete}

-- a history is legal if it leads to a state
abbrev pub IsLegal : Plan → List Event → Type 0
IsLegal plan history = (s : State) × Reaches plan history s

-- the state that the history reaches has this number of jobs
abbrev pub Makes : Plan → List Event → ℕ → Type 0
Makes plan history jobs = (s : State) → Reaches plan history s → length s.jobs ≡ jobs

-- the units of work of an outcome
abbrev pub worked : Option Outcome → ℕ
worked (Some (Worked u)) = u
worked _ = 0

-- the total units of work of the events of the history
abbrev pub units_done : Plan → List Event → ℕ
units_done plan history = sum_by worked (outcomes plan (Some (start plan)) history)

abbrev pub Works : Plan → List Event → ℕ → Type 0
Works plan history units = units_done plan history ≡ units

-- The history is legal, and complete for this number of rounds. The lists have the receipts of its events.
pub record IsRun (plan : Plan) (rounds : ℕ) (history : List Event) (lists : List (List (Receipt Event))) : Type 0 where
  pub last : State
  pub legal : Reaches plan history last
  pub complete : IsComplete plan rounds history last
  pub received : AreReceipts plan history lists

-- some legal history has this number of events
abbrev pub IsLengthOfLegal : Plan → ℕ → Type 0
IsLengthOfLegal plan n = (history : List Event) × IsLegal plan history × (length history ≡ n)

-- the first n events of the history are legal
pub record IsLegalPrefix (plan : Plan) (history : List Event) (n : ℕ) : Type 0 where
  pub within : n ≤ length history
  pub legal : IsLegal plan (take n history)

-- the first n events of the history are legal, and the event after them, if there is one, is not possible
pub record IsLegalPart (plan : Plan) (history : List Event) (n : ℕ) : Type 0 where
  pub front : IsLegalPrefix plan history n
  pub ends : n < length history → ¬ IsLegal plan (take (n + 1) history)

abbrev pub number_of : ThreadFault → ℕ
number_of cause.Memory = MEMORY
number_of cause.Gate = GATE

-- Fault 41: the lists of receipts do not match the legal part of the history. The number of lists is wrong, or the receipts of
-- a list are not in ascending order, or one of them is not the receipt of an event of the list's owner.
pub record IsStrange (plan : Plan) (history : List Event) (lists : List (List (Receipt Event))) (fault : RunFault) : Type 0 where
  pub number : fault.number ≡ STRANGE
  pub strange : ¬ AreListsOf plan (take fault.events history) (lists_of plan) lists

-- Fault 42: each list has receipts of its owner in ascending order. But the run is not complete, or it has other numbers of
-- jobs or units.
pub record IsMixed (plan : Plan) (rounds jobs units : ℕ) (history : List Event) (lists : List (List (Receipt Event))) (fault : RunFault) : Type 0 where
  pub number : fault.number ≡ MIXED
  pub owner_lists : AreListsOf plan (take fault.events history) (lists_of plan) lists
  pub mixed : ¬ (IsRun plan rounds history lists × Makes plan history jobs × Works plan history units)

-- The fault of a check that has enough memory. If a thread reported a fault, it is this fault. Otherwise it is 41 or 42.
abbrev pub IsAnswerTo : Plan → ℕ → ℕ → ℕ → List Event → List (List (Receipt Event)) → Option ThreadFault → RunFault → Type 0
IsAnswerTo plan rounds jobs units history lists (Some cause) fault = fault.number ≡ number_of cause
IsAnswerTo plan rounds jobs units history lists None fault = IsStrange plan history lists fault ⊎ IsMixed plan rounds jobs units history lists fault
