-- The results of the threads of a run, and the report of a run. They have lists where the program has vectors.
use Rattle.std.specs.Prelude.{ℕ, List, Option}
use Rattle.pool_machine.specs.declared.event.Event.{Event}
use Rattle.held_machines.specs.declared.held.Receipt.{Receipt}
use Rattle.locked_runner.specs.declared.report.ThreadFault.{ThreadFault}

pub record ThreadResults : Type 0 where
  pub history : List Event
  pub receipts : List (List (Receipt Event))
  pub fault : Option ThreadFault

pub record RunReport : Type 0 where
  pub jobs : ℕ
  pub units : ℕ
  pub refused : ℕ
  pub history : List Event
  pub receipts : List (List (Receipt Event))
