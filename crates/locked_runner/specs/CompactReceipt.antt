-- The compact form of receipts.
use Rattle.std.specs.Prelude.{ℕ, ◌<◌, ◌^◌}
use Rattle.pool_machine.specs.declared.event.Event.{Event}
use Rattle.pool_machine.specs.declared.event.Event.TheVariants as event
use Rattle.held_machines.specs.declared.held.Receipt.{Receipt}
use Rattle.locked_runner.specs.declared.compact_receipt.Kind.{Kind}
use Rattle.locked_runner.specs.declared.compact_receipt.Kind.TheVariants as kind

-- the event of this kind, with n as the number of its client, job or pool
abbrev pub event_of : Kind → ℕ → Event
event_of kind.Client n = event.Client n
event_of kind.Job n = event.Job n
event_of kind.Take n = event.Take n
event_of kind.Retire n = event.Retire n

-- the number of the event's client, job or pool
abbrev pub number_in : Event → ℕ
number_in (event.Client n) = n
number_in (event.Job n) = n
number_in (event.Take n) = n
number_in (event.Retire n) = n

-- the numbers of the receipt fit in 32 bits
pub record IsKeepable (receipt : Receipt Event) : Type 0 where
  pub number : receipt.number < 2 ^ 32
  pub of : number_in receipt.event < 2 ^ 32
