-- The value of a slot after a write through the `&mut` that `value_in` returned.
use Rattle.std.specs.Prelude.{Option}
use Rattle.std.specs.Borrow.{LendsIf, Fml, RattleType, MutBor}
use Rattle.std.specs.contracts.option.Option.{the_row as OptionOf}
use Rattle.support.specs.declared.entry.Entry.{Entry}
use Rattle.support.specs.contracts.entry.Entry.{the_row}
use Rattle.support.specs.Entry.{with_value_in}

-- when the borrow r ends, the slot has the last value written through r; if r is None, the slot is unchanged
abbrev pub returns_mut_value_in : (V : RattleType) → MutBor (Option (Entry V.Denot)) → Option (MutBor V.Denot) → Fml
returns_mut_value_in V slot r = LendsIf (OptionOf (the_row V)) V slot r (with_value_in slot.now) slot.now
