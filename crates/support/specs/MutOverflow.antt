-- The value of an overflow map after a write through the `&mut` that `get_mut` returned.
use Rattle.std.specs.Prelude.{ℕ, List, Option, nat_eq}
use Rattle.std.specs.Map.{set_value}
use Rattle.std.specs.Borrow.{LendsIf, Fml, RattleType, MutBor}
use Rattle.support.specs.contracts.overflow.OverflowMap.{the_row}

-- when the borrow r ends, number n has the last value written through r; if r is None, the map is unchanged
abbrev pub returns_mut_overflow : (V : RattleType) → MutBor (List (ℕ × V.Denot)) → ℕ → Option (MutBor V.Denot) → Fml
returns_mut_overflow V overflow n r = LendsIf (the_row V) V overflow r (set_value (nat_eq n) overflow.now) overflow.now
