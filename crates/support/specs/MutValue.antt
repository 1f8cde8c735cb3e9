-- The value of an id map after a write through the `&mut` that `get_mut` returned.
use Rattle.std.specs.Prelude.{◌≡◌, ℕ, Option, IsSome}
use Rattle.std.specs.Borrow.{LendsSo, Fml, RattleType, MutBor}
use Rattle.support.specs.Numbered.{Numbered, value_at, IsWritten}
use Rattle.support.specs.contracts.id_map.IdMap.{the_row}

-- when the borrow r ends, number n has the last value written through r; if r is None, the map is unchanged
abbrev pub returns_mut_value : (V : RattleType) → MutBor (Numbered V.Denot) → ℕ → Option (MutBor V.Denot) → Fml
returns_mut_value V table n r = LendsSo (the_row V) V table r (λ new w. IsSome (value_at table.now n) → IsWritten table.now n w new) (λ new. new ≡ table.now)
