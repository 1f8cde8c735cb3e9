-- The effect of a walk over rows on a visitor.
use Rattle.std.specs.Prelude.{List, ◌++◌}
use Rattle.weights.specs.declared.row.Row.{Row}

-- the visitor `new` has seen the rows that the visitor `old` has seen, and then these rows
pub record Visits {S : Type 0} (has_seen : S → List Row → Type 0) (old new : S) (rows : List Row) : Type 0 where
  pub extends : (before : List Row) → has_seen old before → has_seen new (before ++ rows)
