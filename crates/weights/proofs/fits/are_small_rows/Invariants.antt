-- The loop of `are_small_rows`: the numbers of all rows are within the limit exactly when those of the remaining rows are.
use Rattle.std.proofs.Common.{◌≡◌, List, ℕ, drop, map}
use Rattle.std.specs.List.{list_all}
use Rattle.weights.specs.Vector.{is_small}
use Rattle.weights.proofs.fits.are_small_rows.Given as goal

abbrev pub invariant-loop-row : goal.invariant-loop-row
invariant-loop-row l =
    list_all (list_all is_small) (map (λ row. row.items) (drop l.row-index l.rows)) ≡ list_all (list_all is_small) (map (λ row. row.items) l.rows)
