-- The rows before this one were copied.
use Rattle.std.proofs.Common.{◌≡◌, map, take}
use Rattle.size_search.specs.Steady.{copied_row}
use Rattle.size_search.proofs.certificate.copied_rows.Given as goal

abbrev pub invariant-loop-row : goal.invariant-loop-row
invariant-loop-row l = map (λ row. row.items) l.copies.items ≡ map (copied_row l.is_zero) (map (λ row. row.items) (take l.row-index l.rows))
