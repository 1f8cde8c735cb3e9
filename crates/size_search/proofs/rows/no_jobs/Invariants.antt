-- The list has an empty row for each class before this one.
use Rattle.std.proofs.Common.{◌≡◌, [], map, replicate}
use Rattle.size_search.proofs.rows.no_jobs.Given as goal

abbrev pub invariant-loop-class : goal.invariant-loop-class
invariant-loop-class l = map (λ row. row.items) l.classes.items ≡ replicate l._class-index []
