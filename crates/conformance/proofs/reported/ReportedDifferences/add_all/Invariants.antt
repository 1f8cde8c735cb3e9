use Rattle.std.proofs.Common.{◌≡◌, ℕ, ◌==◌, ◌&&◌, ◌||◌, take}
use Rattle.conformance.specs.declared.difference.Difference.{Difference}
use Rattle.conformance.specs.PoolDeviations.{is_among}
use Rattle.conformance.specs.PoolComparison.{is_reported}
use Rattle.conformance.proofs.reported.ReportedDifferences.add_all.Given as goal

abbrev pub invariant-loop-difference : goal.invariant-loop-difference
invariant-loop-difference l = (one : ℕ) (difference : Difference) → is_reported l.self one difference ≡ (is_reported l.fn.self one difference || (l.pool == one && is_among (take l.difference-index l.differences) difference))
