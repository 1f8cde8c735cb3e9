use Rattle.std.proofs.Common.{arith}
use Rattle.size_search.proofs.TotalBounds.{total_bounded}
use Rattle.size_search.proofs.fit.core_needed.Goals as goal

pub overflow_add-result : goal.overflow_add-result
overflow_add-result c = omega (arith, c.total.ensures, total_bounded c.args.plan.now c.args.blocked.now c.requires.well_formed c.requires.fits)
