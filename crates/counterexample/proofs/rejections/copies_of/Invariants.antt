-- The copies are the pools before the current one.
use Rattle.std.proofs.Common.{◌≡◌, take}
use Rattle.counterexample.proofs.rejections.copies_of.Given as goal

abbrev pub invariant-loop-pool : goal.invariant-loop-pool
invariant-loop-pool l = l.copies.items ≡ take l.pool-index l.pools
