use Rattle.conformance.proofs.BlockingGet.{IsWay}
use Rattle.conformance.proofs.blocking_get.blocking_get.Given as goal

abbrev pub invariant-loop-index : goal.invariant-loop-index
invariant-loop-index l = IsWay l.row l.passes l.gets l.index l.index l.way
