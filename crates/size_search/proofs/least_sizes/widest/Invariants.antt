-- No maximum is larger than necessary so far.
use Rattle.size_search.specs.Widened.{IsLeastWide}
use Rattle.size_search.proofs.least_sizes.widest.Given as goal

abbrev pub invariant-loop : goal.invariant-loop
invariant-loop l = IsLeastWide l.plan l.cert l.wide
