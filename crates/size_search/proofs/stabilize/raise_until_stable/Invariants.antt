-- The current sizes are the least for their certificate.
use Rattle.size_search.specs.Sized.{IsSized}
use Rattle.size_search.proofs.stabilize.raise_until_stable.Given as goal

abbrev pub invariant-loop-turn : goal.invariant-loop-turn
invariant-loop-turn l = IsSized l.plan l.cert l.fit
