use Rattle.std.proofs.Common.{inr}
use Rattle.size_search.proofs.fit_steady.fit_steady.Goals as goal

pub too_large-requires-clause-large : goal.too_large-requires-clause-large
too_large-requires-clause-large c = inr (c.in_ok-unsteady.ensures.unsteady c.if-unsteady.true)
