use Rattle.conformance.proofs.OpenAfter.{none_open}
use Rattle.conformance.proofs.open_rounds.OpenRounds.new.Goals as goal

pub returns : goal.returns
returns c = λ kinds. none_open kinds _ c.new.ensures.values
