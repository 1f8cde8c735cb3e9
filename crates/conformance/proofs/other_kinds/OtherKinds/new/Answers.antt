use Rattle.conformance.proofs.OtherKindResults.{none_other}
use Rattle.conformance.proofs.other_kinds.OtherKinds.new.Goals as goal

pub returns : goal.returns
returns c = λ plan. none_other plan _ c.new.ensures.values
