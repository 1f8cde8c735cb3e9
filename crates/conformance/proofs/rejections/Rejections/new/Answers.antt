use Rattle.std.proofs.Common.{refl}
use Rattle.conformance.proofs.RefusalsAfter.{none_in_prefix}
use Rattle.conformance.proofs.rejections.Rejections.new.Goals as goal

pub returns : goal.returns
returns c = λ plan lines. none_in_prefix plan lines _ c.new-pools.ensures.items c.new-refusing.ensures.items refl c.new-shut.ensures
