use Rattle.conformance.proofs.mismatch.push_without_get.Goals as goal

pub returns : goal.returns
returns c = c.write.ensures.bytes
