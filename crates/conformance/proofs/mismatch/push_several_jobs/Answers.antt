use Rattle.conformance.proofs.mismatch.push_several_jobs.Goals as goal

pub returns : goal.returns
returns c = c.write.ensures.bytes
