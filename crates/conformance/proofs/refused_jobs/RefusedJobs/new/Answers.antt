use Rattle.conformance.proofs.RefusalsAfter.{no_facts}
use Rattle.conformance.proofs.refused_jobs.RefusedJobs.new.Goals as goal

pub returns-clause-none : goal.returns-clause-none
returns-clause-none c = λ plan. no_facts plan _ c.new-pools.ensures.values c.new-acted.ensures c.new-started.ensures
