use Rattle.std.proofs.Common.{◌∙◌}
use Rattle.conformance.proofs.refused_jobs.RefusedJobs.has_acted.Goals as goal

pub returns : goal.returns
returns c = λ plan lines facts refused. c.contains.ensures ∙ facts.acted c.args.job refused
