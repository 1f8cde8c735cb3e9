use Rattle.std.proofs.Common.{ap, sym, ◌∙◌}
use Rattle.std.specs.Option.{option_copied}
use Rattle.conformance.proofs.RefusalsAfter.{flat, flattened}
use Rattle.conformance.proofs.refused_jobs.RefusedJobs.pool_of.Goals as goal

pub returns-in-Some : goal.returns-in-Some
returns-in-Some c = λ plan lines are refused.
    sym (ap (λ there. flat (option_copied there)) c.in-Some.is) ∙ flattened plan lines c.args.job _ (c.get.ensures ∙ are.pools c.args.job refused)

pub returns-in-None : goal.returns-in-None
returns-in-None c = λ plan lines are refused.
    sym (ap (λ there. flat (option_copied there)) c.in-None.is) ∙ flattened plan lines c.args.job _ (c.get.ensures ∙ are.pools c.args.job refused)
