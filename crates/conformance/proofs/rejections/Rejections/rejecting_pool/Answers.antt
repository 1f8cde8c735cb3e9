use Rattle.std.proofs.Common.{ap, sym, ◌∙◌}
use Rattle.conformance.specs.RejectionRule.{pool_if_allowed}
use Rattle.conformance.proofs.rejections.Rejections.rejecting_pool.Goals as goal

pub returns-in-Some : goal.returns-in-Some
returns-in-Some c = λ lines before facts refused so.
    c.pool_if_allowed.ensures lines before facts refused so
    ∙ ap (pool_if_allowed c.args.plan.now lines before c.args.job) (sym c.in-Some.is ∙ c.pool_of.ensures c.args.plan.now lines facts.jobs (facts.refused c.args.job ∙ refused))

pub returns-in-None : goal.returns-in-None
returns-in-None c = λ lines before facts refused so.
    ap (pool_if_allowed c.args.plan.now lines before c.args.job) (sym c.in-None.is ∙ c.pool_of.ensures c.args.plan.now lines facts.jobs (facts.refused c.args.job ∙ refused))
