use Rattle.std.proofs.Common.{ap, ◌∙◌}
use Rattle.conformance.specs.RefusalFacts.{rule_at}
use Rattle.conformance.proofs.RejectionRules.{allowed_is}
use Rattle.conformance.proofs.refusal_facts.RefusalFacts.allows.Goals as goal

pub returns : goal.returns
returns c = λ plan lines facts refused.
    let is = facts.refused c.args.job ∙ refused in
    c.allows.ensures
    ∙ allowed_is _ _ _ _ _ _ c.args.closed (c.rule_at-rule.ensures ∙ ap (λ rules. rule_at rules c.args.pool) c.deref.ensures.value ∙ facts.rules c.args.pool) (c.has_acted-acted.ensures plan lines facts.jobs is) (c.has_started-started.ensures plan lines facts.jobs is)
