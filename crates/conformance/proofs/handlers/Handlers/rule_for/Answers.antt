use Rattle.std.proofs.Common.{◌∙◌}
use Rattle.conformance.proofs.RejectionRules.{rule_is}
use Rattle.conformance.proofs.handlers.Handlers.rule_for.Goals as goal

pub returns : goal.returns
returns c = λ lines are.
    c.rule_by.ensures
    ∙ rule_is c.args.plan.now lines c.args.pool c.args.self.now are _ _ _ _ _ _ _ c.pool_name-name.ensures c.contains-not_abort.ensures c.contains-not_caller_runs.ensures c.contains-closes.ensures c.contains-not_discard.ensures c.is_got.ensures c.is_neither-drops.ensures
