use Rattle.std.proofs.Common.{◌≤◌, ◌+◌, length, sym, subst}
use Rattle.conformance.proofs.RejectionRules.{AreFirstRules, no_rules, one_rule, all_rules}
use Rattle.conformance.proofs.handlers.Handlers.rules.Goals as goal

pub loop-pool-init : goal.loop-pool-init
loop-pool-init c = λ lines are. no_rules c.args.plan.now lines _ c.new-rules.ensures.items

pub loop-pool-preserved : goal.loop-pool-preserved
loop-pool-preserved c = λ lines are.
    subst (AreFirstRules c.args.plan.now lines (c.loop-pool.pool + 1)) (sym c.in_ok-push.ensures.items)
    (one_rule c.args.plan.now lines c.loop-pool.pool c.loop-pool.rules.items c.rule_of.result (c.loop-pool.invariant lines are) (c.rule_of.ensures lines are))

pub returns : goal.returns
returns c = λ lines are.
    let past : length c.args.plan.now.pools ≤ c.loop-pool.pool = rw (← c.pools-pool-end.ensures.value) c.loop-pool-test.false in
    all_rules c.args.plan.now lines c.loop-pool.pool c.loop-pool.rules.items (c.loop-pool.invariant lines are) past
