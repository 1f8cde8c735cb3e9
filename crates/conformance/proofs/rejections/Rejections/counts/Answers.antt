use Rattle.std.proofs.Common.{◌≡◌, ◌<◌, ◌≤◌, ◌++◌, ℕ, List, length, get_or, ap, ◌∙◌}
use Rattle.std.specs.Option.{option_to_list}
use Rattle.conformance.specs.Rejections.{count_if}
use Rattle.conformance.specs.declared.rejections.PoolRejections.{PoolRejections}
use Rattle.conformance.proofs.RejectionCounts.{counts_more, counts_all}
use Rattle.conformance.proofs.rejections.Rejections.counts.Goals as goal

pub loop-number-preserved : goal.loop-number-preserved
loop-number-preserved c =
    let plan = c.args.plan.now in
    let number = c.loop-number.number in
    let early : number < length plan.pools = rw (← c.pools-pool-items.ensures.value) c.loop-number-test.true in
    let x = c.pool-item.result in
    let there : x ≡ get_or plan.pools number x = rw (← c.pools-pool-items.ensures.value) c.pool-item.is in
    let rejected = c.args.self.now.pools.items in
    c.in_ok-push_count.ensures
    ∙ ap (λ (pools : List ℕ). c.loop-number.counts.items ++ option_to_list (count_if pools (number, x))) c.deref.ensures.value
    ∙ ap (λ (counts : List PoolRejections). counts ++ option_to_list (count_if rejected (number, x))) c.loop-number.invariant
    ∙ counts_more rejected plan.pools number x early there

pub returns : goal.returns
returns c =
    let plan = c.args.plan.now in
    let past : length plan.pools ≤ c.loop-number.number = rw (← c.pools-pool-items.ensures.value) c.loop-number-test.false in
    c.loop-number.invariant ∙ counts_all c.args.self.now.pools.items plan.pools c.loop-number.number past
