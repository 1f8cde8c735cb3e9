use Rattle.std.proofs.Common.{◌≡◌, ◌<◌, ◌≤◌, length, get_or, subst}
use Rattle.conformance.specs.PoolComparison.{has_name, Adds}
use Rattle.conformance.proofs.Found.{adds_both}
use Rattle.conformance.proofs.Unrecorded.{unrecorded_more, unrecorded_all}
use Rattle.conformance.proofs.pool_comparison.PoolComparison.push_unrecorded.Goals as goal

pub loop-number-preserved : goal.loop-number-preserved
loop-number-preserved c =
    let plan = c.args.plan.now in
    let number = c.loop-number.number in
    let early : number < length plan.pools = rw (← c.pools-pool-items.ensures.value) c.loop-number-test.true in
    let x = c.pool-item.result in
    let there : x ≡ get_or plan.pools number x = rw (← c.pools-pool-items.ensures.value) c.pool-item.is in
    subst (λ reported. Adds c.args.found.now.items reported c.push_unless_named.new.found.items) (unrecorded_more (has_name c.args.self.now.named) plan.pools number x early there)
    (adds_both c.args.found.now.items c.loop-number.found.items c.push_unless_named.new.found.items _ _ c.loop-number.invariant c.in_ok-push_unless_named.ensures)

pub returns : goal.returns
returns c =
    let plan = c.args.plan.now in
    let past : length plan.pools ≤ c.loop-number.number = rw (← c.pools-pool-items.ensures.value) c.loop-number-test.false in
    subst (λ reported. Adds c.args.found.now.items reported c.loop-number.found.items) (unrecorded_all (has_name c.args.self.now.named) plan.pools c.loop-number.number past) c.loop-number.invariant
