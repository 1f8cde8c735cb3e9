use Rattle.std.proofs.Common.{◌≡◌, ◌<◌, false, length, refl, ap, ◌∙◌, arith, below_more}
use Rattle.std.proofs.lemmas.Bool.{both_ways}
use Rattle.interleaving.specs.ViewStep.{pool_in}
use Rattle.interleaving.specs.PoolActivity.{activity_of, pool_queue_waits}
use Rattle.interleaving.proofs.OfPlan.{as_many_pools}
use Rattle.interleaving.proofs.MembersAtWork.{waits_if_queued, not_all_wait}
use Rattle.interleaving.proofs.world.World.queues_wait.Goals as goal

pub pool_queue_waits-requires : goal.pool_queue_waits-requires
pool_queue_waits-requires c =
    let same = as_many_pools c.args.plan.now c.args.self.now.view c.requires in
    let long = ap length c.pools-pools.ensures.value in
    omega (arith, same, long)

pub returns-then-not-pool_queue_waits-clause-value : goal.returns-then-not-pool_queue_waits-clause-value
returns-then-not-pool_queue_waits-clause-value c =
    let plan = c.args.plan.now in
    let view = c.args.self.now.view in
    let p = c.loop-pool.pool in
    let long = ap length c.pools-pools.ensures.value in
    let few = c.pools-pools.ensures.well_formed.few_pools in
    let inside : p < length plan.pools = omega (arith, long) in
    let answer : c.pool_queue_waits.result ≡ pool_queue_waits (pool_in view p) (activity_of plan view c.args.members.now p) = c.pool_queue_waits.ensures ∙ ap (pool_queue_waits (pool_in view p)) (c.activities-activities.ensures p (omega (arith, long, few))) in
    (λ holds. absurd (both_ways false refl holds), λ queues. absurd (not_all_wait plan view c.args.members.now p c.requires inside c.pool_queue_waits.result answer c.if-not-pool_queue_waits.true (queues p inside)))

pub loop-pool-preserved : goal.loop-pool-preserved
loop-pool-preserved c =
    let plan = c.args.plan.now in
    let view = c.args.self.now.view in
    let p = c.loop-pool.pool in
    let long = ap length c.pools-pools.ensures.value in
    let few = c.pools-pools.ensures.well_formed.few_pools in
    let inside : p < length plan.pools = omega (arith, long) in
    let answer : c.pool_queue_waits.result ≡ pool_queue_waits (pool_in view p) (activity_of plan view c.args.members.now p) = c.pool_queue_waits.ensures ∙ ap (pool_queue_waits (pool_in view p)) (c.activities-activities.ensures p (omega (arith, long, few))) in
    below_more _ _ c.loop-pool.invariant (waits_if_queued plan view c.args.members.now p c.requires inside c.pool_queue_waits.result answer c.if-not-pool_queue_waits.false)
