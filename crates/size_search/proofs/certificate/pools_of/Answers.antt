use Rattle.std.proofs.Common.{◌≡◌, ◌<◌, List, [], ◌∷◌, ◌++◌, length, get_or, ap, ap₂, sym, ◌∙◌, arith}
use Rattle.std.proofs.lemmas.List.{map_more, get_or_default}
use Rattle.job_bodies.specs.Plan.{Pool, no_pool}
use Rattle.cert_text.specs.Cert.{PoolCert}
use Rattle.size_search.specs.Steady.{pool_of}
use Rattle.size_search.proofs.certificate.pools_of.Goals as goal

pub loop-pool-preserved : goal.loop-pool-preserved
loop-pool-preserved c =
    let plan = c.args.plan.now in
    let v = c.args.vector.now in
    let index = c.loop-pool.pool-index in
    let pushed : c.push.new.self.items ≡ c.loop-pool.pools.items ++ c.in_ok-pool_of.field-0 ∷ [] = c.in_ok-push.ensures.items in
    let inside : index < length plan.pools = omega (arith, c.loop-pool-test.true, ap length c.pools-pool-items.ensures.value) in
    let item = c.pool-item.result in
    let read : item ≡ get_or plan.pools index no_pool =
    c.pool-item.is ∙ (ap (λ (pools : List Pool). get_or pools index item) c.pools-pool-items.ensures.value ∙ get_or_default plan.pools index item no_pool inside) in
    let called : c.in_ok-pool_of.field-0 ≡ pool_of v item = c.in_ok-pool_of.ensures in
    let made : c.in_ok-pool_of.field-0 ≡ pool_of v (get_or plan.pools index no_pool) = called ∙ ap (pool_of v) read in
    pushed
    ∙ (ap₂ (λ (items : List PoolCert) (pool : PoolCert). items ++ pool ∷ []) c.loop-pool.invariant made
    ∙ sym (map_more (pool_of v) plan.pools index no_pool inside))
