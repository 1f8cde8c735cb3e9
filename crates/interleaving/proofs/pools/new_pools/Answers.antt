use Rattle.std.proofs.Common.{◌<◌, List, [], ◌∷◌, ◌++◌, length, map, take, sym, ap, ap₂, ◌∙◌}
use Rattle.std.proofs.lemmas.List.{map-append, take_all, take_more}
use Rattle.pool_machine.specs.PoolState.{PoolView, new_pool}
use Rattle.interleaving.proofs.pools.new_pools.Goals as goal

pub loop-pool-init : goal.loop-pool-init
loop-pool-init c = c.in_ok-new.ensures.items

pub loop-pool-preserved : goal.loop-pool-preserved
loop-pool-preserved c =
    let pools = c.args.pools.now in
    let i = c.loop-pool.pool-index in
    let pool = c.pool-item.result in
    let inside : i < length pools = c.loop-pool-test.true in
    c.in_ok-push.ensures.items
    ∙ ap₂ (λ (xs : List PoolView) (x : PoolView). xs ++ x ∷ []) c.loop-pool.invariant c.new.ensures
    ∙ sym (map-append new_pool (take i pools) (pool ∷ []))
    ∙ ap (map new_pool) (ap (λ x. take i pools ++ x ∷ []) c.pool-item.is ∙ sym (take_more pools i pool inside))

pub returns : goal.returns
returns c = c.loop-pool.invariant ∙ ap (map new_pool) (take_all c.loop-pool.pool-index c.args.pools.now c.loop-pool-test.false)
