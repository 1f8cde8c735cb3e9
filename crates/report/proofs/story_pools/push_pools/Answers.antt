use Rattle.std.proofs.Common.{◌≡◌, ◌∷◌, length, ap, ◌∙◌, sym, arith, List}
use Rattle.std.specs.Prelude.{flat_map, string_bytes, ◌++◌}
use Rattle.std.specs.List.{enumerate_from}
use Rattle.job_bodies.specs.Plan.{Pool}
use Rattle.interleaving.proofs.OfPlan.{as_many_pools}
use Rattle.report.specs.StorySeen.{pool_line_seen}
use Rattle.report.proofs.StoryState.{pool_appended}
use Rattle.report.proofs.story_pools.push_pools.Goals as goal

pub pool-requires : goal.pool-requires
pool-requires c =
    let same = as_many_pools c.args.plan.now c.args.world.now.view c.requires in
    let left : length c.loop-pool.pools.now ≡ length (c.in-Some.pool.now ∷ c.in-Some.rest.now) = ap length c.in-Some.ensures.cases.0 in
    omega (arith, same, left, c.loop-pool.invariant.1)

pub loop-pool-preserved : goal.loop-pool-preserved
loop-pool-preserved c =
    let view = c.args.world.now.view in
    let left : length c.loop-pool.pools.now ≡ length (c.in-Some.pool.now ∷ c.in-Some.rest.now) = ap length c.in-Some.ensures.cases.0 in (
      pool_appended view _ _ c.loop-pool.number c.in-Some.pool.now c.pool.result.now c.in-Some.rest.now c.pool.ensures (c.in_ok-push_pool.ensures)
          ∙ sym (ap (λ (pools : List Pool). string_bytes c.loop-pool.text ++ flat_map (pool_line_seen view) (enumerate_from c.loop-pool.number pools)) c.in-Some.ensures.cases.0)
          ∙ c.loop-pool.invariant.0,
      omega (arith, left, c.loop-pool.invariant.1),
    )
