-- The text so far, followed by the lines of the remaining pools, is the whole text.
use Rattle.std.proofs.Common.{◌≡◌, ◌+◌, ◌++◌, length}
use Rattle.std.specs.Prelude.{flat_map, string_bytes}
use Rattle.std.specs.List.{enumerate_from}
use Rattle.report.specs.StorySeen.{pool_line_seen}
use Rattle.report.proofs.story_pools.push_pools.Given as goal

abbrev pub invariant-loop-pool : goal.invariant-loop-pool
invariant-loop-pool l =
    (string_bytes l.text ++ flat_map (pool_line_seen l.world.view) (enumerate_from l.number l.pools) ≡ string_bytes l.fn.text ++ flat_map (pool_line_seen l.world.view) (enumerate_from 0 l.plan.pools))
    × (l.number + length l.pools ≡ length l.plan.pools)

abbrev pub decreases-loop-pool : goal.decreases-loop-pool
decreases-loop-pool l = length l.pools
