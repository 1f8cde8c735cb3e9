-- The text so far, followed by the lines of the remaining pools, is the whole text.
use Rattle.std.proofs.Common.{◌≡◌, ◌++◌, length}
use Rattle.std.specs.Prelude.{string_bytes, flat_map}
use Rattle.sizing_cli.specs.Conform.{rejections_line}
use Rattle.sizing_cli.proofs.conform.push_rejections.Given as goal

abbrev pub invariant-loop-of_pool : goal.invariant-loop-of_pool
invariant-loop-of_pool l = string_bytes l.text ++ flat_map (rejections_line l.plan) l.rejections ≡ string_bytes l.fn.text ++ flat_map (rejections_line l.plan) l.fn.rejections

abbrev pub decreases-loop-of_pool : goal.decreases-loop-of_pool
decreases-loop-of_pool l = length l.rejections
