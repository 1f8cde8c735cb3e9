-- The text so far and the boxes of the remaining pools are the whole text.
use Rattle.std.proofs.Common.{◌≡◌, ◌++◌}
use Rattle.std.specs.Prelude.{string_bytes}
use Rattle.report.specs.Picture.{pool_box}
use Rattle.report.proofs.Rows.{rest_of}
use Rattle.report.proofs.picture.push_pools.Given as goal

abbrev pub invariant-loop-number : goal.invariant-loop-number
invariant-loop-number l = string_bytes l.text ++ rest_of (pool_box l.plan l.parts) l.plan.pools l.number ≡ string_bytes l.fn.text ++ rest_of (pool_box l.plan l.parts) l.plan.pools 0
