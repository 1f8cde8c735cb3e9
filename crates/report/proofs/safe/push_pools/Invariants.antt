-- The text so far and the lines of the remaining pools are the whole text.
use Rattle.std.proofs.Common.{◌≡◌, ◌++◌}
use Rattle.std.specs.Prelude.{string_bytes}
use Rattle.report.specs.SafeText.{pool_lines}
use Rattle.report.proofs.Rows.{rest_of}
use Rattle.report.proofs.safe.push_pools.Given as goal

abbrev pub invariant-loop-number : goal.invariant-loop-number
invariant-loop-number l = string_bytes l.text ++ rest_of (pool_lines l.plan l.cert l.rejections) l.plan.pools l.number ≡ string_bytes l.fn.text ++ rest_of (pool_lines l.plan l.cert l.rejections) l.plan.pools 0
