-- The parts so far and those of the remaining pools are all parts.
use Rattle.std.proofs.Common.{◌≡◌, ◌++◌, map}
use Rattle.std.specs.Prelude.{string_bytes}
use Rattle.report.specs.SafeText.{worker_part}
use Rattle.report.proofs.Rows.{rest_of}
use Rattle.report.proofs.safe_bound.push_workers.Given as goal

abbrev pub invariant-loop-pool : goal.invariant-loop-pool
invariant-loop-pool l = map string_bytes l.parts.items ++ rest_of (worker_part l.plan) l.shares l.pool ≡ map string_bytes l.fn.parts.items ++ rest_of (worker_part l.plan) l.shares 0
