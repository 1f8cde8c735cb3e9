-- The list so far, followed by the lints of the remaining pools, is the list at the start followed by the lints of all pools.
use Rattle.std.proofs.Common.{◌≡◌, ◌++◌, ℕ}
use Rattle.job_bodies.specs.Plan.{Pool}
use Rattle.diagnostics.specs.Lints.{lints_of_pool, lints_of_pools}
use Rattle.diagnostics.proofs.InOrder.{rest_of}
use Rattle.diagnostics.proofs.lints.push_pools.Given as goal

abbrev pub invariant-loop-number : goal.invariant-loop-number
invariant-loop-number l =
    l.found.items ++ rest_of (λ (entry : ℕ × Pool). lints_of_pool l.plan l.needed l.marks entry.0 entry.1) l.plan.pools l.number ≡ l.fn.found.items ++ lints_of_pools l.plan l.needed l.marks
