-- The text has the pools so far, and their changes are counted.
use Rattle.std.proofs.Common.{length}
use Rattle.std.specs.Prelude.{string_bytes}
use Rattle.report.proofs.PoolLines.{IsTextOfFirst}
use Rattle.report.proofs.size_lines.push_sizes.Given as goal

abbrev pub invariant-loop-pool : goal.invariant-loop-pool
invariant-loop-pool l =
    (goal.iterator-loop-pool).can_next l.pool-iterator ×
    (goal.iterator-loop-pool).is_finite l.pool-iterator ×
    IsTextOfFirst l.declared l.fit (string_bytes l.fn.text) (length l.yielded) (string_bytes l.text) l.changes
