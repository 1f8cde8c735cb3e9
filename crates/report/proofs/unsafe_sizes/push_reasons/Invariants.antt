-- The text has the reasons of the pools so far.
use Rattle.std.proofs.Common.{◌≡◌, ◌++◌, length}
use Rattle.std.specs.Prelude.{string_bytes}
use Rattle.report.specs.AdviceText.{pool_reasons}
use Rattle.report.proofs.Pairs.{front_of}
use Rattle.report.proofs.unsafe_sizes.push_reasons.Given as goal

abbrev pub invariant-loop-declared : goal.invariant-loop-declared
invariant-loop-declared l =
    (goal.iterator-loop-declared).can_next l.declared-iterator ×
    (goal.iterator-loop-declared).is_finite l.declared-iterator ×
    (string_bytes l.text ≡ string_bytes l.fn.text ++ front_of pool_reasons l.plan.pools l.fit.pools (length l.yielded))
