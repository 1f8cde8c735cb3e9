-- All classes are light exactly when the remaining classes are.
use Rattle.std.proofs.Common.{◌≡◌, drop}
use Rattle.std.specs.List.{list_all, enumerate_from}
use Rattle.counterexample.specs.NoThreadStarts.{is_light}
use Rattle.counterexample.proofs.no_thread_starts.rejected_are_light.Given as goal

abbrev pub invariant-loop-number : goal.invariant-loop-number
invariant-loop-number l = list_all (is_light l.plan l.vector) (enumerate_from l.number (drop l.number l.plan.classes)) ≡ list_all (is_light l.plan l.vector) (enumerate_from 0 l.plan.classes)
