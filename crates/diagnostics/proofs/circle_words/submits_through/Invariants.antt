-- The remaining classes are a way to the last class exactly if all are.
use Rattle.std.proofs.Common.{◌≡◌, length}
use Rattle.diagnostics.specs.Circles.{submits_through}
use Rattle.diagnostics.proofs.circle_words.submits_through.Given as goal

abbrev pub invariant-loop-next : goal.invariant-loop-next
invariant-loop-next l = submits_through l.plan l.from l.between l.to ≡ submits_through l.plan l.fn.from l.fn.between l.to

abbrev pub decreases-loop-next : goal.decreases-loop-next
decreases-loop-next l = length l.between
