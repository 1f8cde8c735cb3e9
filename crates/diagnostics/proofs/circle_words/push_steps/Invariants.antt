-- The text so far, followed by the remaining submits, is the text at the start followed by all submits.
use Rattle.std.proofs.Common.{◌≡◌, ◌++◌, length}
use Rattle.std.specs.Prelude.{string_bytes}
use Rattle.diagnostics.specs.Circles.{steps_words}
use Rattle.diagnostics.proofs.circle_words.push_steps.Given as goal

abbrev pub invariant-loop-next : goal.invariant-loop-next
invariant-loop-next l = string_bytes l.words ++ steps_words l.plan l.from l.between l.to ≡ string_bytes l.fn.words ++ steps_words l.plan l.fn.from l.fn.between l.to

abbrev pub decreases-loop-next : goal.decreases-loop-next
decreases-loop-next l = length l.between
