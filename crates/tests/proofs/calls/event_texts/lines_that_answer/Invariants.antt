-- The counter has the number of replies that were appended.
use Rattle.std.proofs.Common.{◌≡◌, length}
use Rattle.tests.proofs.calls.event_texts.lines_that_answer.Given as goal

abbrev pub invariant-loop-reply : goal.invariant-loop-reply
invariant-loop-reply g l = (l.number ≡ l.reply-index) × (length l.reply-items ≡ 12)
