-- The text so far, followed by the remaining lines, is the whole text.
use Rattle.std.proofs.Common.{◌≡◌, ◌++◌, length}
use Rattle.std.specs.Prelude.{string_bytes}
use Rattle.interleaving.specs.LineText.{lines_text}
use Rattle.counterexample.specs.EventLines.{lines_of}
use Rattle.counterexample.proofs.event_texts.push_lines.Given as goal

abbrev pub invariant-loop-event : goal.invariant-loop-event
invariant-loop-event l = string_bytes l.text ++ lines_text l.plan (lines_of l.events l.members) ≡ string_bytes l.fn.text ++ lines_text l.plan (lines_of l.fn.events l.members)

abbrev pub decreases-loop-event : goal.decreases-loop-event
decreases-loop-event l = length l.events
