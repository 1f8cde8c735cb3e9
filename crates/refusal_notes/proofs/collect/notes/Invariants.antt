-- The failing conditions of the ranks and of the pools before this one were collected.
use Rattle.refusal_notes.proofs.CollectedNotes.{NotesTo}
use Rattle.refusal_notes.proofs.collect.notes.Given as goal

abbrev pub invariant-loop-number : goal.invariant-loop-number
invariant-loop-number l = NotesTo l.plan l.cert l.notes.items l.number
