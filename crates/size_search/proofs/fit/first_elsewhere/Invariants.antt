-- The earlier notes are totals, so the result is that for the remaining notes.
use Rattle.std.proofs.Common.{◌≡◌, not, drop}
use Rattle.std.specs.List.{find}
use Rattle.soundness.specs.declared.note.Note.{Note}
use Rattle.size_search.specs.Fitted.{is_total}
use Rattle.size_search.proofs.fit.first_elsewhere.Given as goal

abbrev pub invariant-loop-note : goal.invariant-loop-note
invariant-loop-note l = find (λ (note : Note). not (is_total note.place)) (drop l.note-index l.notes) ≡ find (λ (note : Note). not (is_total note.place)) l.notes
