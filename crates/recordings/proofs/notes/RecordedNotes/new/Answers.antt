use Rattle.std.proofs.Common.{refl, None}
use Rattle.recordings.specs.declared.notes.RecordedNotes.{RecordedNotes}
use Rattle.recordings.proofs.NotesAfter.{notes_none}
use Rattle.recordings.proofs.notes.RecordedNotes.new.Goals as goal

pub returns : goal.returns
returns c =
    let notes : RecordedNotes = record { invalidations = c.new.result; unclaimed = c.new-2.result; foreign = None } in
    notes_none notes c.new.ensures.kept c.new.ensures.valid refl c.new-2.ensures
