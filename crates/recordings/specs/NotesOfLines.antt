-- The meaning of the notes, in terms of the lines read.
use Rattle.std.specs.Prelude.{◌≡◌, ◌+◌, ℕ, false, if◌then◌else◌, List, None, length}
use Rattle.recordings.specs.RecordingLine.{RecordedLine}
use Rattle.recordings.specs.declared.notes.RecordedNotes.{RecordedNotes}
use Rattle.recordings.specs.ForeignGets.{submitter_of, is_got_by_own, first_foreign_get}
use Rattle.recordings.specs.InvalidationList.{entries_from, kept_in, IsBefore, IsEnough}
use Rattle.recordings.specs.UnclaimedJobs.{submitter_in}

pub record IsNotesOf (notes : RecordedNotes) (lines : List RecordedLine) : Type 0 where
  pub before : IsBefore (length lines + 1) notes.invalidations
  pub invalidations : IsEnough (λ word. false) (kept_in notes.invalidations) (entries_from 1 lines)
  pub foreign : notes.foreign ≡ first_foreign_get lines
  pub unclaimed : (job : ℕ) → submitter_in notes.unclaimed job ≡ (if is_got_by_own lines job then None else submitter_of lines job)
