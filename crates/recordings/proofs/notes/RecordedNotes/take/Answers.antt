use Rattle.std.proofs.Common.{ap, sym, subst, ◌+◌, ◌∙◌}
use Rattle.std.proofs.lemmas.Result.{on_ok_weaker}
use Rattle.recordings.specs.RecordingLine.{line_view}
use Rattle.recordings.specs.declared.invalidation_list.InvalidationList.{InvalidationList}
use Rattle.recordings.specs.declared.notes.RecordedNotes.{RecordedNotes}
use Rattle.recordings.specs.declared.unclaimed.UnclaimedJobs.{UnclaimedJobs}
use Rattle.recordings.specs.InvalidationList.{kept_in, entry_of, entries_after_line, IsWithEntry, IsBefore}
use Rattle.recordings.specs.UnclaimedJobs.{submitter_in, entry_after_line}
use Rattle.recordings.proofs.NotesAfter.{notes_after, before_next}
use Rattle.recordings.proofs.notes.RecordedNotes.take.Goals as goal

pub returns : goal.returns
returns c = λ before kept at stand.
    let line = line_view c.args.line.now in
    let new : RecordedNotes = record { invalidations = c.note_foreign_get.new.self.invalidations; unclaimed = c.take-2.new.self; foreign = c.note_foreign_get.new.self.foreign } in
    let same = sym c.note_foreign_get.ensures.invalidations in
    let valid = before_next c.args.self.now before c.args.number at stand in
    let with : IsWithEntry (entry_of c.args.number line) (entries_after_line line (kept_in c.args.self.now.invalidations)) (kept_in new.invalidations) =
    subst (λ (list : InvalidationList). IsWithEntry (entry_of c.args.number line) (entries_after_line line (kept_in c.args.self.now.invalidations)) (kept_in list)) same (c.in_ok-take.ensures.kept valid) in
    let later : IsBefore (c.args.number + 1) new.invalidations = subst (λ (list : InvalidationList). IsBefore (c.args.number + 1) list) same (c.in_ok-take.ensures.valid valid) in
    on_ok_weaker c.take-2.result
    (λ unclaimed. notes_after c.args.self.now new before line c.args.number kept at stand with later c.note_foreign_get.ensures.foreign
    (λ job. unclaimed job ∙ ap (λ (u : UnclaimedJobs). entry_after_line line job (submitter_in u job)) c.note_foreign_get.ensures.unclaimed))
    c.take-2.ensures
