use Rattle.std.proofs.Common.{◌∙◌}
use Rattle.std.proofs.lemmas.Result.{IfOk-weaker}
use Rattle.recordings.specs.InvalidationList.{kept_in}
use Rattle.recordings.proofs.NotesAfter.{invalidations_are}
use Rattle.recordings.proofs.notes.RecordedNotes.invalidations.Goals as goal

pub returns : goal.returns
returns c = λ lines stand. IfOk-weaker c.firsts.result _ _ (λ invalidations is. is ∙ invalidations_are (kept_in c.args.self.now.invalidations) lines stand.invalidations) c.firsts.ensures
