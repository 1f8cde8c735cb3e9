use Rattle.recordings.specs.RecordingLine.{lines_read}
use Rattle.learning.specs.FirstPass.{well_formed}
use Rattle.learning.proofs.recorded_names.recorded_names.Goals as goal

pub note_lines-fault-requires-clause-draft : goal.note_lines-fault-requires-clause-draft
note_lines-fault-requires-clause-draft c = c.in_ok-names.ensures.draft (well_formed (lines_read c.args.recording.now))
