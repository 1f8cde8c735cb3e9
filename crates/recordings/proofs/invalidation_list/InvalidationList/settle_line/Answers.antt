use Rattle.std.proofs.Common.{sym}
use Rattle.recordings.specs.RecordingLine.{line_view}
use Rattle.recordings.proofs.KeptEvents.{no_actor}
use Rattle.recordings.proofs.invalidation_list.InvalidationList.settle_line.Goals as goal

pub returns-in-None : goal.returns-in-None
returns-in-None c = λ number before. no_actor number (line_view c.args.line.now) c.args.self.now (sym c.in-None.ensures) before
