use Rattle.recordings.specs.RecordingLine.{line_view}
use Rattle.recordings.proofs.PathsAfter.{paths_after}
use Rattle.recordings.proofs.paths.Paths.take.Goals as goal

pub returns-clause-taken : goal.returns-clause-taken
returns-clause-taken c = λ before kept stand. paths_after c.args.self.now c.apply_line.new.self before (line_view c.args.line.now) kept stand c.in_ok-apply_line.ensures.stored
