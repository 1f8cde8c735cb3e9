use Rattle.recordings.specs.RecordingLine.{line_view}
use Rattle.learning.specs.LearningState.{kinds_in}
use Rattle.learning.proofs.RoundCounts.{all_counted}
use Rattle.learning.proofs.counts.note.Goals as goal

pub returns-clause-all : goal.returns-clause-all
returns-clause-all c = λ before counts. all_counted (kinds_in c.args.kinds.now) c.kind_begun.result c.kind_ended.result before (line_view c.args.line.now) c.args.counts.now c.count_begin.new.counts _
    c.kind_begun.ensures c.kind_ended.ensures c.in_ok-count_begin.ensures.one c.in_ok-count_end.ensures.one counts
