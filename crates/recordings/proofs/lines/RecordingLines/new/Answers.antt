use Rattle.recordings.proofs.LineByLine.{lines_few}
use Rattle.recordings.proofs.lines.RecordingLines.new.Goals as goal

pub returns-clause-few : goal.returns-clause-few
returns-clause-few c = lines_few c.args.text.now
