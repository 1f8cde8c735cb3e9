use Rattle.interleaving.proofs.LineByLine.{lines_few}
use Rattle.interleaving.proofs.lines.EventLines.new.Goals as goal

pub returns-clause-few : goal.returns-clause-few
returns-clause-few c = lines_few c.args.plan.now c.args.text.now
