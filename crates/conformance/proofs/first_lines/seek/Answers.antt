use Rattle.conformance.proofs.FirstLinesAfter.{sought_more}
use Rattle.conformance.proofs.first_lines.seek.Goals as goal

pub returns : goal.returns
returns c = λ first. sought_more c.args.query c.args.table.now c.insert.new.self c.in_ok-insert.ensures.updates.0 first
