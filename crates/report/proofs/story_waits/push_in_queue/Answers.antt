use Rattle.report.proofs.story_waits.push_in_queue.Goals as goal

pub returns : goal.returns
returns c = c.writeln.ensures.bytes
