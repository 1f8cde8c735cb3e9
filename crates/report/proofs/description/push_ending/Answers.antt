use Rattle.report.proofs.description.push_ending.Goals as goal

pub returns-in-StuckForever : goal.returns-in-StuckForever
returns-in-StuckForever c = rw (c.in-StuckForever.is, ← c.deref.ensures.value) c.push_stuck.ensures
