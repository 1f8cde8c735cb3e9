use Rattle.locked_runner.proofs.Levels.{totals_add_up}
use Rattle.locked_runner.proofs.history_laws.totals_add_up.Goals as goal

pub returns : goal.returns
returns c = totals_add_up
