use Rattle.locked_runner.proofs.Levels.{numbers_are_of_the_plan}
use Rattle.locked_runner.proofs.history_laws.numbers_are_of_the_plan.Goals as goal

pub returns : goal.returns
returns c = numbers_are_of_the_plan
