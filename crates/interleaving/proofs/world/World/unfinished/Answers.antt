use Rattle.std.proofs.Common.{rules}
use Rattle.interleaving.proofs.ViewsToStates.{unfinished_seen}
use Rattle.interleaving.proofs.world.World.unfinished.Goals as goal

pub returns-clause-value : goal.returns-clause-value
returns-clause-value c = λ plan s same. unfinished_seen plan s c.args.self.now.view c.unfinished.result (search rules) same
