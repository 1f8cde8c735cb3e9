use Rattle.std.proofs.Common.{rules}
use Rattle.size_search.proofs.Growth.{grows_added}
use Rattle.size_search.proofs.node_set.NodeSet.add.Goals as goal

pub returns-in_ok-push-clause-grows : goal.returns-in_ok-push-clause-grows
returns-in_ok-push-clause-grows c = grows_added c.args.self.now _ c.args.node c.requires (search rules) (search rules) (search rules)
