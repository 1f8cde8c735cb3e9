use Rattle.interleaving.proofs.OfPlan.{as_many_pools}
use Rattle.interleaving.proofs.world.World.act.Goals as goal

pub take-requires-clause-pools : goal.take-requires-clause-pools
take-requires-clause-pools c = as_many_pools c.args.plan.now c.args.self.now.view c.requires

pub retire-requires : goal.retire-requires
retire-requires c = as_many_pools c.args.plan.now c.args.self.now.view c.requires
