use Rattle.interleaving.proofs.ViewsToStates.{raised, still_of_plan}
use Rattle.interleaving.proofs.world.World.step.Goals as goal

pub returns-clause-answered : goal.returns-clause-answered
returns-clause-answered c = raised c.args.plan.now c.args.event c.args.self.now.view c.act.new.self.view c.act.result c.act.ensures.well_formed c.act.ensures.answered

pub returns-clause-of_plan : goal.returns-clause-of_plan
returns-clause-of_plan c = still_of_plan c.args.plan.now c.args.event c.args.self.now c.act.new.self c.act.result c.act.ensures.well_formed c.requires c.act.ensures.answered c.act.ensures.error_unchanged
