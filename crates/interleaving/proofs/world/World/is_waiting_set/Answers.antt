use Rattle.std.proofs.Common.{sym, ◌∙◌}
use Rattle.interleaving.proofs.WaitingSets.{none_without_queues, set_as_others}
use Rattle.interleaving.proofs.world.World.is_waiting_set.Goals as goal

pub returns-then-queues_wait-clause-value : goal.returns-then-queues_wait-clause-value
returns-then-queues_wait-clause-value c =
    set_as_others c.args.plan.now c.args.self.now.view c.args.members.now c.unqueued_wait.result c.requires.of_plan c.queues_wait.ensures.well_formed c.requires.some (c.queues_wait.ensures.value.0 c.if-queues_wait.true) c.unqueued_wait.ensures

pub returns-else-queues_wait-clause-value : goal.returns-else-queues_wait-clause-value
returns-else-queues_wait-clause-value c =
    c.if-queues_wait.false ∙ sym (none_without_queues c.args.plan.now c.args.self.now.view c.args.members.now c.queues_wait.result c.queues_wait.ensures.value c.if-queues_wait.false)
