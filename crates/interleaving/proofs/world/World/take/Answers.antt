use Rattle.std.proofs.Common.{◌≡◌, Some, rules, ap, ◌∙◌, arith}
use Rattle.std.proofs.lemmas.Grind.{common_steps}
use Rattle.job_bodies.specs.WellFormed.{IsWellFormed}
use Rattle.pool_machine.specs.PoolState.{taken}
use Rattle.pool_machine.specs.declared.parent.Parent.TheVariants.{Job}
use Rattle.interleaving.specs.World.{WorldValue}
use Rattle.interleaving.specs.ViewStep.{pool_in, may_get_in}
use Rattle.interleaving.proofs.JobsAtHeads.{waits_at_head}
use Rattle.interleaving.proofs.world.World.take.Goals as goal

pub go_to-requires : goal.go_to-requires
go_to-requires c =
    let w : IsWellFormed c.args.plan.now = search rules in
    let n = c.in_ok-number.number in
    let take_head : taken (pool_in c.args.self.now.view c.args.pool) ≡ Some (n, c.take.new.self) = grind (arith, common_steps) in
    ap (λ (w : WorldValue). may_get_in w.view.jobs (Job n)) c.self.view_is ∙ waits_at_head c.args.plan.now c.args.self.now.view c.args.pool c.requires.of_plan w n c.take.new.self take_head
