use Rattle.std.proofs.Common.{ap, ◌∙◌, sym, arith, length}
use Rattle.std.proofs.lemmas.Option.{slice_get_past}
use Rattle.interleaving.proofs.OfPlan.{as_many_pools}
use Rattle.report.specs.Performed.{counts_seen}
use Rattle.std.specs.Prelude.{option_map}
use Rattle.report.proofs.EventsSeen.{counted}
use Rattle.report.proofs.event_steps.counts_of.Goals as goal

pub returns-then-number-pools : goal.returns-then-number-pools
returns-then-number-pools c =
    let same = as_many_pools c.args.plan.now c.args.world.now.view c.requires in
    let p = c.in_ok-number.number in
    let view = c.args.world.now.view in
    sym (ap (counts_seen view) c.in_ok-number.was ∙ ap (option_map (counted p)) (slice_get_past view.pools p (omega (arith, same, ap length c.pools.ensures.value, c.if-number-pools.true))))

pub pool-pool-requires : goal.pool-pool-requires
pool-pool-requires c =
    let same = as_many_pools c.args.plan.now c.args.world.now.view c.requires in
    omega (arith, same, ap length c.pools.ensures.value, c.if-number-pools.false)
