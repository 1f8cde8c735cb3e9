use Rattle.std.proofs.Common.{List, sym, subst}
use Rattle.job_bodies.specs.Plan.{Pool, Plan}
use Rattle.job_bodies.specs.WellFormed.{IsWellFormed}
use Rattle.job_bodies.specs.Build.{plan_of_lists}
use Rattle.size_search.proofs.SmallestPlans.{smallest_is_well_formed}
use Rattle.size_search.proofs.fit.smallest.Goals as goal

pub with_pools-requires : goal.with_pools-requires
with_pools-requires c =
    let plan = c.args.plan.now in
    let well = subst (λ (pools : List Pool). IsWellFormed (plan_of_lists pools plan.classes plan.clients)) (sym c.in_ok-pools.ensures.pools) (smallest_is_well_formed plan c.in_ok-pools.ensures.well_formed) in
    subst (λ (copy : Plan). IsWellFormed (plan_of_lists c.in_ok-pools.pools.items copy.classes copy.clients)) (sym c.in_ok-try_clone.ensures) well
