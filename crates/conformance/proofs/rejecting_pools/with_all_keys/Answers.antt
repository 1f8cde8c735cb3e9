use Rattle.std.proofs.Common.{◌≡◌, true, List, map, ap, sym, subst, ◌∙◌}
use Rattle.job_bodies.specs.Plan.{Pool, Plan}
use Rattle.job_bodies.specs.WellFormed.{IsWellFormed}
use Rattle.job_bodies.specs.Build.{plan_of_lists}
use Rattle.conformance.specs.RejectingPools.{with_key}
use Rattle.conformance.proofs.RejectingPools.{all_keys_well_formed}
use Rattle.conformance.proofs.rejecting_pools.with_all_keys.Goals as goal

pub with_pools-requires : goal.with_pools-requires
with_pools-requires c =
    let plan = c.args.plan.now in
    let pools : c.in_ok-pools.pools.items ≡ map (with_key true) plan.pools = c.in_ok-pools.ensures ∙ ap (map (with_key true)) c.pools.ensures.value in
    let well = subst (λ (pools : List Pool). IsWellFormed (plan_of_lists pools plan.classes plan.clients)) (sym pools) (all_keys_well_formed plan c.pools.ensures.well_formed) in
    subst (λ (copy : Plan). IsWellFormed (plan_of_lists c.in_ok-pools.pools.items copy.classes copy.clients)) (sym c.in_ok-try_clone.ensures) well
