use Rattle.std.proofs.Common.{◌≡◌, List, ap, sym, subst, ◌∙◌}
use Rattle.job_bodies.specs.Plan.{Pool, Plan}
use Rattle.job_bodies.specs.WellFormed.{IsWellFormed}
use Rattle.job_bodies.specs.Build.{plan_of_lists}
use Rattle.conformance.specs.Lines.{lines_of}
use Rattle.conformance.specs.RejectingPools.{with_keys}
use Rattle.conformance.specs.Rejections.{AreAllRejections, only_rejected_by}
use Rattle.conformance.proofs.RejectingPools.{keys_well_formed, keys_are}
use Rattle.conformance.proofs.rejecting_pools.mark_rejecting_pools.Goals as goal

pub with_pools-requires : goal.with_pools-requires
with_pools-requires c =
    let plan = c.args.plan.now in
    let rejects = only_rejected_by c.in_ok-rejections.rejections in
    let pools : c.in_ok-pools.pools.items ≡ with_keys rejects plan.pools = c.in_ok-pools.ensures ∙ ap (with_keys rejects) c.pools.ensures.value in
    let well = subst (λ (pools : List Pool). IsWellFormed (plan_of_lists pools plan.classes plan.clients)) (sym pools) (keys_well_formed plan rejects c.pools.ensures.well_formed) in
    subst (λ (all : Plan). IsWellFormed (plan_of_lists c.in_ok-pools.pools.items all.classes all.clients)) (sym c.in_ok-all.ensures) well

pub returns : goal.returns
returns c =
    let plan = c.args.plan.now in
    let lines = lines_of c.args.recording.now in
    let rejections = c.in_ok-rejections.rejections in
    let rejects = only_rejected_by rejections in
    let pools : c.in_ok-pools.pools.items ≡ with_keys rejects plan.pools = c.in_ok-pools.ensures ∙ ap (with_keys rejects) c.pools.ensures.value in
    let so = subst (λ (all : Plan). AreAllRejections all lines rejections) c.in_ok-all.ensures c.in_ok-rejections.ensures in
    c.with_pools.ensures
    ∙ ap (λ (all : Plan). record all { pools = c.in_ok-pools.pools.items }) c.in_ok-all.ensures
    ∙ ap (λ (pools : List Pool). record plan { pools = pools }) (pools ∙ keys_are plan lines rejections so)
