use Rattle.std.proofs.Common.{◌≡◌, List, None, Some, sym, ap, subst, ◌∙◌}
use Rattle.std.proofs.lemmas.Bool.{false≢true}
use Rattle.job_bodies.specs.Plan.{Pool, Plan}
use Rattle.job_bodies.specs.WellFormed.{IsWellFormed}
use Rattle.job_bodies.specs.Build.{plan_of_lists}
use Rattle.size_search.specs.Widened.{widened, IsLeastWide, LeavesRoom}
use Rattle.size_search.specs.FitError.{why_not_widened}
use Rattle.size_search.proofs.LeastMaxes.{widened_is_least_wide, widened_leaves_room, wide_fit_fits}
use Rattle.size_search.proofs.FitErrors.{why_not_widened_is, widened_is_well_formed, none_fits_where_not_widened}
use Rattle.size_search.proofs.wide.widened.Goals as goal

pub returns-then-not-fits-clause-none : goal.returns-then-not-fits-clause-none
returns-then-not-fits-clause-none c = λ other fits. false≢true (c.if-not-fits.ensures ∙ wide_fit_fits c.args.plan.now other c.args.cert.now fits)

pub with_pools-requires : goal.with_pools-requires
with_pools-requires c =
    let plan = c.args.plan.now in
    let none : why_not_widened plan c.args.cert.now ≡ None = why_not_widened_is plan c.args.cert.now c.deref.result.now None (sym c.if-not-fits.ensures) (c.deref.ensures.value ∙ c.in_ok-pools.ensures.pools) c.in-None.ensures in
    let well = subst (λ (pools : List Pool). IsWellFormed (plan_of_lists pools plan.classes plan.clients)) (sym c.in_ok-pools.ensures.pools) (widened_is_well_formed plan c.args.cert.now c.in_ok-pools.ensures.well_formed none) in
    subst (λ (copy : Plan). IsWellFormed (plan_of_lists c.in_ok-pools.pools.items copy.classes copy.clients)) (sym c.in_ok-try_clone-in-None.ensures) well

pub returns-in-Some-clause-none : goal.returns-in-Some-clause-none
returns-in-Some-clause-none c =
    let plan = c.args.plan.now in
    let some : why_not_widened plan c.args.cert.now ≡ Some c.in-Some.unfit = why_not_widened_is plan c.args.cert.now c.deref.result.now (Some c.in-Some.unfit) (sym c.if-not-fits.ensures) (c.deref.ensures.value ∙ c.in_ok-pools.ensures.pools) c.in-Some.ensures in
    none_fits_where_not_widened plan c.args.cert.now c.in-Some.unfit c.in_ok-pools.ensures.well_formed some

pub returns-in_ok-try_clone-in-None-clause-room : goal.returns-in_ok-try_clone-in-None-clause-room
returns-in_ok-try_clone-in-None-clause-room c =
    let plan = c.args.plan.now in
    let of_copy = ap (λ (copy : Plan). plan_of_lists c.in_ok-pools.pools.items copy.classes copy.clients) c.in_ok-try_clone-in-None.ensures in
    let is : c.with_pools.result ≡ widened plan c.args.cert.now = c.with_pools.ensures ∙ (of_copy ∙ ap (λ (pools : List Pool). plan_of_lists pools plan.classes plan.clients) c.in_ok-pools.ensures.pools) in
    subst (LeavesRoom plan c.args.cert.now) (sym is) (widened_leaves_room plan c.args.cert.now)

pub returns-in_ok-try_clone-in-None-clause-least : goal.returns-in_ok-try_clone-in-None-clause-least
returns-in_ok-try_clone-in-None-clause-least c =
    let plan = c.args.plan.now in
    let of_copy = ap (λ (copy : Plan). plan_of_lists c.in_ok-pools.pools.items copy.classes copy.clients) c.in_ok-try_clone-in-None.ensures in
    let is : c.with_pools.result ≡ widened plan c.args.cert.now = c.with_pools.ensures ∙ (of_copy ∙ ap (λ (pools : List Pool). plan_of_lists pools plan.classes plan.clients) c.in_ok-pools.ensures.pools) in
    subst (IsLeastWide plan c.args.cert.now) (sym is) (widened_is_least_wide plan c.args.cert.now)
