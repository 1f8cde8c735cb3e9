use Rattle.std.proofs.Common.{◌≡◌, List, None, Some, sym, ap, subst, ◌∙◌}
use Rattle.std.proofs.lemmas.Bool.{false≢true}
use Rattle.job_bodies.specs.Plan.{Pool, Plan}
use Rattle.job_bodies.specs.WellFormed.{IsWellFormed}
use Rattle.job_bodies.specs.Build.{plan_of_lists}
use Rattle.size_search.specs.Fitted.{raised, IsLeastFit}
use Rattle.size_search.specs.Widened.{HasLeastCores}
use Rattle.size_search.specs.FitError.{why_unfit}
use Rattle.size_search.proofs.LeastSizes.{fits_where_fit}
use Rattle.size_search.proofs.LeastMaxes.{raised_has_least_cores}
use Rattle.size_search.proofs.FitErrors.{fitted_where_not_unfit, well_formed_where_not_unfit, none_where_unfit, least_where_not_unfit, none_fits_where_unfit}
use Rattle.size_search.proofs.fit.fitted.Goals as goal

pub returns-then-not-fits-clause-none : goal.returns-then-not-fits-clause-none
returns-then-not-fits-clause-none c = λ other fits. false≢true (c.if-not-fits.ensures ∙ fits_where_fit c.args.plan other c.args.cert.now fits)

pub returns-in-Some-clause-not_fitted : goal.returns-in-Some-clause-not_fitted
returns-in-Some-clause-not_fitted c = none_where_unfit c.args.plan c.args.cert.now c.in-Some.unfit (sym c.in_ok-unfit.ensures ∙ c.in-Some.is)

pub returns-in-Some-clause-none : goal.returns-in-Some-clause-none
returns-in-Some-clause-none c = none_fits_where_unfit c.args.plan c.args.cert.now c.in-Some.unfit c.in_ok-pools.ensures.well_formed (sym c.in_ok-unfit.ensures ∙ c.in-Some.is)

pub with_pools-requires : goal.with_pools-requires
with_pools-requires c =
    let plan = c.args.plan in
    let none : why_unfit plan c.args.cert.now ≡ None = sym c.in_ok-unfit.ensures ∙ c.in-None.is in
    subst (λ (pools : List Pool). IsWellFormed (plan_of_lists pools plan.classes plan.clients)) (sym c.in_ok-pools.ensures.pools) (well_formed_where_not_unfit plan c.args.cert.now c.in_ok-pools.ensures.well_formed none)

pub returns-in-None-clause-fitted : goal.returns-in-None-clause-fitted
returns-in-None-clause-fitted c =
    let plan = c.args.plan in
    let none : why_unfit plan c.args.cert.now ≡ None = sym c.in_ok-unfit.ensures ∙ c.in-None.is in
    let is : c.with_pools.result ≡ raised plan c.args.cert.now = c.with_pools.ensures ∙ ap (λ (pools : List Pool). plan_of_lists pools plan.classes plan.clients) c.in_ok-pools.ensures.pools in
    fitted_where_not_unfit plan c.args.cert.now c.in_ok-pools.ensures.well_formed none ∙ ap (λ (fit : Plan). Some fit) (sym is)

pub returns-in-None-clause-least : goal.returns-in-None-clause-least
returns-in-None-clause-least c =
    let plan = c.args.plan in
    let none : why_unfit plan c.args.cert.now ≡ None = sym c.in_ok-unfit.ensures ∙ c.in-None.is in
    let is : c.with_pools.result ≡ raised plan c.args.cert.now = c.with_pools.ensures ∙ ap (λ (pools : List Pool). plan_of_lists pools plan.classes plan.clients) c.in_ok-pools.ensures.pools in
    subst (IsLeastFit plan c.args.cert.now) (sym is) (least_where_not_unfit plan c.args.cert.now c.in_ok-pools.ensures.well_formed none)

pub returns-in-None-clause-least_cores : goal.returns-in-None-clause-least_cores
returns-in-None-clause-least_cores c =
    let plan = c.args.plan in
    let is : c.with_pools.result ≡ raised plan c.args.cert.now = c.with_pools.ensures ∙ ap (λ (pools : List Pool). plan_of_lists pools plan.classes plan.clients) c.in_ok-pools.ensures.pools in
    subst (HasLeastCores plan c.args.cert.now) (sym is) (raised_has_least_cores plan c.args.cert.now)
