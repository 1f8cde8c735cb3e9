use Rattle.std.proofs.Common.{rules}
use Rattle.size_search.specs.Fitted.{IsLeastFit, NoneFits}
use Rattle.size_search.specs.Widened.{HasLeastCores}
use Rattle.size_search.proofs.Sizings.{sized_where_fitted}
use Rattle.size_search.proofs.Deciding.{too_high_where_not_fitted}
use Rattle.size_search.proofs.fit_steady.least_wide.Goals as goal

pub returns-in-Ok-clause-sized : goal.returns-in-Ok-clause-sized
returns-in-Ok-clause-sized c =
    let cert = c.args.cert.now in
    let least : IsLeastFit c.args.wide cert c.in-Ok.fit = search rules in
    let cores : HasLeastCores c.args.wide cert c.in-Ok.fit = search rules in
    sized_where_fitted c.args.plan.now c.args.wide c.in-Ok.fit cert c.requires.least least cores

pub returns-in-Err-clause-none : goal.returns-in-Err-clause-none
returns-in-Err-clause-none c =
    let none : NoneFits c.args.wide c.args.cert.now = search rules in
    too_high_where_not_fitted c.args.plan.now c.args.wide c.args.cert.now c.requires.well_formed c.requires.steady_plan c.requires.small c.requires.steady c.requires.wide none
