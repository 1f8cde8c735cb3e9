use Rattle.std.proofs.Common.{rules}
use Rattle.size_search.specs.Fitted.{IsLeastFit}
use Rattle.size_search.specs.Widened.{HasLeastCores, IsLeastWide}
use Rattle.size_search.proofs.Sizings.{sized_where_fitted}
use Rattle.size_search.proofs.least_sizes.least_sizes.Goals as goal
use Rattle.size_search.proofs.least_sizes.least_sizes.Goals.{in-Ok-2, in-Err-2}

pub returns : goal.returns
returns c =
    let plan = c.args.plan.now in
    let cert = c.args.cert.now in
    elim c.match-branch-4.branch [
      | in-Ok-2 w ↦
          let widest : IsLeastWide plan cert c.in-Ok.wide = search rules in
          let least : IsLeastFit c.in-Ok.wide cert w.in-Ok-2.fit = search rules in
          let cores : HasLeastCores c.in-Ok.wide cert w.in-Ok-2.fit = rw w.in-Ok-2.is at c.in_ok-fit.ensures.least_cores in
          rw w.result-is (sized_where_fitted plan c.in-Ok.wide w.in-Ok-2.fit cert widest least cores)
      | in-Err-2 w ↦ rw w.result-is tt
    ]
