use Rattle.std.proofs.Common.{rules, tests}
use Rattle.std.specs.Str.{bytes_eq}
use Rattle.std.proofs.lemmas.Iterator.{YieldsList-from_slice}
use Rattle.std.proofs.lemmas.Iterator.Search.{position_from_yields_List}
use Rattle.job_bodies.specs.Plan.{Pool}
use Rattle.interleaving.specs.EventLine.{pool_named}
use Rattle.interleaving.proofs.event_line.pool_named.Goals as goal

pub returns : goal.returns
unfolding pool_named
returns c =
    let name = c.args.name.now in
    position_from_yields_List (λ (pool : Pool). bytes_eq pool.name name) _ _ c.position.result c.position.ensures.ran (YieldsList-from_slice c.args.plan.now.pools cc) (λ x b q k. search (rules, tests))
