use Rattle.std.proofs.Common.{◌≡◌, ◌<◌, true, false, length, Option, is_some, sym, ap, ◌∙◌, arith}
use Rattle.std.proofs.lemmas.Bool.{and_from}
use Rattle.weights.specs.declared.row.Row.{Row}
use Rattle.weights.specs.Row.{first_failing}
use Rattle.weights.specs.Ranks.{Ranks, rank_rows}
use Rattle.cert_text.specs.Cert.{Cert, cert_fits}
use Rattle.soundness.specs.Conditions.{failing}
use Rattle.soundness.specs.Accepted.{is_nil}
use Rattle.soundness.proofs.Promised.{promises}
use Rattle.cert_check.specs.PoolConditions.{pool_holds}
use Rattle.cert_check.proofs.Conditions.{held, ranks_fail}
use Rattle.cert_check.proofs.Pools.{fails_here, passes_all}
use Rattle.cert_check.proofs.acceptance.conditions_hold.Goals as goal

pub returns-then-is_some-clause-exact : goal.returns-then-is_some-clause-exact
returns-then-is_some-clause-exact c =
    let plan = c.args.plan.now in
    let ranks : c.cert.inside.ranks ≡ c.args.cert.now.ranks = ap (λ (x : Cert). x.ranks) c.cert.view_is in
    let same : first_failing (rank_rows plan c.args.cert.now.ranks) ≡ c.fault.result = sym (c.fault.ensures ∙ ap (λ (r : Ranks). first_failing (rank_rows plan r)) ranks) in
    ranks_fail plan c.args.cert.now (ap (λ (x : Option Row). is_some x) same ∙ (sym c.is_some.ensures ∙ c.if-is_some.true))

pub returns-then-not-pool_holds-clause-exact : goal.returns-then-not-pool_holds-clause-exact
returns-then-not-pool_holds-clause-exact c =
    let plan = c.args.plan.now in
    let ranks : c.cert.inside.ranks ≡ c.args.cert.now.ranks = ap (λ (x : Cert). x.ranks) c.cert.view_is in
    let same : first_failing (rank_rows plan c.args.cert.now.ranks) ≡ c.fault.result = sym (c.fault.ensures ∙ ap (λ (r : Ranks). first_failing (rank_rows plan r)) ranks) in
    let inside : c.loop-pool.pool < length plan.pools = rw (← c.pools-pool-end.ensures.value) c.loop-pool-test.true in
    held plan c.args.cert.now false (ap (λ (x : Option Row). is_some x) same ∙ (sym c.is_some.ensures ∙ c.if-is_some.false))
    (fails_here (pool_holds plan c.args.cert.now) plan.pools c.loop-pool.pool _ inside (sym c.pool_holds.ensures ∙ c.if-not-pool_holds.true) c.loop-pool.invariant)

pub returns-clause-exact : goal.returns-clause-exact
returns-clause-exact c =
    let plan = c.args.plan.now in
    let ranks : c.cert.inside.ranks ≡ c.args.cert.now.ranks = ap (λ (x : Cert). x.ranks) c.cert.view_is in
    let same : first_failing (rank_rows plan c.args.cert.now.ranks) ≡ c.fault.result = sym (c.fault.ensures ∙ ap (λ (r : Ranks). first_failing (rank_rows plan r)) ranks) in
    held plan c.args.cert.now true (ap (λ (x : Option Row). is_some x) same ∙ (sym c.is_some.ensures ∙ c.if-is_some.false))
    (passes_all (pool_holds plan c.args.cert.now) plan.pools c.loop-pool.pool _ (rw (← c.pools-pool-end.ensures.value) (omega arith)) c.loop-pool.invariant)

pub returns-clause-promises : goal.returns-clause-promises
returns-clause-promises c = λ _.
    let plan = c.args.plan.now in
    let cert = c.args.cert.now in
    promises plan cert c.pools-pool-end.ensures.well_formed (and_from (cert_fits plan cert) (is_nil (failing plan cert)) c.requires (sym (returns-clause-exact c)))
