use Rattle.std.proofs.Common.{◌≡◌, ◌<◌, ℕ, Bool, false, length, Option, sym, ap, ◌∙◌, arith}
use Rattle.weights.specs.declared.bound.Bound.{Bound}
use Rattle.cert_text.specs.Cert.{PoolCert, pool_cert_at}
use Rattle.cert_text.proofs.Fitting.{parts_fit}
use Rattle.cert_check.specs.Standing.{is_valid_standing_vector}
use Rattle.cert_check.proofs.Pools.{fails_here}
use Rattle.cert_check.proofs.Standing.{passed_all, standing_refuses_nothing, standing_java_refuses_nothing}
use Rattle.cert_check.proofs.acceptance.has_valid_standing_vectors.Goals as goal

pub is_valid_standing_vector-requires-clause-fits : goal.is_valid_standing_vector-requires-clause-fits
is_valid_standing_vector-requires-clause-fits c =
    let plan = c.args.plan.now in
    let inside : c.loop-pool.pool < length plan.pools = rw (← c.pools-pool-end.ensures.value) c.loop-pool-test.true in
    let same : c.behind-cert.inside.bound ≡ (pool_cert_at c.args.cert.now c.loop-pool.pool).bound = ap (λ (pool : PoolCert). pool.bound) (c.behind-cert.view_is ∙ c.pool_at.ensures) in
    rw same ((parts_fit plan c.args.cert.now c.requires).pools c.loop-pool.pool inside).bound

pub returns-then-not-is_valid_standing_vector-clause-exact : goal.returns-then-not-is_valid_standing_vector-clause-exact
returns-then-not-is_valid_standing_vector-clause-exact c =
    let plan = c.args.plan.now in
    let inside : c.loop-pool.pool < length plan.pools = rw (← c.pools-pool-end.ensures.value) c.loop-pool-test.true in
    let test : ℕ → Bool = λ p. is_valid_standing_vector plan p (pool_cert_at c.args.cert.now p).bound in
    let same : c.behind-cert.inside.bound ≡ (pool_cert_at c.args.cert.now c.loop-pool.pool).bound = ap (λ (pool : PoolCert). pool.bound) (c.behind-cert.view_is ∙ c.pool_at.ensures) in
    let is_test : c.is_valid_standing_vector.result ≡ test c.loop-pool.pool = c.is_valid_standing_vector.ensures ∙ ap (λ (b : Option Bound). is_valid_standing_vector plan c.loop-pool.pool b) same in
    fails_here test plan.pools c.loop-pool.pool _ inside (sym is_test ∙ c.if-not-is_valid_standing_vector.true) c.loop-pool.invariant

pub returns-clause-refuses_nothing : goal.returns-clause-refuses_nothing
returns-clause-refuses_nothing c = λ _.
    let stand = passed_all c.args.plan.now c.args.cert.now c.loop-pool.pool c.requires (rw (← c.pools-pool-end.ensures.value) (omega arith)) c.loop-pool.invariant in
    standing_refuses_nothing c.args.plan.now c.args.cert.now c.pools-pool-end.ensures.well_formed stand

pub returns-clause-java_refuses_nothing : goal.returns-clause-java_refuses_nothing
returns-clause-java_refuses_nothing c = λ _.
    let stand = passed_all c.args.plan.now c.args.cert.now c.loop-pool.pool c.requires (rw (← c.pools-pool-end.ensures.value) (omega arith)) c.loop-pool.invariant in
    standing_java_refuses_nothing c.args.plan.now c.args.cert.now c.pools-pool-end.ensures.well_formed stand
