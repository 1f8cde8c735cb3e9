-- The earlier pools passed, so the tests of the remaining pools give the result.
use Rattle.std.proofs.Common.{◌≡◌, ℕ, Bool}
use Rattle.cert_text.specs.Cert.{pool_cert_at}
use Rattle.cert_check.specs.Standing.{is_valid_standing_vector}
use Rattle.cert_check.proofs.Pools.{rest_passes}
use Rattle.cert_check.proofs.acceptance.has_valid_standing_vectors.Given as goal

abbrev pub invariant-loop-pool : goal.invariant-loop-pool
invariant-loop-pool l =
    let test : ℕ → Bool = λ p. is_valid_standing_vector l.plan p (pool_cert_at l.cert p).bound in
    rest_passes test l.plan.pools l.pool ≡ rest_passes test l.plan.pools 0
