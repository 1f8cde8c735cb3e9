-- The parts of a certificate that fits a plan.
use Rattle.std.proofs.Common.{◌≡◌, ℕ, ◌<◌, ◌&&◌, eqb, length, arith, zero-add}
use Rattle.std.specs.Prelude.{IsTrue}
use Rattle.std.specs.List.{list_all, enumerate_from}
use Rattle.std.proofs.lemmas.Bool.{and_parts, eqb-true}
use Rattle.std.proofs.lemmas.Option.{slice_get-get_or}
use Rattle.support.proofs.Members.{In-enumerate_from, list_all_at_In}
use Rattle.job_bodies.specs.Plan.{Plan}
use Rattle.weights.specs.Vector.{vector_fits}
use Rattle.weights.specs.Ranks.{ranks_fit}
use Rattle.cert_text.specs.Cert.{PoolCert, Cert, no_pool_cert, pool_cert_at, bound_fits, pool_cert_fits, cert_fits}

-- the certificate has as many parts as the plan has pools
pub as_many_parts : (plan : Plan) (cert : Cert) → IsTrue (cert_fits plan cert) → length cert.pools ≡ length plan.pools
as_many_parts plan cert fits =
    let count = eqb (length cert.pools) (length plan.pools) in
    let parts = and_parts (count && ranks_fit plan cert.ranks) (list_all (λ entry. pool_cert_fits plan entry.0 entry.1) (enumerate_from 0 cert.pools)) fits in
    eqb-true (length cert.pools) (length plan.pools) (and_parts count (ranks_fit plan cert.ranks) parts.0).0

-- the part of each pool fits the pool
pub pool_fits : (plan : Plan) (cert : Cert) (p : ℕ) → IsTrue (cert_fits plan cert) → p < length plan.pools → IsTrue (pool_cert_fits plan p (pool_cert_at cert p))
pool_fits plan cert p fits inside =
    let count = eqb (length cert.pools) (length plan.pools) in
    let parts = and_parts (count && ranks_fit plan cert.ranks) (list_all (λ entry. pool_cert_fits plan entry.0 entry.1) (enumerate_from 0 cert.pools)) fits in
    let within : p < length cert.pools = omega (arith, as_many_parts plan cert fits) in
    list_all_at_In (λ entry. pool_cert_fits plan entry.0 entry.1) parts.1
    (In-enumerate_from 0 cert.pools p (pool_cert_at cert p) p (slice_get-get_or cert.pools p no_pool_cert within) (zero-add p))

-- the bound and the blocked vector of the part fit pool p
pub record VectorsFit (plan : Plan) (p : ℕ) (pool : PoolCert) : Type 0 where
  pub bound : IsTrue (bound_fits plan p pool.bound)
  pub blocked : IsTrue (vector_fits plan pool.blocked)

-- the certificate has a part for each pool, each part fits its pool, and the ranks fit the plan
pub record PartsFit (plan : Plan) (cert : Cert) : Type 0 where
  pub as_many : length cert.pools ≡ length plan.pools
  pub ranks : IsTrue (ranks_fit plan cert.ranks)
  pub pools : (p : ℕ) → p < length plan.pools → VectorsFit plan p (pool_cert_at cert p)

pub parts_fit : (plan : Plan) (cert : Cert) → IsTrue (cert_fits plan cert) → PartsFit plan cert
parts_fit plan cert fits =
    let count = eqb (length cert.pools) (length plan.pools) in
    let parts = and_parts (count && ranks_fit plan cert.ranks) (list_all (λ entry. pool_cert_fits plan entry.0 entry.1) (enumerate_from 0 cert.pools)) fits in
    record {
      as_many = as_many_parts plan cert fits;
      ranks = (and_parts count (ranks_fit plan cert.ranks) parts.0).1;
      pools = λ p inside.
          let pool = pool_cert_at cert p in
          let both = and_parts (bound_fits plan p pool.bound) (vector_fits plan pool.blocked) (pool_fits plan cert p fits inside) in
          record { bound = both.0; blocked = both.1 };
    }
