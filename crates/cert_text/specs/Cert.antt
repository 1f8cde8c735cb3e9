-- Certificates. They have ranks and, for each pool, a blocked vector and a bound of the queue. A pool that may reject jobs or has an
-- unbounded queue needs no bound.
use Rattle.std.specs.Prelude.{ℕ, ◌==◌, ◌&&◌, Bool, List, [], length, slice_index_or, Option, Some, None}
use Rattle.std.specs.List.{list_all, enumerate_from}
use Rattle.job_bodies.specs.Plan.{Plan, pool_at, needs_no_bound}
use Rattle.weights.specs.declared.bound.Bound.{Bound}
use Rattle.weights.specs.Vector.{Vector, vector_fits}
use Rattle.weights.specs.Bound.{bound_vector}
use Rattle.weights.specs.Ranks.{Ranks, ranks_fit}

pub record PoolCert : Type 0 where
  pub bound : Option Bound
  pub blocked : Vector

pub record Cert : Type 0 where
  pub pools : List PoolCert
  pub ranks : Ranks

-- the vector in the default part, which is used for an index past the end of the list of pools
abbrev pub no_vector : Vector
no_vector = record { workers = []; classes = []; clients = [] }

abbrev pub no_pool_cert : PoolCert
no_pool_cert = record { bound = None; blocked = no_vector }

abbrev pub pool_cert_at : Cert → ℕ → PoolCert
pool_cert_at cert p = slice_index_or cert.pools p no_pool_cert

-- whether the bound fits pool p: its vector has the plan's shape and numbers within the limit; None fits only a pool that needs no bound
abbrev pub bound_fits : Plan → ℕ → Option Bound → Bool
bound_fits plan p None = needs_no_bound (pool_at plan p)
bound_fits plan p (Some bound) = vector_fits plan (bound_vector bound)

-- whether the bound of the part fits pool p, and its blocked vector has the plan's shape and numbers within the limit
abbrev pub pool_cert_fits : Plan → ℕ → PoolCert → Bool
pool_cert_fits plan p pool = bound_fits plan p pool.bound && vector_fits plan pool.blocked

-- whether the certificate has a part for each pool, each part fits its pool, and the ranks fit the plan
abbrev pub cert_fits : Plan → Cert → Bool
cert_fits plan cert = length cert.pools == length plan.pools && ranks_fit plan cert.ranks && list_all (λ entry. pool_cert_fits plan entry.0 entry.1) (enumerate_from 0 cert.pools)
