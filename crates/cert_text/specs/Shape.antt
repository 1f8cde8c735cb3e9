-- The shape of the JSON value of a certificate, in each version: the value at each key, and the length of each list.
use Rattle.std.specs.Prelude.{ℕ, List, length, codes, Option, Some, None, Result, Ok}
use Rattle.serde_json.specs.Data.{Data}
use Rattle.serde_json.specs.Find.{get}
use Rattle.support.specs.Reading.{◌>>=◌, ensure, read_each}
use Rattle.job_bodies.specs.Plan.{Plan, pool_at, needs_no_bound}
use Rattle.weights.specs.declared.bound.Bound.{Bound}
use Rattle.weights.specs.declared.bound.Bound.TheVariants.{Standing, Lifetime}
use Rattle.weights.specs.Ranks.{Ranks}
use Rattle.cert_text.specs.Cert.{PoolCert, Cert}
use Rattle.cert_text.specs.declared.fault.CertFault.{CertFault}
use Rattle.cert_text.specs.declared.version.Version.{Version}
use Rattle.cert_text.specs.declared.version.Version.TheVariants.{One, Two}
use Rattle.cert_text.specs.Values.{wrong_shape, elements_of, check_keys, value_at}
use Rattle.cert_text.specs.Vectors.{numbers_of, vector_of}

-- the value as a standing vector
unfoldable pub standing_of : Plan → Data → Result (Option Bound) CertFault
standing_of plan value = vector_of plan value >>= λ vector. Ok (Some (Standing vector))

-- the value as a lifetime vector
unfoldable pub lifetime_of : Plan → Data → Result (Option Bound) CertFault
lifetime_of plan value = vector_of plan value >>= λ vector. Ok (Some (Lifetime vector))

-- None as the bound of pool p; a fault if the pool needs a bound
unfoldable pub no_bound_of : Plan → ℕ → Result (Option Bound) CertFault
no_bound_of plan p = ensure (needs_no_bound (pool_at plan p)) wrong_shape >>= λ _. Ok None

-- the bound of pool p, given the values at the keys `lifetime` and `standing`. If there is a value at `lifetime`, the bound is
-- a lifetime vector. Otherwise, if there is a value at `standing`, it is a standing vector. If there is neither, pool p has no
-- bound.
abbrev pub either_of : Plan → ℕ → Option Data → Option Data → Result (Option Bound) CertFault
either_of plan p (Some value) standing = lifetime_of plan value
either_of plan p None (Some value) = standing_of plan value
either_of plan p None None = no_bound_of plan p

-- the bound of pool p, from the pool's object; in version 1 each pool has a standing vector
abbrev pub bound_of : Version → Plan → ℕ → Data → Result (Option Bound) CertFault
bound_of One plan p pool = value_at (codes "standing") pool >>= λ value. standing_of plan value
bound_of Two plan p pool = either_of plan p (get (codes "lifetime") pool) (get (codes "standing") pool)

-- the number of keys that a pool's object has if this is its bound
abbrev pub keys_with : Option Bound → ℕ
keys_with None = 1
keys_with (Some bound) = 2

-- the part of pool p, from its object; a fault if the object has a key other than those of its vectors
unfoldable pub pool_of : Version → Plan → ℕ → Data → Result PoolCert CertFault
pool_of version plan p pool =
    bound_of version plan p pool >>= λ bound.
    check_keys (keys_with bound) pool >>= λ _.
    value_at (codes "blocked") pool >>= λ blocked. vector_of plan blocked >>= λ blocked.
    Ok (record { bound = bound; blocked = blocked })

unfoldable pub pools_of : Version → Plan → Data → Result (List PoolCert) CertFault
pools_of version plan value = elements_of (length plan.pools) value >>= λ pools. read_each (pool_of version plan) 0 pools

unfoldable pub ranks_of : Plan → Data → Result Ranks CertFault
ranks_of plan value =
    check_keys 3 value >>= λ _.
    value_at (codes "pools") value >>= λ pools. numbers_of (length plan.pools) pools >>= λ pools.
    value_at (codes "reach") value >>= λ reach. numbers_of (length plan.classes) reach >>= λ reach.
    value_at (codes "levels") value >>= λ levels. numbers_of (length plan.classes) levels >>= λ levels.
    Ok (record { pools = pools; reach = reach; levels = levels })

-- the certificate of the JSON value, whose keys are `pools`, `ranks` and `version`
unfoldable pub shape_of : Version → Plan → Data → Result Cert CertFault
shape_of version plan value =
    check_keys 3 value >>= λ _.
    value_at (codes "pools") value >>= λ pools. pools_of version plan pools >>= λ pools.
    value_at (codes "ranks") value >>= λ ranks. ranks_of plan ranks >>= λ ranks.
    Ok (record { pools = pools; ranks = ranks })
