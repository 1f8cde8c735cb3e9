-- Queue capacities that are enough for the pools of a plan, by the bounds of a certificate.
use Rattle.std.specs.Prelude.{ℕ, Bool, not, ◌&&◌, ◌||◌, ◌==◌, nat_le, List, slice_index, map, if◌then◌else◌, Option, Some, None}
use Rattle.std.specs.List.{list_all, enumerate_from}
use Rattle.job_bodies.specs.Plan.{Pool, Class, Plan, pool_at}
use Rattle.job_bodies.specs.WellFormed.{has_no_max}
use Rattle.weights.specs.Vector.{Vector, vector_fits, workers_weight, class_weights, total}
use Rattle.weights.specs.Bound.{bound_vector}
use Rattle.weights.specs.declared.bound.Bound.{Bound}
use Rattle.weights.specs.declared.bound.Bound.TheVariants.{Standing, Lifetime}
use Rattle.cert_text.specs.Cert.{PoolCert, Cert}

-- the total of a vector; None if the vector does not fit the plan
abbrev pub total_of : Plan → Vector → Option ℕ
total_of plan v = if vector_fits plan v then Some (total plan v) else None

-- ---- bounds of unbounded queues

-- the weight of a queued job is at least 1; it is the first of the weights of a class
abbrev pub counts_queued : List ℕ → Bool
counts_queued weights = nat_le 1 (slice_index weights 0)

-- each job of class k has a weight of at least 1: in a standing vector while it is queued, in a lifetime vector always
abbrev pub counts_class : Bound → ℕ → Bool
counts_class (Standing v) k = counts_queued (class_weights v k)
counts_class (Lifetime v) k = list_all (nat_le 1) (class_weights v k)

-- the class does not belong to pool p, or `counts_class` holds for it
abbrev pub counts_if_of : ℕ → Bound → ℕ × Class → Bool
counts_if_of p bound entry = not (entry.1.pool == p) || counts_class bound entry.0

-- the pool has a maximum, or the vector gives its threads no weight
abbrev pub has_finite_share : Vector → ℕ × Pool → Bool
has_finite_share v (p, pool) = not (has_no_max pool) || workers_weight v p == 0

-- the vector gives no weight to the threads of a pool without a maximum
abbrev pub has_finite_total : Plan → Vector → Bool
has_finite_total plan v = list_all (has_finite_share v) (enumerate_from 0 plan.pools)

-- the vector of the bound fits the plan, and gives no weight to the threads of a pool without a maximum. `counts_class` holds for
-- each class of pool p
abbrev pub counts_jobs : Plan → ℕ → Bound → Bool
counts_jobs plan p bound =
    vector_fits plan (bound_vector bound) && has_finite_total plan (bound_vector bound) && list_all (counts_if_of p bound) (enumerate_from 0 plan.classes)

-- the total of this bound limits the number of jobs of pool p. If the queue of p is bounded, the conditions on the bound demand
-- this. If it is unbounded, they do not, so `counts_jobs` must hold
abbrev pub bounds_jobs : Plan → ℕ → Bound → Bool
bounds_jobs plan p bound = not (pool_at plan p).unbounded || counts_jobs plan p bound

-- ---- the number of places

-- the number of queue places that are enough for pool p by this bound: the total of a standing vector. None if the vector is a
-- lifetime vector, if it does not fit the plan, or if its total does not limit the jobs in an unbounded queue
abbrev pub places_of_bound : Plan → ℕ → Bound → Option ℕ
places_of_bound plan p (Standing v) = if bounds_jobs plan p (Standing v) then total_of plan v else None
places_of_bound plan p (Lifetime v) = None

-- the number of queue places that are enough for pool p by its bound; None if it has no bound
abbrev pub places_of : Plan → ℕ → Option Bound → Option ℕ
places_of plan p None = None
places_of plan p (Some bound) = places_of_bound plan p bound

abbrev pub places_in : Plan → ℕ × PoolCert → Option ℕ
places_in plan (p, part) = places_of plan p part.bound

-- for each pool of the certificate, the number of queue places that are enough; None if it is not known
abbrev pub needed_places : Plan → Cert → List (Option ℕ)
needed_places plan cert = map (places_in plan) (enumerate_from 0 cert.pools)
