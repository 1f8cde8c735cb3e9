-- The steady certificate of a plan. One vector is the standing and the blocked vector of every pool, with these exceptions:
--
-- - A pool that may reject jobs or has an unbounded queue needs no standing vector, and has none.
-- - If the core threads of a pool may time out, its blocked vector is 0, and the ranks are such that none of its gets is counted.
--   But if a weight is above the limit, its blocked vector is the one vector, so that the certificate accepts no plan with a
--   pool.
--
-- In the vector, an actor ends with enough weight for all jobs that it has open at once, and a get returns the weight of the done
-- job.
use Rattle.std.specs.Prelude.{ℕ, zero, suc, ◌+◌, ◌-◌, max, ◌&&◌, Bool, true, false, if◌then◌else◌, List, [], ◌∷◌, ◌++◌, length, map, take, drop, replicate, Option, Some, None, slice_get}
use Rattle.std.specs.List.{list_any}
use Rattle.job_bodies.specs.declared.action.Action.{Action}
use Rattle.job_bodies.specs.declared.action.Action.TheVariants.{Work, Submit, Get}
use Rattle.job_bodies.specs.Plan.{Pool, Class, Client, Plan, needs_no_bound, has_get_of, submitted_class}
use Rattle.weights.specs.declared.bound.Bound.{Bound}
use Rattle.weights.specs.declared.bound.Bound.TheVariants.{Standing}
use Rattle.weights.specs.Vector.{Vector, queued_weight, done_weight, total, has_small_numbers}
use Rattle.weights.specs.Ranks.{Ranks}
use Rattle.cert_text.specs.Cert.{PoolCert, Cert}
use Rattle.size_search.specs.Levels.{levels_of}
use Rattle.size_search.specs.JobGraphs.{submit_graph, all_marks, wait_graph}

-- ---- open jobs of a body

-- the sum of f over the numbers below n
abbrev pub sum_below : (ℕ → ℕ) → ℕ → ℕ
sum_below f zero = 0
sum_below f (suc n) = sum_below f n + f n

-- the greatest value of f over the numbers up to n
abbrev pub greatest_upto : (ℕ → ℕ) → ℕ → ℕ
greatest_upto f zero = f 0
greatest_upto f (suc n) = max (greatest_upto f n) (f (suc n))

-- the queued weight of the job that an action submits, or 0 if the action submits none
abbrev pub submitted_weight : Vector → Option Action → ℕ
submitted_weight v (Some (Submit k)) = queued_weight v k
submitted_weight v (Some (Work u)) = 0
submitted_weight v (Some (Get t)) = 0
submitted_weight v None = 0

-- the queued weight of the job that is submitted at position s, or 0 if no action at position i or later gets this job
abbrev pub awaited_weight : Vector → List Action → ℕ → ℕ → ℕ
awaited_weight v body i s = if has_get_of (drop i body) s then submitted_weight v (slice_get body s) else 0

-- the weight of all jobs that are open at position i. A job is open if it is submitted before i, and got at i or later.
abbrev pub open_weight : Vector → List Action → ℕ → ℕ
open_weight v body i = sum_below (awaited_weight v body i) i

-- the largest weight that the open jobs have together at a position of the body
abbrev pub most : Vector → List Action → ℕ
most v body = greatest_upto (open_weight v body) (length body)

-- ---- the weights of an actor, computed from the end of its body

-- the weight before an action, from the weight after it. A submit adds the weight of the queued job. A get subtracts the weight
-- of the done job, but the result is at least `least`.
abbrev pub weight_before : Plan → Vector → ℕ → List Action → Action → ℕ → ℕ
weight_before plan v least body (Work u) behind = behind
weight_before plan v least body (Submit k) behind = behind + queued_weight v k
weight_before plan v least body (Get t) behind = max least (behind - done_weight plan v (submitted_class body t))

-- the weight at the start of this suffix of the body
abbrev pub weight_at : Plan → Vector → ℕ → List Action → ℕ → List Action → ℕ
weight_at plan v least body last [] = last
weight_at plan v least body last (x ∷ rest) = weight_before plan v least body x (weight_at plan v least body last rest)

-- the weight at each position of this suffix of the body, and at its end
abbrev pub weights_from : Plan → Vector → ℕ → List Action → ℕ → List Action → List ℕ
weights_from plan v least body last [] = last ∷ []
weights_from plan v least body last (x ∷ rest) = weight_at plan v least body last (x ∷ rest) ∷ weights_from plan v least body last rest

-- ---- the rows of the vector

-- the weight of a job at its end: 1 more than the largest weight of all its open jobs at a position. So the job weighs at least 1
-- in every state.
abbrev pub job_end : Vector → List Action → ℕ
job_end v body = most v body + 1

-- the weights of a job when queued, at each position, and when done
abbrev pub class_row : Plan → Vector → List Action → List ℕ
class_row plan v body = weight_at plan v 1 body (job_end v body) body ∷ (weights_from plan v 1 body (job_end v body) body ++ job_end v body ∷ [])

-- the weight of a client at its end: a client that does not repeat needs none
abbrev pub client_end : Vector → Client → ℕ
client_end v client = if client.repeat then most v client.body else 0

abbrev pub client_row : Plan → Vector → Client → List ℕ
client_row plan v client = weights_from plan v 0 client.body (client_end v client) client.body

-- the weights of jobs, if submits are followed for at most n steps
abbrev pub jobs_within : Plan → ℕ → Vector
jobs_within plan zero = record { workers = []; classes = []; clients = [] }
jobs_within plan (suc n) = record { workers = []; classes = map (λ (class : Class). class_row plan (jobs_within plan n) class.body) plan.classes; clients = [] }

-- the weights of jobs. If no class submits itself, it is enough to follow submits for as many steps as there are classes.
abbrev pub jobs : Plan → Vector
jobs plan = jobs_within plan (length plan.classes)

abbrev pub steady_vector : Plan → Vector
steady_vector plan = record {
  workers = map (λ (pool : Pool). 0) plan.pools;
  classes = (jobs plan).classes;
  clients = map (client_row plan (jobs plan)) plan.clients;
}

abbrev pub steady_total : Plan → ℕ
steady_total plan = total plan (steady_vector plan)

-- ---- levels, ranks and reaches

abbrev pub steady_levels : Plan → List ℕ
steady_levels plan = levels_of (submit_graph plan)

-- whether the core threads of some pool may time out
abbrev pub has_core_timeouts : Plan → Bool
has_core_timeouts plan = list_any (λ (pool : Pool). pool.core_timeout) plan.pools

-- the levels of the graph of waits in which each class is marked
abbrev pub levels_of_waits : Plan → List ℕ
levels_of_waits plan = levels_of (wait_graph plan (all_marks plan))

-- the reach of each class, and then the rank of each pool. They are the levels in the graph of waits, or all 0 if there is no
-- pool whose core threads may time out.
abbrev pub wait_levels : Plan → List ℕ
wait_levels plan = if has_core_timeouts plan then levels_of_waits plan else replicate (length plan.classes + length plan.pools) 0

abbrev pub steady_ranks : Plan → Ranks
steady_ranks plan = record {
  pools = drop (length plan.classes) (wait_levels plan);
  reach = take (length plan.classes) (wait_levels plan);
  levels = steady_levels plan;
}

-- ---- the certificate

-- the list with each number replaced by 0
abbrev pub zeros : List ℕ → List ℕ
zeros numbers = replicate (length numbers) 0

-- the vector with each weight replaced by 0
abbrev pub zero_vector : Vector → Vector
zero_vector v = record { workers = zeros v.workers; classes = map zeros v.classes; clients = map zeros v.clients }

-- a list of weights of the blocked vector: all 0 if the flag is true, and otherwise the list
abbrev pub copied_row : Bool → List ℕ → List ℕ
copied_row true row = zeros row
copied_row false row = row

-- the blocked vector of a pool: all 0 if the flag is true, which says that none of its gets is counted, and otherwise the vector
abbrev pub blocked_of : Vector → Bool → Vector
blocked_of v true = zero_vector v
blocked_of v false = v

-- the vector as the bound of a pool; none if the flag is true, which says that the pool needs no bound
abbrev pub bound_of : Vector → Bool → Option Bound
bound_of v true = None
bound_of v false = Some (Standing v)

-- the part of the certificate for a pool. If the first flag is true, the pool needs no bound. If the second is true, none of its
-- gets is counted.
abbrev pub part_of : Vector → Bool → Bool → PoolCert
part_of v boundless uncounted = record { bound = bound_of v boundless; blocked = blocked_of v uncounted }

-- the part of the certificate for a pool. The vector is the bound of the pool if it needs one, and its blocked vector unless its
-- core threads may time out.
abbrev pub pool_of : Vector → Pool → PoolCert
pool_of v pool = part_of v (needs_no_bound pool) (pool.core_timeout && has_small_numbers v)

abbrev pub steady_pool : Plan → Pool → PoolCert
steady_pool plan pool = pool_of (steady_vector plan) pool

abbrev pub steady_cert : Plan → Cert
steady_cert plan = record { pools = map (steady_pool plan) plan.pools; ranks = steady_ranks plan }
