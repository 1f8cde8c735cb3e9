-- The shares in the total of a vector. The share of a client kind is the weight of its clients before their first action. The
-- share of a pool is the weight of its threads.
use Rattle.std.specs.Prelude.{ℕ, ◌*◌, List, map}
use Rattle.std.specs.List.{enumerate_from}
use Rattle.job_bodies.specs.Plan.{Plan}
use Rattle.weights.specs.Vector.{Vector, client_weight, workers_weight}

-- the share of each client kind
abbrev pub client_shares : Plan → Vector → List ℕ
client_shares plan v = map (λ entry. entry.1.count * client_weight v entry.0 0) (enumerate_from 0 plan.clients)

-- for each pool, the weight of its threads when it has its maximum of threads
abbrev pub worker_shares : Plan → Vector → List ℕ
worker_shares plan v = map (λ entry. workers_weight v entry.0 * entry.1.max) (enumerate_from 0 plan.pools)
