-- Totals are small enough that their sums do not overflow.
use Rattle.std.proofs.Common.{◌≡◌, ◌≤◌, ◌+◌, ◌*◌, ℕ, true, ◌&&◌, List, [], ◌∷◌, length, sum_by, arith}
use Rattle.std.specs.List.{list_all, enumerate_from}
use Rattle.std.proofs.lemmas.Bool.{and_parts}
use Rattle.std.proofs.lemmas.List.Sums.{sum_by-cons}
use Rattle.std.proofs.lemmas.Nat.{mul-le}
use Rattle.job_bodies.specs.declared.limits.TheConstants.{MAX_POOLS, MAX_CLIENT_KINDS, MAX_SIZE, MAX_THREADS, MAX_WEIGHT}
use Rattle.job_bodies.specs.Plan.{Pool, Client, Plan}
use Rattle.job_bodies.specs.WellFormed.{is_valid_name, is_within, has_valid_sizes, is_valid_body, is_valid_client, IsWellFormed}
use Rattle.job_bodies.proofs.Bodies.{within_bounds}
use Rattle.weights.specs.Vector.{Vector, workers_weight, client_weight, vector_fits, total}
use Rattle.weights.proofs.Fitting.{fits}
use Rattle.size_search.proofs.Changes.{has_sizes, max_bounded, all_sized}

pools_bounded : (v : Vector) (n : ℕ) (pools : List Pool) → ((p : ℕ) → workers_weight v p ≤ MAX_WEIGHT) → list_all has_valid_sizes pools ≡ true
    → sum_by (λ (entry : ℕ × Pool). workers_weight v entry.0 * entry.1.max) (enumerate_from n pools) ≤ length pools * (MAX_WEIGHT * MAX_THREADS)
pools_bounded v n [] small sized = omega arith
pools_bounded v n (pool ∷ pools) small sized =
    let parts = and_parts (has_valid_sizes pool) (list_all has_valid_sizes pools) sized in
    let first = mul-le (workers_weight v n) pool.max MAX_WEIGHT MAX_THREADS (small n) (max_bounded pool (has_sizes pool parts.0).most_max) in
    omega (arith, sum_by-cons (λ (entry : ℕ × Pool). workers_weight v entry.0 * entry.1.max) (n, pool) (enumerate_from (n + 1) pools), pools_bounded v (n + 1) pools small parts.1)

clients_bounded : (plan : Plan) (v : Vector) (n : ℕ) (clients : List Client) → ((c : ℕ) → client_weight v c 0 ≤ MAX_WEIGHT) → list_all (is_valid_client plan) clients ≡ true
    → sum_by (λ (entry : ℕ × Client). entry.1.count * client_weight v entry.0 0) (enumerate_from n clients) ≤ length clients * (MAX_SIZE * MAX_WEIGHT)
clients_bounded plan v n [] small valid = omega arith
clients_bounded plan v n (client ∷ clients) small valid =
    let parts = and_parts (is_valid_client plan client) (list_all (is_valid_client plan) clients) valid in
    let front = and_parts (is_valid_name client.name && is_within 1 MAX_SIZE client.count) (is_valid_body (length plan.classes) client.body) parts.0 in
    let count = (within_bounds 1 MAX_SIZE client.count (and_parts (is_valid_name client.name) (is_within 1 MAX_SIZE client.count) front.0).1).1 in
    let first = mul-le client.count (client_weight v n 0) MAX_SIZE MAX_WEIGHT count (small n) in
    omega (arith, sum_by-cons (λ (entry : ℕ × Client). entry.1.count * client_weight v entry.0 0) (n, client) (enumerate_from (n + 1) clients), clients_bounded plan v (n + 1) clients small parts.1)

pub total_bounded : (plan : Plan) (v : Vector) → IsWellFormed plan → vector_fits plan v ≡ true → total plan v ≤ MAX_CLIENT_KINDS * (MAX_SIZE * MAX_WEIGHT) + MAX_POOLS * (MAX_WEIGHT * MAX_THREADS)
total_bounded plan v well all =
    let f = fits plan v all in
    let of_clients = clients_bounded plan v 0 plan.clients (λ c. f.small_client c 0) well.clients in
    let of_pools = pools_bounded v 0 plan.pools f.small_worker (all_sized plan.pools well.pools) in
    omega (arith, well.few_clients, well.few_pools)
