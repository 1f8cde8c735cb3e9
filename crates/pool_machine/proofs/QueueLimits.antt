-- Lemmas about the number of jobs that a queue can hold.
use Rattle.std.proofs.Common.{◌≡◌, ℕ, zero, suc, ◌+◌, ◌<◌, ◌≤◌, Bool, true, false, cond, refl, ap, arith}
use Rattle.std.proofs.lemmas.Bool.{ne_eqb}
use Rattle.pool_machine.specs.PoolState.{queue_limit, room_limit}

-- the limit of a bounded queue with a capacity of at least 1 is this capacity
limit-suc : (n idle : ℕ) → queue_limit (suc n) idle ≡ suc n
limit-suc n idle = ap (λ (b : Bool). cond b idle (suc n)) (ne_eqb (suc n) 0 (λ (same : suc n ≡ 0). omega arith))

-- a queue can hold at least as many jobs as its capacity
pub capacity-le : (capacity idle : ℕ) → capacity ≤ queue_limit capacity idle
capacity-le zero idle = omega arith
capacity-le (suc n) idle = omega (arith, limit-suc n idle)

-- a queue that did not become longer is still within its limit. If it is bounded with capacity 0, each of its jobs must have an idle worker
pub still_within : (unbounded : Bool) (capacity idle idle' n n' : ℕ) → n ≤ room_limit unbounded capacity idle n → n' ≤ n → (unbounded ≡ false → capacity ≡ 0 → n ≤ idle → n' ≤ idle') → n' ≤ room_limit unbounded capacity idle' n'
still_within true capacity idle idle' n n' within shorter each = omega arith
still_within false zero idle idle' n n' within shorter each = each refl refl within
still_within false (suc capacity) idle idle' n n' within shorter each = omega (arith, limit-suc capacity idle, limit-suc capacity idle')

-- a queue with room is within its limit after one more job
pub room_for_one : (unbounded : Bool) (capacity idle n : ℕ) → n < room_limit unbounded capacity idle n → n + 1 ≤ room_limit unbounded capacity idle (n + 1)
room_for_one true capacity idle n room = omega arith
room_for_one false capacity idle n room = omega (arith, room)

-- a queue without room is bounded, and the number of its jobs is at least its capacity
pub no_room_means : (unbounded : Bool) (capacity idle n : ℕ) → room_limit unbounded capacity idle n ≤ n → (unbounded ≡ false) × (capacity ≤ n)
no_room_means true capacity idle n none = absurd (omega (arith, none))
no_room_means false capacity idle n none = (refl, omega (arith, none, capacity-le capacity idle))

-- a bounded queue that is within its limit has at most as many jobs as its capacity, or as workers are idle if its capacity is 0
pub bounded_within : (unbounded : Bool) (capacity idle n : ℕ) → n ≤ room_limit unbounded capacity idle n → unbounded ≡ false → n ≤ queue_limit capacity idle
bounded_within true capacity idle n within bounded = cc
bounded_within false capacity idle n within bounded = within
