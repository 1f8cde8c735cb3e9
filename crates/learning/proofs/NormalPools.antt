-- A learned pool with an unbounded queue has the largest size as its queue, and core as its maximum unless core threads may time out.
use Rattle.std.proofs.Common.{◌≡◌, ◌==◌, ◌||◌, ℕ, ◌+◌, Bool, true, false, cond, not, nat_lt, List, [], ◌∷◌, map, refl, ap, ap₂, sym, subst}
use Rattle.std.specs.Prelude.{⊤}
use Rattle.std.specs.List.{cons_option, enumerate_from, filter, filter_map}
use Rattle.job_bodies.specs.declared.limits.TheConstants.{MAX_SIZE, MAX_THREADS}
use Rattle.job_bodies.specs.Plan.{Pool}
use Rattle.recordings.specs.declared.pool_sizes.PoolSizes.{PoolSizes}
use Rattle.recordings.specs.PoolSizes.{has_unbounded_queue}
use Rattle.recordings.specs.RecordingLine as line
use Rattle.recordings.specs.RecordingLine.{RecordedLine}
use Rattle.conformance.specs.RejectingPools.{with_key, only_rejects}
use Rattle.conformance.specs.Sizes.{is_synchronous}
use Rattle.learning.specs.Pools.{into_range, has_core_threads, least_capacity, normal_pool, recorded_pool, pool_of_line, has_other_name, firsts, recorded_pools, LearnedPoolsAreNormal}

-- Each pool is its own `normal_pool`: it has the sizes that the text of a plan gives it.
abbrev AreNormal : List Pool → Type 0
AreNormal [] = ⊤
AreNormal (pool ∷ pools) = (normal_pool pool ≡ pool) × AreNormal pools

-- ---- the pools of a recording
abbrev pool_of_sizes : List ℕ → ℕ → ℕ → ℕ → ℕ → Bool → Bool → Bool → Bool → Pool
pool_of_sizes name core used max queue prestart may unbounded timeout = record {
  name = name;
  core = core;
  max = cond unbounded (cond (not timeout) core used) max;
  queue = cond unbounded MAX_SIZE queue;
  prestart = prestart;
  may_reject = may;
  unbounded = unbounded;
  core_timeout = timeout;
}

sizes_are_normal : (name : List ℕ) (core used max queue : ℕ) (prestart may unbounded timeout : Bool)
    → normal_pool (pool_of_sizes name core used max queue prestart may unbounded timeout) ≡ pool_of_sizes name core used max queue prestart may unbounded timeout
sizes_are_normal name core used max queue prestart may true true = refl
sizes_are_normal name core used max queue prestart may true false = refl
sizes_are_normal name core used max queue prestart may false timeout = refl

recorded_is_normal : (name : List ℕ) (sizes : PoolSizes) → normal_pool (recorded_pool name sizes) ≡ recorded_pool name sizes
recorded_is_normal name sizes =
    let core = into_range 1 sizes.core in
    let max = into_range core sizes.max in
    sizes_are_normal name core (cond (nat_lt MAX_SIZE sizes.max) MAX_THREADS max) max (into_range (least_capacity sizes) sizes.capacity) (has_core_threads sizes) (is_synchronous sizes.queue) (has_unbounded_queue sizes) sizes.timeout

one_more : (one : RecordedLine) (pools : List Pool) → AreNormal pools → AreNormal (cons_option (pool_of_line one) pools)
one_more (line.Pool name sizes) pools normal = (recorded_is_normal name sizes, normal)
one_more other pools normal = normal

lines_are_normal : (lines : List RecordedLine) → AreNormal (filter_map pool_of_line lines)
lines_are_normal [] = tt
lines_are_normal (one ∷ lines) = one_more one (filter_map pool_of_line lines) (lines_are_normal lines)

kept_if : (kept : Bool) (pool : Pool) (pools : List Pool) → normal_pool pool ≡ pool → AreNormal pools → AreNormal (cond kept (pool ∷ pools) pools)
kept_if true pool pools one normal = (one, normal)
kept_if false pool pools one normal = normal

kept_are_normal : (test : Pool → Bool) (pools : List Pool) → AreNormal pools → AreNormal (filter test pools)
kept_are_normal test [] normal = tt
kept_are_normal test (pool ∷ pools) normal = kept_if (test pool) pool (filter test pools) normal.0 (kept_are_normal test pools normal.1)

firsts_are_normal : (pools : List Pool) → AreNormal pools → AreNormal (firsts pools)
firsts_are_normal [] normal = tt
firsts_are_normal (pool ∷ pools) normal = (normal.0, kept_are_normal (has_other_name pool) (firsts pools) (firsts_are_normal pools normal.1))

recorded_are_normal : (lines : List RecordedLine) → AreNormal (recorded_pools lines)
unfolding recorded_pools
recorded_are_normal lines = firsts_are_normal (filter_map pool_of_line lines) (lines_are_normal lines)

-- ---- the key `may_reject`
keyed_if : (key : Bool) (pool : Pool) (unbounded : Bool) → cond unbounded (record pool { max = cond pool.core_timeout pool.max pool.core; queue = MAX_SIZE }) pool ≡ pool
    → cond unbounded (record (with_key key pool) { max = cond pool.core_timeout pool.max pool.core; queue = MAX_SIZE }) (with_key key pool) ≡ with_key key pool
keyed_if key pool true normal = ap (λ (one : Pool). record one { may_reject = key || pool.queue == 0 }) normal
keyed_if key pool false normal = refl

abbrev key_by : (ℕ → Bool) → ℕ × Pool → Pool
key_by rejects (number, pool) = with_key (rejects number) pool

keyed_are_normal : (rejects : ℕ → Bool) (first : ℕ) (pools : List Pool) → AreNormal pools → map normal_pool (map (key_by rejects) (enumerate_from first pools)) ≡ map (key_by rejects) (enumerate_from first pools)
keyed_are_normal rejects first [] normal = refl
keyed_are_normal rejects first (pool ∷ pools) normal = ap₂ (λ (one : Pool) (others : List Pool). one ∷ others) (keyed_if (rejects first) pool pool.unbounded normal.0) (keyed_are_normal rejects (first + 1) pools normal.1)

-- The law that each learned pool is its own `normal_pool`.
pub learned_pools_are_normal : LearnedPoolsAreNormal
learned_pools_are_normal plan lines is = keyed_are_normal (only_rejects plan lines) 0 plan.pools (subst AreNormal (sym is) (recorded_are_normal lines))
