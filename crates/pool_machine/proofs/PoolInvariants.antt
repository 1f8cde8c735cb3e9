-- Proofs that each event preserves the invariant of each pool.
use Rattle.std.proofs.Common.{◌≡◌, ◌≢◌, ℕ, suc, ◌+◌, ◌<◌, ◌≤◌, Bool, true, false, cond, inl, inr, List, [], ◌∷◌, ◌++◌, length, refl, sym, ap, subst, arith}
use Rattle.std.proofs.lemmas.Bool.{cases_eq}
use Rattle.std.proofs.lemmas.List.{length_push, get_or-set_same, get_or-set_other}
use Rattle.job_bodies.specs.Plan.{Plan, Pool, pool_at}
use Rattle.pool_machine.specs.State.{State, CreatedJob, PoolPart, no_pool_part, pool_part}
use Rattle.pool_machine.specs.PoolState.{room_limit}
use Rattle.pool_machine.proofs.QueueLimits.{still_within, room_for_one}
use Rattle.pool_machine.proofs.Events.{with_part}
use Rattle.pool_machine.proofs.StateInvariant.{PoolInvariant, places, busy_jobs}

pub same_pool : (pool : Pool) (part part' : PoolPart) (ns ns' : List ℕ) (busy busy' : ℕ) → part' ≡ part → ns' ≡ ns → busy' ≡ busy → PoolInvariant pool part ns busy → PoolInvariant pool part' ns' busy'
same_pool pool part part' ns ns' busy busy' same_part same_places same_busy kept = rw (same_part, same_places, same_busy) kept

-- a pool that had room for a thread still satisfies the invariant after one more job runs in it
pub started_pool : (pool : Pool) (part : PoolPart) (ns : List ℕ) (busy : ℕ) (here : Bool) → PoolInvariant pool part ns busy → (here ≡ true → part.idle + busy < pool.max) → PoolInvariant pool part ns (busy + cond here 1 0)
started_pool pool part ns busy true kept room =
    let below = room refl in
    record { queue = kept.queue; within_max = omega arith; within_queue = kept.within_queue }
started_pool pool part ns busy false kept room =
    record { queue = kept.queue; within_max = omega (arith, kept.within_max); within_queue = kept.within_queue }

pub queued_pool : (pool : Pool) (part : PoolPart) (ns : List ℕ) (busy n : ℕ) → PoolInvariant pool part ns busy → length part.queue < room_limit pool.unbounded pool.queue part.idle (length part.queue)
    → PoolInvariant pool (record { queue = part.queue ++ n ∷ []; idle = part.idle }) (ns ++ n ∷ []) busy
queued_pool pool part ns busy n kept room = record {
  queue = ap (λ (queue : List ℕ). queue ++ n ∷ []) kept.queue;
  within_max = kept.within_max;
  within_queue = rw (length_push part.queue n) (room_for_one pool.unbounded pool.queue part.idle (length part.queue) room);
}

pub taken_pool : (pool : Pool) (part : PoolPart) (ns ns' : List ℕ) (busy j : ℕ) (queue : List ℕ) (idle : ℕ) → PoolInvariant pool part ns busy → part.queue ≡ j ∷ queue → part.idle ≡ suc idle → queue ≡ ns'
    → PoolInvariant pool (record { queue = queue; idle = idle }) ns' (busy + 1)
taken_pool pool part ns ns' busy j queue idle kept is_queue is_idle others =
    let long : length part.queue ≡ suc (length queue) = ap length is_queue in
    record { queue = others; within_max = omega (arith, kept.within_max); within_queue = still_within pool.unbounded pool.queue part.idle idle (length part.queue) (length queue) kept.within_queue (omega arith) (λ bounded none each. omega arith) }

pub finished_pool : (pool : Pool) (part : PoolPart) (ns : List ℕ) (busy busy' : ℕ) → PoolInvariant pool part ns busy → busy' + 1 ≡ busy → PoolInvariant pool (record { queue = part.queue; idle = part.idle + 1 }) ns busy'
finished_pool pool part ns busy busy' kept fewer =
    record { queue = kept.queue; within_max = omega (arith, kept.within_max); within_queue = still_within pool.unbounded pool.queue part.idle (part.idle + 1) (length part.queue) (length part.queue) kept.within_queue (omega arith) (λ bounded none each. omega arith) }

pub retired_pool : (pool : Pool) (part : PoolPart) (ns : List ℕ) (busy idle : ℕ) → PoolInvariant pool part ns busy → part.idle ≡ suc idle
    → (pool.unbounded ≡ false → pool.queue ≡ 0 → length part.queue ≤ idle) → PoolInvariant pool (record { queue = part.queue; idle = idle }) ns busy
retired_pool pool part ns busy idle kept is_idle not_handed =
    record { queue = kept.queue; within_max = omega (arith, kept.within_max); within_queue = still_within pool.unbounded pool.queue part.idle idle (length part.queue) (length part.queue) kept.within_queue (omega arith) (λ bounded none each. not_handed bounded none) }

abbrev pub HasPoolInvariant : Plan → List CreatedJob → ℕ → PoolPart → Type 0
HasPoolInvariant plan jobs p part = PoolInvariant (pool_at plan p) part (places plan jobs p) (busy_jobs plan jobs p)

-- a property holds for all pools after a change of pool q, if it holds for the changed pool q and held for the others before
pub pools_with_part : (plan : Plan) (s : State) (q : ℕ) (queue : List ℕ) (idle : ℕ) (holds : ℕ → PoolPart → Type 0) → length s.pools ≡ length plan.pools
    → (q < length plan.pools → holds q (record { queue = queue; idle = idle }))
    → ((p : ℕ) → p < length plan.pools → p ≢ q → holds p (pool_part s p))
    → (p : ℕ) → p < length plan.pools → holds p (pool_part (with_part q queue idle s) p)
pools_with_part plan s q queue idle holds as_many here elsewhere p inside = elim (cases_eq p q) [
  | inl same ↦
      let exists : q < length plan.pools = omega arith in
      let is_part : pool_part (with_part q queue idle s) q ≡ record { queue = queue; idle = idle } = get_or-set_same s.pools q (record { queue = queue; idle = idle }) no_pool_part (omega arith) in
      let held : holds q (pool_part (with_part q queue idle s) q) = subst (holds q) (sym is_part) (here exists) in
      subst (λ (x : ℕ). holds x (pool_part (with_part q queue idle s) x)) (sym same) held
  | inr other ↦
      let is_part : pool_part (with_part q queue idle s) p ≡ pool_part s p = get_or-set_other s.pools q p (record { queue = queue; idle = idle }) no_pool_part other in
      subst (holds p) (sym is_part) (elsewhere p inside other)
]
