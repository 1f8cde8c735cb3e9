-- The lists of receipts of a run, and the number of threads that a run has for a pool.
use Rattle.std.proofs.Common.{◌≡◌, ◌<◌, ◌≤◌, ◌+◌, ◌-◌, ℕ, Bool, true, false, cond, List, ◌++◌, length, take, drop, get_or, append_assoc, sym, ap, subst, ◌∙◌, arith}
use Rattle.std.specs.Prelude.{replicate}
use Rattle.std.specs.List.{enumerate_from, flat_map}
use Rattle.std.proofs.lemmas.List.{take_all, at_drop_more}
use Rattle.std.proofs.lemmas.Option.{slice_get-get_or, get_or_from_slice_get}
use Rattle.job_bodies.specs.declared.limits.TheConstants.{MAX_THREADS}
use Rattle.job_bodies.specs.Plan.{Pool, Plan, no_pool, pool_at}
use Rattle.job_bodies.specs.WellFormed.{IsWellFormed}
use Rattle.job_bodies.proofs.Bodies.{ordered, below_most_threads}
use Rattle.locked_runner.specs.Carriers.{needs_core_only, carriers}
use Rattle.locked_runner.specs.declared.owner.Owner.{Owner}
use Rattle.locked_runner.specs.declared.owner.Owner.TheVariants as owner
use Rattle.locked_runner.specs.Owner.{pool_lists}

-- the number of threads that a run has for a pool is at most its maximum
no_more_than_max : (pool : Pool) → pool.core ≤ pool.max → carriers pool ≤ pool.max
no_more_than_max pool low = of_case (needs_core_only pool)
  where
    of_case : (core_only : Bool) → cond core_only pool.core pool.max ≤ pool.max
    of_case true = low
    of_case false = omega arith

-- the number of threads that a run has for a pool of a well-formed plan is at most the greatest maximum
pub few_carriers : (plan : Plan) (pools : List Pool) (n : ℕ) (pool : Pool) → IsWellFormed plan → pools ≡ plan.pools → n < length pools → pool ≡ get_or pools n pool → carriers pool ≤ MAX_THREADS
few_carriers plan pools n pool w same inside is =
    let here : n < length plan.pools = subst (λ (ps : List Pool). n < length ps) same inside in
    let default : get_or plan.pools n pool ≡ pool_at plan n = get_or_from_slice_get plan.pools n (pool_at plan n) pool (slice_get-get_or plan.pools n no_pool here) in
    let item : pool ≡ pool_at plan n = is ∙ (ap (λ (ps : List Pool). get_or ps n pool) same ∙ default) in
    let bodies = ordered plan w in
    subst (λ (p : Pool). carriers p ≤ MAX_THREADS) (sym item)
    (omega (arith, no_more_than_max (pool_at plan n) (bodies.max n here), below_most_threads plan n bodies here))

-- the lists so far, followed by those of pool n and those of the later pools, are all lists
pub lists_grow : (pools : List Pool) (n len wanted : ℕ) (pool : Pool) (old new all : List Owner) → n < length pools → pool ≡ get_or pools n pool → len ≡ length old → wanted ≡ len + carriers pool
    → new ≡ take wanted old ++ replicate (wanted - len) (owner.Pool n)
    → old ++ flat_map pool_lists (enumerate_from n (drop n pools)) ≡ all → new ++ flat_map pool_lists (enumerate_from (n + 1) (drop (n + 1) pools)) ≡ all
lists_grow pools n len wanted pool old new all inside is length_is wanted_is new_is so_far =
    let rest = flat_map pool_lists (enumerate_from (n + 1) (drop (n + 1) pools)) in
    let number : wanted - len ≡ carriers pool = omega (arith, wanted_is) in
    let front : take wanted old ≡ old = take_all wanted old (omega (arith, wanted_is, length_is)) in
    let grown : new ≡ old ++ replicate (carriers pool) (owner.Pool n) = new_is ∙ (ap (λ (xs : List Owner). xs ++ replicate (wanted - len) (owner.Pool n)) front ∙ ap (λ (m : ℕ). old ++ replicate m (owner.Pool n)) number) in
    let split : flat_map pool_lists (enumerate_from n (drop n pools)) ≡ replicate (carriers (get_or pools n pool)) (owner.Pool n) ++ rest = at_drop_more (λ (ps : List Pool). flat_map pool_lists (enumerate_from n ps)) pools n pool inside in
    let next : flat_map pool_lists (enumerate_from n (drop n pools)) ≡ replicate (carriers pool) (owner.Pool n) ++ rest = split ∙ ap (λ (p : Pool). replicate (carriers p) (owner.Pool n) ++ rest) (sym is) in
    ap (λ (xs : List Owner). xs ++ rest) grown
    ∙ (append_assoc old (replicate (carriers pool) (owner.Pool n)) rest ∙ (sym (ap (λ (ys : List Owner). old ++ ys) next) ∙ so_far))
