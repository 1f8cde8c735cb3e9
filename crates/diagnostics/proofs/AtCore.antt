-- A plan stays well-formed if maximums are lowered to the core sizes of their pools.
use Rattle.std.proofs.Common.{◌≡◌, ℕ, ◌<◌, Bool, true, false, cond, inl, List, length, ap, sym, subst, arith}
use Rattle.job_bodies.specs.Plan.{Pool, Plan, no_pool, pool_at}
use Rattle.job_bodies.specs.WellFormed.{IsWellFormed}
use Rattle.size_search.specs.Widened.{outline}
use Rattle.size_search.proofs.Shapes.{length-changed}
use Rattle.size_search.proofs.Numbered.{map-twice, changed_at}
use Rattle.size_search.proofs.Changes.{nameplate, well_formed_changed, HasSizes, sizes_at, sized_from_places}
use Rattle.diagnostics.specs.AtCore.{with_max_at_core, at_core}

outline-at_core : (plan : Plan) → outline (at_core plan) ≡ outline plan
outline-at_core plan = ap (λ (pools : List Pool). record plan { pools = pools }) (map-twice nameplate with_max_at_core plan.pools)

pool-at_core : (plan : Plan) (p : ℕ) → p < length plan.pools → pool_at (at_core plan) p ≡ with_max_at_core (pool_at plan p)
pool-at_core plan p inside = changed_at with_max_at_core plan.pools p no_pool no_pool inside

lowered_sizes : (pool : Pool) → HasSizes pool → HasSizes (with_max_at_core pool)
lowered_sizes pool sizes = of_case pool.core_timeout
  where
    of_case : (timeout : Bool) → HasSizes (record pool { max = cond timeout pool.max pool.core })
    of_case true = record {
      core = sizes.core;
      most_core = sizes.most_core;
      max = sizes.max;
      most_max = sizes.most_max;
      queue = sizes.queue;
      most_queue = sizes.most_queue;
    }
    of_case false = record {
      core = sizes.core;
      most_core = sizes.most_core;
      max = omega arith;
      most_max = inl sizes.most_core;
      queue = sizes.queue;
      most_queue = sizes.most_queue;
    }

pub at_core_is_well_formed : (plan : Plan) → IsWellFormed plan → IsWellFormed (at_core plan)
at_core_is_well_formed plan well = well_formed_changed plan (at_core plan) well (outline-at_core plan) (sized_from_places (at_core plan).pools each)
  where
    each : (p : ℕ) → p < length (at_core plan).pools → HasSizes (pool_at (at_core plan) p)
    each p there =
        let as_many = length-changed with_max_at_core plan.pools in
        let inside : p < length plan.pools = omega arith in
        subst HasSizes (sym (pool-at_core plan p inside)) (lowered_sizes (pool_at plan p) (sizes_at plan p well inside))
