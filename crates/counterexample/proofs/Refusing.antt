-- A well-formed plan stays well-formed if one of its pools is replaced by its `refusing_pool`.
use Rattle.std.proofs.Common.{◌≡◌, ℕ, ◌<◌, ◌≤◌, max, Bool, true, ◌&&◌, ◌||◌, List, length, map, sym, ap, ◌∙◌, arith, refl}
use Rattle.std.specs.Prelude.{nat_lt}
use Rattle.std.specs.List.{list_all}
use Rattle.std.proofs.Math.Seq.{map-set_same}
use Rattle.std.proofs.lemmas.Bool.{and_parts, and_from, le-leb}
use Rattle.std.proofs.lemmas.List.{length-set}
use Rattle.std.proofs.lemmas.List.Folds.{list_all-map}
use Rattle.support.proofs.Members.{list_all_at_In, In-get_or}
use Rattle.job_bodies.specs.declared.limits.TheConstants.{MAX_SIZE}
use Rattle.job_bodies.proofs.Bodies.{ordered}
use Rattle.job_bodies.specs.Plan.{Pool, Class, Plan, no_pool, pool_at}
use Rattle.job_bodies.specs.WellFormed.{is_valid_name, is_within, least_queue, has_no_max, has_valid_sizes, is_valid_pool, is_valid_body, are_distinct, IsWellFormed}
use Rattle.counterexample.specs.Rejection.{refusing_pool, refusing}

-- the `refusing_pool` of a pool of the plan is valid exactly if the pool is
refusing_is_valid : (plan : Plan) (p : ℕ) → IsWellFormed plan → p < length plan.pools → is_valid_pool (refusing_pool (pool_at plan p)) ≡ is_valid_pool (pool_at plan p)
refusing_is_valid plan p well inside =
    let pool = pool_at plan p in
    let bodies = ordered plan well in
    let valid : is_valid_pool pool ≡ true = list_all_at_In is_valid_pool well.pools (In-get_or plan.pools p no_pool inside) in
    let name = and_parts (is_valid_name pool.name) (has_valid_sizes pool) valid in
    let sizes = and_parts (is_within 1 MAX_SIZE pool.core && (is_within pool.core MAX_SIZE pool.max || has_no_max pool)) (is_within (least_queue pool) MAX_SIZE pool.queue) name.1 in
    let most : max pool.queue 1 ≤ MAX_SIZE = omega (arith, bodies.most_queue p inside) in
    let queue : is_within 1 MAX_SIZE (max pool.queue 1) ≡ true = and_from _ _ (le-leb 1 (max pool.queue 1) (omega arith)) (le-leb (max pool.queue 1) MAX_SIZE most) in
    and_from (is_valid_name pool.name) _ name.0 (and_from _ _ sizes.0 queue) ∙ sym valid

pub refusing_is_well_formed : (plan : Plan) (p : ℕ) → IsWellFormed plan → p < length plan.pools → IsWellFormed (refusing plan p)
refusing_is_well_formed plan p well inside =
    let own : Pool = refusing_pool (pool_at plan p) in
    let as_many : length (refusing plan p).pools ≡ length plan.pools = length-set plan.pools p own in
    let names : map (λ (pool : Pool). pool.name) (refusing plan p).pools ≡ map (λ (pool : Pool). pool.name) plan.pools = map-set_same (λ (pool : Pool). pool.name) plan.pools p own no_pool refl in
    let valid : map is_valid_pool (refusing plan p).pools ≡ map is_valid_pool plan.pools = map-set_same is_valid_pool plan.pools p own no_pool (refusing_is_valid plan p well inside) in
    let all = λ (pools : List Pool). list_all-map (λ (b : Bool). b) is_valid_pool pools in
    record {
      few_pools = omega (arith, well.few_pools);
      few_classes = well.few_classes;
      few_clients = well.few_clients;
      pool_names = ap are_distinct names ∙ well.pool_names;
      class_names = well.class_names;
      client_names = well.client_names;
      pools = sym (all (refusing plan p).pools) ∙ (ap (list_all (λ (b : Bool). b)) valid ∙ (all plan.pools ∙ well.pools));
      classes = ap (λ (pools : ℕ). list_all (λ (class : Class). is_valid_name class.name && nat_lt class.pool pools && is_valid_body (length plan.classes) class.body) plan.classes) as_many ∙ well.classes;
      clients = well.clients;
    }
