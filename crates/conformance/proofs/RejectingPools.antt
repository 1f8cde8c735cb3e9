-- Plans that differ only in the key `may_reject` of their pools.
use Rattle.std.proofs.Common.{◌≡◌, ℕ, ◌+◌, Bool, true, cond, eqb, ◌&&◌, ◌||◌, List, [], ◌∷◌, ◌++◌, length, map, refl, ap, ap₂, sym, ◌∙◌, arith}
use Rattle.std.specs.Prelude.{nat_lt}
use Rattle.std.specs.List.{list_all, enumerate_from}
use Rattle.std.proofs.lemmas.Bool.{and_parts}
use Rattle.std.proofs.lemmas.List.{length-map}
use Rattle.std.proofs.lemmas.List.FromFn.{length-enumerate_from}
use Rattle.job_bodies.specs.declared.limits.TheConstants.{MAX_SIZE}
use Rattle.job_bodies.specs.Plan.{Pool, Class, Plan}
use Rattle.job_bodies.specs.WellFormed.{is_within, is_valid_name, least_queue, has_no_max, has_valid_sizes, is_valid_pool, is_valid_body, are_distinct, IsWellFormed}
use Rattle.job_bodies.proofs.Bodies.{within_bounds}
use Rattle.recordings.specs.RecordingLine.{RecordedLine}
use Rattle.conformance.specs.declared.rejections.Rejections.{Rejections}
use Rattle.conformance.specs.RejectingPools.{with_key, with_keys, with_all_keys, only_rejects_by, only_rejects}
use Rattle.conformance.specs.Rejections.{AreAllRejections, only_rejected_by}

-- ---- the key of one pool
both : (a b : Bool) → a ≡ true → b ≡ true → (a && b) ≡ true
both a b one other = grind (arith, one, other)

valid_queue : (key may : Bool) (queue : ℕ) → is_within (cond may 0 1) MAX_SIZE queue ≡ true → is_within (cond (key || eqb queue 0) 0 1) MAX_SIZE queue ≡ true
valid_queue key may queue valid =
    let most = (within_bounds (cond may 0 1) MAX_SIZE queue valid).1 in
    grind (arith, most)

valid_key : (key : Bool) (pool : Pool) → is_valid_pool pool ≡ true → is_valid_pool (with_key key pool) ≡ true
valid_key key pool valid =
    let parts = and_parts (is_valid_name pool.name) (has_valid_sizes pool) valid in
    let sizes = and_parts (is_within 1 MAX_SIZE pool.core && (is_within pool.core MAX_SIZE pool.max || has_no_max pool)) (is_within (least_queue pool) MAX_SIZE pool.queue) parts.1 in
    both (is_valid_name pool.name) (has_valid_sizes (with_key key pool)) parts.0
    (both (is_within 1 MAX_SIZE pool.core && (is_within pool.core MAX_SIZE pool.max || has_no_max pool)) (is_within (least_queue (with_key key pool)) MAX_SIZE pool.queue) sizes.0 (valid_queue key pool.may_reject pool.queue sizes.1))

-- ---- a plan with other pools of the same names
abbrev names : List Pool → List (List ℕ)
names pools = map (λ (pool : Pool). pool.name) pools

well_formed_with : (plan : Plan) (pools : List Pool) → names pools ≡ names plan.pools → list_all is_valid_pool pools ≡ true → IsWellFormed plan → IsWellFormed (record plan { pools = pools })
well_formed_with plan pools same valid well =
    let as_many : length pools ≡ length plan.pools = sym (length-map pools (λ (pool : Pool). pool.name)) ∙ ap length same ∙ length-map plan.pools (λ (pool : Pool). pool.name) in
    record {
      few_pools = omega (arith, as_many, well.few_pools);
      few_classes = well.few_classes;
      few_clients = well.few_clients;
      pool_names = ap are_distinct same ∙ well.pool_names;
      class_names = well.class_names;
      client_names = well.client_names;
      pools = valid;
      classes = ap (λ (pools : ℕ). list_all (λ (class : Class). is_valid_name class.name && nat_lt class.pool pools && is_valid_body (length plan.classes) class.body) plan.classes) as_many ∙ well.classes;
      clients = well.clients;
    }

-- ---- every pool has the key
names_all : (pools : List Pool) → names (map (with_key true) pools) ≡ names pools
names_all [] = refl
names_all (pool ∷ pools) = ap (λ (rest : List (List ℕ)). pool.name ∷ rest) (names_all pools)

valid_all : (pools : List Pool) → list_all is_valid_pool pools ≡ true → list_all is_valid_pool (map (with_key true) pools) ≡ true
valid_all [] valid = refl
valid_all (pool ∷ pools) valid =
    let parts = and_parts (is_valid_pool pool) (list_all is_valid_pool pools) valid in
    both (is_valid_pool (with_key true pool)) (list_all is_valid_pool (map (with_key true) pools)) (valid_key true pool parts.0) (valid_all pools parts.1)

pub all_keys_well_formed : (plan : Plan) → IsWellFormed plan → IsWellFormed (with_all_keys plan)
all_keys_well_formed plan well = well_formed_with plan (map (with_key true) plan.pools) (names_all plan.pools) (valid_all plan.pools well.pools) well

-- ---- some pools have the key
abbrev key_by : (ℕ → Bool) → ℕ × Pool → Pool
key_by rejects (number, pool) = with_key (rejects number) pool

names_from : (rejects : ℕ → Bool) (first : ℕ) (pools : List Pool) → names (map (key_by rejects) (enumerate_from first pools)) ≡ names pools
names_from rejects first [] = refl
names_from rejects first (pool ∷ pools) = ap (λ (rest : List (List ℕ)). pool.name ∷ rest) (names_from rejects (first + 1) pools)

valid_from : (rejects : ℕ → Bool) (first : ℕ) (pools : List Pool) → list_all is_valid_pool pools ≡ true → list_all is_valid_pool (map (key_by rejects) (enumerate_from first pools)) ≡ true
valid_from rejects first [] valid = refl
valid_from rejects first (pool ∷ pools) valid =
    let parts = and_parts (is_valid_pool pool) (list_all is_valid_pool pools) valid in
    both (is_valid_pool (with_key (rejects first) pool)) (list_all is_valid_pool (map (key_by rejects) (enumerate_from (first + 1) pools))) (valid_key (rejects first) pool parts.0)
    (valid_from rejects (first + 1) pools parts.1)

pub keys_well_formed : (plan : Plan) (rejects : ℕ → Bool) → IsWellFormed plan → IsWellFormed (record plan { pools = with_keys rejects plan.pools })
keys_well_formed plan rejects well = well_formed_with plan (with_keys rejects plan.pools) (names_from rejects 0 plan.pools) (valid_from rejects 0 plan.pools well.pools) well

-- ---- one more pool
more_from : (rejects : ℕ → Bool) (first : ℕ) (pools : List Pool) (pool : Pool)
    → map (key_by rejects) (enumerate_from first (pools ++ pool ∷ [])) ≡ map (key_by rejects) (enumerate_from first pools) ++ with_key (rejects (first + length pools)) pool ∷ []
more_from rejects first [] pool =
    let here : first ≡ first + 0 = omega arith in
    ap (λ (n : ℕ). with_key (rejects n) pool ∷ []) here
more_from rejects first (one ∷ pools) pool =
    let place : (first + 1) + length pools ≡ first + length (one ∷ pools) = omega arith in
    ap (λ (rest : List Pool). key_by rejects (first, one) ∷ rest)
    (more_from rejects (first + 1) pools pool
    ∙ ap (λ (n : ℕ). map (key_by rejects) (enumerate_from (first + 1) pools) ++ with_key (rejects n) pool ∷ []) place)

pub keys_more : (rejects : ℕ → Bool) (pools : List Pool) (pool : Pool) (n : ℕ) → n ≡ length (with_keys rejects pools) → with_keys rejects pools ++ with_key (rejects n) pool ∷ [] ≡ with_keys rejects (pools ++ pool ∷ [])
keys_more rejects pools pool n is =
    let many : length (with_keys rejects pools) ≡ length pools = length-map (enumerate_from 0 pools) (key_by rejects) ∙ length-enumerate_from 0 pools in
    let here : n ≡ 0 + length pools = omega (arith, is, many) in
    ap (λ (m : ℕ). with_keys rejects pools ++ with_key (rejects m) pool ∷ []) here ∙ sym (more_from rejects 0 pools pool)

-- ---- the pools that only reject jobs
pub keys_are : (plan : Plan) (lines : List RecordedLine) (rejections : Rejections) → AreAllRejections (with_all_keys plan) lines rejections → with_keys (only_rejected_by rejections) plan.pools ≡ with_keys (only_rejects plan lines) plan.pools
keys_are plan lines rejections so = ap₂ (λ (rejecting refusing : List ℕ). with_keys (only_rejects_by rejecting refusing) plan.pools) so.pools so.refusing
