-- The steady certificate fits its plan.
use Rattle.std.proofs.Common.{◌&&◌, ◌≡◌, ℕ, zero, suc, ◌+◌, true, List, [], ◌∷◌, ◌++◌, length, take, drop, get_or, Bool, false, refl, ap, sym, subst, ◌∙◌, arith}
use Rattle.std.specs.Prelude.{◌==◌}
use Rattle.std.specs.List.{enumerate_from}
use Rattle.std.proofs.lemmas.Bool.{and_from, eq-eqb, le-leb}
use Rattle.std.proofs.lemmas.List.{length-map, get_or-map, length-drop, length-take-le, take-append-drop}
use Rattle.std.proofs.lemmas.Option.{slice_get_within, get_or_from_slice_get}
use Rattle.std.proofs.lemmas.List.{length-append}
use Rattle.support.specs.In.{In}
use Rattle.support.proofs.Members.{In-append_left, In-append_right, list_all_from_In}
use Rattle.job_bodies.specs.Plan.{Pool, Class, Client, Plan, no_pool, pool_at, needs_no_bound, no_class, no_client, class_at, client_at}
use Rattle.job_bodies.specs.WellFormed.{IsWellFormed}
use Rattle.job_bodies.proofs.Bodies.{HasValidBodies, ordered}
use Rattle.job_bodies.specs.declared.limits.TheConstants.{MAX_WEIGHT}
use Rattle.weights.specs.Vector.{Vector, class_weights, client_weights, has_shape, has_small_numbers, is_small, vector_fits}
use Rattle.weights.specs.Ranks.{ranks_fit}
use Rattle.cert_text.specs.Cert.{PoolCert, no_pool_cert, bound_fits, pool_cert_fits, cert_fits}
use Rattle.size_search.specs.Submitted.{NoCircle}
use Rattle.size_search.specs.Steady.{job_end, class_row, client_end, client_row, weights_from, jobs, jobs_within, steady_vector, steady_levels, wait_levels, blocked_of, bound_of, part_of, pool_of, steady_pool, steady_ranks, steady_cert}
use Rattle.size_search.proofs.Opened.{place_in}
use Rattle.size_search.proofs.Balance.{weights-length}
use Rattle.size_search.proofs.Depths.{shallow, as_many_levels}
use Rattle.size_search.proofs.WaitLevels.{length-wait_levels, wait_level-le}
use Rattle.size_search.proofs.ZeroVectors.{zero_fits}
use Rattle.size_search.proofs.SteadyRows.{class_is, client_is}
use Rattle.size_search.proofs.Holding.{at_number}

-- ---- lengths

pub as_many_jobs : (plan : Plan) (n : ℕ) → n ≡ length plan.classes → length (jobs_within plan n).classes ≡ length plan.classes
as_many_jobs plan zero is = is
as_many_jobs plan (suc n) is = length-map plan.classes (λ (class : Class). class_row plan (jobs_within plan n) class.body)

class_row-length : (plan : Plan) (v : Vector) (body : List _) → length (class_row plan v body) ≡ length body + 3
class_row-length plan v body =
    let middle = weights_from plan v 1 body (job_end v body) body in
    let long = weights-length plan v 1 body (job_end v body) body in
    let both : length (middle ++ job_end v body ∷ []) ≡ length middle + 1 = length-append middle (job_end v body ∷ []) in
    omega arith

-- ---- the vector

class_long : (plan : Plan) → HasValidBodies plan → NoCircle plan → (entry : ℕ × Class) → In entry (enumerate_from 0 plan.classes) → (length (class_weights (steady_vector plan) entry.0) == length entry.1.body + 3) ≡ true
class_long plan is_ordered none entry at =
    let stands = at_number plan.classes entry at in
    let is : class_at plan entry.0 ≡ entry.1 = get_or_from_slice_get plan.classes entry.0 entry.1 no_class stands in
    let row = class_is plan is_ordered none entry.0 (slice_get_within plan.classes entry.0 entry.1 stands) in
    eq-eqb (length (class_weights (steady_vector plan) entry.0)) (length entry.1.body + 3)
    (ap length row ∙ (class_row-length plan (steady_vector plan) (class_at plan entry.0).body ∙ ap (λ (class : Class). length class.body + 3) is))

client_long : (plan : Plan) → HasValidBodies plan → (entry : ℕ × Client) → In entry (enumerate_from 0 plan.clients) → (length (client_weights (steady_vector plan) entry.0) == length entry.1.body + 1) ≡ true
client_long plan is_ordered entry at =
    let stands = at_number plan.clients entry at in
    let is : client_at plan entry.0 ≡ entry.1 = get_or_from_slice_get plan.clients entry.0 entry.1 no_client stands in
    let row = client_is plan is_ordered entry.0 (slice_get_within plan.clients entry.0 entry.1 stands) in
    let client = client_at plan entry.0 in
    let v = steady_vector plan in
    eq-eqb (length (client_weights v entry.0)) (length entry.1.body + 1)
    (ap length row ∙ (weights-length plan v 0 client.body (client_end v client) client.body ∙ ap (λ (any : Client). length any.body + 1) is))

has_its_shape : (plan : Plan) → HasValidBodies plan → NoCircle plan → has_shape plan (steady_vector plan) ≡ true
has_its_shape plan is_ordered none =
    let v = steady_vector plan in
    and_from _ _
    (and_from _ _
    (and_from _ _
    (and_from _ _
    (eq-eqb (length v.workers) (length plan.pools) (length-map plan.pools (λ (pool : Pool). 0)))
    (eq-eqb (length v.classes) (length plan.classes) (as_many_jobs plan (length plan.classes) refl)))
    (eq-eqb (length v.clients) (length plan.clients) (length-map plan.clients (client_row plan (jobs plan)))))
    (list_all_from_In (λ (entry : ℕ × Class). length (class_weights v entry.0) == length entry.1.body + 3) (enumerate_from 0 plan.classes) (class_long plan is_ordered none)))
    (list_all_from_In (λ (entry : ℕ × Client). length (client_weights v entry.0) == length entry.1.body + 1) (enumerate_from 0 plan.clients) (client_long plan is_ordered))

pub vector_is_fit : (plan : Plan) → HasValidBodies plan → NoCircle plan → has_small_numbers (steady_vector plan) ≡ true → vector_fits plan (steady_vector plan) ≡ true
vector_is_fit plan is_ordered none small = and_from (has_shape plan (steady_vector plan)) (has_small_numbers (steady_vector plan)) (has_its_shape plan is_ordered none) small

-- ---- the ranks

wait_level_is_small : (plan : Plan) → IsWellFormed plan → (n : ℕ) → In n (wait_levels plan) → is_small n ≡ true
wait_level_is_small plan well n at =
    let place = place_in at in
    let is : get_or (wait_levels plan) place.0 0 ≡ n = get_or_from_slice_get (wait_levels plan) place.0 n 0 place.1 in
    le-leb n MAX_WEIGHT (omega (arith, is, wait_level-le plan place.0, well.few_classes, well.few_pools))

level_is_small : (plan : Plan) → IsWellFormed plan → NoCircle plan → (n : ℕ) → In n (steady_levels plan) → is_small n ≡ true
level_is_small plan well none n at =
    let place = place_in at in
    let long = as_many_levels plan in
    let inside = slice_get_within (steady_levels plan) place.0 n place.1 in
    let low = shallow plan (ordered plan well) none place.0 (omega (arith, long, inside)) in
    let is : get_or (steady_levels plan) place.0 0 ≡ n = get_or_from_slice_get (steady_levels plan) place.0 n 0 place.1 in
    le-leb n MAX_WEIGHT (omega (arith, low, is, well.few_classes))

ranks_are_fit : (plan : Plan) → IsWellFormed plan → NoCircle plan → ranks_fit plan (steady_ranks plan) ≡ true
ranks_are_fit plan well none =
    let ranks = steady_ranks plan in
    let count = length plan.classes in
    let long = length-wait_levels plan in
    let halves = take-append-drop count (wait_levels plan) in
    and_from _ _
    (and_from _ _
    (and_from _ _
    (and_from _ _
    (and_from _ _
    (eq-eqb (length ranks.pools) (length plan.pools) (omega (arith, long, length-drop count (wait_levels plan))))
    (eq-eqb (length ranks.reach) (length plan.classes) (length-take-le count (wait_levels plan) (omega (arith, long)))))
    (eq-eqb (length ranks.levels) (length plan.classes) (as_many_levels plan)))
    (list_all_from_In is_small ranks.pools (λ n at. wait_level_is_small plan well n (subst (In n) halves (In-append_right (take count (wait_levels plan)) at)))))
    (list_all_from_In is_small ranks.reach (λ n at. wait_level_is_small plan well n (subst (In n) halves (In-append_left (drop count (wait_levels plan)) at)))))
    (list_all_from_In is_small ranks.levels (level_is_small plan well none))

-- ---- the certificate

bound_is_fit : (plan : Plan) (p : ℕ) (boundless : Bool) → needs_no_bound (pool_at plan p) ≡ boundless → vector_fits plan (steady_vector plan) ≡ true → bound_fits plan p (bound_of (steady_vector plan) boundless) ≡ true
bound_is_fit plan p true none fit = none
bound_is_fit plan p false none fit = fit

blocked_is_fit : (plan : Plan) (core_timeout : Bool) → vector_fits plan (steady_vector plan) ≡ true → vector_fits plan (blocked_of (steady_vector plan) core_timeout) ≡ true
blocked_is_fit plan true fit = zero_fits plan (steady_vector plan) fit
blocked_is_fit plan false fit = fit

pub pool_is_fit : (plan : Plan) (p : ℕ) → vector_fits plan (steady_vector plan) ≡ true → pool_cert_fits plan p (steady_pool plan (pool_at plan p)) ≡ true
pool_is_fit plan p fit =
    and_from (bound_fits plan p (steady_pool plan (pool_at plan p)).bound) (vector_fits plan (steady_pool plan (pool_at plan p)).blocked) (bound_is_fit plan p (needs_no_bound (pool_at plan p)) refl fit) (blocked_is_fit plan ((pool_at plan p).core_timeout && has_small_numbers (steady_vector plan)) fit)

-- if the weights are within the limit, no get of a pool whose core threads may time out is counted
pub part_where_small : (v : Vector) (pool : Pool) → has_small_numbers v ≡ true → pool_of v pool ≡ part_of v (needs_no_bound pool) pool.core_timeout
part_where_small v pool small = ap (λ (b : Bool). part_of v (needs_no_bound pool) (pool.core_timeout && b)) small ∙ ap (part_of v (needs_no_bound pool)) (and-true pool.core_timeout)
  where
    and-true : (b : Bool) → (b && true) ≡ b
    and-true true = refl
    and-true false = refl

-- the part at each place of the certificate is that of the pool at the same place
pub part_at : (plan : Plan) (entry : ℕ × PoolCert) → In entry (enumerate_from 0 (steady_cert plan).pools) → steady_pool plan (pool_at plan entry.0) ≡ entry.1
part_at plan entry at =
    let stands = at_number (steady_cert plan).pools entry at in
    let inside = slice_get_within (steady_cert plan).pools entry.0 entry.1 stands in
    let known = length-map plan.pools (steady_pool plan) in
    sym (get_or-map (steady_pool plan) plan.pools entry.0 no_pool no_pool_cert (omega arith)) ∙ get_or_from_slice_get (steady_cert plan).pools entry.0 entry.1 no_pool_cert stands

pub cert_is_fit : (plan : Plan) → IsWellFormed plan → NoCircle plan → has_small_numbers (steady_vector plan) ≡ true → cert_fits plan (steady_cert plan) ≡ true
cert_is_fit plan well none small =
    let fit = vector_is_fit plan (ordered plan well) none small in
    and_from _ _
    (and_from _ _
    (eq-eqb (length (steady_cert plan).pools) (length plan.pools) (length-map plan.pools (steady_pool plan)))
    (ranks_are_fit plan well none))
    (list_all_from_In (λ (entry : ℕ × PoolCert). pool_cert_fits plan entry.0 entry.1) (enumerate_from 0 (steady_cert plan).pools)
    (λ entry at. subst (λ (part : PoolCert). pool_cert_fits plan entry.0 part ≡ true) (part_at plan entry at) (pool_is_fit plan entry.0 fit)))
