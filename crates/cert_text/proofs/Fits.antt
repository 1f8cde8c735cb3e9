-- Proofs that a certificate that was read fits the plan.
use Rattle.std.proofs.Common.{◌≡◌, ℕ, ◌+◌, ◌==◌, ◌&&◌, ◌<◌, Bool, true, List, [], length, get_or, slice_get, Option, Some, None, Result, Ok, codes, sym, ap, subst, ◌∙◌, arith}
use Rattle.std.specs.List.{list_all, enumerate_from}
use Rattle.std.proofs.lemmas.Bool.{and_from, and_parts, eqb-true, eq-eqb}
use Rattle.std.proofs.lemmas.Option.{slice_get-get_or, slice_get_within, get_or_from_slice_get}
use Rattle.serde_json.specs.Data.{Data}
use Rattle.support.specs.Reading.{ensure, ok_or}
use Rattle.support.proofs.Steps.{bind_ok, holds_ok, ok_injective}
use Rattle.support.proofs.ReadElements.{read_length, read_at}
use Rattle.job_bodies.specs.Plan.{Plan, Class, Client, no_class, no_client, pool_at, needs_no_bound}
use Rattle.job_bodies.proofs.Passing.{EachPlace, both_passed, list_all_enumerated_from}
use Rattle.weights.specs.declared.bound.Bound.{Bound}
use Rattle.weights.specs.declared.bound.Bound.TheVariants.{Standing, Lifetime}
use Rattle.weights.specs.Vector.{Vector, has_shape, is_small}
use Rattle.weights.specs.Bound.{bound_vector}
use Rattle.weights.specs.Ranks.{Ranks, ranks_fit}
use Rattle.cert_text.specs.Cert.{PoolCert, Cert, bound_fits, pool_cert_fits, cert_fits}
use Rattle.cert_text.specs.declared.fault.CertFault.{CertFault}
use Rattle.cert_text.specs.declared.version.Version.{Version}
use Rattle.cert_text.specs.declared.version.Version.TheVariants.{One, Two}
use Rattle.cert_text.specs.Values.{fault, wrong_shape, number_of, as_list, elements_of, check_keys, value_at}
use Rattle.support.specs.declared.number.TheConstants.{WEIGHT_TOO_LARGE}
use Rattle.cert_text.specs.Version.{version_of}
use Rattle.cert_text.specs.Vectors.{numbers_of, class_points, client_points, class_rows, client_rows, vector_of}
use Rattle.cert_text.specs.Canonical.{AreRows}
use Rattle.cert_text.specs.Shape.{standing_of, lifetime_of, no_bound_of, either_of, bound_of, keys_with, pool_of, pools_of, ranks_of, shape_of}
use Rattle.cert_text.specs.Sizes.{bound_has_small_numbers, pool_has_small_numbers, ranks_have_small_numbers, cert_has_small_numbers}
use Rattle.cert_text.proofs.Lists.{list_all_place, list_all_enumerated_all}
use Rattle.cert_text.specs.CertOf.{document_of, cert_of_value, cert_of}

elements_counted : (count : ℕ) (value : Data) (values : List Data) → elements_of count value ≡ Ok values → length values ≡ count
unfolding elements_of
elements_counted count value values e =
    let found = bind_ok (ok_or (as_list value) wrong_shape) _ _ e in
    let counted = both_passed (ensure (length found.0 == count) wrong_shape) _ values found.2 in
    ap (λ (xs : List Data). length xs) (sym (ok_injective {F = CertFault} found.0 values counted.1)) ∙ eqb-true _ _ (holds_ok _ wrong_shape counted.0)

numbers_counted : (count : ℕ) (value : Data) (numbers : List ℕ) → numbers_of count value ≡ Ok numbers → length numbers ≡ count
unfolding numbers_of
numbers_counted count value numbers e =
    let found = bind_ok (elements_of count value) _ _ e in
    read_length (λ _. number_of) 0 found.0 numbers found.2 ∙ elements_counted count value found.0 found.1

class_rows_read : (plan : Plan) (value : Data) (rows : List (List ℕ)) → class_rows plan value ≡ Ok rows → AreRows (length plan.classes) (class_points plan) rows
unfolding class_rows
class_rows_read plan value rows e =
    let found = bind_ok (elements_of (length plan.classes) value) _ _ e in
    let read : ℕ → Data → Result (List ℕ) CertFault = λ k. numbers_of (class_points plan k) in (
      read_length read 0 found.0 rows found.2 ∙ elements_counted _ value found.0 found.1,
      λ k row here. let from = read_at read found.0 rows k row found.2 here in numbers_counted (class_points plan k) from.0 row from.2,
    )

client_rows_read : (plan : Plan) (value : Data) (rows : List (List ℕ)) → client_rows plan value ≡ Ok rows → AreRows (length plan.clients) (client_points plan) rows
unfolding client_rows
client_rows_read plan value rows e =
    let found = bind_ok (elements_of (length plan.clients) value) _ _ e in
    let read : ℕ → Data → Result (List ℕ) CertFault = λ c. numbers_of (client_points plan c) in (
      read_length read 0 found.0 rows found.2 ∙ elements_counted _ value found.0 found.1,
      λ c row here. let from = read_at read found.0 rows c row found.2 here in numbers_counted (client_points plan c) from.0 row from.2,
    )

-- the lengths of the rows pass the test of `has_shape`
rows_shaped : {X : Type 0} (points : X → ℕ) (none : X) (xs : List X) (rows : List (List ℕ)) → AreRows (length xs) (λ k. points (get_or xs k none)) rows
    → list_all (λ (entry : ℕ × X). length (get_or rows entry.0 []) == points entry.1) (enumerate_from 0 xs) ≡ true
rows_shaped {X = X} points none xs rows are =
    list_all_enumerated_from (λ (entry : ℕ × X). length (get_or rows entry.0 []) == points entry.1) 0 xs (λ k x here. at k x here)
  where
    at : (k : ℕ) (x : X) → slice_get xs k ≡ Some x → (length (get_or rows (0 + k) []) == points x) ≡ true
    at k x here =
        let inside : k < length xs = slice_get_within xs k x here in
        let within : k < length rows = omega (arith, are.0) in
        let long = are.1 k (get_or rows k []) (slice_get-get_or rows k [] within) in
        let place : 0 + k ≡ k = omega arith in
        rw place (eq-eqb _ _ (long ∙ ap points (get_or_from_slice_get xs k x none here)))

-- a vector with a number for each pool and a row for each class and each client kind has the plan's shape
pub rows_shape : (plan : Plan) (v : Vector) → length v.workers ≡ length plan.pools → AreRows (length plan.classes) (class_points plan) v.classes → AreRows (length plan.clients) (client_points plan) v.clients → has_shape plan v ≡ true
rows_shape plan v workers classes clients =
    and_from _ _ (and_from _ _ (and_from _ _ (and_from _ _
    (eq-eqb _ _ workers)
    (eq-eqb _ _ classes.0))
    (eq-eqb _ _ clients.0))
    (rows_shaped (λ (class : Class). length class.body + 3) no_class plan.classes v.classes classes))
    (rows_shaped (λ (client : Client). length client.body + 1) no_client plan.clients v.clients clients)

vector_read : (plan : Plan) (value : Data) (v : Vector) → vector_of plan value ≡ Ok v → has_shape plan v ≡ true
unfolding vector_of
vector_read plan value v e =
    let keys = both_passed (check_keys 3 value) _ v e in
    let at_workers = bind_ok (value_at (codes "workers") value) _ _ keys.1 in
    let workers = bind_ok (numbers_of (length plan.pools) at_workers.0) _ _ at_workers.2 in
    let at_classes = bind_ok (value_at (codes "classes") value) _ _ workers.2 in
    let classes = bind_ok (class_rows plan at_classes.0) _ _ at_classes.2 in
    let at_clients = bind_ok (value_at (codes "clients") value) _ _ classes.2 in
    let clients = bind_ok (client_rows plan at_clients.0) _ _ at_clients.2 in
    let made : Vector = record { workers = workers.0; classes = classes.0; clients = clients.0 } in
    let shaped : has_shape plan made ≡ true = rows_shape plan made (numbers_counted _ _ workers.0 workers.1) (class_rows_read plan at_classes.0 classes.0 classes.1) (client_rows_read plan at_clients.0 clients.0 clients.1) in
    subst (λ (w : Vector). has_shape plan w ≡ true) (ok_injective {F = CertFault} made v clients.2) shaped

-- the bound has the plan's shape; None has it only if pool p needs no bound
abbrev bound_has_shape : Plan → ℕ → Option Bound → Bool
bound_has_shape plan p None = needs_no_bound (pool_at plan p)
bound_has_shape plan p (Some bound) = has_shape plan (bound_vector bound)

standing_read : (plan : Plan) (p : ℕ) (value : Data) (bound : Option Bound) → standing_of plan value ≡ Ok bound → bound_has_shape plan p bound ≡ true
unfolding standing_of
standing_read plan p value bound e =
    let vector = bind_ok (vector_of plan value) _ _ e in
    subst (λ (b : Option Bound). bound_has_shape plan p b ≡ true) (ok_injective {F = CertFault} (Some (Standing vector.0)) bound vector.2) (vector_read plan value vector.0 vector.1)

lifetime_read : (plan : Plan) (p : ℕ) (value : Data) (bound : Option Bound) → lifetime_of plan value ≡ Ok bound → bound_has_shape plan p bound ≡ true
unfolding lifetime_of
lifetime_read plan p value bound e =
    let vector = bind_ok (vector_of plan value) _ _ e in
    subst (λ (b : Option Bound). bound_has_shape plan p b ≡ true) (ok_injective {F = CertFault} (Some (Lifetime vector.0)) bound vector.2) (vector_read plan value vector.0 vector.1)

no_bound_read : (plan : Plan) (p : ℕ) (bound : Option Bound) → no_bound_of plan p ≡ Ok bound → bound_has_shape plan p bound ≡ true
unfolding no_bound_of
no_bound_read plan p bound e =
    let allowed = both_passed (ensure (needs_no_bound (pool_at plan p)) wrong_shape) _ bound e in
    subst (λ (b : Option Bound). bound_has_shape plan p b ≡ true) (ok_injective {F = CertFault} None bound allowed.1) (holds_ok _ wrong_shape allowed.0)

either_read : (plan : Plan) (p : ℕ) (lifetime standing : Option Data) (bound : Option Bound) → either_of plan p lifetime standing ≡ Ok bound → bound_has_shape plan p bound ≡ true
either_read plan p (Some value) standing bound e = lifetime_read plan p value bound e
either_read plan p None (Some value) bound e = standing_read plan p value bound e
either_read plan p None None bound e = no_bound_read plan p bound e

bound_read : (version : Version) (plan : Plan) (p : ℕ) (pool : Data) (bound : Option Bound) → bound_of version plan p pool ≡ Ok bound → bound_has_shape plan p bound ≡ true
bound_read One plan p pool bound e =
    let value = bind_ok (value_at (codes "standing") pool) _ _ e in
    standing_read plan p value.0 bound value.2
bound_read Two plan p pool bound e = either_read plan p _ _ bound e

abbrev pool_has_shape : Plan → ℕ → PoolCert → Bool
pool_has_shape plan p pool = bound_has_shape plan p pool.bound && has_shape plan pool.blocked

pool_read : (version : Version) (plan : Plan) (p : ℕ) (value : Data) (pool : PoolCert) → pool_of version plan p value ≡ Ok pool → pool_has_shape plan p pool ≡ true
unfolding pool_of
pool_read version plan p value pool e =
    let bound = bind_ok (bound_of version plan p value) _ _ e in
    let keys = both_passed (check_keys (keys_with bound.0) value) _ pool bound.2 in
    let at_blocked = bind_ok (value_at (codes "blocked") value) _ _ keys.1 in
    let blocked = bind_ok (vector_of plan at_blocked.0) _ _ at_blocked.2 in
    let made : PoolCert = record { bound = bound.0; blocked = blocked.0 } in
    let shaped : pool_has_shape plan p made ≡ true = and_from _ _ (bound_read version plan p value bound.0 bound.1) (vector_read plan at_blocked.0 blocked.0 blocked.1) in
    subst (λ (part : PoolCert). pool_has_shape plan p part ≡ true) (ok_injective {F = CertFault} made pool blocked.2) shaped

pools_read : (version : Version) (plan : Plan) (value : Data) (pools : List PoolCert) → pools_of version plan value ≡ Ok pools → (length pools ≡ length plan.pools) × EachPlace pools (λ p pool. pool_has_shape plan p pool ≡ true)
unfolding pools_of
pools_read version plan value pools e =
    let found = bind_ok (elements_of (length plan.pools) value) _ _ e in
    let read : ℕ → Data → Result PoolCert CertFault = pool_of version plan in (
      read_length read 0 found.0 pools found.2 ∙ elements_counted _ value found.0 found.1,
      λ p pool here. let from = read_at read found.0 pools p pool found.2 here in pool_read version plan p from.0 pool from.2,
    )

abbrev ranks_have_shape : Plan → Ranks → Bool
ranks_have_shape plan ranks = length ranks.pools == length plan.pools && length ranks.reach == length plan.classes && length ranks.levels == length plan.classes

ranks_read : (plan : Plan) (value : Data) (ranks : Ranks) → ranks_of plan value ≡ Ok ranks → ranks_have_shape plan ranks ≡ true
unfolding ranks_of
ranks_read plan value ranks e =
    let keys = both_passed (check_keys 3 value) _ ranks e in
    let at_pools = bind_ok (value_at (codes "pools") value) _ _ keys.1 in
    let pools = bind_ok (numbers_of (length plan.pools) at_pools.0) _ _ at_pools.2 in
    let at_reach = bind_ok (value_at (codes "reach") value) _ _ pools.2 in
    let reach = bind_ok (numbers_of (length plan.classes) at_reach.0) _ _ at_reach.2 in
    let at_levels = bind_ok (value_at (codes "levels") value) _ _ reach.2 in
    let levels = bind_ok (numbers_of (length plan.classes) at_levels.0) _ _ at_levels.2 in
    let made : Ranks = record { pools = pools.0; reach = reach.0; levels = levels.0 } in
    let shaped : ranks_have_shape plan made ≡ true =
    and_from _ _ (and_from _ _
    (eq-eqb _ _ (numbers_counted _ _ pools.0 pools.1))
    (eq-eqb _ _ (numbers_counted _ _ reach.0 reach.1)))
    (eq-eqb _ _ (numbers_counted _ _ levels.0 levels.1)) in
    subst (λ (r : Ranks). ranks_have_shape plan r ≡ true) (ok_injective {F = CertFault} made ranks levels.2) shaped

bound_fits_of : (plan : Plan) (p : ℕ) (bound : Option Bound) → bound_has_shape plan p bound ≡ true → bound_has_small_numbers bound ≡ true → bound_fits plan p bound ≡ true
bound_fits_of plan p None shaped small = shaped
bound_fits_of plan p (Some bound) shaped small = and_from _ _ shaped small

-- a pool's part fits the plan if it has the plan's shape and its numbers are within the limit
pool_fits_of : (plan : Plan) (p : ℕ) (pool : PoolCert) → pool_has_shape plan p pool ≡ true → pool_has_small_numbers pool ≡ true → pool_cert_fits plan p pool ≡ true
pool_fits_of plan p pool shaped small =
    let shapes = and_parts (bound_has_shape plan p pool.bound) _ shaped in
    let sizes = and_parts (bound_has_small_numbers pool.bound) _ small in
    and_from _ _ (bound_fits_of plan p pool.bound shapes.0 sizes.0) (and_from _ _ shapes.1 sizes.1)

ranks_fit_of : (plan : Plan) (ranks : Ranks) → ranks_have_shape plan ranks ≡ true → ranks_have_small_numbers ranks ≡ true → ranks_fit plan ranks ≡ true
ranks_fit_of plan ranks shaped small =
    let parts = and_parts (list_all is_small ranks.pools && list_all is_small ranks.reach) _ small in
    let first = and_parts (list_all is_small ranks.pools) _ parts.0 in
    and_from _ _ (and_from _ _ (and_from _ _ shaped first.0) first.1) parts.1

shape_fits : (version : Version) (plan : Plan) (value : Data) (cert : Cert) → shape_of version plan value ≡ Ok cert → cert_has_small_numbers cert ≡ true → cert_fits plan cert ≡ true
unfolding shape_of cert_has_small_numbers
shape_fits version plan value cert e small =
    let keys = both_passed (check_keys 3 value) _ cert e in
    let at_pools = bind_ok (value_at (codes "pools") value) _ _ keys.1 in
    let pools = bind_ok (pools_of version plan at_pools.0) _ _ at_pools.2 in
    let at_ranks = bind_ok (value_at (codes "ranks") value) _ _ pools.2 in
    let ranks = bind_ok (ranks_of plan at_ranks.0) _ _ at_ranks.2 in
    let made : Cert = record { pools = pools.0; ranks = ranks.0 } in
    let same : made ≡ cert = ok_injective {F = CertFault} made cert ranks.2 in
    let sizes = and_parts (list_all pool_has_small_numbers made.pools) (ranks_have_small_numbers made.ranks) (subst (λ (c : Cert). (list_all pool_has_small_numbers c.pools && ranks_have_small_numbers c.ranks) ≡ true) (sym same) small) in
    let pools_are = pools_read version plan at_pools.0 pools.0 pools.1 in
    let fit : cert_fits plan made ≡ true =
    and_from _ _ (and_from _ _
    (eq-eqb _ _ pools_are.0)
    (ranks_fit_of plan ranks.0 (ranks_read plan at_ranks.0 ranks.0 ranks.1) sizes.1))
    (list_all_enumerated_all (λ entry. pool_cert_fits plan entry.0 entry.1) pools.0 (λ p pool here. pool_fits_of plan p pool (pools_are.1 p pool here) (list_all_place pool_has_small_numbers pools.0 sizes.0 p pool here))) in
    subst (λ (c : Cert). cert_fits plan c ≡ true) {y = cert} same fit

value_fits : (plan : Plan) (value : Data) (cert : Cert) → cert_of_value value plan ≡ Ok cert → cert_fits plan cert ≡ true
unfolding cert_of_value
value_fits plan value cert e =
    let version = bind_ok (version_of value) _ _ e in
    let shape = bind_ok (shape_of version.0 plan value) _ _ version.2 in
    let sizes = both_passed (ensure (cert_has_small_numbers shape.0) (fault WEIGHT_TOO_LARGE)) _ cert shape.2 in
    let fit = shape_fits version.0 plan value shape.0 shape.1 (holds_ok _ (fault WEIGHT_TOO_LARGE) sizes.0) in
    subst (λ (c : Cert). cert_fits plan c ≡ true) (ok_injective {F = CertFault} shape.0 cert sizes.1) fit

pub cert_read_fits : (bytes : List ℕ) (plan : Plan) (cert : Cert) → cert_of bytes plan ≡ Ok cert → cert_fits plan cert ≡ true
unfolding cert_of
cert_read_fits bytes plan cert e =
    let value = bind_ok (document_of bytes) _ _ e in
    value_fits plan value.0 cert value.2
