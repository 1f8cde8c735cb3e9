-- Proofs that the text of a certificate that fits the plan is read as that certificate.
use Rattle.std.proofs.Common.{◌≡◌, ℕ, suc, ◌+◌, ◌<◌, ◌≤◌, ◌==◌, ◌&&◌, Bool, true, false, List, [], ◌∷◌, length, map, get_or, Option, Some, None, Result, Ok, refl, sym, ap, subst, ◌∙◌, arith, zero-add}
use Rattle.std.specs.List.{list_all, enumerate_from}
use Rattle.std.specs.Str.{is_utf8}
use Rattle.std.proofs.lemmas.Bool.{and_from, and_parts, eqb-true, eq-eqb, le-leb}
use Rattle.std.proofs.lemmas.List.{length-map}
use Rattle.std.proofs.lemmas.Option.{slice_get-get_or, slice_get_within, get_or_from_slice_get}
use Rattle.serde_json.specs.Data.{Data}
use Rattle.serde_json.specs.Read.{read}
use Rattle.support.specs.Reading.{read_each}
use Rattle.job_bodies.specs.Plan.{Plan, Class, Client, no_class, no_client}
use Rattle.job_bodies.proofs.Passing.{EachPlace, list_all_from}
use Rattle.weights.specs.declared.bound.Bound.{Bound}
use Rattle.weights.specs.declared.bound.Bound.TheVariants.{Standing, Lifetime}
use Rattle.weights.specs.Vector.{Vector, has_shape, vector_fits, is_small}
use Rattle.weights.specs.Bound.{bound_vector}
use Rattle.weights.specs.Ranks.{Ranks, ranks_fit}
use Rattle.cert_text.specs.Cert.{PoolCert, Cert, bound_fits, pool_cert_fits, cert_fits}
use Rattle.job_bodies.specs.declared.limits.TheConstants.{MAX_CERT_BYTES}
use Rattle.cert_text.specs.declared.version.Version.{Version}
use Rattle.cert_text.specs.declared.version.Version.TheVariants.{One, Two}
use Rattle.cert_text.specs.Values.{number_of, elements_of, check_keys}
use Rattle.cert_text.specs.Version.{version_of}
use Rattle.cert_text.specs.Vectors.{numbers_of, class_points, client_points, class_rows, client_rows, vector_of}
use Rattle.cert_text.specs.Shape.{standing_of, lifetime_of, no_bound_of, pool_of, pools_of, ranks_of, shape_of}
use Rattle.cert_text.specs.Sizes.{bound_has_small_numbers, pool_has_small_numbers, ranks_have_small_numbers, cert_has_small_numbers}
use Rattle.cert_text.specs.CertOf.{document_of, cert_of_value, cert_of}
use Rattle.cert_text.specs.CertText.{number_data, list_data, numbers_data, rows_data, vector_data, bounded_data, pool_data, ranks_data, is_standing, cert_data}
use Rattle.cert_text.proofs.Lists.{elements-items_of, list_all_place, list_all_enumerated_place}

elements_back : (count : ℕ) (values : List Data) → length values ≡ count → elements_of count (list_data values) ≡ Ok values
unfolding elements_of
elements_back count values long = rw (elements-items_of values, eq-eqb _ _ long) refl

each_back_from : {X Y F : Type 0} (read : ℕ → X → Result Y F) (write : Y → X) (n : ℕ) (ys : List Y) → EachPlace ys (λ i y. read (n + i) (write y) ≡ Ok y) → read_each read n (map write ys) ≡ Ok ys
each_back_from read write n [] back = refl
each_back_from read write n (y ∷ ys) back =
    let place : n + 0 ≡ n = omega arith in
    let first : read n (write y) ≡ Ok y = subst (λ (k : ℕ). read k (write y) ≡ Ok y) place (back 0 y refl) in
    let rest = each_back_from read write (n + 1) ys (λ i x here. let later : n + suc i ≡ n + 1 + i = omega arith in subst (λ (k : ℕ). read k (write x) ≡ Ok x) later (back (suc i) x here)) in
    rw (first, rest) refl

-- if each element is read from its own data, the list is read from the list of these data
each_back : {X Y F : Type 0} (read : ℕ → X → Result Y F) (write : Y → X) (ys : List Y) → EachPlace ys (λ i y. read i (write y) ≡ Ok y) → read_each read 0 (map write ys) ≡ Ok ys
each_back read write ys back = each_back_from read write 0 ys (λ i y here. subst (λ (k : ℕ). read k (write y) ≡ Ok y) (sym (zero-add i)) (back i y here))

numbers_back : (count : ℕ) (numbers : List ℕ) → length numbers ≡ count → numbers_of count (numbers_data numbers) ≡ Ok numbers
unfolding numbers_of
numbers_back count numbers long = rw (elements_back count (map number_data numbers) (length-map numbers number_data ∙ long)) (each_back (λ _. number_of) number_data numbers (λ i n here. refl))

class_rows_back : (plan : Plan) (rows : List (List ℕ)) → length rows ≡ length plan.classes → EachPlace rows (λ k row. length row ≡ class_points plan k) → class_rows plan (rows_data rows) ≡ Ok rows
unfolding class_rows
class_rows_back plan rows long are =
    rw (elements_back (length plan.classes) (map numbers_data rows) (length-map rows numbers_data ∙ long))
    (each_back (λ k. numbers_of (class_points plan k)) numbers_data rows (λ k row here. numbers_back (class_points plan k) row (are k row here)))

client_rows_back : (plan : Plan) (rows : List (List ℕ)) → length rows ≡ length plan.clients → EachPlace rows (λ c row. length row ≡ client_points plan c) → client_rows plan (rows_data rows) ≡ Ok rows
unfolding client_rows
client_rows_back plan rows long are =
    rw (elements_back (length plan.clients) (map numbers_data rows) (length-map rows numbers_data ∙ long))
    (each_back (λ c. numbers_of (client_points plan c)) numbers_data rows (λ c row here. numbers_back (client_points plan c) row (are c row here)))

-- each row of a vector with the plan's shape has the length that `points` gives for its index
rows_long : {X : Type 0} (points : X → ℕ) (none : X) (xs : List X) (rows : List (List ℕ)) → length rows ≡ length xs
    → list_all (λ (entry : ℕ × X). length (get_or rows entry.0 []) == points entry.1) (enumerate_from 0 xs) ≡ true → EachPlace rows (λ k row. length row ≡ points (get_or xs k none))
rows_long {X = X} points none xs rows long shaped k row here =
    let inside : k < length rows = slice_get_within rows k row here in
    let within : k < length xs = omega arith in
    let test = list_all_enumerated_place (λ (entry : ℕ × X). length (get_or rows entry.0 []) == points entry.1) xs shaped k (get_or xs k none) (slice_get-get_or xs k none within) in
    ap (λ (r : List ℕ). length r) (sym (get_or_from_slice_get rows k row [] here)) ∙ eqb-true _ _ test

vector_back : (plan : Plan) (v : Vector) → has_shape plan v ≡ true → vector_of plan (vector_data v) ≡ Ok v
unfolding vector_of vector_data check_keys
vector_back plan v shaped =
    let clients = and_parts (length v.workers == length plan.pools && length v.classes == length plan.classes && length v.clients == length plan.clients && list_all (λ (entry : ℕ × Class). length (get_or v.classes entry.0 []) == length entry.1.body + 3) (enumerate_from 0 plan.classes)) _ shaped in
    let classes = and_parts (length v.workers == length plan.pools && length v.classes == length plan.classes && length v.clients == length plan.clients) _ clients.0 in
    let counts = and_parts (length v.workers == length plan.pools && length v.classes == length plan.classes) _ classes.0 in
    let first = and_parts (length v.workers == length plan.pools) _ counts.0 in
    let class_count : length v.classes ≡ length plan.classes = eqb-true _ _ first.1 in
    let client_count : length v.clients ≡ length plan.clients = eqb-true _ _ counts.1 in
    let workers_read = numbers_back (length plan.pools) v.workers (eqb-true _ _ first.0) in
    let classes_read = class_rows_back plan v.classes class_count (rows_long (λ (class : Class). length class.body + 3) no_class plan.classes v.classes class_count classes.1) in
    let clients_read = client_rows_back plan v.clients client_count (rows_long (λ (client : Client). length client.body + 1) no_client plan.clients v.clients client_count clients.1) in
    rw (workers_read, classes_read, clients_read) refl

vector_shape : (plan : Plan) (v : Vector) → vector_fits plan v ≡ true → has_shape plan v ≡ true
vector_shape plan v fits = (and_parts (has_shape plan v) _ fits).0

-- in version 2, a pool's part that fits is read from its own data, whatever its bound is
bounded_back_two : (plan : Plan) (p : ℕ) (bound : Option Bound) (blocked : Vector) → bound_fits plan p bound ≡ true → vector_fits plan blocked ≡ true
    → pool_of Two plan p (bounded_data (vector_data blocked) bound) ≡ Ok (record { bound = bound; blocked = blocked })
unfolding pool_of check_keys standing_of lifetime_of no_bound_of bounded_data
bounded_back_two plan p None blocked first second = rw (first, vector_back plan blocked (vector_shape plan blocked second)) refl
bounded_back_two plan p (Some (Standing v)) blocked first second = rw (vector_back plan v (vector_shape plan v first), vector_back plan blocked (vector_shape plan blocked second)) refl
bounded_back_two plan p (Some (Lifetime v)) blocked first second = rw (vector_back plan v (vector_shape plan v first), vector_back plan blocked (vector_shape plan blocked second)) refl

-- in version 1, a pool's part that has a standing vector and fits is read from its own data
bounded_back_one : (plan : Plan) (p : ℕ) (bound : Option Bound) (blocked : Vector) → is_standing bound ≡ true → bound_fits plan p bound ≡ true → vector_fits plan blocked ≡ true
    → pool_of One plan p (bounded_data (vector_data blocked) bound) ≡ Ok (record { bound = bound; blocked = blocked })
unfolding pool_of check_keys standing_of bounded_data
bounded_back_one plan p None blocked stands first second = absurd cc
bounded_back_one plan p (Some (Standing v)) blocked stands first second = rw (vector_back plan v (vector_shape plan v first), vector_back plan blocked (vector_shape plan blocked second)) refl
bounded_back_one plan p (Some (Lifetime v)) blocked stands first second = absurd cc

pools_back : (version : Version) (plan : Plan) (pools : List PoolCert) → length pools ≡ length plan.pools → EachPlace pools (λ p pool. pool_of version plan p (pool_data pool) ≡ Ok pool) → pools_of version plan (list_data (map pool_data pools)) ≡ Ok pools
unfolding pools_of
pools_back version plan pools long back = rw (elements_back (length plan.pools) (map pool_data pools) (length-map pools pool_data ∙ long)) (each_back (pool_of version plan) pool_data pools back)

-- the parts of `cert_fits`
record FitsByParts (plan : Plan) (cert : Cert) : Type 0 where
  count : length cert.pools ≡ length plan.pools
  ranks : ranks_fit plan cert.ranks ≡ true
  pools : EachPlace cert.pools (λ p pool. pool_cert_fits plan p pool ≡ true)

by_parts : (plan : Plan) (cert : Cert) → cert_fits plan cert ≡ true → FitsByParts plan cert
by_parts plan cert fits =
    let outer = and_parts (length cert.pools == length plan.pools && ranks_fit plan cert.ranks) _ fits in
    let inner = and_parts (length cert.pools == length plan.pools) _ outer.0 in
    record { count = eqb-true _ _ inner.0; ranks = inner.1; pools = list_all_enumerated_place (λ entry. pool_cert_fits plan entry.0 entry.1) cert.pools outer.1 }

-- the parts of `ranks_fit`
record RanksByParts (plan : Plan) (ranks : Ranks) : Type 0 where
  pools : length ranks.pools ≡ length plan.pools
  reach : length ranks.reach ≡ length plan.classes
  levels : length ranks.levels ≡ length plan.classes
  small : ranks_have_small_numbers ranks ≡ true

ranks_by_parts : (plan : Plan) (ranks : Ranks) → ranks_fit plan ranks ≡ true → RanksByParts plan ranks
ranks_by_parts plan ranks fits =
    let shape : Bool = length ranks.pools == length plan.pools && length ranks.reach == length plan.classes && length ranks.levels == length plan.classes in
    let a = and_parts (shape && list_all is_small ranks.pools && list_all is_small ranks.reach) (list_all is_small ranks.levels) fits in
    let b = and_parts (shape && list_all is_small ranks.pools) (list_all is_small ranks.reach) a.0 in
    let c = and_parts shape (list_all is_small ranks.pools) b.0 in
    let d = and_parts (length ranks.pools == length plan.pools && length ranks.reach == length plan.classes) _ c.0 in
    let e = and_parts (length ranks.pools == length plan.pools) _ d.0 in
    record { pools = eqb-true _ _ e.0; reach = eqb-true _ _ e.1; levels = eqb-true _ _ d.1; small = and_from _ _ (and_from _ _ c.1 b.1) a.1 }

ranks_back : (plan : Plan) (ranks : Ranks) → RanksByParts plan ranks → ranks_of plan (ranks_data ranks) ≡ Ok ranks
unfolding ranks_of ranks_data check_keys
ranks_back plan ranks fit =
    rw (numbers_back (length plan.pools) ranks.pools fit.pools, numbers_back (length plan.classes) ranks.reach fit.reach, numbers_back (length plan.classes) ranks.levels fit.levels) refl

shape_back : (version : Version) (plan : Plan) (cert : Cert) → FitsByParts plan cert → EachPlace cert.pools (λ p pool. pool_of version plan p (pool_data pool) ≡ Ok pool) → shape_of version plan (cert_data cert) ≡ Ok cert
unfolding shape_of cert_data check_keys
shape_back version plan cert fit back = rw (pools_back version plan cert.pools fit.count back, ranks_back plan cert.ranks (ranks_by_parts plan cert.ranks fit.ranks)) refl

bound_small : (plan : Plan) (p : ℕ) (bound : Option Bound) → bound_fits plan p bound ≡ true → bound_has_small_numbers bound ≡ true
bound_small plan p None fits = refl
bound_small plan p (Some bound) fits = (and_parts (has_shape plan (bound_vector bound)) _ fits).1

pub fits_small : (plan : Plan) (cert : Cert) → cert_fits plan cert ≡ true → cert_has_small_numbers cert ≡ true
unfolding cert_has_small_numbers
fits_small plan cert fits =
    let fit = by_parts plan cert fits in
    and_from _ _ (list_all_from pool_has_small_numbers cert.pools (λ p pool here. small p pool (fit.pools p pool here))) (ranks_by_parts plan cert.ranks fit.ranks).small
  where
    small : (p : ℕ) (pool : PoolCert) → pool_cert_fits plan p pool ≡ true → pool_has_small_numbers pool ≡ true
    small p pool fits =
        let both = and_parts (bound_fits plan p pool.bound) _ fits in
        and_from _ _ (bound_small plan p pool.bound both.0) (and_parts (has_shape plan pool.blocked) _ both.1).1

version_one : (cert : Cert) → list_all (λ (pool : PoolCert). is_standing pool.bound) cert.pools ≡ true → version_of (cert_data cert) ≡ Ok One
unfolding version_of cert_data
version_one cert e = rw e refl

version_two : (cert : Cert) → list_all (λ (pool : PoolCert). is_standing pool.bound) cert.pools ≡ false → version_of (cert_data cert) ≡ Ok Two
unfolding version_of cert_data
version_two cert e = rw e refl

-- a certificate that fits is read from its own data, whether or not each pool has a standing vector
value_back : (all : Bool) (plan : Plan) (cert : Cert) → list_all (λ (pool : PoolCert). is_standing pool.bound) cert.pools ≡ all → cert_fits plan cert ≡ true → cert_of_value (cert_data cert) plan ≡ Ok cert
unfolding cert_of_value
value_back true plan cert e fits =
    let fit = by_parts plan cert fits in
    let standing = list_all_place (λ (pool : PoolCert). is_standing pool.bound) cert.pools e in
    let back = shape_back One plan cert fit
    (λ p pool here. let both = and_parts (bound_fits plan p pool.bound) _ (fit.pools p pool here) in bounded_back_one plan p pool.bound pool.blocked (standing p pool here) both.0 both.1) in
    rw (version_one cert e, back, fits_small plan cert fits) refl
value_back false plan cert e fits =
    let fit = by_parts plan cert fits in
    let back = shape_back Two plan cert fit
    (λ p pool here. let both = and_parts (bound_fits plan p pool.bound) _ (fit.pools p pool here) in bounded_back_two plan p pool.bound pool.blocked both.0 both.1) in
    rw (version_two cert e, back, fits_small plan cert fits) refl

-- a text that is JSON for the data of a certificate is read as that certificate
pub cert_back : (text : List ℕ) (plan : Plan) (cert : Cert) → is_utf8 text ≡ true → read text ≡ Some (cert_data cert) → cert_fits plan cert ≡ true → length text ≤ MAX_CERT_BYTES → cert_of text plan ≡ Ok cert
unfolding cert_of document_of
cert_back text plan cert utf8 reads fits within = rw (le-leb _ _ within, utf8, reads) (value_back _ plan cert refl fits)
