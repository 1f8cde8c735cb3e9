-- The computation of the steady rows, class by class.
use Rattle.std.proofs.Common.{◌≡◌, ℕ, zero, suc, ◌+◌, ◌<◌, ◌≤◌, ◌⊎◌, inl, inr, ⊎_elim, Bool, true, false, ◌&&◌, List, [], ◌∷◌, length, map, replicate, set, get_or, slice_get, Some, refl, sym, ap, ap₂, subst, ◌∙◌, arith}
use Rattle.std.specs.List.{list_all}
use Rattle.std.proofs.lemmas.Bool.{cases_lt, false≢true, and_parts, false_from_ne_true}
use Rattle.std.proofs.lemmas.List.{get_or_default, length-replicate, length-set, map-id}
use Rattle.std.proofs.lemmas.Option.{slice_get-get_or, slice_get_past, get_or_from_slice_get}
use Rattle.support.proofs.Elements.{slice_get-set_same, slice_get-set_other, same_by_slice_get}
use Rattle.support.proofs.Members.{In-get_or, list_all_at_In}
use Rattle.job_bodies.specs.Plan.{Pool, Class, Client, Plan, no_class, no_client, class_at, client_at}
use Rattle.job_bodies.proofs.Bodies.{HasValidBodies}
use Rattle.job_bodies.specs.declared.limits.TheConstants.{MAX_WEIGHT}
use Rattle.weights.specs.Vector.{Vector, class_weights, is_small, has_small_numbers, vector_fits}
use Rattle.weights.proofs.Fitting.{small_in}
use Rattle.weights.specs.Ranks.{Ranks}
use Rattle.cert_text.specs.Cert.{PoolCert, Cert}
use Rattle.size_search.specs.Submitted.{NoCircle}
use Rattle.size_search.specs.ComputedRows.{IsComputedUpTo}
use Rattle.size_search.specs.Steady.{copied_row, blocked_of, class_row, client_row, jobs, jobs_within, steady_vector, steady_levels, pool_of, steady_ranks, steady_cert}
use Rattle.size_search.proofs.Opened.{place_in}
use Rattle.size_search.proofs.Depths.{shallow, levels_sink}
use Rattle.size_search.proofs.SteadyRows.{WeighTheSame, class_row-agree, class_is}
use Rattle.size_search.proofs.Fitting.{as_many_jobs, vector_is_fit}

abbrev level_at : Plan → ℕ → ℕ
level_at plan k = get_or (steady_levels plan) k 0

abbrev pub with_row : Vector → ℕ → List ℕ → Vector
with_row v m row = record v { classes = set v.classes m row }

-- ---- one class

-- the row that is computed for class m is its steady row
row_is : (plan : Plan) (v : Vector) (n m : ℕ) → HasValidBodies plan → NoCircle plan → IsComputedUpTo plan v n m → level_at plan m ≡ n → m < length plan.classes
    → class_row plan v (class_at plan m).body ≡ class_weights (steady_vector plan) m
row_is plan v n m ordered none computed of_level inside =
    let valid = ordered.classes m in
    let same : WeighTheSame v (steady_vector plan) (class_at plan m).body = record {
      rows = λ j at.
          let place = place_in at in
          computed.rows j (valid.submit place.0 j place.1) (inl (omega (arith, levels_sink plan ordered none m j at, of_level)));
    } in
    class_row-agree plan v (steady_vector plan) (class_at plan m).body valid same ∙ sym (class_is plan ordered none m inside)

row_here : (v : Vector) (m : ℕ) (row : List ℕ) → m < length v.classes → class_weights (with_row v m row) m ≡ row
row_here v m row inside = get_or_from_slice_get (set v.classes m row) m row [] (slice_get-set_same v.classes m row inside)

get_or-of : {X : Type 0} (xs ys : List X) (k : ℕ) (d : X) → slice_get xs k ≡ slice_get ys k → get_or xs k d ≡ get_or ys k d
get_or-of [] [] k d same = refl
get_or-of [] (y ∷ ys) zero d same = absurd cc
get_or-of [] (y ∷ ys) (suc k) d same = get_or-of [] ys k d same
get_or-of (x ∷ xs) [] zero d same = absurd cc
get_or-of (x ∷ xs) [] (suc k) d same = get_or-of xs [] k d same
get_or-of (x ∷ xs) (y ∷ ys) zero d same = cc
get_or-of (x ∷ xs) (y ∷ ys) (suc k) d same = get_or-of xs ys k d same

row_elsewhere : (v : Vector) (m k : ℕ) (row : List ℕ) → (k ≡ m → ⊥) → class_weights (with_row v m row) k ≡ class_weights v k
row_elsewhere v m k row other = get_or-of (set v.classes m row) v.classes k [] (slice_get-set_other v.classes m k row other)

same_or_not : (k m : ℕ) → (k ≡ m) ⊎ (k ≡ m → ⊥)
same_or_not k m =
    ⊎_elim
    (λ (less : k < m). inr (λ e. omega (arith, e, less)))
    (λ (no_less : m ≤ k). ⊎_elim (λ (more : m < k). inr (λ e. omega (arith, e, more))) (λ (no_more : k ≤ m). inl (omega (arith, no_less, no_more))) (cases_lt m k))
    (cases_lt k m)

-- if class m has this level and its row is set, the rows up to class m + 1 are computed
pub computed_put : (plan : Plan) (v : Vector) (n m : ℕ) → HasValidBodies plan → NoCircle plan → IsComputedUpTo plan v n m → level_at plan m ≡ n → m < length plan.classes
    → list_all is_small (class_row plan v (class_at plan m).body) ≡ true → IsComputedUpTo plan (with_row v m (class_row plan v (class_at plan m).body)) n (m + 1)
computed_put plan v n m ordered none computed of_level inside small = record {
  as_many = length-set v.classes m (class_row plan v (class_at plan m).body) ∙ computed.as_many;
  no_workers = computed.no_workers;
  no_clients = computed.no_clients;
  jobs = record { small = λ k i. at_each k i (same_or_not k m) };
  rows = λ k known which. of_each k known which (same_or_not k m);
}
  where
    at_each : (k i : ℕ) → (k ≡ m) ⊎ (k ≡ m → ⊥) → get_or (class_weights (with_row v m (class_row plan v (class_at plan m).body)) k) i 0 ≤ MAX_WEIGHT
    at_each k i (inl is) =
        let here = ap (λ (j : ℕ). class_weights (with_row v m (class_row plan v (class_at plan m).body)) j) is ∙ row_here v m (class_row plan v (class_at plan m).body) (omega (arith, inside, computed.as_many)) in
        subst (λ (any : List ℕ). get_or any i 0 ≤ MAX_WEIGHT) (sym here) (small_in (class_row plan v (class_at plan m).body) i small)
    at_each k i (inr other) = subst (λ (any : List ℕ). get_or any i 0 ≤ MAX_WEIGHT) (sym (row_elsewhere v m k (class_row plan v (class_at plan m).body) other)) (computed.jobs.small k i)

    of_each : (k : ℕ) → k < length plan.classes → (level_at plan k < n) ⊎ ((level_at plan k ≡ n) × (k < m + 1)) → (k ≡ m) ⊎ (k ≡ m → ⊥) → class_weights (with_row v m (class_row plan v (class_at plan m).body)) k ≡ class_weights (steady_vector plan) k
    of_each k known which (inl is) =
        ap (λ (j : ℕ). class_weights (with_row v m (class_row plan v (class_at plan m).body)) j) is
        ∙ (row_here v m (class_row plan v (class_at plan m).body) (omega (arith, inside, computed.as_many))
        ∙ (row_is plan v n m ordered none computed of_level inside ∙ ap (class_weights (steady_vector plan)) (sym is)))
    of_each k known which (inr other) =
        row_elsewhere v m k (class_row plan v (class_at plan m).body) other
        ∙ computed.rows k known
        (⊎_elim (λ (low : level_at plan k < n). inl low) (λ (both : (level_at plan k ≡ n) × (k < m + 1)). inr (both.0, not_yet k m both.1 other)) which)
      where
        not_yet : (j l : ℕ) → j < l + 1 → (j ≡ l → ⊥) → j < l
        not_yet j l within differs = ⊎_elim (λ (less : j < l). less) (λ (more : l ≤ j). absurd (differs (omega (arith, within, more)))) (cases_lt j l)

-- if class m has another level, the rows up to class m + 1 are computed
pub computed_skip : (plan : Plan) (v : Vector) (n m : ℕ) → IsComputedUpTo plan v n m → (level_at plan m ≡ n → ⊥) → IsComputedUpTo plan v n (m + 1)
computed_skip plan v n m computed other = record {
  as_many = computed.as_many;
  no_workers = computed.no_workers;
  no_clients = computed.no_clients;
  jobs = computed.jobs;
  rows = λ k known which. computed.rows k known (⊎_elim (λ (low : level_at plan k < n). inl low) (λ (both : (level_at plan k ≡ n) × (k < m + 1)). inr (both.0, earlier k both.0 both.1)) which);
}
  where
    earlier : (k : ℕ) → level_at plan k ≡ n → k < m + 1 → k < m
    earlier k of_level within =
        ⊎_elim (λ (less : k < m). less)
        (λ (more : m ≤ k). let is : m ≡ k = omega (arith, within, more) in absurd (other (ap (level_at plan) is ∙ of_level)))
        (cases_lt k m)

-- after the last class, the rows of this level are complete
pub computed_next : (plan : Plan) (v : Vector) (n m : ℕ) → IsComputedUpTo plan v n m → length plan.classes ≤ m → IsComputedUpTo plan v (n + 1) 0
computed_next plan v n m computed all = record {
  as_many = computed.as_many;
  no_workers = computed.no_workers;
  no_clients = computed.no_clients;
  jobs = computed.jobs;
  rows = λ k known which.
      computed.rows k known
      (⊎_elim
      (λ (low : level_at plan k < n + 1). ⊎_elim (λ (lower : level_at plan k < n). inl lower) (λ (no_lower : n ≤ level_at plan k). inr (omega (arith, low, no_lower), omega (arith, known, all))) (cases_lt (level_at plan k) n))
      (λ (both : (level_at plan k ≡ n + 1) × (k < 0)). absurd (omega (arith, both.1)))
      which);
}

-- ---- all classes

pub computed_all : (plan : Plan) (v : Vector) → HasValidBodies plan → NoCircle plan → IsComputedUpTo plan v (length plan.classes) 0 → v.classes ≡ (jobs plan).classes
computed_all plan v ordered none computed = same_by_slice_get v.classes (jobs plan).classes (λ k. at_each k (cases_lt k (length plan.classes)))
  where
    at_each : (k : ℕ) → (k < length plan.classes) ⊎ (length plan.classes ≤ k) → slice_get v.classes k ≡ slice_get (jobs plan).classes k
    at_each k (inl inside) =
        slice_get-get_or v.classes k [] (omega (arith, inside, computed.as_many))
        ∙ (ap Some (computed.rows k inside (inl (shallow plan ordered none k inside)))
        ∙ sym (slice_get-get_or (jobs plan).classes k [] (omega (arith, inside, as_many_jobs plan (length plan.classes) refl))))
    at_each k (inr past) =
        slice_get_past v.classes k (omega (arith, past, computed.as_many)) ∙ sym (slice_get_past (jobs plan).classes k (omega (arith, past, as_many_jobs plan (length plan.classes) refl)))

-- a vector with these parts
abbrev pub vector_of : List ℕ → List (List ℕ) → List (List ℕ) → Vector
vector_of workers classes clients = record { workers = workers; classes = classes; clients = clients }

no_others : (plan : Plan) (n : ℕ) → vector_of [] (jobs_within plan n).classes [] ≡ jobs_within plan n
no_others plan zero = refl
no_others plan (suc n) = refl

pub are_jobs : (plan : Plan) (v : Vector) → HasValidBodies plan → NoCircle plan → IsComputedUpTo plan v (length plan.classes) 0 → v ≡ jobs plan
are_jobs plan v ordered none computed =
    ap (λ (ws : List ℕ). vector_of ws v.classes v.clients) computed.no_workers
    ∙ (ap (vector_of [] v.classes) computed.no_clients
    ∙ (ap (λ (rows : List (List ℕ)). vector_of [] rows []) (computed_all plan v ordered none computed)
    ∙ no_others plan (length plan.classes)))

zeros : {X : Type 0} (xs : List X) → replicate (length xs) zero ≡ map (λ (x : X). zero) xs
zeros [] = refl
zeros (x ∷ xs) = ap (λ (ns : List ℕ). zero ∷ ns) (zeros xs)

-- the vector with the computed parts is the steady vector
pub vector_from : (plan : Plan) (v : Vector) (workers : List ℕ) (clients : List (List ℕ)) → HasValidBodies plan → NoCircle plan → IsComputedUpTo plan v (length plan.classes) 0
    → workers ≡ replicate (length plan.pools) 0 → clients ≡ map (client_row plan v) plan.clients → vector_of workers v.classes clients ≡ steady_vector plan
vector_from plan v workers clients ordered none computed are_zeros are_rows =
    ap (λ (ws : List ℕ). vector_of ws v.classes clients) (are_zeros ∙ zeros plan.pools)
    ∙ (ap (λ (rows : List (List ℕ)). vector_of (map (λ (pool : Pool). zero) plan.pools) rows clients) (computed_all plan v ordered none computed)
    ∙ ap (vector_of (map (λ (pool : Pool). zero) plan.pools) (jobs plan).classes) (are_rows ∙ ap (λ (w : Vector). map (client_row plan w) plan.clients) (are_jobs plan v ordered none computed)))

empty_row : (n k : ℕ) → get_or {A = List ℕ} (replicate n []) k [] ≡ []
empty_row zero k = refl
empty_row (suc n) zero = refl
empty_row (suc n) (suc k) = empty_row n k

-- before the first level, no class has its row
pub none_computed : (plan : Plan) (workers : List ℕ) (clients : List (List ℕ)) (rows : List (List ℕ)) → workers ≡ [] → clients ≡ [] → rows ≡ replicate (length plan.classes) [] → IsComputedUpTo plan (vector_of workers rows clients) 0 0
none_computed plan workers clients rows no_workers no_clients empty = record {
  as_many = ap length empty ∙ length-replicate (length plan.classes) [];
  no_workers = no_workers;
  no_clients = no_clients;
  jobs = record { small = λ k i. subst (λ (row : List ℕ). get_or row i 0 ≤ MAX_WEIGHT) (sym (ap (λ (all : List (List ℕ)). get_or all k []) empty ∙ empty_row (length plan.classes) k)) (omega arith) };
  rows = λ k inside computed. absurd (⊎_elim (λ below. omega (arith, below)) (λ same. omega (arith, same.1)) computed);
}

-- ---- the certificate

pub copied_vector : (v : Vector) (is_zero : Bool) → vector_of (copied_row is_zero v.workers) (map (copied_row is_zero) v.classes) (map (copied_row is_zero) v.clients) ≡ blocked_of v is_zero
copied_vector v true = refl
copied_vector v false = ap₂ (vector_of v.workers) (map-id v.classes) (map-id v.clients)

abbrev pub cert_of : List PoolCert → Ranks → Cert
cert_of pools ranks = record { pools = pools; ranks = ranks }

pub cert_from : (plan : Plan) (v : Vector) (pools : List PoolCert) (ranks : Ranks) → v ≡ steady_vector plan → pools ≡ map (pool_of v) plan.pools → ranks ≡ steady_ranks plan → cert_of pools ranks ≡ steady_cert plan
cert_from plan v pools ranks is are_pools are_ranks =
    ap (λ (any : List PoolCert). cert_of any ranks) (are_pools ∙ ap (λ (w : Vector). map (pool_of w) plan.pools) is) ∙ ap (cert_of (steady_cert plan).pools) are_ranks

pub heavy_unless_fit : (plan : Plan) → HasValidBodies plan → NoCircle plan → vector_fits plan (steady_vector plan) ≡ false → has_small_numbers (steady_vector plan) ≡ false
heavy_unless_fit plan ordered none unfit =
    false_from_ne_true (has_small_numbers (steady_vector plan)) (λ small. false≢true (sym unfit ∙ vector_is_fit plan ordered none small))

-- ---- values read in loops

pub class_here : (plan : Plan) (items : List Class) (k : ℕ) (class : Class) → items ≡ plan.classes → k < length plan.classes → class ≡ get_or items k class → class ≡ class_at plan k
class_here plan items k class same inside read =
    let long : length items ≡ length plan.classes = ap length same in
    read ∙ (get_or_default items k class no_class (omega (arith, long, inside)) ∙ ap (λ (all : List Class). get_or all k no_class) same)

pub client_here : (plan : Plan) (items : List Client) (c : ℕ) (client : Client) → items ≡ plan.clients → c < length items → client ≡ get_or items c client → client ≡ client_at plan c
client_here plan items c client same inside read = read ∙ (get_or_default items c client no_client inside ∙ ap (λ (all : List Client). get_or all c no_client) same)

-- ---- a row that is too heavy

pub heavy_here : (plan : Plan) (v : Vector) (n m : ℕ) → HasValidBodies plan → NoCircle plan → IsComputedUpTo plan v n m → level_at plan m ≡ n → m < length plan.classes
    → list_all is_small (class_row plan v (class_at plan m).body) ≡ false → has_small_numbers (steady_vector plan) ≡ false
heavy_here plan v n m ordered none computed of_level inside heavy =
    false_from_ne_true (has_small_numbers (steady_vector plan))
    (λ small.
    let all = steady_vector plan in
    let rows : list_all (list_all is_small) all.classes ≡ true = (and_parts (list_all is_small all.workers) (list_all (list_all is_small) all.classes) (and_parts (list_all is_small all.workers && list_all (list_all is_small) all.classes) (list_all (list_all is_small) all.clients) small).0).1 in
    let there_is : m < length all.classes = omega (arith, inside, as_many_jobs plan (length plan.classes) refl) in
    let row : list_all is_small (class_weights all m) ≡ true = list_all_at_In (list_all is_small) rows (In-get_or all.classes m [] there_is) in
    false≢true (sym heavy ∙ (ap (list_all is_small) (row_is plan v n m ordered none computed of_level inside) ∙ row)))

-- ---- the vector before the first class

pub computed_none : (plan : Plan) (v : Vector) → v.workers ≡ [] → v.clients ≡ [] → v.classes ≡ replicate (length plan.classes) [] → IsComputedUpTo plan v 0 0
computed_none plan v workers clients are = record {
  no_workers = workers;
  no_clients = clients;
  as_many = ap length are ∙ length-replicate (length plan.classes) [];
  jobs = record { small = λ k i. subst (λ (rows : List (List ℕ)). get_or (get_or rows k []) i 0 ≤ MAX_WEIGHT) (sym are) (nothing_in (length plan.classes) k i) };
  rows = λ k known which. absurd (⊎_elim (λ (low : level_at plan k < 0). omega (arith, low)) (λ (both : (level_at plan k ≡ 0) × (k < 0)). omega (arith, both.1)) which);
}
  where
    nothing_in : (n k i : ℕ) → get_or (get_or (replicate n []) k []) i 0 ≤ MAX_WEIGHT
    nothing_in zero k i = omega arith
    nothing_in (suc n) zero i = omega arith
    nothing_in (suc n) (suc k) i = nothing_in n k i
