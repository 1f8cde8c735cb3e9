-- A vector whose weights are 0 satisfies the rules of a vector, and its total is 0.
use Rattle.std.proofs.Common.{◌≡◌, ℕ, zero, suc, ◌+◌, ◌*◌, Bool, true, ◌&&◌, List, [], ◌∷◌, length, map, replicate, get_or, sum_by, refl, ap, ◌∙◌, arith}
use Rattle.std.specs.Prelude.{◌==◌}
use Rattle.std.specs.List.{list_all, enumerate_from}
use Rattle.std.proofs.lemmas.Bool.{and_parts, and_from}
use Rattle.std.proofs.lemmas.List.{length-map}
use Rattle.std.proofs.lemmas.List.Sums.{sum_by-cons}
use Rattle.job_bodies.specs.declared.action.Action.{Action}
use Rattle.job_bodies.specs.Plan.{Pool, Class, Client, Plan, class_at, client_at}
use Rattle.weights.specs.declared.get_return.GetReturn.TheVariants.{DoneWeight}
use Rattle.weights.specs.Vector.{Vector, workers_weight, class_weights, job_weight, client_weights, client_weight, is_small, has_small_numbers, has_shape, vector_fits, total}
use Rattle.soundness.proofs.VectorLaws.{BodyLaws, VectorLaws}
use Rattle.size_search.specs.Steady.{zeros, zero_vector}
use Rattle.size_search.proofs.Shapes.{get_or-changed, list_all-agree}

-- ---- lists of zeros

pub zero_at : (n i : ℕ) → get_or (replicate n zero) i zero ≡ zero
zero_at zero i = refl
zero_at (suc n) zero = refl
zero_at (suc n) (suc i) = zero_at n i

pub length-zeros : (n : ℕ) → length (replicate n zero) ≡ n
length-zeros zero = refl
length-zeros (suc n) = ap suc (length-zeros n)

small_zeros : (n : ℕ) → list_all is_small (replicate n zero) ≡ true
small_zeros zero = refl
small_zeros (suc n) = small_zeros n

small_rows : (rows : List (List ℕ)) → list_all (list_all is_small) (map zeros rows) ≡ true
small_rows [] = refl
small_rows (row ∷ rows) = and_from (list_all is_small (zeros row)) (list_all (list_all is_small) (map zeros rows)) (small_zeros (length row)) (small_rows rows)

-- ---- weights

no_worker : (v : Vector) (p : ℕ) → workers_weight (zero_vector v) p ≡ 0
no_worker v p = zero_at (length v.workers) p

class_row : (v : Vector) (k : ℕ) → class_weights (zero_vector v) k ≡ zeros (class_weights v k)
class_row v k = get_or-changed zeros v.classes k []

client_row : (v : Vector) (c : ℕ) → client_weights (zero_vector v) c ≡ zeros (client_weights v c)
client_row v c = get_or-changed zeros v.clients c []

class_zero : (v : Vector) (k i : ℕ) → get_or (class_weights (zero_vector v) k) i 0 ≡ 0
class_zero v k i = ap (λ (row : List ℕ). get_or row i 0) (class_row v k) ∙ zero_at (length (class_weights v k)) i

client_zero : (v : Vector) (c i : ℕ) → client_weight (zero_vector v) c i ≡ 0
client_zero v c i = ap (λ (row : List ℕ). get_or row i 0) (client_row v c) ∙ zero_at (length (client_weights v c)) i

body_laws : (plan : Plan) (v : Vector) (weight : ℕ → ℕ) (body : List Action) → ((i : ℕ) → weight i ≡ 0) → BodyLaws DoneWeight plan (zero_vector v) weight body
body_laws plan v weight body none = record {
  work = λ i u at. omega (arith, none (i + 1));
  submit = λ i k at. omega (arith, none (i + 1), class_zero v k 0);
  get = λ i t at. omega (arith, none (i + 1));
}

pub zero_laws : (plan : Plan) (v : Vector) → VectorLaws DoneWeight plan (zero_vector v)
zero_laws plan v = record {
  classes = λ k. body_laws plan v (job_weight (zero_vector v) k) (class_at plan k).body (λ i. class_zero v k (i + 1));
  clients = λ c. body_laws plan v (client_weight (zero_vector v) c) (client_at plan c).body (λ i. client_zero v c i);
  begins = λ k inside. omega (arith, class_zero v k (0 + 1));
  ends = λ k inside. omega (arith, class_zero v k (length (class_at plan k).body + 2), no_worker v (class_at plan k).pool);
  loops = λ c repeats. omega (arith, client_zero v c 0);
}

-- ---- the total

no_workers : (v : Vector) (entries : List (ℕ × Pool)) → sum_by (λ (entry : ℕ × Pool). workers_weight (zero_vector v) entry.0 * entry.1.max) entries ≡ 0
no_workers v [] = refl
no_workers v (entry ∷ entries) =
    let term : workers_weight (zero_vector v) entry.0 * entry.1.max ≡ 0 * entry.1.max = ap (λ (n : ℕ). n * entry.1.max) (no_worker v entry.0) in
    omega (arith, sum_by-cons (λ (any : ℕ × Pool). workers_weight (zero_vector v) any.0 * any.1.max) entry entries, term, no_workers v entries)

no_clients : (v : Vector) (entries : List (ℕ × Client)) → sum_by (λ (entry : ℕ × Client). entry.1.count * client_weight (zero_vector v) entry.0 0) entries ≡ 0
no_clients v [] = refl
no_clients v (entry ∷ entries) =
    let term : entry.1.count * client_weight (zero_vector v) entry.0 0 ≡ entry.1.count * 0 = ap (λ (n : ℕ). entry.1.count * n) (client_zero v entry.0 0) in
    omega (arith, sum_by-cons (λ (any : ℕ × Client). any.1.count * client_weight (zero_vector v) any.0 0) entry entries, term, no_clients v entries)

pub zero_total : (plan : Plan) (v : Vector) → total plan (zero_vector v) ≡ 0
zero_total plan v = omega (arith, no_clients v (enumerate_from 0 plan.clients), no_workers v (enumerate_from 0 plan.pools))

-- ---- the shape

zero_shape : (plan : Plan) (v : Vector) → has_shape plan (zero_vector v) ≡ has_shape plan v
zero_shape plan v =
    let class_long = λ (entry : ℕ × Class). ap (λ (n : ℕ). n == length entry.1.body + 3) (ap length (class_row v entry.0) ∙ length-zeros (length (class_weights v entry.0))) in
    let client_long = λ (entry : ℕ × Client). ap (λ (n : ℕ). n == length entry.1.body + 1) (ap length (client_row v entry.0) ∙ length-zeros (length (client_weights v entry.0))) in
    by_parts (length-zeros (length v.workers)) (length-map v.classes zeros) (length-map v.clients zeros)
    (list_all-agree (λ (entry : ℕ × Class). length (class_weights (zero_vector v) entry.0) == length entry.1.body + 3) (λ (entry : ℕ × Class). length (class_weights v entry.0) == length entry.1.body + 3) (enumerate_from 0 plan.classes) class_long)
    (list_all-agree (λ (entry : ℕ × Client). length (client_weights (zero_vector v) entry.0) == length entry.1.body + 1) (λ (entry : ℕ × Client). length (client_weights v entry.0) == length entry.1.body + 1) (enumerate_from 0 plan.clients) client_long)
  where
    by_parts : {w w' k k' c c' : ℕ} {a a' b b' : Bool} → w' ≡ w → k' ≡ k → c' ≡ c → a' ≡ a → b' ≡ b
        → (w' == length plan.pools && k' == length plan.classes && c' == length plan.clients && a' && b') ≡ (w == length plan.pools && k == length plan.classes && c == length plan.clients && a && b)
    by_parts workers classes clients first second = rw (workers, classes, clients, first, second) refl

pub zero_fits : (plan : Plan) (v : Vector) → vector_fits plan v ≡ true → vector_fits plan (zero_vector v) ≡ true
zero_fits plan v fits =
    let shape = (and_parts (has_shape plan v) (has_small_numbers v) fits).0 in
    and_from (has_shape plan (zero_vector v)) (has_small_numbers (zero_vector v)) (zero_shape plan v ∙ shape)
    (and_from (list_all is_small (zeros v.workers) && list_all (list_all is_small) (map zeros v.classes)) (list_all (list_all is_small) (map zeros v.clients))
    (and_from (list_all is_small (zeros v.workers)) (list_all (list_all is_small) (map zeros v.classes)) (small_zeros (length v.workers)) (small_rows v.classes)) (small_rows v.clients))
