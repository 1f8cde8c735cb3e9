-- The test that rejected jobs do not increase the weight of a state is true exactly when the law on weights holds.
use Rattle.std.proofs.Common.{◌≡◌, ℕ, ◌+◌, ◌-◌, ◌<◌, ◌≤◌, Bool, true, false, ◌||◌, ◌&&◌, not, leb, List, ◌∷◌, length, get_or, drop, slice_get, Some, IsTrue, refl, sym, ap, subst, ◌∙◌, zero-add, arith}
use Rattle.std.specs.Prelude.{slice_index}
use Rattle.std.specs.List.{list_all, enumerate_from}
use Rattle.std.proofs.lemmas.List.{at_drop_more}
use Rattle.std.proofs.lemmas.Bool.{false≢true, leb-true, le-leb}
use Rattle.std.proofs.lemmas.Option.{slice_get-get_or, slice_get_within, get_or_from_slice_get}
use Rattle.job_bodies.specs.Plan.{Class, Plan, no_class, pool_at, class_at}
use Rattle.job_bodies.proofs.Bodies.{list_all_enumerated}
use Rattle.job_bodies.proofs.Passing.{list_all_enumerated_from}
use Rattle.weights.specs.Vector.{Vector, vector_fits, class_weights, queued_weight, done_weight}
use Rattle.weights.proofs.Fitting.{fits}
use Rattle.pool_machine.specs.State.{pool_of}
use Rattle.soundness.specs.WeightLaws.{RejectedAreLight}
use Rattle.counterexample.specs.NoThreadStarts.{is_light, rejected_are_light}

-- the vector has the weights of a queued job, of each position of the body, and of a done job
pub weights_long : (plan : Plan) (v : Vector) (k : ℕ) (class : Class) → IsTrue (vector_fits plan v) → slice_get plan.classes k ≡ Some class → length (class_weights v k) ≡ length class.body + 3
weights_long plan v k class fit here =
    (fits plan v fit).class k (slice_get_within plan.classes k class here) ∙ ap (λ (c : Class). length c.body + 3) (get_or_from_slice_get plan.classes k class no_class here)

-- the last weight of a class is the weight of a done job
pub last_is_done : (plan : Plan) (v : Vector) (k : ℕ) → IsTrue (vector_fits plan v) → k < length plan.classes → slice_index (class_weights v k) (length (class_weights v k) - 1) ≡ done_weight plan v k
last_is_done plan v k fit inside =
    let long = (fits plan v fit).class k inside in
    ap (slice_index (class_weights v k)) (let same : length (class_weights v k) - 1 ≡ length (class_at plan k).body + 2 = omega arith in same)

-- if the pool of a class may reject jobs, the class is light exactly when a done job weighs at most as much as a queued job
pub light_if_done : (plan : Plan) (v : Vector) (k done queued : ℕ) (class : Class) → IsTrue (vector_fits plan v) → slice_get plan.classes k ≡ Some class → (pool_at plan class.pool).may_reject ≡ true → queued ≡ slice_index (class_weights v k) 0
    → done ≡ slice_index (class_weights v k) (length (class_weights v k) - 1) → leb done queued ≡ is_light plan v (k, class)
light_if_done plan v k done queued class fit here may is_queued is_done =
    let last : done ≡ done_weight plan v k = is_done ∙ last_is_done plan v k fit (slice_get_within plan.classes k class here) in
    rw (may, last, is_queued) refl

-- ---- the loop over the classes

-- the classes from index i on are the one at i and those from i + 1 on
turn : (plan : Plan) (v : Vector) (i : ℕ) (class : Class) → i < length plan.classes → class ≡ get_or plan.classes i class
    → list_all (is_light plan v) (enumerate_from i (drop i plan.classes)) ≡ list_all (is_light plan v) ((i, class) ∷ enumerate_from (i + 1) (drop (i + 1) plan.classes))
turn plan v i class inside here =
    at_drop_more (λ (classes : List Class). list_all (is_light plan v) (enumerate_from i classes)) plan.classes i class inside
    ∙ ap (λ (k : Class). list_all (is_light plan v) ((i, k) ∷ enumerate_from (i + 1) (drop (i + 1) plan.classes))) (sym here)

-- if one more class is light, the remaining classes are light exactly when those from that class on are
pub light_more : (plan : Plan) (v : Vector) (i : ℕ) (class : Class) (all : Bool) → i < length plan.classes → class ≡ get_or plan.classes i class → is_light plan v (i, class) ≡ true
    → list_all (is_light plan v) (enumerate_from i (drop i plan.classes)) ≡ all → list_all (is_light plan v) (enumerate_from (i + 1) (drop (i + 1) plan.classes)) ≡ all
light_more plan v i class all inside here light prior = sym (turn plan v i class inside here ∙ ap (λ (b : Bool). b && list_all (is_light plan v) (enumerate_from (i + 1) (drop (i + 1) plan.classes))) light) ∙ prior

-- if one class is not light, not all classes are
pub light_fails : (plan : Plan) (v : Vector) (i : ℕ) (class : Class) (all : Bool) → i < length plan.classes → class ≡ get_or plan.classes i class → is_light plan v (i, class) ≡ false
    → list_all (is_light plan v) (enumerate_from i (drop i plan.classes)) ≡ all → false ≡ all
light_fails plan v i class all inside here heavy prior = sym (turn plan v i class inside here ∙ ap (λ (b : Bool). b && list_all (is_light plan v) (enumerate_from (i + 1) (drop (i + 1) plan.classes))) heavy) ∙ prior

-- ---- the law on weights

within_if : (may : Bool) (m n : ℕ) → may ≡ true → (not may || leb m n) ≡ true → m ≤ n
within_if true m n is passes = leb-true m n passes
within_if false m n is passes = absurd (false≢true is)

test_if : (may : Bool) (m n : ℕ) → (may ≡ true → m ≤ n) → (not may || leb m n) ≡ true
test_if true m n within = le-leb m n (within refl)
test_if false m n within = refl

pub light_from_test : (plan : Plan) (v : Vector) → rejected_are_light plan v ≡ true → RejectedAreLight plan v
light_from_test plan v passes k inside may =
    let found : is_light plan v (0 + k, class_at plan k) ≡ true = list_all_enumerated (is_light plan v) 0 plan.classes k (class_at plan k) passes (slice_get-get_or plan.classes k no_class inside) in
    within_if (pool_at plan (pool_of plan k)).may_reject (done_weight plan v k) (queued_weight v k) may (subst (λ (n : ℕ). is_light plan v (n, class_at plan k) ≡ true) (zero-add k) found)

pub test_of_light : (plan : Plan) (v : Vector) → RejectedAreLight plan v → rejected_are_light plan v ≡ true
test_of_light plan v light = list_all_enumerated_from (is_light plan v) 0 plan.classes (λ k class here.
    let same : class_at plan k ≡ class = get_or_from_slice_get plan.classes k class no_class here in
    let own : is_light plan v (k, class_at plan k) ≡ true =
    test_if (pool_at plan (pool_of plan k)).may_reject (done_weight plan v k) (queued_weight v k) (λ may. light k (slice_get_within plan.classes k class here) may) in
    let of_class : is_light plan v (k, class) ≡ true = subst (λ (c : Class). is_light plan v (k, c) ≡ true) same own in
    subst (λ (n : ℕ). is_light plan v (n, class) ≡ true) (sym (zero-add k)) of_class)
