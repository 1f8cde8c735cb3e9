-- The effect of an action on the weight of open jobs.
use Rattle.std.proofs.Common.{◌≡◌, ℕ, zero, suc, ◌+◌, ◌-◌, ◌≤◌, Bool, true, false, ◌||◌, cond, List, [], ◌∷◌, length, drop, slice_get, Option, Some, None, refl, sym, ap, ap₂, ◌∙◌, arith, zero-add}
use Rattle.std.proofs.Math.Seq.{drop-cons, drop-length}
use Rattle.std.proofs.lemmas.Bool.{false≢true, false_from_ne_true, eqb-true, eq-eqb}
use Rattle.std.proofs.lemmas.Option.{slice_get_within, get_or_from_slice_get}
use Rattle.support.specs.In.{In, here, there}
use Rattle.support.proofs.Members.{In-slice_get, In-from_list_any, list_any_at_In}
use Rattle.job_bodies.specs.declared.action.Action.{Action}
use Rattle.job_bodies.specs.declared.action.Action.TheVariants.{Work, Submit, Get}
use Rattle.job_bodies.specs.Plan.{Plan, submits, class_of_submit, submitted_class, gets, has_get_of}
use Rattle.job_bodies.specs.ValidBody.{IsValidBody}
use Rattle.weights.specs.Vector.{Vector, queued_weight}
use Rattle.size_search.specs.Steady.{sum_below, submitted_weight, awaited_weight, open_weight}
use Rattle.size_search.proofs.Sums.{sum_below-agree, sum_below_zero, sum_below-but_one}

-- ---- the rest of a body

-- an action of a list has an index
pub place_in : {X : Type 0} {x : X} {xs : List X} → In x xs → (i : ℕ) × (slice_get xs i ≡ Some x)
place_in here = (0, refl)
place_in (there at) = let found = place_in at in (suc found.0, found.1)

-- the suffix of a body from index i on begins with the action at this index
pub rest_at : (body : List Action) (i : ℕ) (x : Action) → slice_get body i ≡ Some x → drop i body ≡ x ∷ drop (suc i) body
rest_at body i x at =
    drop-cons body i x (slice_get_within body i x at) ∙ ap (λ (y : Action). y ∷ drop (suc i) body) (get_or_from_slice_get body i x x at)

slice_get-drop : {X : Type 0} (i : ℕ) (xs : List X) (j : ℕ) → slice_get (drop i xs) j ≡ slice_get xs (i + j)
slice_get-drop zero xs j = ap (slice_get xs) (sym (zero-add j))
slice_get-drop (suc i) [] j = refl
slice_get-drop (suc i) (x ∷ xs) j =
    let number : suc i + j ≡ suc (i + j) = omega arith in
    slice_get-drop i xs j ∙ sym (ap (slice_get (x ∷ xs)) number)

-- an action at position i or later gets the submit at position s
record IsGotFrom (body : List Action) (i s : ℕ) : Type 0 where
  pub position : ℕ
  pub late : i ≤ position
  pub is_get : slice_get body position ≡ Some (Get s)

is_that_get : (s : ℕ) (x : Action) → gets s x ≡ true → x ≡ Get s
is_that_get s (Get t) passes = ap Get (sym (eqb-true s t passes))
is_that_get s (Work u) passes = absurd (false≢true passes)
is_that_get s (Submit k) passes = absurd (false≢true passes)

got_from : (body : List Action) (i s : ℕ) → has_get_of (drop i body) s ≡ true → IsGotFrom body i s
got_from body i s passes =
    let found = In-from_list_any (gets s) (drop i body) passes in
    let at = place_in found.1 in
    record {
      position = i + at.0;
      late = omega arith;
      is_get = sym (slice_get-drop i body at.0) ∙ (at.1 ∙ ap Some (is_that_get s found.0 found.2));
    }

got_late : (body : List Action) (i s g : ℕ) → i ≤ g → slice_get body g ≡ Some (Get s) → has_get_of (drop i body) s ≡ true
got_late body i s g late is_get =
    let number : i + (g - i) ≡ g = omega (arith, late) in
    let there : slice_get (drop i body) (g - i) ≡ Some (Get s) = slice_get-drop i body (g - i) ∙ (ap (slice_get body) number ∙ is_get) in
    list_any_at_In (gets s) (In-slice_get (drop i body) (g - i) (Get s) there) (eq-eqb s s refl)

same_bools : (a b : Bool) → (a ≡ true → b ≡ true) → (b ≡ true → a ≡ true) → a ≡ b
same_bools true b first second = sym (first refl)
same_bools false true first second = absurd (false≢true (second refl))
same_bools false false first second = refl

-- all gets of a submit come after it
pub got_behind : (plan : Plan) (body : List Action) (s : ℕ) → IsValidBody plan body → has_get_of (drop (suc s) body) s ≡ has_get_of body s
got_behind plan body s valid =
    same_bools (has_get_of (drop (suc s) body) s) (has_get_of body s)
    (λ later. let found = got_from body (suc s) s later in got_late body 0 s found.position (omega arith) found.is_get)
    (λ passes. let found = got_from body 0 s passes in got_late body (suc s) s found.position (omega (arith, valid.behind found.position s found.is_get)) found.is_get)

-- no further get of a submit comes after its get
none_behind : (plan : Plan) (body : List Action) (i t : ℕ) → IsValidBody plan body → slice_get body i ≡ Some (Get t) → has_get_of (drop (suc i) body) t ≡ false
none_behind plan body i t valid is_get =
    false_from_ne_true (has_get_of (drop (suc i) body) t)
    (λ passes. let found = got_from body (suc i) t passes in valid.once i found.position t (omega (arith, found.late)) is_get found.is_get)

-- ---- the terms

cond_same : (b : Bool) (n : ℕ) → cond b n n ≡ n
cond_same true n = refl
cond_same false n = refl

is_got_now : (body : List Action) (i s : ℕ) (x : Action) → slice_get body i ≡ Some x → has_get_of (drop i body) s ≡ gets s x || has_get_of (drop (suc i) body) s
is_got_now body i s x at = ap (λ (rest : List Action). has_get_of rest s) (rest_at body i x at)

-- an action that does not get a submit does not change the weight that the submit adds to the open jobs
stays : (v : Vector) (body : List Action) (i s : ℕ) (x : Action) → slice_get body i ≡ Some x → gets s x ≡ false → awaited_weight v body (suc i) s ≡ awaited_weight v body i s
stays v body i s x at not_got =
    let same : has_get_of (drop i body) s ≡ has_get_of (drop (suc i) body) s = is_got_now body i s x at ∙ ap (λ (b : Bool). b || has_get_of (drop (suc i) body) s) not_got in
    ap (λ (b : Bool). cond b (submitted_weight v (slice_get body s)) 0) (sym same)

-- an action that submits nothing opens no job
opens_nothing : (v : Vector) (body : List Action) (i : ℕ) (x : Action) → slice_get body i ≡ Some x → submitted_weight v (Some x) ≡ 0 → awaited_weight v body (suc i) i ≡ 0
opens_nothing v body i x at nothing =
    ap (λ (n : ℕ). cond (has_get_of (drop (suc i) body) i) n 0) (ap (submitted_weight v) at ∙ nothing) ∙ cond_same (has_get_of (drop (suc i) body) i) 0

-- ---- the weight of open jobs after an action

pub open-start : (v : Vector) (body : List Action) → open_weight v body 0 ≡ 0
open-start v body = refl

pub open-end : (v : Vector) (body : List Action) → open_weight v body (length body) ≡ 0
open-end v body =
    sum_below_zero (awaited_weight v body (length body)) (length body)
    (λ s below. ap (λ (rest : List Action). cond (has_get_of rest s) (submitted_weight v (slice_get body s)) 0) (drop-length body))

pub open-work : (v : Vector) (body : List Action) (i u : ℕ) → slice_get body i ≡ Some (Work u) → open_weight v body (suc i) ≡ open_weight v body i
open-work v body i u at =
    let step : open_weight v body (suc i) ≡ sum_below (awaited_weight v body (suc i)) i + awaited_weight v body (suc i) i = refl in
    omega (arith, step, opens_nothing v body i (Work u) at refl, sum_below-agree (awaited_weight v body (suc i)) (awaited_weight v body i) i (λ s below. stays v body i s (Work u) at refl))

pub open-submit : (plan : Plan) (v : Vector) (body : List Action) (i k : ℕ) → IsValidBody plan body → slice_get body i ≡ Some (Submit k) → open_weight v body (suc i) ≡ open_weight v body i + cond (has_get_of body i) (queued_weight v k) 0
open-submit plan v body i k valid at =
    let step : open_weight v body (suc i) ≡ sum_below (awaited_weight v body (suc i)) i + awaited_weight v body (suc i) i = refl in
    let open_weight_after : awaited_weight v body (suc i) i ≡ cond (has_get_of body i) (queued_weight v k) 0 = ap₂ (λ (b : Bool) (x : Option Action). cond b (submitted_weight v x) 0) (got_behind plan body i valid) at in
    omega (arith, step, open_weight_after, sum_below-agree (awaited_weight v body (suc i)) (awaited_weight v body i) i (λ s below. stays v body i s (Submit k) at refl))

weight_of_submit : (v : Vector) (x : Option Action) → submits x ≡ true → submitted_weight v x ≡ queued_weight v (class_of_submit x)
weight_of_submit v (Some (Submit k)) is_submit = refl
weight_of_submit v (Some (Work u)) is_submit = absurd (false≢true is_submit)
weight_of_submit v (Some (Get t)) is_submit = absurd (false≢true is_submit)
weight_of_submit v None is_submit = absurd (false≢true is_submit)

pub open-get : (plan : Plan) (v : Vector) (body : List Action) (i t : ℕ) → IsValidBody plan body → slice_get body i ≡ Some (Get t) → open_weight v body (suc i) + queued_weight v (submitted_class body t) ≡ open_weight v body i
open-get plan v body i t valid at =
    let step : open_weight v body (suc i) ≡ sum_below (awaited_weight v body (suc i)) i + awaited_weight v body (suc i) i = refl in
    omega (arith, step, opens_nothing v body i (Get t) at refl, closes)
  where
    behind : awaited_weight v body (suc i) t ≡ 0
    behind = ap (λ (b : Bool). cond b (submitted_weight v (slice_get body t)) 0) (none_behind plan body i t valid at)

    before : awaited_weight v body i t ≡ queued_weight v (submitted_class body t)
    before =
        ap (λ (b : Bool). cond b (submitted_weight v (slice_get body t)) 0) (got_late body i t i (omega arith) at) ∙ weight_of_submit v (slice_get body t) (valid.of_submit i t at)

    not_that : (s : ℕ) → (s ≡ t → ⊥) → gets s (Get t) ≡ false
    not_that s other = false_from_ne_true (gets s (Get t)) (λ passes. other (eqb-true s t passes))

    closes : sum_below (awaited_weight v body (suc i)) i + queued_weight v (submitted_class body t) ≡ sum_below (awaited_weight v body i) i
    closes =
        sum_below-but_one (awaited_weight v body (suc i)) (awaited_weight v body i) i t (queued_weight v (submitted_class body t)) (valid.behind i t at)
        (λ s below other. stays v body i s (Get t) at (not_that s other))
        (omega (arith, behind, before))
