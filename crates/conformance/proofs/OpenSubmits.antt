-- The submits whose jobs are open in a body.
use Rattle.std.proofs.Common.{◌≡◌, ◌≢◌, ℕ, zero, suc, ◌+◌, ◌<◌, ◌≤◌, ◌⊎◌, inl, inr, ⊎_elim, Bool, true, false, cond, not, eqb, List, [], ◌∷◌, ◌++◌, filter, count_by, Option, Some, None, refl, sym, ap, subst, ◌∙◌, arith}
use Rattle.std.specs.Prelude.{slice_get}
use Rattle.std.proofs.lemmas.Bool.{false≢true, cases_lt, eqb-true, eq-eqb, ne_eqb}
use Rattle.support.specs.In.{In, here, there}
use Rattle.support.proofs.Members.{not_In_nil, In-cons_cases, In-append_left, In-append_right, In-push_cases, In-filter, In-filter_from}
use Rattle.job_bodies.specs.declared.action.Action.{Action}
use Rattle.job_bodies.specs.declared.action.Action.TheVariants.{Work, Submit, Get}
use Rattle.job_bodies.specs.Plan.{Plan, submits, submitted_class}
use Rattle.job_bodies.specs.ValidBody.{IsValidBody}
use Rattle.conformance.specs.Path.{open_after_action, open_in_body, count_in_body}
use Rattle.conformance.proofs.OpenCounts.{count_cons}
use Rattle.conformance.proofs.MachineJobs.{AreApart}

-- ---- bounds
below_after : (o : Option Action) (i : ℕ) (ts : List ℕ) → ((t : ℕ) → In t ts → t < i) → (t : ℕ) → In t (open_after_action o i ts) → t < suc i
below_after None i ts below t j = let lt = below t j in omega (arith, lt)
below_after (Some (Work units)) i ts below t j = let lt = below t j in omega (arith, lt)
below_after (Some (Submit class)) i ts below t j = ⊎_elim (λ old. let lt = below t old in omega (arith, lt)) (λ (new : t ≡ i). omega (arith, new)) (In-push_cases ts i j)
below_after (Some (Get submit)) i ts below t j = let lt = below t (In-filter_from (λ (other : ℕ). not (eqb other submit)) ts j).0 in omega (arith, lt)

-- An open submit is before the index.
pub open_below : (body : List Action) (i t : ℕ) → In t (open_in_body body i) → t < i
open_below body zero t j = absurd (not_In_nil j)
open_below body (suc i) t j = below_after (slice_get body i) i (open_in_body body i) (open_below body i) t j

-- ---- no submit is open twice
apart_push : (ts : List ℕ) (i : ℕ) → (In i ts → ⊥) → AreApart ts → AreApart (ts ++ i ∷ [])
apart_push [] i fresh apart = (λ j. not_In_nil j, tt)
apart_push (t ∷ ts) i fresh apart =
    (λ j. ⊎_elim (λ old. apart.0 old) (λ (new : t ≡ i). fresh (subst (λ (u : ℕ). In u (t ∷ ts)) new here)) (In-push_cases ts i j), apart_push ts i (λ j. fresh (there j)) apart.1)

apart_if : (b : Bool) (test : ℕ → Bool) (t : ℕ) (ts : List ℕ) → (In t ts → ⊥) → AreApart (filter test ts) → AreApart (cond b (t ∷ filter test ts) (filter test ts))
apart_if true test t ts fresh apart = (λ j. fresh (In-filter_from test ts j).0, apart)
apart_if false test t ts fresh apart = apart

apart_filter : (test : ℕ → Bool) (ts : List ℕ) → AreApart ts → AreApart (filter test ts)
apart_filter test [] apart = tt
apart_filter test (t ∷ ts) apart = apart_if (test t) test t ts apart.0 (apart_filter test ts apart.1)

apart_after : (o : Option Action) (i : ℕ) (ts : List ℕ) → (In i ts → ⊥) → AreApart ts → AreApart (open_after_action o i ts)
apart_after None i ts fresh apart = apart
apart_after (Some (Work units)) i ts fresh apart = apart
apart_after (Some (Submit class)) i ts fresh apart = apart_push ts i fresh apart
apart_after (Some (Get submit)) i ts fresh apart = apart_filter (λ (other : ℕ). not (eqb other submit)) ts apart

pub open_apart : (body : List Action) (i : ℕ) → AreApart (open_in_body body i)
open_apart body zero = tt
open_apart body (suc i) = apart_after (slice_get body i) i (open_in_body body i) (λ j. let lt = open_below body i i j in omega (arith, lt)) (open_apart body i)

-- ---- the submit of a get
stays_if : (o : Option Action) (i t : ℕ) (ts : List ℕ) → ((u : ℕ) → o ≡ Some (Get u) → t ≢ u) → In t ts → In t (open_after_action o i ts)
stays_if None i t ts other j = j
stays_if (Some (Work units)) i t ts other j = j
stays_if (Some (Submit class)) i t ts other j = In-append_left (i ∷ []) j
stays_if (Some (Get u)) i t ts other j = In-filter (λ (one : ℕ). not (eqb one u)) j (ap not (ne_eqb t u (other u refl)))

opens_if : (o : Option Action) (t : ℕ) (ts : List ℕ) → submits o ≡ true → In t (open_after_action o t ts)
opens_if None t ts is = absurd (false≢true is)
opens_if (Some (Work units)) t ts is = absurd (false≢true is)
opens_if (Some (Submit class)) t ts is = In-append_right ts here
opens_if (Some (Get u)) t ts is = absurd (false≢true is)

open_until : (plan : Plan) (body : List Action) (g t i : ℕ) → IsValidBody plan body → slice_get body g ≡ Some (Get t) → t < i → i ≤ g → In t (open_in_body body i)
open_until plan body g t zero valid e lt le = absurd (omega (arith, lt))
open_until plan body g t (suc i) valid e lt le =
    ⊎_elim
    (λ (earlier : t < i). stays_if (slice_get body i) i t (open_in_body body i)
    (λ u is same. valid.once i g t (omega (arith, le)) (is ∙ ap (λ (n : ℕ). Some (Get n)) (sym same)) e)
    (open_until plan body g t i valid e earlier (omega (arith, le))))
    (λ (late : i ≤ t).
    let here_it_is : t ≡ i = omega (arith, late, lt) in
    subst (λ (n : ℕ). In t (open_in_body body (suc n))) here_it_is (opens_if (slice_get body t) t (open_in_body body t) (valid.of_submit g t e)))
    (cases_lt t i)

-- The submit of a get of a valid body is open before the get.
pub get_is_open : (plan : Plan) (body : List Action) (g t : ℕ) → IsValidBody plan body → slice_get body g ≡ Some (Get t) → In t (open_in_body body g)
get_is_open plan body g t valid e = open_until plan body g t g valid e (valid.behind g t e) (omega arith)

-- ---- the count after a get
filtered_if : (b : Bool) (p test : ℕ → Bool) (t : ℕ) (ts : List ℕ) → count_by p (filter test ts) ≤ count_by p ts → count_by p (cond b (t ∷ filter test ts) (filter test ts)) ≤ count_by p (t ∷ ts)
filtered_if true p test t ts le = let a = count_cons p t ts in let b = count_cons p t (filter test ts) in omega (arith, a, b, le)
filtered_if false p test t ts le = let a = count_cons p t ts in omega (arith, a, le)

count_filtered : (p test : ℕ → Bool) (ts : List ℕ) → count_by p (filter test ts) ≤ count_by p ts
count_filtered p test [] = omega arith
count_filtered p test (t ∷ ts) = filtered_if (test t) p test t ts (count_filtered p test ts)

abbrev is_not : ℕ → ℕ → Bool
is_not t other = not (eqb other t)

removed_if : (b : Bool) (p : ℕ → Bool) (t x : ℕ) (ts : List ℕ) → eqb x t ≡ b → p t ≡ true → (t ≡ x) ⊎ In t ts → (In t ts → suc (count_by p (filter (is_not t) ts)) ≤ count_by p ts)
    → suc (count_by p (cond (not b) (x ∷ filter (is_not t) ts) (filter (is_not t) ts))) ≤ count_by p (x ∷ ts)
removed_if true p t x ts is passes at rest =
    let first = count_cons p x ts ∙ ap (λ (b : Bool). cond b 1 0 + count_by p ts) (ap p (eqb-true x t is) ∙ passes) in
    let fewer = count_filtered p (is_not t) ts in
    omega (arith, first, fewer)
removed_if false p t x ts is passes (inl same) rest = absurd (false≢true (sym is ∙ subst (λ (y : ℕ). eqb x y ≡ true) (sym same) (eq-eqb x x refl)))
removed_if false p t x ts is passes (inr later) rest =
    let a = count_cons p x ts in
    let b = count_cons p x (filter (is_not t) ts) in
    let less = rest later in
    omega (arith, a, b, less)

count_removed : (p : ℕ → Bool) (t : ℕ) (ts : List ℕ) → In t ts → p t ≡ true → suc (count_by p (filter (is_not t) ts)) ≤ count_by p ts
count_removed p t [] j passes = absurd (not_In_nil j)
count_removed p t (x ∷ ts) j passes = removed_if (eqb x t) p t x ts refl passes (In-cons_cases j) (λ i. count_removed p t ts i passes)

-- After a get fewer jobs of its class are open in the body.
pub fewer_after_get : (body : List Action) (g t : ℕ) → slice_get body g ≡ Some (Get t) → In t (open_in_body body g) → suc (count_in_body (submitted_class body t) body (suc g)) ≤ count_in_body (submitted_class body t) body g
fewer_after_get body g t e j =
    let counted = λ (submit : ℕ). eqb (submitted_class body submit) (submitted_class body t) in
    let next = ap (λ (o : Option Action). count_by counted (open_after_action o g (open_in_body body g))) e in
    let less = count_removed counted t (open_in_body body g) j (eq-eqb (submitted_class body t) (submitted_class body t) refl) in
    omega (arith, next, less)
