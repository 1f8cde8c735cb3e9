-- The quantities of the classes for a growing number of generations of jobs.
use Rattle.std.proofs.Common.{◌≡◌, ◌≤◌, ◌<◌, ◌+◌, ◌-◌, ◌*◌, ◌^◌, ℕ, zero, suc, List, length, map, min, slice_get, slice_index, Some, sum_by, refl, sym, ap, subst, ◌∙◌, arith}
use Rattle.std.proofs.lemmas.List.{get_or-map}
use Rattle.std.proofs.lemmas.Option.{get_or_from_slice_get}
use Rattle.job_bodies.specs.declared.action.Action.{Action}
use Rattle.job_bodies.specs.declared.action.Action.TheVariants.{Work, Submit, Get}
use Rattle.job_bodies.specs.Plan.{Plan, Class, Client, class_at, no_class, no_client}
use Rattle.job_bodies.specs.WellFormed.{IsWellFormed}
use Rattle.job_bodies.specs.ValidBody.{IsValidBody}
use Rattle.job_bodies.proofs.Bodies.{ordered}
use Rattle.locked_runner.specs.Complete.{rounds_of}
use Rattle.soundness.specs.Drain.{of_submit}
use Rattle.locked_runner.specs.RunNumbers.{capped, AreCapped, AreQuantities, submitted, submitted_by, quantity_within}
use Rattle.locked_runner.proofs.Capped.{capped_sums, capped_products}

-- two sums over the submits of a valid body are equal when capped, if the two functions are equal when capped at each class of the plan
submits_capped : (plan : Plan) (f g : ℕ → ℕ) (body : List Action) → IsValidBody plan body → ((k : ℕ) → k < length plan.classes → capped (f k) ≡ capped (g k)) → capped (submitted f body) ≡ capped (submitted g body)
submits_capped plan f g body valid same = capped_sums (2 ^ 64 - 1) (of_submit f) (of_submit g) body each
  where
    each : (i : ℕ) (action : Action) → slice_get body i ≡ Some action → capped (of_submit f action) ≡ capped (of_submit g action)
    each i (Work u) e = refl
    each i (Submit k) e = same k (valid.submit i k e)
    each i (Get t) e = refl

pub of_numbers : (plan : Plan) (f : ℕ → ℕ) (numbers : List ℕ) (body : List Action) → IsValidBody plan body → AreCapped plan f numbers → capped (submitted (slice_index numbers) body) ≡ capped (submitted f body)
of_numbers plan f numbers body valid are =
    submits_capped plan (slice_index numbers) f body valid (λ k inside. let at : slice_index numbers k ≡ min (f k) (2 ^ 64 - 1) = are k inside in omega arith)

abbrev pub with_jobs : (Class → ℕ) → List ℕ → Class → ℕ
with_jobs own_quantity numbers class = own_quantity class + submitted (slice_index numbers) class.body

pub add_generation : (plan : Plan) (own_quantity : Class → ℕ) (n : ℕ) (numbers next : List ℕ) → IsWellFormed plan → next ≡ map (λ class. capped (with_jobs own_quantity numbers class)) plan.classes
    → AreQuantities plan own_quantity n numbers → AreQuantities plan own_quantity (suc n) next
add_generation plan own_quantity n numbers next formed is are k inside =
    let class : Class = class_at plan k in
    let at : slice_index next k ≡ capped (with_jobs own_quantity numbers class) = ap (λ (xs : List ℕ). slice_index xs k) is ∙ get_or-map (λ class. capped (with_jobs own_quantity numbers class)) plan.classes k no_class 0 inside in
    let same : capped (submitted (slice_index numbers) class.body) ≡ capped (submitted (quantity_within plan own_quantity n) class.body) = of_numbers plan (quantity_within plan own_quantity n) numbers class.body ((ordered plan formed).classes k) are in
    let sums : capped (own_quantity class + submitted (slice_index numbers) class.body) ≡ capped (own_quantity class + submitted (quantity_within plan own_quantity n) class.body) = omega arith in
    at ∙ sums

-- if one more generation never changes the quantities, any number of further generations leaves them unchanged
after : (plan : Plan) (own_quantity : Class → ℕ) (n d : ℕ) (numbers : List ℕ) → AreQuantities plan own_quantity n numbers → ((m : ℕ) → AreQuantities plan own_quantity m numbers → AreQuantities plan own_quantity (suc m) numbers)
    → AreQuantities plan own_quantity (d + n) numbers
after plan own_quantity n zero numbers are stays =
    let same : n ≡ 0 + n = omega arith in
    subst (λ (m : ℕ). AreQuantities plan own_quantity m numbers) same are
after plan own_quantity n (suc d) numbers are stays =
    let same : suc (d + n) ≡ suc d + n = omega arith in
    subst (λ (m : ℕ). AreQuantities plan own_quantity m numbers) same (stays (d + n) (after plan own_quantity n d numbers are stays))

pub settled : (plan : Plan) (own_quantity : Class → ℕ) (n m : ℕ) (numbers : List ℕ) → AreQuantities plan own_quantity n numbers → ((i : ℕ) → AreQuantities plan own_quantity i numbers → AreQuantities plan own_quantity (suc i) numbers)
    → n ≤ m → AreQuantities plan own_quantity m numbers
settled plan own_quantity n m numbers are stays later =
    let same : m - n + n ≡ m = omega arith in
    subst (λ (i : ℕ). AreQuantities plan own_quantity i numbers) same (after plan own_quantity n (m - n) numbers are stays)

-- the sum over the submits of the clients is the same, when capped, for the capped numbers and for f
pub in_rounds : (plan : Plan) (rounds : ℕ) (f : ℕ → ℕ) (numbers : List ℕ) → IsWellFormed plan → AreCapped plan f numbers
    → capped (sum_by (submitted_by rounds (slice_index numbers)) plan.clients) ≡ capped (sum_by (submitted_by rounds f) plan.clients)
in_rounds plan rounds f numbers formed are = capped_sums (2 ^ 64 - 1) (submitted_by rounds (slice_index numbers)) (submitted_by rounds f) plan.clients each
  where
    each : (i : ℕ) (client : Client) → slice_get plan.clients i ≡ Some client → capped (submitted_by rounds (slice_index numbers) client) ≡ capped (submitted_by rounds f client)
    each i client e =
        let valid : IsValidBody plan client.body = subst (λ (x : Client). IsValidBody plan x.body) (get_or_from_slice_get plan.clients i client no_client e) ((ordered plan formed).clients i) in
        sym (capped_products (2 ^ 64 - 1) client.count (rounds_of rounds client) (submitted (slice_index numbers) client.body))
        ∙ (ap (λ (x : ℕ). min (client.count * min (rounds_of rounds client * x) (2 ^ 64 - 1)) (2 ^ 64 - 1)) (of_numbers plan f numbers client.body valid are)
        ∙ capped_products (2 ^ 64 - 1) client.count (rounds_of rounds client) (submitted f client.body))
