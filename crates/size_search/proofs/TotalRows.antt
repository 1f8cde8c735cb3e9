-- The conditions of a certificate, divided into its totals and the others.
use Rattle.std.proofs.Common.{◌≡◌, ℕ, ◌<◌, ◌≤◌, ◌-◌, ⊎_elim, Bool, true, false, cond, not, ◌&&◌, ltb, List, [], ◌∷◌, ◌++◌, length, map, filter, flat_map, Option, Some, None, refl, ap, ap₂, sym, subst, ◌∙◌, append_assoc, arith}
use Rattle.std.specs.List.{enumerate_from, list_all}
use Rattle.std.proofs.lemmas.Bool.{and_parts, and_from, ltb-false, le-ltb, cases_Bool, false≢true}
use Rattle.std.proofs.lemmas.List.{append-nil}
use Rattle.std.proofs.lemmas.List.Folds.{list_all-append}
use Rattle.support.specs.In.{In, here}
use Rattle.support.proofs.Members.{not_In_nil, In-append_left, In-append_right, In-append_cases, In-cons_cases, In-push_cases, In-map, In-map_from, In-flat_map_from, In-filter, In-filter_from, list_all_at_In, list_all_from_In}
use Rattle.job_bodies.specs.declared.action.Action.{Action}
use Rattle.job_bodies.specs.declared.action.Action.TheVariants.{Work, Submit, Get}
use Rattle.job_bodies.specs.Plan.{Pool, Class, Client, Plan, pool_at, least_threads}
use Rattle.weights.specs.declared.get_return.GetReturn.{GetReturn}
use Rattle.weights.specs.declared.get_return.GetReturn.TheVariants.{DoneWeight, NoWeight}
use Rattle.weights.specs.declared.bound.Bound.{Bound}
use Rattle.weights.specs.declared.bound.Bound.TheVariants.{Standing, Lifetime}
use Rattle.weights.specs.declared.row.Rule.TheVariants.{V7, S1, S2, L1, L2, L3, B1, B2}
use Rattle.weights.specs.declared.row.Place.{Place}
use Rattle.weights.specs.declared.row.Place.TheVariants as place
use Rattle.weights.specs.declared.row.Row.{Row}
use Rattle.weights.specs.Row.{row, AllHold}
use Rattle.weights.specs.Vector.{Vector, class_weights, queued_weight, workers_weight, client_weight, job_weight, total}
use Rattle.weights.specs.Rows.{action_row, body_rows, class_rows, client_rows, rows, classes_of}
use Rattle.weights.specs.Lifetime.{lifetime_limit}
use Rattle.weights.specs.Bound.{bound_vector, bound_limit, bound_rows}
use Rattle.weights.specs.Blocked.{is_get, counted_rows, blocked_rows}
use Rattle.weights.specs.Ranks.{Ranks, is_counted, rank_rows, rank_rows_of_class, rank_rows_of_action}
use Rattle.cert_text.specs.Cert.{Cert, pool_cert_at, cert_fits}
use Rattle.soundness.specs.declared.note.Section.{Section}
use Rattle.soundness.specs.declared.note.Section.TheVariants as section
use Rattle.soundness.specs.declared.note.Note.{Note}
use Rattle.soundness.specs.Conditions.{note, in_section, bound_section, bound_conditions, pool_conditions, conditions, failing}
use Rattle.soundness.specs.Accepted.{is_nil, accepted}
use Rattle.soundness.proofs.CertLaws.{is_nil_means, section_holds, pool_inside}
use Rattle.soundness.proofs.Faults.{BoundRowsHold, pool_numbers, accepted_from_parts}
use Rattle.size_search.specs.Fitted.{is_total, fails_only_at_totals, shape, limit_of}
use Rattle.size_search.proofs.Shapes.{length-shape, queued_rows, lifetime_body, done_rows, bound_body, optional_body, optional_body-shape, total_of, blocked_body, blocked_body-shape, cert_fits-shape}

-- ---- rows that are not totals

-- none of the rows is a total
abbrev OfNoTotal : List Row → Type 0
OfNoTotal rows = list_all (λ x. not (is_total x.place)) rows ≡ true

of_no_total-append : (xs ys : List Row) → OfNoTotal xs → OfNoTotal ys → OfNoTotal (xs ++ ys)
of_no_total-append xs ys first second =
    list_all-append (λ x. not (is_total x.place)) xs ys ∙ ap₂ (λ a b. a && b) first second

-- if no row of a list is a total, none is after an unbounded queue has removed all rows
of_no_total-cond : (unbounded : Bool) (xs : List Row) → OfNoTotal xs → OfNoTotal (cond unbounded [] xs)
of_no_total-cond true xs all = refl
of_no_total-cond false xs all = all

of_no_total-map : {X : Type 0} (f : X → Row) (xs : List X) → ((x : X) → is_total (f x).place ≡ false) → OfNoTotal (map f xs)
of_no_total-map f [] each = refl
of_no_total-map f (x ∷ xs) each = ap₂ (λ a b. not a && b) (each x) (of_no_total-map f xs each)

of_no_total-flat_map : {X : Type 0} (f : X → List Row) (xs : List X) → ((x : X) → OfNoTotal (f x)) → OfNoTotal (flat_map f xs)
of_no_total-flat_map f [] each = refl
of_no_total-flat_map f (x ∷ xs) each = of_no_total-append (f x) (flat_map f xs) (each x) (of_no_total-flat_map f xs each)

-- the row of an action is not a total
of_action : (get_return : GetReturn) (plan : Plan) (v : Vector) (weight : ℕ → ℕ) (place_at : ℕ → Place) (body : List Action) (i : ℕ) (action : Action) → is_total (place_at i) ≡ false
    → is_total (action_row get_return plan v weight place_at body i action).place ≡ false
of_action get_return plan v weight place_at body i (Work u) other = other
of_action get_return plan v weight place_at body i (Submit k) other = other
of_action get_return plan v weight place_at body i (Get t) other = other

of_body : (get_return : GetReturn) (plan : Plan) (v : Vector) (weight : ℕ → ℕ) (place_at : ℕ → Place) (body : List Action) → ((i : ℕ) → is_total (place_at i) ≡ false) → OfNoTotal (body_rows get_return plan v weight place_at body)
of_body get_return plan v weight place_at body other =
    of_no_total-map (λ (entry : ℕ × Action). action_row get_return plan v weight place_at body entry.0 entry.1) (enumerate_from 0 body) (λ entry. of_action get_return plan v weight place_at body entry.0 entry.1 (other entry.0))

of_class : (get_return : GetReturn) (plan : Plan) (v : Vector) (k : ℕ) (class : Class) → OfNoTotal (class_rows get_return plan v k class)
of_class get_return plan v k class = of_no_total-append (body_rows get_return plan v (job_weight v k) (place.ClassAction k) class.body) _ (of_body get_return plan v (job_weight v k) (place.ClassAction k) class.body (λ i. refl)) refl

of_loop : (v : Vector) (c n : ℕ) (repeat : Bool) → OfNoTotal (cond repeat (row V7 (place.Client c) (client_weight v c 0) (client_weight v c n) ∷ []) [])
of_loop v c n true = refl
of_loop v c n false = refl

of_client : (get_return : GetReturn) (plan : Plan) (v : Vector) (c : ℕ) (client : Client) → OfNoTotal (client_rows get_return plan v c client)
of_client get_return plan v c client =
    of_no_total-append (body_rows get_return plan v (client_weight v c) (place.ClientAction c) client.body) _ (of_body get_return plan v (client_weight v c) (place.ClientAction c) client.body (λ i. refl))
    (of_loop v c (length client.body) client.repeat)

of_rows : (get_return : GetReturn) (plan : Plan) (v : Vector) → OfNoTotal (rows get_return plan v)
of_rows get_return plan v =
    of_no_total-append (flat_map (λ (entry : ℕ × Class). class_rows get_return plan v entry.0 entry.1) (enumerate_from 0 plan.classes)) _
    (of_no_total-flat_map (λ (entry : ℕ × Class). class_rows get_return plan v entry.0 entry.1) (enumerate_from 0 plan.classes) (λ entry. of_class get_return plan v entry.0 entry.1))
    (of_no_total-flat_map (λ (entry : ℕ × Client). client_rows get_return plan v entry.0 entry.1) (enumerate_from 0 plan.clients) (λ entry. of_client get_return plan v entry.0 entry.1))

-- the rows of a bound, without its total, are not totals
of_bound : (plan : Plan) (p : ℕ) (bound : Bound) → OfNoTotal (bound_body plan p bound)
of_bound plan p (Standing v) =
    of_no_total-append (rows DoneWeight plan v) _ (of_rows DoneWeight plan v)
    (of_no_total-cond (pool_at plan p).unbounded (queued_rows plan p v) (of_no_total-map (λ (entry : ℕ × Class). row S1 (place.Class entry.0) 1 (queued_weight v entry.0)) (classes_of plan p) (λ entry. refl)))
of_bound plan p (Lifetime v) =
    let workers = map (λ (entry : ℕ × Pool). row L1 (place.Worker entry.0) (workers_weight v entry.0) 0) (enumerate_from 0 plan.pools) in
    of_no_total-append (lifetime_body plan v) _
    (of_no_total-append workers (rows NoWeight plan v) (of_no_total-map (λ (entry : ℕ × Pool). row L1 (place.Worker entry.0) (workers_weight v entry.0) 0) (enumerate_from 0 plan.pools) (λ entry. refl)) (of_rows NoWeight plan v))
    (of_no_total-cond (pool_at plan p).unbounded (done_rows plan p v)
    (of_no_total-flat_map (λ (entry : ℕ × Class). map (λ weight. row L2 (place.Class entry.0) 1 weight) (class_weights v entry.0)) (classes_of plan p)
    (λ entry. of_no_total-map (λ weight. row L2 (place.Class entry.0) 1 weight) (class_weights v entry.0) (λ weight. refl))))

-- the rows of a blocked vector, without its total, are not totals
of_blocked : (plan : Plan) (ranks : Ranks) (p : ℕ) (v : Vector) → OfNoTotal (blocked_body plan ranks p v)
of_blocked plan ranks p v =
    of_no_total-append (rows DoneWeight plan v) _ (of_rows DoneWeight plan v)
    (of_no_total-flat_map (λ (entry : ℕ × Class). counted_rows (is_counted plan ranks) v entry.0 entry.1) (classes_of plan p)
    (λ entry.
    of_no_total-map (λ (at : ℕ × Action). row B1 (place.ClassAction entry.0 at.0) 1 (job_weight v entry.0 at.0))
    (filter (λ (at : ℕ × Action). is_get at.1 && is_counted plan ranks entry.0 at.0) (enumerate_from 0 entry.1.body)) (λ at. refl)))

of_rank_action : (ranks : Ranks) (k : ℕ) (body : List Action) (i : ℕ) (action : Action) → OfNoTotal (rank_rows_of_action ranks k body i action)
of_rank_action ranks k body i (Work u) = refl
of_rank_action ranks k body i (Submit k') = refl
of_rank_action ranks k body i (Get t) = refl

of_ranks : (plan : Plan) (ranks : Ranks) → OfNoTotal (rank_rows plan ranks)
of_ranks plan ranks =
    of_no_total-flat_map (λ (entry : ℕ × Class). rank_rows_of_class ranks entry.0 entry.1) (enumerate_from 0 plan.classes)
    (λ entry. of_no_total-flat_map (λ (at : ℕ × Action). rank_rows_of_action ranks entry.0 entry.1.body at.0 at.1) (enumerate_from 0 entry.1.body) (λ at. of_rank_action ranks entry.0 entry.1.body at.0 at.1))

-- ---- the totals

abbrev bound_total : Plan → ℕ → Bound → Row
bound_total plan p (Standing v) = row S2 place.Total (total plan v) (pool_at plan p).queue
bound_total plan p (Lifetime v) = row L3 place.Total (total plan v) (lifetime_limit (pool_at plan p))

-- the row of the total of a bound; none if the queue is unbounded
abbrev bound_totals : Plan → ℕ → Bound → List Row
bound_totals plan p bound = cond (pool_at plan p).unbounded [] (bound_total plan p bound ∷ [])

split-cond : (unbounded : Bool) (xs ys zs : List Row) → xs ++ cond unbounded [] (ys ++ zs) ≡ xs ++ cond unbounded [] ys ++ cond unbounded [] zs
split-cond true xs ys zs = sym (append-nil (xs ++ []))
split-cond false xs ys zs = sym (append_assoc xs ys zs)

bound_rows-split : (plan : Plan) (p : ℕ) (bound : Bound) → bound_rows plan p bound ≡ bound_body plan p bound ++ bound_totals plan p bound
bound_rows-split plan p (Standing v) = split-cond (pool_at plan p).unbounded (rows DoneWeight plan v) (queued_rows plan p v) (bound_total plan p (Standing v) ∷ [])
bound_rows-split plan p (Lifetime v) = split-cond (pool_at plan p).unbounded (lifetime_body plan v) (done_rows plan p v) (bound_total plan p (Lifetime v) ∷ [])

-- the row `x` is the row `t` of a total, and the queue is bounded
record IsTotal (t x : Row) (unbounded : Bool) : Type 0 where
  is : x ≡ t
  bounded : unbounded ≡ false

among_totals : (unbounded : Bool) (t x : Row) → In x (cond unbounded [] (t ∷ [])) → IsTotal t x unbounded
among_totals true t x i = absurd (not_In_nil i)
among_totals false t x i = record { is = ⊎_elim (λ (same : x ≡ t). same) (λ none. absurd (not_In_nil none)) (In-cons_cases i); bounded = refl }

total_among : (unbounded : Bool) (t : Row) → unbounded ≡ false → In t (cond unbounded [] (t ∷ []))
total_among true t bounded = absurd (false≢true (sym bounded))
total_among false t bounded = here

bound_total-place : (plan : Plan) (p : ℕ) (bound : Bound) → is_total (bound_total plan p bound).place ≡ true
bound_total-place plan p (Standing v) = refl
bound_total-place plan p (Lifetime v) = refl

-- a bound's total is within its limit if its row holds
total_within : (plan : Plan) (p : ℕ) (bound : Bound) → (bound_total plan p bound).left ≤ (bound_total plan p bound).right → total plan (bound_vector bound) ≤ bound_limit plan p bound
total_within plan p (Standing v) within = within
total_within plan p (Lifetime v) within = within

total_holds : (plan : Plan) (p : ℕ) (bound : Bound) → total plan (bound_vector bound) ≤ bound_limit plan p bound → (bound_total plan p bound).left ≤ (bound_total plan p bound).right
total_holds plan p (Standing v) within = within
total_holds plan p (Lifetime v) within = within

abbrev blocked_total : Plan → ℕ → Vector → Row
blocked_total plan p v = row B2 place.Total (total plan v) (least_threads (pool_at plan p) - 1)

-- ---- all conditions except the totals, and the totals

pub record HoldButTotals (plan : Plan) (cert : Cert) : Type 0 where
  pub fits : cert_fits plan cert ≡ true
  pub ranks : AllHold (rank_rows plan cert.ranks)
  pub bounds : (p : ℕ) → p < length plan.pools → AllHold (optional_body plan p (pool_cert_at cert p).bound)
  pub blocked : (p : ℕ) → p < length plan.pools → AllHold (blocked_body plan cert.ranks p (pool_cert_at cert p).blocked)

pub record TotalsHold (plan : Plan) (cert : Cert) : Type 0 where
  pub bounds : (p : ℕ) → p < length plan.pools → (pool_at plan p).unbounded ≡ false → total_of plan (pool_cert_at cert p).bound ≤ limit_of plan p (pool_cert_at cert p).bound
  pub blocked : (p : ℕ) → p < length plan.pools → total plan (pool_cert_at cert p).blocked ≤ least_threads (pool_at plan p) - 1

-- ---- conditions of which only totals fail

-- if only totals fail, rows that are not totals hold
hold_elsewhere : (plan : Plan) (cert : Cert) (part : Section) (rows : List Row) → list_all (λ note. is_total note.place) (failing plan cert) ≡ true → OfNoTotal rows
    → ((x : Row) → In x rows → In (note part x) (conditions plan cert)) → AllHold rows
hold_elsewhere plan cert part rows only_totals of_none among x i =
    ⊎_elim
    (λ (wrong : ltb x.right x.left ≡ true).
    let is : is_total x.place ≡ true = list_all_at_In (λ (n : Note). is_total n.place) only_totals (In-filter (λ (n : Note). ltb n.right n.left) (among x i) wrong) in
    let other : not (is_total x.place) ≡ true = list_all_at_In (λ (y : Row). not (is_total y.place)) of_none i in
    absurd (false≢true (sym (ap not is) ∙ other)))
    (λ (right : ltb x.right x.left ≡ false). ltb-false x.right x.left right)
    (cases_Bool (ltb x.right x.left))

in_bound_rows : (plan : Plan) (p : ℕ) (bound : Bound) (x : Row) → In x (bound_body plan p bound) → In x (bound_rows plan p bound)
in_bound_rows plan p bound x i = subst (In x) (sym (bound_rows-split plan p bound)) (In-append_left (bound_totals plan p bound) i)

-- if only totals fail, the rows of a bound that are not totals hold
bound_holds_elsewhere : (plan : Plan) (cert : Cert) (p : ℕ) (bound : Option Bound) → list_all (λ note. is_total note.place) (failing plan cert) ≡ true
    → ((x : Note) → In x (bound_conditions plan p bound) → In x (conditions plan cert)) → AllHold (optional_body plan p bound)
bound_holds_elsewhere plan cert p None only_totals among x i = absurd (not_In_nil i)
bound_holds_elsewhere plan cert p (Some bound) only_totals among x i =
    let part = bound_section p bound in
    hold_elsewhere plan cert part (bound_body plan p bound) only_totals (of_bound plan p bound) (λ y at. among (note part y) (In-map (note part) (in_bound_rows plan p bound y at))) x i

pub hold_but_totals : (plan : Plan) (cert : Cert) → fails_only_at_totals plan cert ≡ true → HoldButTotals plan cert
hold_but_totals plan cert only_totals =
    let parts = and_parts (cert_fits plan cert) (list_all (λ note. is_total note.place) (failing plan cert)) only_totals in
    record {
      fits = parts.0;
      ranks = hold_elsewhere plan cert section.Ranks (rank_rows plan cert.ranks) parts.1 (of_ranks plan cert.ranks)
          (λ x i. In-append_left (flat_map (λ (entry : ℕ × Pool). pool_conditions plan cert entry.0) (enumerate_from 0 plan.pools)) (In-map (note section.Ranks) i));
      bounds = λ p inside.
          let pool = pool_cert_at cert p in
          let of_blocked = in_section (section.Blocked p) (blocked_rows plan p (is_counted plan cert.ranks) pool.blocked) in
          bound_holds_elsewhere plan cert p pool.bound parts.1 (λ x i. pool_inside plan cert p x inside (In-append_left of_blocked i));
      blocked = λ p inside.
          let pool = pool_cert_at cert p in
          let part = section.Blocked p in
          let of_bound = bound_conditions plan p pool.bound in
          hold_elsewhere plan cert part (blocked_body plan cert.ranks p pool.blocked) parts.1 (of_blocked plan cert.ranks p pool.blocked)
          (λ x i. pool_inside plan cert p (note part x) inside (In-append_right of_bound (In-map (note part) (In-append_left (blocked_total plan p pool.blocked ∷ []) i))));
    }

-- a note that fails is not among the notes of rows that all hold
fails_not : (part : Section) (rows : List Row) (n : Note) → AllHold rows → ltb n.right n.left ≡ true → In n (in_section part rows) → is_total n.place ≡ true
fails_not part rows n hold wrong i =
    let found = In-map_from (note part) rows i in
    let right : ltb n.right n.left ≡ false = subst (λ (y : Note). ltb y.right y.left ≡ false) found.2 (le-ltb found.0.right found.0.left (hold found.0 found.1)) in
    absurd (false≢true (sym right ∙ wrong))

-- if all rows hold except a total that is appended to them, a note that fails is at the place of a total
fails_at_total : (part : Section) (rows : List Row) (t : Row) (n : Note) → AllHold rows → is_total t.place ≡ true → ltb n.right n.left ≡ true → In n (in_section part (rows ++ t ∷ [])) → is_total n.place ≡ true
fails_at_total part rows t n hold at_total wrong i =
    let found = In-map_from (note part) (rows ++ t ∷ []) i in
    ⊎_elim
    (λ before. fails_not part rows n hold wrong (subst (λ (y : Note). In y (in_section part rows)) found.2 (In-map (note part) before)))
    (λ (last : found.0 ≡ t). ap (λ (y : Note). is_total y.place) (sym found.2) ∙ (ap (λ (x : Row). is_total x.place) last ∙ at_total))
    (In-push_cases rows t found.1)

-- if all rows of a bound hold except its total, a note of the bound that fails is at the place of a total
bound_fails_at_total : (plan : Plan) (p : ℕ) (bound : Option Bound) (n : Note) → AllHold (optional_body plan p bound) → ltb n.right n.left ≡ true → In n (bound_conditions plan p bound) → is_total n.place ≡ true
bound_fails_at_total plan p None n hold wrong i = absurd (not_In_nil i)
bound_fails_at_total plan p (Some bound) n hold wrong i =
    let part = bound_section p bound in
    let found = In-map_from (note part) (bound_body plan p bound ++ bound_totals plan p bound) (subst (λ (xs : List Row). In n (in_section part xs)) (bound_rows-split plan p bound) i) in
    ⊎_elim
    (λ before. fails_not part (bound_body plan p bound) n hold wrong (subst (λ (y : Note). In y (in_section part (bound_body plan p bound))) found.2 (In-map (note part) before)))
    (λ last.
    let total = among_totals (pool_at plan p).unbounded (bound_total plan p bound) found.0 last in
    ap (λ (y : Note). is_total y.place) (sym found.2) ∙ (ap (λ (x : Row). is_total x.place) total.is ∙ bound_total-place plan p bound))
    (In-append_cases (bound_body plan p bound) (bound_totals plan p bound) found.1)

pub fails_only_at_totals_from : (plan : Plan) (cert : Cert) → HoldButTotals plan cert → fails_only_at_totals plan cert ≡ true
fails_only_at_totals_from plan cert hold =
    and_from (cert_fits plan cert) (list_all (λ note. is_total note.place) (failing plan cert)) hold.fits
    (list_all_from_In (λ (n : Note). is_total n.place) (failing plan cert) (λ n i.
    let found = In-filter_from (λ (y : Note). ltb y.right y.left) (conditions plan cert) i in
    at_each n found.1 found.0))
  where
    of_pool : (n : Note) (p : ℕ) → p < length plan.pools → ltb n.right n.left ≡ true → In n (pool_conditions plan cert p) → is_total n.place ≡ true
    of_pool n p inside wrong i =
        let pool = pool_cert_at cert p in
        let counted = is_counted plan cert.ranks in
        ⊎_elim
        (λ first. bound_fails_at_total plan p pool.bound n (hold.bounds p inside) wrong first)
        (λ second. fails_at_total (section.Blocked p) (blocked_body plan cert.ranks p pool.blocked) (blocked_total plan p pool.blocked) n (hold.blocked p inside) refl wrong second)
        (In-append_cases (bound_conditions plan p pool.bound) (in_section (section.Blocked p) (blocked_rows plan p counted pool.blocked)) i)

    at_each : (n : Note) → ltb n.right n.left ≡ true → In n (conditions plan cert) → is_total n.place ≡ true
    at_each n wrong i =
        let conditions_of = λ (entry : ℕ × Pool). pool_conditions plan cert entry.0 in
        let numbered = enumerate_from 0 plan.pools in
        ⊎_elim
        (λ first. fails_not section.Ranks (rank_rows plan cert.ranks) n hold.ranks wrong first)
        (λ later.
        let found = In-flat_map_from conditions_of numbered later in
        let within = pool_numbers 0 plan.pools found.0 found.1 in
        of_pool n found.0.0 (omega (arith, within.1)) wrong found.2)
        (In-append_cases (in_section section.Ranks (rank_rows plan cert.ranks)) (flat_map conditions_of numbered) i)

-- ---- accepted plans

pub at_totals_where_accepted : (plan : Plan) (cert : Cert) → accepted plan cert ≡ true → fails_only_at_totals plan cert ≡ true
at_totals_where_accepted plan cert is_accepted =
    let parts = and_parts (cert_fits plan cert) (is_nil (failing plan cert)) is_accepted in
    and_from (cert_fits plan cert) (list_all (λ note. is_total note.place) (failing plan cert)) parts.0
    (ap (list_all (λ (n : Note). is_total n.place)) (is_nil_means (failing plan cert) parts.1))

-- if no condition fails, the total of a bound is within its limit, unless the queue is unbounded
bound_within : (plan : Plan) (cert : Cert) (p : ℕ) (bound : Option Bound) → failing plan cert ≡ [] → ((x : Note) → In x (bound_conditions plan p bound) → In x (conditions plan cert)) → (pool_at plan p).unbounded ≡ false
    → total_of plan bound ≤ limit_of plan p bound
bound_within plan cert p None none among bounded = omega arith
bound_within plan cert p (Some bound) none among bounded =
    let hold = section_holds plan cert (bound_section p bound) (bound_rows plan p bound) none among in
    let last : In (bound_total plan p bound) (bound_body plan p bound ++ bound_totals plan p bound) =
    In-append_right (bound_body plan p bound) (total_among (pool_at plan p).unbounded (bound_total plan p bound) bounded) in
    total_within plan p bound (hold (bound_total plan p bound) (subst (In (bound_total plan p bound)) (sym (bound_rows-split plan p bound)) last))

pub totals_where_accepted : (plan : Plan) (cert : Cert) → accepted plan cert ≡ true → TotalsHold plan cert
totals_where_accepted plan cert is_accepted =
    let parts = and_parts (cert_fits plan cert) (is_nil (failing plan cert)) is_accepted in
    let none = is_nil_means (failing plan cert) parts.1 in
    record {
      bounds = λ p inside bounded.
          let pool = pool_cert_at cert p in
          let of_blocked = in_section (section.Blocked p) (blocked_rows plan p (is_counted plan cert.ranks) pool.blocked) in
          bound_within plan cert p pool.bound none (λ x i. pool_inside plan cert p x inside (In-append_left of_blocked i)) bounded;
      blocked = λ p inside.
          let pool = pool_cert_at cert p in
          let of_bound = bound_conditions plan p pool.bound in
          let hold = section_holds plan cert (section.Blocked p) (blocked_rows plan p (is_counted plan cert.ranks) pool.blocked) none (λ x i. pool_inside plan cert p x inside (In-append_right of_bound i)) in
          hold (blocked_total plan p pool.blocked) (In-append_right (blocked_body plan cert.ranks p pool.blocked) here);
    }

-- rows that all hold, with a total appended that holds, all hold
hold_with : (rows : List Row) (t : Row) → AllHold rows → t.left ≤ t.right → AllHold (rows ++ t ∷ [])
hold_with rows t hold within x i = ⊎_elim (λ before. hold x before) (λ (last : x ≡ t). subst (λ (y : Row). y.left ≤ y.right) (sym last) within) (In-push_cases rows t i)

-- the rows of a bound hold if all rows except the total hold, and the total is within its limit or the queue is unbounded
bound_rows_hold : (plan : Plan) (p : ℕ) (bound : Option Bound) → AllHold (optional_body plan p bound) → ((pool_at plan p).unbounded ≡ false → total_of plan bound ≤ limit_of plan p bound) → BoundRowsHold plan p bound
bound_rows_hold plan p None hold within = tt
bound_rows_hold plan p (Some bound) hold within = subst AllHold (sym (bound_rows-split plan p bound)) each
  where
    each : AllHold (bound_body plan p bound ++ bound_totals plan p bound)
    each x i =
        ⊎_elim
        (λ before. hold x before)
        (λ last.
        let total = among_totals (pool_at plan p).unbounded (bound_total plan p bound) x last in
        subst (λ (y : Row). y.left ≤ y.right) (sym total.is) (total_holds plan p bound (within total.bounded)))
        (In-append_cases (bound_body plan p bound) (bound_totals plan p bound) i)

pub accepted_from_totals : (plan : Plan) (cert : Cert) → HoldButTotals plan cert → TotalsHold plan cert → accepted plan cert ≡ true
accepted_from_totals plan cert hold totals =
    accepted_from_parts plan cert hold.fits hold.ranks
    (λ p inside. bound_rows_hold plan p (pool_cert_at cert p).bound (hold.bounds p inside) (totals.bounds p inside))
    (λ p inside.
    let v = (pool_cert_at cert p).blocked in
    hold_with (blocked_body plan cert.ranks p v) (blocked_total plan p v) (hold.blocked p inside) (totals.blocked p inside))

-- ---- a plan of the same shape

-- a property of a plan carries over to a plan of the same shape if it depends only on the shape
pub same_in_shape : {Y : Type 0} (says : Plan → Y) (plan other : Plan) → ((any : Plan) → says (shape any) ≡ says any) → shape other ≡ shape plan → says other ≡ says plan
same_in_shape says plan other of_shape same = sym (of_shape other) ∙ (ap says same ∙ of_shape plan)

pub hold_in_shape : (plan other : Plan) (cert : Cert) → shape other ≡ shape plan → HoldButTotals plan cert → HoldButTotals other cert
hold_in_shape plan other cert same hold =
    let as_many : length other.pools ≡ length plan.pools = same_in_shape (λ (any : Plan). length any.pools) plan other length-shape same in
    record {
      fits = same_in_shape (λ (any : Plan). cert_fits any cert) plan other (λ any. cert_fits-shape any cert) same ∙ hold.fits;
      ranks = subst AllHold (sym (same_in_shape (λ (any : Plan). rank_rows any cert.ranks) plan other (λ any. refl) same)) hold.ranks;
      bounds = λ p inside.
          let bound = (pool_cert_at cert p).bound in
          subst AllHold (sym (same_in_shape (λ (any : Plan). optional_body any p bound) plan other (λ any. optional_body-shape any p bound) same)) (hold.bounds p (omega arith));
      blocked = λ p inside.
          let v = (pool_cert_at cert p).blocked in
          subst AllHold (sym (same_in_shape (λ (any : Plan). blocked_body any cert.ranks p v) plan other (λ any. blocked_body-shape any cert.ranks p v) same)) (hold.blocked p (omega arith));
    }
