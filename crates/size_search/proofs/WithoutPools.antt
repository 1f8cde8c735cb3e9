-- A plan without pools has no jobs, so its steady certificate is never too large.
use Rattle.std.proofs.Common.{◌&&◌, ◌≡◌, inl, inr, ℕ, zero, suc, ◌+◌, ◌-◌, ◌*◌, ◌<◌, ◌≤◌, max, Bool, true, false, cond, List, [], ◌∷◌, length, map, drop, get_or, sum_by, slice_get, Option, Some, None, IsTrue, ⊎_elim, refl, sym, ap, subst, ◌∙◌, arith}
use Rattle.std.specs.List.{list_all, enumerate_from}
use Rattle.std.proofs.lemmas.Bool.{and_parts, and_from, cases_lt, false≢true}
use Rattle.std.proofs.lemmas.List.{get_or-map, get_or_past, nil_from_length, length-map}
use Rattle.std.proofs.lemmas.List.Sums.{sum_by-cons}
use Rattle.job_bodies.specs.declared.action.Action.{Action}
use Rattle.job_bodies.specs.declared.action.Action.TheVariants.{Work, Submit, Get}
use Rattle.job_bodies.specs.declared.limits.TheConstants.{MAX_SIZE}
use Rattle.job_bodies.specs.Plan.{Pool, Class, Client, Plan, no_pool, no_client, pool_at, class_at, client_at, submitted_class, has_get_of}
use Rattle.job_bodies.specs.ValidBody.{IsValidBody}
use Rattle.job_bodies.specs.WellFormed.{IsWellFormed}
use Rattle.job_bodies.proofs.Bodies.{ordered}
use Rattle.weights.specs.Vector.{Vector, done_weight, client_weight, workers_weight, is_small, has_small_numbers, has_shape, vector_fits}
use Rattle.cert_text.specs.Cert.{PoolCert, no_vector, no_pool_cert, cert_fits}
use Rattle.cert_text.proofs.Fitting.{parts_fit}
use Rattle.soundness.specs.Conditions.{failing}
use Rattle.soundness.specs.Accepted.{accepted, is_nil}
use Rattle.size_search.specs.Steady.{sum_below, greatest_upto, submitted_weight, awaited_weight, open_weight, most, weight_at, weights_from, client_end, client_row, blocked_of, steady_vector, steady_total, steady_pool, steady_cert}
use Rattle.size_search.specs.Submitted.{IsNeverGot, LosesWithoutBound, by_client, by_job}
use Rattle.size_search.specs.Waiting.{HasUnusedGet}
use Rattle.size_search.specs.Sized.{IsSteadyTooLarge, IsTooLarge}
use Rattle.size_search.proofs.JobGraphs.{getter_inside}
use Rattle.size_search.proofs.Losses.{class_submitted}

-- ---- vectors in which jobs have no weight

submits_nothing : (x : Option Action) → submitted_weight no_vector x ≡ 0
submits_nothing (Some (Submit k)) = refl
submits_nothing (Some (Work u)) = refl
submits_nothing (Some (Get t)) = refl
submits_nothing None = refl

either : (b : Bool) (n : ℕ) → n ≡ 0 → cond b n 0 ≡ 0
either true n none = none
either false n none = refl

nothing_below : (f : ℕ → ℕ) (n : ℕ) → ((s : ℕ) → f s ≡ 0) → sum_below f n ≡ 0
nothing_below f zero none = refl
nothing_below f (suc n) none = omega (arith, nothing_below f n none, none n)

nothing_greatest : (f : ℕ → ℕ) (n : ℕ) → ((i : ℕ) → f i ≡ 0) → greatest_upto f n ≡ 0
nothing_greatest f zero none = none 0
nothing_greatest f (suc n) none =
    let step : greatest_upto f (suc n) ≡ max (greatest_upto f n) (f (suc n)) = refl in
    omega (arith, step, nothing_greatest f n none, none (suc n))

nothing_open : (body : List Action) (i : ℕ) → open_weight no_vector body i ≡ 0
nothing_open body i = nothing_below (awaited_weight no_vector body i) i (λ s. either (has_get_of (drop i body) s) (submitted_weight no_vector (slice_get body s)) (submits_nothing (slice_get body s)))

nothing_at_end : (client : Client) → client_end no_vector client ≡ 0
nothing_at_end client = either client.repeat (most no_vector client.body) (nothing_greatest (open_weight no_vector client.body) (length client.body) (nothing_open client.body))

nothing_at : (plan : Plan) (body : List Action) (last : ℕ) (rest : List Action) → last ≡ 0 → weight_at plan no_vector 0 body last rest ≡ 0
nothing_at plan body last [] none = none
nothing_at plan body last (Work u ∷ rest) none = nothing_at plan body last rest none
nothing_at plan body last (Submit k ∷ rest) none =
    let step : weight_at plan no_vector 0 body last (Submit k ∷ rest) ≡ weight_at plan no_vector 0 body last rest + 0 = refl in
    omega (arith, step, nothing_at plan body last rest none)
nothing_at plan body last (Get t ∷ rest) none =
    let step : weight_at plan no_vector 0 body last (Get t ∷ rest) ≡ max 0 (weight_at plan no_vector 0 body last rest - done_weight plan no_vector (submitted_class body t)) = refl in
    omega (arith, step, nothing_at plan body last rest none)

small_zero : (n : ℕ) → n ≡ 0 → is_small n ≡ true
small_zero n none = ap is_small none

small_row : (plan : Plan) (body : List Action) (last : ℕ) (rest : List Action) → last ≡ 0 → list_all is_small (weights_from plan no_vector 0 body last rest) ≡ true
small_row plan body last [] none = and_from (is_small last) true (small_zero last none) refl
small_row plan body last (x ∷ rest) none =
    and_from (is_small (weight_at plan no_vector 0 body last (x ∷ rest))) (list_all is_small (weights_from plan no_vector 0 body last rest))
    (small_zero (weight_at plan no_vector 0 body last (x ∷ rest)) (nothing_at plan body last (x ∷ rest) none))
    (small_row plan body last rest none)

small_rows : (plan : Plan) (clients : List Client) → list_all (list_all is_small) (map (client_row plan no_vector) clients) ≡ true
small_rows plan [] = refl
small_rows plan (client ∷ clients) =
    and_from (list_all is_small (client_row plan no_vector client)) (list_all (list_all is_small) (map (client_row plan no_vector) clients))
    (small_row plan client.body (client_end no_vector client) client.body (nothing_at_end client))
    (small_rows plan clients)

first_of_row : (plan : Plan) (body : List Action) (last : ℕ) (rest : List Action) → last ≡ 0 → get_or (weights_from plan no_vector 0 body last rest) 0 0 ≡ 0
first_of_row plan body last [] none = none
first_of_row plan body last (x ∷ rest) none = nothing_at plan body last (x ∷ rest) none

-- ---- a plan without pools

abbrev without : List Client → Plan
without clients = record { pools = []; classes = []; clients = clients }

small_without : (clients : List Client) → has_small_numbers (steady_vector (without clients)) ≡ true
small_without clients = small_rows (without clients) clients

client_without : (clients : List Client) (c : ℕ) → client_weight (steady_vector (without clients)) c 0 ≡ 0
client_without clients c =
    let plan = without clients in
    elim (cases_lt c (length clients)) [
      | inl inside ↦
          let client = get_or clients c no_client in
          ap (λ (row : List ℕ). get_or row 0 0) (get_or-map (client_row plan no_vector) clients c no_client [] inside)
          ∙ first_of_row plan client.body (client_end no_vector client) client.body (nothing_at_end client)
      | inr past ↦ ap (λ (row : List ℕ). get_or row 0 0) (get_or_past (map (client_row plan no_vector) clients) c [] (omega (arith, past, length-map clients (client_row plan no_vector))))
    ]

nothing_in_all : (v : Vector) (entries : List (ℕ × Client)) → ((c : ℕ) → client_weight v c 0 ≡ 0) → sum_by (λ (entry : ℕ × Client). entry.1.count * client_weight v entry.0 0) entries ≡ 0
nothing_in_all v [] none = refl
nothing_in_all v (entry ∷ entries) none =
    let term : entry.1.count * client_weight v entry.0 0 ≡ entry.1.count * 0 = ap (λ (n : ℕ). entry.1.count * n) (none entry.0) in
    omega (arith, sum_by-cons (λ (any : ℕ × Client). any.1.count * client_weight v any.0 0) entry entries, term, nothing_in_all v entries none)

total_without : (clients : List Client) → steady_total (without clients) ≡ 0
total_without clients =
    let v = steady_vector (without clients) in
    let none : sum_by (λ (entry : ℕ × Pool). workers_weight v entry.0 * entry.1.max) [] ≡ 0 = refl in
    omega (arith, nothing_in_all v (enumerate_from 0 clients) (client_without clients), none)

abbrev plan_of : List Pool → List Class → List Client → Plan
plan_of pools classes clients = record { pools = pools; classes = classes; clients = clients }

is_without : (plan : Plan) → plan.pools ≡ [] → plan.classes ≡ [] → plan ≡ without plan.clients
is_without plan pools classes = by_lists plan.pools plan.classes plan.clients pools classes
  where
    by_lists : (p : List Pool) (k : List Class) (c : List Client) → p ≡ [] → k ≡ [] → plan_of p k c ≡ without c
    by_lists p k c no_pools no_classes = rw (no_pools, no_classes) refl

no_pools_no_classes : (plan : Plan) → IsWellFormed plan → length plan.pools ≡ 0 → plan.classes ≡ []
no_pools_no_classes plan well none =
    nil_from_length plan.classes
    (elim (cases_lt 0 (length plan.classes)) [
      | inl some ↦ let of_first = (ordered plan well).pools 0 some in absurd (omega (arith, of_first, none))
      | inr past ↦ omega (arith, past)
    ])

bare_plan : (plan : Plan) → IsWellFormed plan → length plan.pools ≡ 0 → plan ≡ without plan.clients
bare_plan plan well none = is_without plan (nil_from_length plan.pools none) (no_pools_no_classes plan well none)

-- if a body has a submit, the plan has a pool
submit_to_a_pool : (plan : Plan) (body : List Action) (i : ℕ) → IsWellFormed plan → IsValidBody plan body → IsNeverGot body i → 0 < length plan.pools
submit_to_a_pool plan body i well valid never_got =
    let submitted = class_submitted (slice_get body i) never_got.is_submit in
    let of_class = (ordered plan well).pools submitted.0 (valid.submit i submitted.0 submitted.1) in
    omega (arith, of_class)

lost_to_a_pool : (plan : Plan) → IsWellFormed plan → LosesWithoutBound plan → 0 < length plan.pools
lost_to_a_pool plan well (by_client {c = c} {i = i} lost) = submit_to_a_pool plan (client_at plan c).body i well ((ordered plan well).clients c) lost.never_got.never_got
lost_to_a_pool plan well (by_job {k = k} {i = i} lost) = submit_to_a_pool plan (class_at plan k).body i well ((ordered plan well).classes k) lost.never_got.never_got

-- if the steady certificate of a plan is too large, the plan has a pool
steady_too_large_for_a_pool : (plan : Plan) → IsWellFormed plan → IsSteadyTooLarge plan → 0 < length plan.pools
steady_too_large_for_a_pool plan well large =
    elim (cases_lt 0 (length plan.pools)) [
      | inl some ↦ some
      | inr past ↦
          let bare = bare_plan plan well (omega (arith, past)) in
          ⊎_elim
          (λ (heavy : has_small_numbers (steady_vector plan) ≡ false). absurd (false≢true (sym heavy ∙ (ap (λ (any : Plan). has_small_numbers (steady_vector any)) bare ∙ small_without plan.clients))))
          (λ (high : MAX_SIZE ≤ steady_total plan).
          let total : steady_total plan ≡ 0 = ap (λ (any : Plan). steady_total any) bare ∙ total_without plan.clients in
          absurd (omega (arith, high, total)))
          large
    ]

-- if a class has a get, the plan has a pool
unused_of_a_pool : (plan : Plan) → IsWellFormed plan → HasUnusedGet plan → 0 < length plan.pools
unused_of_a_pool plan well unused = let of_class = (ordered plan well).pools unused.class (getter_inside plan unused.class unused.got unused.gets) in omega (arith, of_class)

pub too_large_for_a_pool : (plan : Plan) → IsWellFormed plan → IsTooLarge plan → 0 < length plan.pools
too_large_for_a_pool plan well large = ⊎_elim (λ steady. steady_too_large_for_a_pool plan well steady) (λ other. ⊎_elim (λ lost. lost_to_a_pool plan well lost) (λ unused. unused_of_a_pool plan well unused) other) large

-- if the steady certificate of a plan is accepted, its weights are within the limit
pub small_where_accepted : (plan : Plan) → IsWellFormed plan → IsTrue (accepted plan (steady_cert plan)) → has_small_numbers (steady_vector plan) ≡ true
small_where_accepted plan well is_accepted =
    elim (cases_lt 0 (length plan.pools)) [
      | inl some ↦
          let cert = steady_cert plan in
          let fits = (and_parts (cert_fits plan cert) (is_nil (failing plan cert)) is_accepted).0 in
          let first : get_or cert.pools 0 no_pool_cert ≡ steady_pool plan (pool_at plan 0) = get_or-map (steady_pool plan) plan.pools 0 no_pool no_pool_cert some in
          in_blocked ((pool_at plan 0).core_timeout && has_small_numbers (steady_vector plan)) refl
          (subst (λ (part : PoolCert). vector_fits plan part.blocked ≡ true) first ((parts_fit plan cert fits).pools 0 some).blocked)
      | inr past ↦ ap (λ (any : Plan). has_small_numbers (steady_vector any)) (bare_plan plan well (omega (arith, past))) ∙ small_without plan.clients
    ]
  where
    in_blocked : (uncounted : Bool) → ((pool_at plan 0).core_timeout && has_small_numbers (steady_vector plan)) ≡ uncounted → vector_fits plan (blocked_of (steady_vector plan) uncounted) ≡ true → has_small_numbers (steady_vector plan) ≡ true
    in_blocked true is fits = (and_parts (pool_at plan 0).core_timeout (has_small_numbers (steady_vector plan)) is).1
    in_blocked false is fits = (and_parts (has_shape plan (steady_vector plan)) (has_small_numbers (steady_vector plan)) fits).1
