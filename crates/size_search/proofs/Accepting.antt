-- The steady certificate is accepted if the sizes are enough.
use Rattle.std.proofs.Common.{◌≡◌, ℕ, ◌-◌, ◌<◌, ◌≤◌, ⊎_elim, Bool, true, false, not, ◌&&◌, ltb, List, [], ◌∷◌, ◌++◌, length, map, filter, flat_map, slice_get, Some, cond, refl, sym, ap, subst, ◌∙◌, append_assoc, arith}
use Rattle.std.specs.Prelude.{◌==◌}
use Rattle.std.specs.List.{enumerate_from}
use Rattle.std.proofs.lemmas.Bool.{le-ltb, lt-ltb, eqb-true, false≢true, or_parts, and_parts}
use Rattle.std.proofs.lemmas.List.{get_or-map}
use Rattle.std.proofs.lemmas.Option.{slice_get_within, get_or_from_slice_get}
use Rattle.support.specs.In.{In}
use Rattle.support.proofs.Members.{not_In_nil, In-append_cases, In-push_cases, In-map, In-map_from, In-flat_map_from, In-filter_from}
use Rattle.job_bodies.specs.declared.action.Action.{Action}
use Rattle.job_bodies.specs.declared.action.Action.TheVariants.{Work, Submit, Get}
use Rattle.job_bodies.specs.Plan.{Pool, Class, Plan, no_pool, no_class, pool_at, class_at, needs_no_bound, least_threads, submitted_class}
use Rattle.job_bodies.specs.WellFormed.{IsWellFormed}
use Rattle.job_bodies.proofs.Bodies.{HasValidBodies, ordered}
use Rattle.weights.specs.declared.get_return.GetReturn.TheVariants.{DoneWeight}
use Rattle.weights.specs.declared.row.Place.TheVariants as place
use Rattle.weights.specs.declared.row.Row.{Row}
use Rattle.weights.specs.declared.row.Rule.TheVariants.{S1, S2, B1, B2}
use Rattle.weights.specs.Row.{row, AllHold}
use Rattle.weights.specs.Vector.{Vector, queued_weight, job_weight, total, has_small_numbers}
use Rattle.weights.specs.Rows.{rows, classes_of}
use Rattle.weights.specs.Standing.{standing_rows}
use Rattle.soundness.proofs.BoundLaws.{PoolBoundLaws}
use Rattle.weights.specs.Blocked.{is_get, counted_rows, blocked_rows}
use Rattle.weights.specs.Ranks.{rank, reach, is_counted_action, is_counted, rank_rows}
use Rattle.soundness.proofs.BlockedLaws.{BlockedLaws}
use Rattle.soundness.proofs.RankLaws.{RankLaws}
use Rattle.cert_text.specs.Cert.{PoolCert, no_pool_cert, pool_cert_at}
use Rattle.soundness.specs.declared.note.Section.{Section}
use Rattle.soundness.specs.declared.note.Section.TheVariants as section
use Rattle.soundness.specs.declared.note.Note.{Note}
use Rattle.soundness.specs.Conditions.{note, in_section, bound_conditions, pool_conditions, conditions, failing}
use Rattle.soundness.specs.Accepted.{accepted}
use Rattle.soundness.proofs.CertLaws.{cert_laws}
use Rattle.soundness.proofs.Faults.{BoundRowsHold, pool_numbers, accepted_from_parts}
use Rattle.size_search.specs.Waiting.{GetsClass, MayLoseThreads, IsSteady}
use Rattle.size_search.specs.Steady.{bound_of, blocked_of, part_of, zero_vector, steady_vector, steady_pool, steady_ranks, steady_cert}
use Rattle.size_search.specs.SteadyLaws.{AreEnough, SteadyCertificatesAccept}
use Rattle.size_search.proofs.Depths.{levels_sink}
use Rattle.size_search.proofs.JobGraphs.{got_inside}
use Rattle.size_search.proofs.WaitLevels.{reach_falls, rank_reached, reach_below}
use Rattle.size_search.proofs.ZeroVectors.{zero_laws, zero_total}
use Rattle.size_search.proofs.Steadiness.{queued_weighs, job_weighs, steady_laws}
use Rattle.size_search.proofs.Holding.{at_number, rows_hold, rank_rows_hold}
use Rattle.size_search.proofs.Fitting.{part_where_small, cert_is_fit}
use Rattle.support.proofs.Members.{In-slice_get}

-- ---- the parts of the certificate

pool_part : (plan : Plan) (p : ℕ) → has_small_numbers (steady_vector plan) ≡ true → p < length plan.pools → pool_cert_at (steady_cert plan) p ≡ part_of (steady_vector plan) (needs_no_bound (pool_at plan p)) (pool_at plan p).core_timeout
pool_part plan p small inside = get_or-map (steady_pool plan) plan.pools p no_pool no_pool_cert inside ∙ part_where_small (steady_vector plan) (pool_at plan p) small

-- the get at a position of a class's body
get_at : (plan : Plan) (k i t : ℕ) → slice_get (class_at plan k).body i ≡ Some (Get t) → GetsClass (class_at plan k).body (submitted_class (class_at plan k).body t)
get_at plan k i t at = record { submit = t; at = In-slice_get (class_at plan k).body i (Get t) at; of_class = refl }

steady_ranks_laws : (plan : Plan) → HasValidBodies plan → IsSteady plan → RankLaws plan (steady_ranks plan)
steady_ranks_laws plan is_ordered free = record {
  reaches = rank_reached plan is_ordered free;
  falls = λ k i t at. let gets = get_at plan k i t at in reach_falls plan is_ordered free k (submitted_class (class_at plan k).body t) (got_inside plan (class_at plan k).body _ (is_ordered.classes k) gets) gets;
  sinks = λ k i j at. levels_sink plan is_ordered free.all_got.no_circle k j (In-slice_get (class_at plan k).body i (Submit j) at);
}

-- no get of a pool is counted whose core threads may time out
not_counted : (plan : Plan) (k i t : ℕ) → HasValidBodies plan → IsSteady plan → MayLoseThreads plan k → slice_get (class_at plan k).body i ≡ Some (Get t) → is_counted plan (steady_ranks plan) k i ≡ false
not_counted plan k i t is_ordered free may_lose at =
    let gets = get_at plan k i t at in
    let j = submitted_class (class_at plan k).body t in
    let below = reach_below plan is_ordered free k j (got_inside plan (class_at plan k).body j (is_ordered.classes k) gets) may_lose gets in
    ap (is_counted_action plan (steady_ranks plan) k) at ∙ ap not (lt-ltb (reach (steady_ranks plan) j) (rank (steady_ranks plan) (class_at plan k).pool) below)

-- ---- all rows except those of totals

abbrev standing_body : Plan → ℕ → Vector → List Row
standing_body plan p v = rows DoneWeight plan v ++ map (λ (entry : ℕ × Class). row S1 (place.Class entry.0) 1 (queued_weight v entry.0)) (classes_of plan p)

abbrev standing_total : Plan → ℕ → Vector → Row
standing_total plan p v = row S2 place.Total (total plan v) (pool_at plan p).queue

-- a pool that needs a bound has a bounded queue
has_bounded_queue : (pool : Pool) → needs_no_bound pool ≡ false → pool.unbounded ≡ false
has_bounded_queue pool needs = (or_parts pool.may_reject pool.unbounded needs).1

-- the rows of a standing vector of such a pool
standing_rows-split : (plan : Plan) (p : ℕ) (v : Vector) → needs_no_bound (pool_at plan p) ≡ false → standing_rows plan p v ≡ standing_body plan p v ++ standing_total plan p v ∷ []
standing_rows-split plan p v needs =
    let of_classes = map (λ (entry : ℕ × Class). row S1 (place.Class entry.0) 1 (queued_weight v entry.0)) (classes_of plan p) in
    let last = standing_total plan p v ∷ [] in
    ap (λ (unbounded : Bool). rows DoneWeight plan v ++ cond unbounded [] (of_classes ++ last)) (has_bounded_queue (pool_at plan p) needs)
    ∙ sym (append_assoc (rows DoneWeight plan v) of_classes last)

abbrev blocked_body : Plan → ℕ → (ℕ → ℕ → Bool) → Vector → List Row
blocked_body plan p counted v = rows DoneWeight plan v ++ flat_map (λ (entry : ℕ × Class). counted_rows counted v entry.0 entry.1) (classes_of plan p)

-- each entry in the list of the classes of pool p is a class of the plan, with its number
in_pool : (plan : Plan) (p : ℕ) (entry : ℕ × Class) → In entry (classes_of plan p) → slice_get plan.classes entry.0 ≡ Some entry.1
in_pool plan p entry at = at_number plan.classes entry (In-filter_from (λ (any : ℕ × Class). any.1.pool == p) (enumerate_from 0 plan.classes) at).0

standing_holds : (plan : Plan) (p : ℕ) → HasValidBodies plan → IsSteady plan → AllHold (standing_body plan p (steady_vector plan))
standing_holds plan p is_ordered free x at =
    let v = steady_vector plan in
    let of_class = λ (entry : ℕ × Class). row S1 (place.Class entry.0) 1 (queued_weight v entry.0) in
    ⊎_elim
    (λ first. rows_hold plan v (steady_laws plan is_ordered free.all_got) x first)
    (λ second.
    let found = In-map_from of_class (classes_of plan p) second in
    let stands = in_pool plan p found.0 found.1 in
    subst (λ (y : Row). y.left ≤ y.right) found.2 (queued_weighs plan is_ordered free.all_got found.0.0 (slice_get_within plan.classes found.0.0 found.0.1 stands)))
    (In-append_cases (rows DoneWeight plan v) (map of_class (classes_of plan p)) at)

blocked_holds : (plan : Plan) (p : ℕ) (counted : ℕ → ℕ → Bool) → HasValidBodies plan → IsSteady plan → AllHold (blocked_body plan p counted (steady_vector plan))
blocked_holds plan p counted is_ordered free x at =
    let v = steady_vector plan in
    let of_class = λ (entry : ℕ × Class). counted_rows counted v entry.0 entry.1 in
    ⊎_elim
    (λ first. rows_hold plan v (steady_laws plan is_ordered free.all_got) x first)
    (λ second.
    let found = In-flat_map_from of_class (classes_of plan p) second in
    let k = found.0.0 in
    let class = found.0.1 in
    let stands = in_pool plan p found.0 found.1 in
    let is : class_at plan k ≡ class = get_or_from_slice_get plan.classes k class no_class stands in
    let gets = filter (λ (entry : ℕ × Action). is_get entry.1 && counted k entry.0) (enumerate_from 0 class.body) in
    let get_return = In-map_from (λ (entry : ℕ × Action). row B1 (place.ClassAction k entry.0) 1 (job_weight v k entry.0)) gets found.2 in
    let among = (In-filter_from (λ (entry : ℕ × Action). is_get entry.1 && counted k entry.0) (enumerate_from 0 class.body) get_return.1).0 in
    let within = slice_get_within class.body get_return.0.0 get_return.0.1 (at_number class.body get_return.0 among) in
    let long : length (class_at plan k).body ≡ length class.body = ap (λ (any : Class). length any.body) is in
    subst (λ (y : Row). y.left ≤ y.right) get_return.2 (job_weighs plan is_ordered free.all_got k get_return.0.0 (slice_get_within plan.classes k class stands) (omega (arith, within, long))))
    (In-append_cases (rows DoneWeight plan v) (flat_map of_class (classes_of plan p)) at)

-- the rows of a blocked vector of zeros, if core threads may time out
zeros_hold : (plan : Plan) (p : ℕ) → HasValidBodies plan → IsSteady plan → (pool_at plan p).core_timeout ≡ true → AllHold (blocked_body plan p (is_counted plan (steady_ranks plan)) (zero_vector (steady_vector plan)))
zeros_hold plan p is_ordered free may_lose x at =
    let v = zero_vector (steady_vector plan) in
    let counted = is_counted plan (steady_ranks plan) in
    let of_class = λ (entry : ℕ × Class). counted_rows counted v entry.0 entry.1 in
    ⊎_elim
    (λ first. rows_hold plan v (zero_laws plan (steady_vector plan)) x first)
    (λ second.
    let found = In-flat_map_from of_class (classes_of plan p) second in
    let k = found.0.0 in
    let class = found.0.1 in
    let stands = in_pool plan p found.0 found.1 in
    let is : class_at plan k ≡ class = get_or_from_slice_get plan.classes k class no_class stands in
    let of_pool : (class_at plan k).pool ≡ p =
    ap (λ (any : Class). any.pool) is ∙ eqb-true class.pool p (In-filter_from (λ (any : ℕ × Class). any.1.pool == p) (enumerate_from 0 plan.classes) found.1).1 in
    let gets = filter (λ (entry : ℕ × Action). is_get entry.1 && counted k entry.0) (enumerate_from 0 class.body) in
    let get_return = In-map_from (λ (entry : ℕ × Action). row B1 (place.ClassAction k entry.0) 1 (job_weight v k entry.0)) gets found.2 in
    let among = In-filter_from (λ (entry : ℕ × Action). is_get entry.1 && counted k entry.0) (enumerate_from 0 class.body) get_return.1 in
    let i = get_return.0.0 in
    let parts = and_parts (is_get get_return.0.1) (counted k i) among.1 in
    let get = get_of get_return.0.1 parts.0 in
    let there_is : slice_get (class_at plan k).body i ≡ Some (Get get.0) = ap (λ (any : Class). slice_get any.body i) is ∙ (at_number class.body get_return.0 among.0 ∙ ap Some get.1) in
    let loses : MayLoseThreads plan k = ap (λ (q : ℕ). (pool_at plan q).core_timeout) of_pool ∙ may_lose in
    absurd (false≢true (sym (not_counted plan k i get.0 is_ordered free loses there_is) ∙ parts.1)))
    (In-append_cases (rows DoneWeight plan v) (flat_map of_class (classes_of plan p)) at)
  where
    get_of : (x : Action) → is_get x ≡ true → (t : ℕ) × (x ≡ Get t)
    get_of (Get t) is = (t, refl)
    get_of (Work u) is = absurd (false≢true is)
    get_of (Submit k) is = absurd (false≢true is)

-- the rows of a pool's blocked vector, without the total
blocked_part_holds : (plan : Plan) (p : ℕ) (core_timeout : Bool) → (pool_at plan p).core_timeout ≡ core_timeout → HasValidBodies plan → IsSteady plan
    → AllHold (blocked_body plan p (is_counted plan (steady_ranks plan)) (blocked_of (steady_vector plan) core_timeout))
blocked_part_holds plan p true is is_ordered free = zeros_hold plan p is_ordered free is
blocked_part_holds plan p false is is_ordered free = blocked_holds plan p (is_counted plan (steady_ranks plan)) is_ordered free

-- ---- only totals fail

fails_not : (part : Section) (rows : List Row) (n : Note) → AllHold rows → ltb n.right n.left ≡ true → In n (in_section part rows) → n.place ≡ place.Total
fails_not part rows n hold wrong at =
    let found = In-map_from (note part) rows at in
    let right : ltb n.right n.left ≡ false = subst (λ (y : Note). ltb y.right y.left ≡ false) found.2 (le-ltb found.0.right found.0.left (hold found.0 found.1)) in
    absurd (false≢true (sym right ∙ wrong))

fails_at_total : (part : Section) (rows : List Row) (t : Row) (n : Note) → AllHold rows → t.place ≡ place.Total → ltb n.right n.left ≡ true → In n (in_section part (rows ++ t ∷ [])) → n.place ≡ place.Total
fails_at_total part rows t n hold of_total wrong at =
    let found = In-map_from (note part) (rows ++ t ∷ []) at in
    ⊎_elim
    (λ before. fails_not part rows n hold wrong (subst (λ (y : Note). In y (in_section part rows)) found.2 (In-map (note part) before)))
    (λ (final : found.0 ≡ t). ap (λ (y : Note). y.place) (sym found.2) ∙ (ap (λ (x : Row). x.place) final ∙ of_total))
    (In-push_cases rows t found.1)

-- only the total of the steady vector can fail as a condition of the bound
of_bound : (plan : Plan) (p : ℕ) (n : Note) (boundless : Bool) → needs_no_bound (pool_at plan p) ≡ boundless → HasValidBodies plan → IsSteady plan → ltb n.right n.left ≡ true
    → In n (bound_conditions plan p (bound_of (steady_vector plan) boundless)) → n.place ≡ place.Total
of_bound plan p n true none is_ordered free wrong at = absurd (not_In_nil at)
of_bound plan p n false needs is_ordered free wrong at =
    let v = steady_vector plan in
    let part = section.Standing p in
    fails_at_total part (standing_body plan p v) (standing_total plan p v) n (standing_holds plan p is_ordered free) refl wrong
    (subst (λ (all : List Row). In n (in_section part all)) (standing_rows-split plan p v needs) at)

of_pool : (plan : Plan) (p : ℕ) (n : Note) → HasValidBodies plan → IsSteady plan → has_small_numbers (steady_vector plan) ≡ true → p < length plan.pools → ltb n.right n.left ≡ true → In n (pool_conditions plan (steady_cert plan) p) → n.place ≡ place.Total
of_pool plan p n is_ordered free small inside wrong at =
    let v = steady_vector plan in
    let counted = is_counted plan (steady_ranks plan) in
    let bound = bound_of v (needs_no_bound (pool_at plan p)) in
    let blocked = blocked_of v (pool_at plan p).core_timeout in
    let here : In n (bound_conditions plan p bound ++ in_section (section.Blocked p) (blocked_rows plan p counted blocked)) =
    subst (λ (pool : PoolCert). In n (bound_conditions plan p pool.bound ++ in_section (section.Blocked p) (blocked_rows plan p counted pool.blocked))) (pool_part plan p small inside) at in
    ⊎_elim
    (λ first. of_bound plan p n (needs_no_bound (pool_at plan p)) refl is_ordered free wrong first)
    (λ second. fails_at_total (section.Blocked p) (blocked_body plan p counted blocked) (row B2 place.Total (total plan blocked) (least_threads (pool_at plan p) - 1)) n (blocked_part_holds plan p (pool_at plan p).core_timeout refl is_ordered free) refl wrong second)
    (In-append_cases (bound_conditions plan p bound) (in_section (section.Blocked p) (blocked_rows plan p counted blocked)) here)

only_totals : (plan : Plan) → HasValidBodies plan → IsSteady plan → has_small_numbers (steady_vector plan) ≡ true → (n : Note) → In n (failing plan (steady_cert plan)) → n.place ≡ place.Total
only_totals plan is_ordered free small n at =
    let cert = steady_cert plan in
    let found = In-filter_from (λ (y : Note). ltb y.right y.left) (conditions plan cert) at in
    let conditions_of = λ (entry : ℕ × Pool). pool_conditions plan cert entry.0 in
    ⊎_elim
    (λ first. fails_not section.Ranks (rank_rows plan cert.ranks) n (rank_rows_hold plan (steady_ranks plan) (steady_ranks_laws plan is_ordered free)) found.1 first)
    (λ later.
    let of = In-flat_map_from conditions_of (enumerate_from 0 plan.pools) later in
    let within = pool_numbers 0 plan.pools of.0 of.1 in
    of_pool plan of.0.0 n is_ordered free small (omega (arith, within.1)) found.1 of.2)
    (In-append_cases (in_section section.Ranks (rank_rows plan cert.ranks)) (flat_map conditions_of (enumerate_from 0 plan.pools)) found.0)

-- ---- the steady certificate is accepted

hold_with : (rows : List Row) (t : Row) → AllHold rows → t.left ≤ t.right → AllHold (rows ++ t ∷ [])
hold_with rows t hold within x at = ⊎_elim (λ before. hold x before) (λ (final : x ≡ t). subst (λ (y : Row). y.left ≤ y.right) (sym final) within) (In-push_cases rows t at)

bound_rows_hold : (plan : Plan) (p : ℕ) (boundless : Bool) → needs_no_bound (pool_at plan p) ≡ boundless → HasValidBodies plan → IsSteady plan → (boundless ≡ false → total plan (steady_vector plan) ≤ (pool_at plan p).queue)
    → BoundRowsHold plan p (bound_of (steady_vector plan) boundless)
bound_rows_hold plan p true none is_ordered free enough = tt
bound_rows_hold plan p false needs is_ordered free enough =
    let v = steady_vector plan in
    subst AllHold (sym (standing_rows-split plan p v needs)) (hold_with (standing_body plan p v) (standing_total plan p v) (standing_holds plan p is_ordered free) (enough refl))

-- the total of a pool's blocked vector is below the number of its threads
enough_threads : (plan : Plan) (core_timeout : Bool) (core : ℕ) → (core_timeout ≡ false → total plan (steady_vector plan) < core) → total plan (blocked_of (steady_vector plan) core_timeout) ≤ cond core_timeout 1 core - 1
enough_threads plan true core enough = omega (arith, zero_total plan (steady_vector plan))
enough_threads plan false core enough = omega (arith, enough refl)

core_above : (plan : Plan) (core_timeout : Bool) (core : ℕ) → 1 ≤ core → total plan (blocked_of (steady_vector plan) core_timeout) ≤ cond core_timeout 1 core - 1 → core_timeout ≡ false → total plan (steady_vector plan) < core
core_above plan true core some within never = absurd (false≢true (sym never))
core_above plan false core some within never = omega (arith, some, within)

accepted_where_enough : (plan : Plan) → IsWellFormed plan → IsSteady plan → has_small_numbers (steady_vector plan) ≡ true → AreEnough plan → accepted plan (steady_cert plan) ≡ true
accepted_where_enough plan well free small enough =
    let v = steady_vector plan in
    let is_ordered = ordered plan well in
    let counted = is_counted plan (steady_ranks plan) in
    accepted_from_parts plan (steady_cert plan) (cert_is_fit plan well free.all_got.no_circle small) (rank_rows_hold plan (steady_ranks plan) (steady_ranks_laws plan is_ordered free))
    (λ p inside.
    subst (λ (pool : PoolCert). BoundRowsHold plan p pool.bound) (sym (pool_part plan p small inside)) (bound_rows_hold plan p (needs_no_bound (pool_at plan p)) refl is_ordered free (enough p inside).0))
    (λ p inside.
    let timeout = (pool_at plan p).core_timeout in
    let blocked = blocked_of v timeout in
    subst (λ (pool : PoolCert). AllHold (blocked_rows plan p counted pool.blocked)) (sym (pool_part plan p small inside))
    (hold_with (blocked_body plan p counted blocked) (row B2 place.Total (total plan blocked) (least_threads (pool_at plan p) - 1)) (blocked_part_holds plan p timeout refl is_ordered free) (enough_threads plan timeout (pool_at plan p).core (enough p inside).1)))

within_where_bound : (plan : Plan) (p : ℕ) (boundless : Bool) → needs_no_bound (pool_at plan p) ≡ boundless → PoolBoundLaws plan p (bound_of (steady_vector plan) boundless) → boundless ≡ false
    → total plan (steady_vector plan) ≤ (pool_at plan p).queue
within_where_bound plan p true is laws needs = absurd (false≢true (sym needs))
within_where_bound plan p false is laws needs = laws.within (has_bounded_queue (pool_at plan p) is)

enough_where_accepted : (plan : Plan) → IsWellFormed plan → has_small_numbers (steady_vector plan) ≡ true → accepted plan (steady_cert plan) ≡ true → AreEnough plan
enough_where_accepted plan well small is_accepted p inside =
    let laws = cert_laws plan (steady_cert plan) is_accepted in
    let bound = subst (λ (pool : PoolCert). PoolBoundLaws plan p pool.bound) (pool_part plan p small inside) (laws.bound p inside) in
    let blocked = subst (λ (pool : PoolCert). BlockedLaws plan (is_counted plan (steady_ranks plan)) p pool.blocked) (pool_part plan p small inside) (laws.blocked p inside) in
    (within_where_bound plan p (needs_no_bound (pool_at plan p)) refl bound, core_above plan (pool_at plan p).core_timeout (pool_at plan p).core ((ordered plan well).core p inside) blocked.within)

pub accepting : SteadyCertificatesAccept
accepting plan well free small = record {
  fits = cert_is_fit plan well free.all_got.no_circle small;
  only_totals = only_totals plan (ordered plan well) free small;
  is_accepted = (enough_where_accepted plan well small, accepted_where_enough plan well free small);
}
