-- A `pool` line has no differences exactly if its sizes are those of the plan.
use Rattle.std.proofs.Common.{◌≡◌, ◌<◌, ◌↔◌, ℕ, ◌==◌, nat_lt, ◌&&◌, ◌||◌, not, Bool, true, false, if◌then◌else◌, List, [], ◌++◌, refl, ap, ◌∙◌, append-nil}
use Rattle.std.proofs.lemmas.Bool.{ltb-true, eqb-true, lt-ltb, eq-eqb}
use Rattle.job_bodies.specs.declared.limits.TheConstants.{MAX_SIZE, MAX_THREADS}
use Rattle.job_bodies.specs.Plan.{Pool, first_workers}
use Rattle.job_bodies.specs.WellFormed.{has_no_max}
use Rattle.recordings.specs.declared.pool_sizes.PoolSizes.{PoolSizes}
use Rattle.conformance.specs.declared.difference.Difference.{Difference}
use Rattle.conformance.specs.declared.difference.Difference.TheVariants.{Core, KindOfQueue, Prestarted}
use Rattle.conformance.specs.Sizes.{differences, unless, uses_max, is_planned_max, fits_max, max_difference, is_planned_kind, planned_capacity, capacity_difference, is_planned_timeout, timeout_difference, IsAsPlanned}
use Rattle.conformance.proofs.LineByLine.{nothing_first, nothing_last}

-- ---- no differences
agrees : (agree : Bool) (difference : Difference) → unless agree difference ≡ [] → agree ≡ true
agrees true difference h = refl
agrees false difference h = cc

-- In a first line the numbers of prestarted threads must be equal.
counts_first : (is_first agree : Bool) → (not is_first || agree) ≡ true → is_first ≡ true → agree ≡ true
counts_first true agree h first = h
counts_first false agree h first = cc

-- If the maximum has an effect in the plan, it must be that of the plan.
counts_used : (used agree : Bool) → (not used || agree) ≡ true → used ≡ true → agree ≡ true
counts_used true agree h is_used = h
counts_used false agree h is_used = cc

is_number : (none : Bool) (recorded planned : ℕ) → (if none then nat_lt MAX_SIZE recorded else recorded == planned) ≡ true → none ≡ false → recorded ≡ planned
is_number true recorded planned h some = cc
is_number false recorded planned h some = eqb-true recorded planned h

is_above : (none : Bool) (recorded planned : ℕ) → (if none then nat_lt MAX_SIZE recorded else recorded == planned) ≡ true → none ≡ true → MAX_SIZE < recorded
is_above true recorded planned h is_none = ltb-true MAX_SIZE recorded h
is_above false recorded planned h is_none = cc

-- A maximum that the plan does not give has an effect.
no_max_used : (timeout unbounded equal : Bool) → (timeout && unbounded && equal) ≡ true → (not unbounded || timeout) ≡ true
no_max_used true true equal h = refl
no_max_used true false equal h = refl
no_max_used false true equal h = cc
no_max_used false false equal h = refl

same_timeout : (planned recorded : Bool) → (if planned then recorded else not recorded) ≡ true → recorded ≡ planned
same_timeout true recorded h = h
same_timeout false true h = cc
same_timeout false false h = refl

pub as_planned : (is_first : Bool) (sizes : PoolSizes) (pool : Pool) → differences is_first sizes pool ≡ [] → IsAsPlanned is_first sizes pool
as_planned is_first sizes pool none =
    let started = unless (not is_first || sizes.prestarted == first_workers pool) (Prestarted sizes.prestarted (first_workers pool)) in
    let five = nothing_first _ started none in
    let four = nothing_first _ (unless (is_planned_timeout pool sizes.timeout) (timeout_difference pool)) five in
    let three = nothing_first _ (unless (sizes.capacity == planned_capacity pool) (capacity_difference sizes.capacity pool)) four in
    let two = nothing_first _ (unless (is_planned_kind pool sizes.queue) (KindOfQueue sizes.queue)) three in
    let one = nothing_first _ (unless (fits_max pool sizes.max) (max_difference sizes.max pool)) two in
    let max : uses_max pool ≡ true → is_planned_max pool sizes.max ≡ true =
    counts_used (uses_max pool) (is_planned_max pool sizes.max) (agrees (fits_max pool sizes.max) _ (nothing_last (unless (sizes.core == pool.core) (Core sizes.core pool.core)) _ two)) in
    record {
      core = eqb-true _ _ (agrees (sizes.core == pool.core) _ one);
      max = λ used some. is_number (has_no_max pool) sizes.max pool.max (max used) some;
      no_max = λ none. is_above (has_no_max pool) sizes.max pool.max (max (no_max_used pool.core_timeout pool.unbounded (pool.max == MAX_THREADS) none)) none;
      kind_of_queue = agrees (is_planned_kind pool sizes.queue) _ (nothing_last _ (unless (is_planned_kind pool sizes.queue) (KindOfQueue sizes.queue)) three);
      capacity = eqb-true _ _ (agrees (sizes.capacity == planned_capacity pool) _ (nothing_last _ (unless (sizes.capacity == planned_capacity pool) (capacity_difference sizes.capacity pool)) four));
      timeout = same_timeout pool.core_timeout sizes.timeout (agrees (is_planned_timeout pool sizes.timeout) _ (nothing_last _ (unless (is_planned_timeout pool sizes.timeout) (timeout_difference pool)) five));
      prestarted = λ first. eqb-true _ _ (counts_first is_first (sizes.prestarted == first_workers pool) (agrees (not is_first || sizes.prestarted == first_workers pool) _ (nothing_last _ started none)) first);
    }

-- ---- sizes as planned
still_nothing : (front : List Difference) (agree : Bool) (difference : Difference) → front ≡ [] → agree ≡ true → front ++ unless agree difference ≡ []
still_nothing front true difference none agree = append-nil front ∙ none
still_nothing front false difference none agree = cc

nothing_alone : (agree : Bool) (difference : Difference) → agree ≡ true → unless agree difference ≡ []
nothing_alone true difference agree = refl
nothing_alone false difference agree = cc

max_fits : (used none : Bool) (recorded planned : ℕ) → (used ≡ true → none ≡ false → recorded ≡ planned) → (none ≡ true → MAX_SIZE < recorded) → (not used || (if none then nat_lt MAX_SIZE recorded else recorded == planned)) ≡ true
max_fits false none recorded planned same above = refl
max_fits true true recorded planned same above = lt-ltb MAX_SIZE recorded (above refl)
max_fits true false recorded planned same above = eq-eqb recorded planned (same refl refl)

timeout_fits : (planned recorded : Bool) → recorded ≡ planned → (if planned then recorded else not recorded) ≡ true
timeout_fits true recorded same = same
timeout_fits false recorded same = ap not same

first_fits : (is_first : Bool) (recorded planned : ℕ) → (is_first ≡ true → recorded ≡ planned) → (not is_first || recorded == planned) ≡ true
first_fits true recorded planned same = eq-eqb recorded planned (same refl)
first_fits false recorded planned same = refl

nothing_differs : (is_first : Bool) (sizes : PoolSizes) (pool : Pool) → IsAsPlanned is_first sizes pool → differences is_first sizes pool ≡ []
nothing_differs is_first sizes pool planned =
    still_nothing _ _ _
    (still_nothing _ _ _
    (still_nothing _ _ _
    (still_nothing _ _ _
    (still_nothing _ _ _
    (nothing_alone (sizes.core == pool.core) _ (eq-eqb _ _ planned.core))
    (max_fits (uses_max pool) (has_no_max pool) sizes.max pool.max planned.max planned.no_max))
    planned.kind_of_queue)
    (eq-eqb _ _ planned.capacity))
    (timeout_fits pool.core_timeout sizes.timeout planned.timeout))
    (first_fits is_first sizes.prestarted (first_workers pool) planned.prestarted)

pub none_if_planned : (is_first : Bool) (sizes : PoolSizes) (pool : Pool) → (differences is_first sizes pool ≡ []) ↔ IsAsPlanned is_first sizes pool
none_if_planned is_first sizes pool = (as_planned is_first sizes pool, nothing_differs is_first sizes pool)
