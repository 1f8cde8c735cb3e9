-- The facts about pools if no differences are found.
use Rattle.std.proofs.Common.{◌≡◌, ℕ, zero, suc, ◌+◌, ◌<◌, ◌==◌, nat_lt, ◌&&◌, ◌||◌, not, Bool, true, false, if◌then◌else◌, List, [], ◌∷◌, ◌++◌, length, map, slice_index_or, Option, Some, None, refl, ap, sym, subst, ◌∙◌, append-nil, append_assoc, arith}
use Rattle.std.specs.Prelude.{is_some}
use Rattle.std.specs.List.{filter_map, cons_option, enumerate_from, position_or_len}
use Rattle.std.specs.Str.{bytes_eq}
use Rattle.std.proofs.lemmas.Bool.{ltb-true, eqb-true}
use Rattle.std.proofs.lemmas.List.Sums.{passes_at_first}
use Rattle.std.proofs.lemmas.Option.{cond_some}
use Rattle.std.proofs.lemmas.Slice.Eq.{bytes_eq-Decides}
use Rattle.job_bodies.specs.Plan as plans
use Rattle.job_bodies.specs.Plan.{Plan, pool_at, no_pool}
use Rattle.recordings.specs.declared.pool_sizes.PoolSizes.{PoolSizes}
use Rattle.recordings.specs.RecordingLine.{RecordedLine, Pool}
use Rattle.recordings.specs.LineParts.{declares}
use Rattle.recordings.specs.Before.{has_pool, is_closed}
use Rattle.conformance.specs.declared.difference.Difference.{Difference}
use Rattle.conformance.specs.Sizes.{differences}
use Rattle.conformance.specs.PoolDeviations.{Deviation, UnplannedLabel, Differs, NotRecorded, pool_named, is_pool, is_among, has_difference, was_reported, unreported, deviations_of_pool, deviations_by_line, deviations_by_lines, unrecorded_at, unrecorded_by, unrecorded}
use Rattle.conformance.specs.ComparisonLaws.{DeviationsAddUp, PoolsAreAsPlanned, PoolsAreRecorded, IsPlannedPool}
use Rattle.conformance.proofs.LineByLine.{by_last, any_more, all_more, any_line_more, nothing_first, nothing_last}
use Rattle.conformance.proofs.PlannedSizes.{as_planned}

pub deviations_add_up : DeviationsAddUp
unfolding deviations_by_lines
deviations_add_up plan before line = all_more (λ (before, line). deviations_by_line plan before (length before + 1) line) before line

pub has_pool_more : (before : List RecordedLine) (line : RecordedLine) (pool : List ℕ) → has_pool (before ++ line ∷ []) pool ≡ (has_pool before pool || declares pool line)
unfolding has_pool
has_pool_more before line pool = any_more (declares pool) before line

has_pool_none : (pool : List ℕ) → has_pool [] pool ≡ false
unfolding has_pool
has_pool_none pool = refl

pub reported_more : (plan : Plan) (before : List RecordedLine) (line : RecordedLine) (pool : ℕ) (difference : Difference)
    → was_reported plan (before ++ line ∷ []) pool difference ≡ (was_reported plan before pool difference || has_difference plan (has_pool before) pool difference line)
unfolding was_reported
reported_more plan before line pool difference = any_line_more (λ (before, line). has_difference plan (has_pool before) pool difference line) before line

pub reported_none : (plan : Plan) (pool : ℕ) (difference : Difference) → was_reported plan [] pool difference ≡ false
unfolding was_reported
reported_none plan pool difference = refl

-- ---- a line without differences
-- The plan has the pool, and the line has no difference.
record IsSame (plan : Plan) (is_first : Bool) (sizes : PoolSizes) (there : Option ℕ) : Type 0 where
  pool : ℕ
  is : there ≡ Some pool
  none : differences is_first sizes (pool_at plan pool) ≡ []

none_mapped : (f : Difference → Deviation) (ds : List Difference) → map f ds ≡ [] → ds ≡ []
none_mapped f [] h = refl
none_mapped f (d ∷ ds) h = cc

all_unreported : (is_reported : Difference → Bool) → ((d : Difference) → is_reported d ≡ false) → (ds : List Difference) → unreported is_reported ds ≡ ds
all_unreported is_reported none [] = refl
all_unreported is_reported none (d ∷ ds) = rw (none d) (ap (λ (more : List Difference). d ∷ more) (all_unreported is_reported none ds))

never : (P : Type 0) → false ≡ true → P
never P h = cc

unplanned : (is_first : Bool) (number : ℕ) (name : List ℕ) → (if is_first then UnplannedLabel number name ∷ [] else []) ≡ [] → is_first ≡ false
unplanned true number name h = cc
unplanned false number name h = refl

same_if_nothing : (plan : Plan) (is_first : Bool) (is_reported : ℕ → Difference → Bool) (number : ℕ) (name : List ℕ) (sizes : PoolSizes) (there : Option ℕ)
    → ((pool : ℕ) (difference : Difference) → is_reported pool difference ≡ false) → (is_first ≡ false → is_some there ≡ true) → deviations_of_pool plan is_first is_reported number name sizes there ≡ [] → IsSame plan is_first sizes there
same_if_nothing plan is_first is_reported number name sizes None none known h = never _ (known (unplanned is_first number name h))
same_if_nothing plan is_first is_reported number name sizes (Some pool) none known h =
    record { pool = pool; is = refl; none = sym (all_unreported (is_reported pool) (none pool) _) ∙ none_mapped (Differs number pool) _ h }

by_number : (plan : Plan) (is_first : Bool) (sizes : PoolSizes) (one pool : ℕ) (difference : Difference) (same : Bool) → (one == pool) ≡ same → differences is_first sizes (pool_at plan one) ≡ []
    → (same && is_among (differences is_first sizes (pool_at plan pool)) difference) ≡ false
by_number plan is_first sizes one pool difference true is none =
    subst (λ (q : ℕ). is_among (differences is_first sizes (pool_at plan q)) difference ≡ false) (eqb-true one pool is) (ap (λ (ds : List Difference). is_among ds difference) none)
by_number plan is_first sizes one pool difference false is none = refl

has_none : (plan : Plan) (is_first : Bool) (sizes : PoolSizes) (there : Option ℕ) (pool : ℕ) (difference : Difference) → IsSame plan is_first sizes there
    → (is_pool pool there && is_among (differences is_first sizes (pool_at plan pool)) difference) ≡ false
has_none plan is_first sizes there pool difference same =
    ap (λ (one : Option ℕ). is_pool pool one && is_among (differences is_first sizes (pool_at plan pool)) difference) same.is ∙ by_number plan is_first sizes same.pool pool difference _ refl same.none

-- ---- lines without differences
record IsNothing (plan : Plan) (lines : List RecordedLine) : Type 0 where
  reported : (pool : ℕ) (difference : Difference) → was_reported plan lines pool difference ≡ false
  planned : (name : List ℕ) → has_pool lines name ≡ true → is_some (pool_named plan name) ≡ true

neither : (a b : Bool) → a ≡ false → b ≡ false → (a || b) ≡ false
neither a b g h = grind (arith, g, h)

only_first : (a : Bool) → (a || false) ≡ true → a ≡ true
only_first true h = refl
only_first false h = h

not_first : (named : Bool) → not named ≡ false → named ≡ true
not_first true h = refl
not_first false h = cc

here_same : (plan : Plan) (before : List RecordedLine) (number : ℕ) (name : List ℕ) (sizes : PoolSizes) → IsNothing plan before → deviations_by_line plan before number (Pool name sizes) ≡ []
    → IsSame plan (not (has_pool before name)) sizes (pool_named plan name)
here_same plan before number name sizes front h =
    same_if_nothing plan (not (has_pool before name)) (was_reported plan before) number name sizes (pool_named plan name) front.reported (λ named. front.planned name (not_first (has_pool before name) named)) h

some_there : (there : Option ℕ) (pool : ℕ) → there ≡ Some pool → is_some there ≡ true
some_there there pool is = ap (λ (one : Option ℕ). is_some one) is

either_planned : (plan : Plan) (name other : List ℕ) (named here : Bool) → bytes_eq name other ≡ here → (named ≡ true → is_some (pool_named plan other) ≡ true) → is_some (pool_named plan name) ≡ true → (named || here) ≡ true → is_some (pool_named plan other) ≡ true
either_planned plan name other true here is front there h = front refl
either_planned plan name other false true is front there h = subst (λ (one : List ℕ). is_some (pool_named plan one) ≡ true) ((bytes_eq-Decides name other).0 is) there
either_planned plan name other false false is front there h = cc

pool_nothing : (plan : Plan) (before : List RecordedLine) (name : List ℕ) (sizes : PoolSizes) → IsNothing plan before → IsSame plan (not (has_pool before name)) sizes (pool_named plan name) → IsNothing plan (before ++ Pool name sizes ∷ [])
pool_nothing plan before name sizes front same = record {
  reported = λ pool difference. reported_more plan before (Pool name sizes) pool difference ∙ neither (was_reported plan before pool difference) _ (front.reported pool difference) (has_none plan (not (has_pool before name)) sizes (pool_named plan name) pool difference same);
  planned = λ other h.
      either_planned plan name other (has_pool before other) (bytes_eq name other) refl (front.planned other) (some_there (pool_named plan name) same.pool same.is) (sym (has_pool_more before (Pool name sizes) other) ∙ h);
}

other_nothing : (plan : Plan) (before : List RecordedLine) (line : RecordedLine) → ((pool : ℕ) (difference : Difference) → has_difference plan (has_pool before) pool difference line ≡ false) → ((name : List ℕ) → declares name line ≡ false)
    → IsNothing plan before → IsNothing plan (before ++ line ∷ [])
other_nothing plan before line none declared front = record {
  reported = λ pool difference. reported_more plan before line pool difference ∙ neither (was_reported plan before pool difference) _ (front.reported pool difference) (none pool difference);
  planned = λ name h. front.planned name (only_first (has_pool before name) (ap (λ (b : Bool). has_pool before name || b) (sym (declared name)) ∙ (sym (has_pool_more before line name) ∙ h)));
}

line_nothing : (plan : Plan) (before : List RecordedLine) (number : ℕ) (line : RecordedLine) → IsNothing plan before → deviations_by_line plan before number line ≡ [] → IsNothing plan (before ++ line ∷ [])
line_nothing plan before number (Pool name sizes) front h = pool_nothing plan before name sizes front (here_same plan before number name sizes front h)
line_nothing plan before number line front h = other_nothing plan before line (λ pool difference. refl) (λ name. refl) front

none_nothing : (plan : Plan) → IsNothing plan []
none_nothing plan = record { reported = reported_none plan; planned = λ name h. never _ (sym (has_pool_none name) ∙ h) }

all_nothing : (plan : Plan) (lines : List RecordedLine) → deviations_by_lines plan lines ≡ [] → IsNothing plan lines
all_nothing plan =
    by_last (λ lines. deviations_by_lines plan lines ≡ [] → IsNothing plan lines) (λ h. none_nothing plan)
    (λ before line h nothing.
    let both = sym (deviations_add_up plan before line) ∙ nothing in
    line_nothing plan before (length before + 1) line (h (nothing_first (deviations_by_lines plan before) _ both)) (nothing_last (deviations_by_lines plan before) _ both))

nothing_before : (plan : Plan) (before after : List RecordedLine) → deviations_by_lines plan (before ++ after) ≡ [] → deviations_by_lines plan before ≡ []
nothing_before plan before [] h = subst (λ lines. deviations_by_lines plan lines ≡ []) (append-nil before) h
nothing_before plan before (line ∷ after) h =
    let more = nothing_before plan (before ++ line ∷ []) after (subst (λ lines. deviations_by_lines plan lines ≡ []) (sym (append_assoc before (line ∷ []) after)) h) in
    nothing_first (deviations_by_lines plan before) _ (sym (deviations_add_up plan before line) ∙ more)

-- ---- a planned pool is in the plan
pub named_read : (plan : Plan) (name : List ℕ) (pool : ℕ) → pool_named plan name ≡ Some pool → (pool < length plan.pools) × ((pool_at plan pool).name ≡ name)
named_read plan name pool read =
    let test = λ (pool : plans.Pool). bytes_eq pool.name name in
    let place = cond_some (nat_lt (position_or_len test plan.pools) (length plan.pools)) _ _ read in
    let same : (pool_at plan (position_or_len test plan.pools)).name ≡ name = (bytes_eq-Decides _ name).0 (passes_at_first test plan.pools no_pool (ltb-true _ _ place.0)) in
    (subst (λ (q : ℕ). q < length plan.pools) place.1 (ltb-true _ _ place.0), subst (λ (q : ℕ). (pool_at plan q).name ≡ name) place.1 same)

planned_pool : (plan : Plan) (is_first : Bool) (name : List ℕ) (sizes : PoolSizes) → IsSame plan is_first sizes (pool_named plan name) → IsPlannedPool plan is_first name sizes
planned_pool plan is_first name sizes same =
    let named = named_read plan name same.pool same.is in
    record { pool = same.pool; there = named.0; named = named.1; sizes_agree = as_planned is_first sizes (pool_at plan same.pool) same.none }

pub pools_are_as_planned : PoolsAreAsPlanned
pools_are_as_planned plan lines nothing before after name sizes is =
    let line = Pool name sizes in
    let all = subst (λ (all : List RecordedLine). deviations_by_lines plan all ≡ []) (sym is ∙ sym (append_assoc before (line ∷ []) after)) nothing in
    let both = sym (deviations_add_up plan before line) ∙ nothing_before plan (before ++ line ∷ []) after all in
    let front = all_nothing plan before (nothing_first (deviations_by_lines plan before) _ both) in
    planned_pool plan (not (has_pool before name)) name sizes (here_same plan before (length before + 1) name sizes front (nothing_last (deviations_by_lines plan before) _ both))

-- ---- each pool of the plan has a line
cons_none : {X : Type 0} (o : Option X) (xs : List X) → cons_option o xs ≡ [] → (o ≡ None) × (xs ≡ [])
cons_none None xs h = (refl, h)
cons_none (Some x) xs h = cc

named_if_none : (b : Bool) (number : ℕ) → (if b then None else Some (NotRecorded number)) ≡ None → b ≡ true
named_if_none true number h = refl
named_if_none false number h = cc

named_each : (is_named : List ℕ → Bool) (first : ℕ) (pools : List plans.Pool) (pool : ℕ) → filter_map (unrecorded_at is_named) (enumerate_from first pools) ≡ [] → pool < length pools → is_named (slice_index_or pools pool no_pool).name ≡ true
named_each is_named first [] pool h within = absurd (omega arith)
named_each is_named first (one ∷ pools) zero h within = named_if_none _ first (cons_none (unrecorded_at is_named (first, one)) _ h).0
named_each is_named first (one ∷ pools) (suc pool) h within = named_each is_named (first + 1) pools pool (cons_none (unrecorded_at is_named (first, one)) _ h).1 (omega arith)

closed_end : (closed : Bool) (reported : List Deviation) → closed ≡ true → (if closed then reported else []) ≡ [] → reported ≡ []
closed_end true reported h nothing = nothing
closed_end false reported h nothing = cc

unrecorded_none : (plan : Plan) (lines : List RecordedLine) → unrecorded plan lines ≡ [] → unrecorded_by (has_pool lines) plan ≡ []
unfolding unrecorded
unrecorded_none plan lines h = h

pub pools_are_recorded : PoolsAreRecorded
pools_are_recorded plan lines closed nothing pool within =
    named_each (has_pool lines) 0 plan.pools pool (unrecorded_none plan lines (closed_end (is_closed lines) (unrecorded plan lines) closed nothing)) within
