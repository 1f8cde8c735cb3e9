-- Lemmas about the first pool of each name after one more pool.
use Rattle.std.proofs.Common.{◌≡◌, ◌≤◌, ℕ, zero, suc, Bool, true, false, if◌then◌else◌, List, [], ◌∷◌, ◌++◌, length, length-append, slice_get, Option, Some, None, refl, ap, sym, ◌∙◌, arith}
use Rattle.std.specs.List.{filter, filter_map, cons_option}
use Rattle.std.specs.Option.{option_to_list}
use Rattle.std.specs.Str.{bytes_eq}
use Rattle.std.proofs.lemmas.List.Elements.{filter_map-append}
use Rattle.std.proofs.lemmas.List.{append-nil, append_assoc}
use Rattle.std.proofs.lemmas.Slice.Eq.{bytes_eq-Decides}
use Rattle.job_bodies.specs.Plan.{Pool}
use Rattle.recordings.specs.RecordingLine.{RecordedLine}
use Rattle.learning.specs.LearningState.{AreFirstPools}
use Rattle.learning.specs.Pools.{pool_of_line, has_other_name, firsts, recorded_pools, has_name, with_first, with_first_of}

-- Equal names compare equally with any third name.
same_other : (x f p : List ℕ) → bytes_eq f p ≡ true → bytes_eq x f ≡ bytes_eq x p
same_other x f p same = ap (bytes_eq x) ((bytes_eq-Decides f p).0 same)

name_left : (x p : Pool) (pools : List Pool) → bytes_eq x.name p.name ≡ false → has_name p.name (filter (has_other_name x) pools) ≡ has_name p.name pools
name_left x p [] other = refl
name_left x p (f ∷ pools) other = grind (arith, same_other x.name f.name p.name, other, name_left x p pools other)

filter_one : (x : Pool) (pools : List Pool) (p : Pool) → filter (has_other_name x) (pools ++ p ∷ []) ≡ (if has_other_name x p then filter (has_other_name x) pools ++ p ∷ [] else filter (has_other_name x) pools)
filter_one x [] p = refl
filter_one x (f ∷ pools) p = grind (arith, filter_one x pools p)

step : (same has : Bool) (x : Pool) (pools : List Pool) (p : Pool) → bytes_eq x.name p.name ≡ same → has_name p.name pools ≡ has
    → filter (has_other_name x) (with_first pools p) ≡ (if same then filter (has_other_name x) pools else with_first (filter (has_other_name x) pools) p)
step true true x pools p same has = grind (arith, same, has)
step true false x pools p same has = grind (arith, same, has, filter_one x pools p)
step false true x pools p same has = grind (arith, same, has, name_left x p pools same)
step false false x pools p same has = grind (arith, same, has, name_left x p pools same, filter_one x pools p)

with_after : (same : Bool) (x : Pool) (pools : List Pool) (p : Pool) → bytes_eq x.name p.name ≡ same → x ∷ (if same then pools else with_first pools p) ≡ with_first (x ∷ pools) p
with_after true x pools p same = grind (arith, same)
with_after false x pools p same = grind (arith, same)

pub firsts_more : (pools : List Pool) (p : Pool) → firsts (pools ++ p ∷ []) ≡ with_first (firsts pools) p
firsts_more [] p = refl
firsts_more (x ∷ pools) p =
    ap (λ rest. x ∷ filter (has_other_name x) rest) (firsts_more pools p)
    ∙ ap (λ rest. x ∷ rest) (step _ _ x (firsts pools) p refl refl)
    ∙ with_after _ x (filter (has_other_name x) (firsts pools)) p refl

after_all : (one : Option Pool) (pools : List Pool) → firsts (pools ++ option_to_list one) ≡ with_first_of one (firsts pools)
after_all (Some pool) pools = firsts_more pools pool
after_all None pools = ap firsts (append-nil pools)

as_list : (one : Option Pool) → cons_option one [] ≡ option_to_list one
as_list None = refl
as_list (Some pool) = refl

pub pools_more : (before : List RecordedLine) (line : RecordedLine) → recorded_pools (before ++ line ∷ []) ≡ with_first_of (pool_of_line line) (recorded_pools before)
unfolding recorded_pools
pools_more before line = ap firsts (filter_map-append pool_of_line before (line ∷ []) ∙ ap (λ more. filter_map pool_of_line before ++ more) (as_list (pool_of_line line))) ∙ after_all (pool_of_line line) (filter_map pool_of_line before)

-- ---- the pools of a prefix of the lines
first_begins : (has : Bool) (pools : List Pool) (p : Pool) → has_name p.name pools ≡ has → (more : List Pool) × (with_first pools p ≡ pools ++ more)
first_begins true pools p has = ([], grind (arith, has, append-nil pools))
first_begins false pools p has = (p ∷ [], grind (arith, has))

one_begins : (one : Option Pool) (pools : List Pool) → (more : List Pool) × (with_first_of one pools ≡ pools ++ more)
one_begins None pools = ([], sym (append-nil pools))
one_begins (Some pool) pools = first_begins (has_name pool.name pools) pools pool refl

-- The pools of a prefix of the lines are a prefix of the pools of all lines.
pools_begin : (before after : List RecordedLine) → (more : List Pool) × (recorded_pools (before ++ after) ≡ recorded_pools before ++ more)
pools_begin before [] = ([], ap recorded_pools (append-nil before) ∙ sym (append-nil (recorded_pools before)))
pools_begin before (line ∷ after) =
    let rest = pools_begin (before ++ line ∷ []) after in
    let one = one_begins (pool_of_line line) (recorded_pools before) in (
      one.0 ++ rest.0,
      ap recorded_pools (sym (append_assoc before (line ∷ []) after)) ∙ rest.1 ∙ ap (λ pools. pools ++ rest.0) (pools_more before line ∙ one.1) ∙ append_assoc (recorded_pools before) one.0 rest.0,
    )

still_there : (pools more : List Pool) (n : ℕ) (pool : Pool) → slice_get pools n ≡ Some pool → slice_get (pools ++ more) n ≡ Some pool
still_there [] more n pool there = absurd (grind (arith, there))
still_there (first ∷ pools) more zero pool there = there
still_there (first ∷ pools) more (suc n) pool there = still_there pools more n pool there

pub first_pools : (before after : List RecordedLine) (pools : List Pool) → pools ≡ recorded_pools before → AreFirstPools (before ++ after) pools
first_pools before after pools same n pool there =
    let more = pools_begin before after in
    ap (λ ps. slice_get ps n) more.1 ∙ still_there (recorded_pools before) more.0 n pool (ap (λ ps. slice_get ps n) (sym same) ∙ there)

pub no_fewer_pools : (before after : List RecordedLine) (line : RecordedLine) (pools : List Pool) → pools ≡ recorded_pools before
    → length (with_first_of (pool_of_line line) pools) ≤ length (recorded_pools (before ++ line ∷ after))
no_fewer_pools before after line pools same =
    let more = pools_begin (before ++ line ∷ []) after in
    let now : with_first_of (pool_of_line line) pools ≡ recorded_pools (before ++ line ∷ []) = ap (with_first_of (pool_of_line line)) same ∙ sym (pools_more before line) in
    let all : recorded_pools (before ++ line ∷ after) ≡ recorded_pools (before ++ line ∷ []) ++ more.0 = ap recorded_pools (sym (append_assoc before (line ∷ []) after)) ∙ more.1 in
    omega (arith, ap (λ (ps : List Pool). length ps) now, ap (λ (ps : List Pool). length ps) all, length-append (recorded_pools (before ++ line ∷ [])) more.0)
