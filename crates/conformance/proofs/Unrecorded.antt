-- The pools of the plan that no line names, in order.
use Rattle.std.proofs.Common.{◌≡◌, ℕ, ◌+◌, ◌<◌, ◌≤◌, Bool, true, if◌then◌else◌, List, [], ◌∷◌, ◌++◌, length, take, get_or, Option, Some, None, refl, ap, ap₂, sym, ◌∙◌, arith}
use Rattle.std.specs.List.{filter_map, cons_option, enumerate_from}
use Rattle.std.specs.Option.{option_to_list}
use Rattle.std.proofs.lemmas.List.{take_more, take_all}
use Rattle.std.proofs.lemmas.List.FromFn.{get_or-enumerate_from, length-enumerate_from}
use Rattle.job_bodies.specs.Plan.{Plan, Pool}
use Rattle.recordings.specs.RecordingLine.{RecordedLine}
use Rattle.recordings.specs.Before.{has_pool, is_closed}
use Rattle.conformance.specs.declared.pool_comparison.PoolComparison.{PoolComparison}
use Rattle.conformance.specs.PoolDeviations.{Deviation, NotRecorded, unrecorded_at, unrecorded_by, unrecorded, deviations_at_end}
use Rattle.conformance.specs.PoolComparison.{has_name, IsPoolComparisonOf}
use Rattle.conformance.proofs.LineByLine.{filter_map_more}

none_before : (n : ℕ) → 0 + n ≡ n
none_before n = omega arith

pub unrecorded_more : (is_named : List ℕ → Bool) (pools : List Pool) (n : ℕ) (pool : Pool) → n < length pools → pool ≡ get_or pools n pool
    → filter_map (unrecorded_at is_named) (take n (enumerate_from 0 pools)) ++ option_to_list (unrecorded_at is_named (n, pool)) ≡ filter_map (unrecorded_at is_named) (take (n + 1) (enumerate_from 0 pools))
unrecorded_more is_named pools n pool within there =
    let f : ℕ × Pool → Option Deviation = unrecorded_at is_named in
    let all : List (ℕ × Pool) = enumerate_from 0 pools in
    let long : n < length all = grind (arith, within, length-enumerate_from 0 pools) in
    let here : get_or all n (n, pool) ≡ (n, pool) = get_or-enumerate_from 0 pools n (n, pool) within ∙ ap₂ (λ (m : ℕ) (one : Pool). (m, one)) (none_before n) (sym there) in
    sym
    (ap (filter_map f) (take_more all n (n, pool) long)
    ∙ (filter_map_more f (take n all) (get_or all n (n, pool)) ∙ ap (λ (one : ℕ × Pool). filter_map f (take n all) ++ option_to_list (f one)) here))

pub unrecorded_all : (is_named : List ℕ → Bool) (pools : List Pool) (n : ℕ) → length pools ≤ n → filter_map (unrecorded_at is_named) (take n (enumerate_from 0 pools)) ≡ filter_map (unrecorded_at is_named) (enumerate_from 0 pools)
unrecorded_all is_named pools n past =
    let all : List (ℕ × Pool) = enumerate_from 0 pools in
    let long : length all ≤ n = grind (arith, past, length-enumerate_from 0 pools) in
    ap (filter_map (unrecorded_at is_named)) (take_all n all long)

by_name : (f g : List ℕ → Bool) → ((name : List ℕ) → f name ≡ g name) → (first : ℕ) (pools : List Pool) → filter_map (unrecorded_at f) (enumerate_from first pools) ≡ filter_map (unrecorded_at g) (enumerate_from first pools)
by_name f g same first [] = refl
by_name f g same first (pool ∷ pools) =
    ap (λ (b : Bool). cons_option (if b then None else Some (NotRecorded first)) (filter_map (unrecorded_at f) (enumerate_from (first + 1) pools))) (same pool.name)
    ∙ ap (cons_option (unrecorded_at g (first, pool))) (by_name f g same (first + 1) pools)

written : (plan : Plan) (lines : List RecordedLine) → unrecorded_by (has_pool lines) plan ≡ unrecorded plan lines
unfolding unrecorded
written plan lines = refl

closed_tells : (closed : Bool) (reported : List Deviation) → closed ≡ true → reported ≡ (if closed then reported else [])
closed_tells closed reported h = ap (λ (b : Bool). if b then reported else []) (sym h)

pub reported_at_end : (plan : Plan) (comparison_state : PoolComparison) (lines : List RecordedLine) → IsPoolComparisonOf plan comparison_state lines → comparison_state.closed ≡ true → unrecorded_by (has_name comparison_state.named) plan ≡ deviations_at_end plan lines
reported_at_end plan comparison_state lines represents closed =
    by_name (has_name comparison_state.named) (has_pool lines) represents.named 0 plan.pools ∙ (written plan lines ∙ closed_tells (is_closed lines) (unrecorded plan lines) (sym represents.closed ∙ closed))
