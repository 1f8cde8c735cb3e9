-- The number of rejections of each pool.
use Rattle.std.proofs.Common.{◌≡◌, ℕ, ◌+◌, ◌<◌, ◌≤◌, ◌==◌, count_by, Bool, false, if◌then◌else◌, List, [], ◌∷◌, ◌++◌, length, take, get_or, Option, Some, None, refl, ap, ap₂, sym, ◌∙◌, arith}
use Rattle.std.specs.List.{list_any, filter_map, cons_option, enumerate_from}
use Rattle.std.specs.Option.{option_to_list}
use Rattle.std.proofs.lemmas.List.{take_more, take_all}
use Rattle.std.proofs.lemmas.List.FromFn.{get_or-enumerate_from, length-enumerate_from}
use Rattle.job_bodies.specs.Plan.{Plan, Pool}
use Rattle.recordings.specs.RecordingLine.{RecordedLine}
use Rattle.conformance.specs.declared.rejections.PoolRejections.{PoolRejections}
use Rattle.conformance.specs.RejectionRule.{has_rejecting_pool, pools_in}
use Rattle.conformance.specs.Rejections.{count_if, rejections_of}
use Rattle.conformance.proofs.LineByLine.{filter_map_more}
use Rattle.conformance.proofs.Times.{none_of_both}

none_before : (n : ℕ) → 0 + n ≡ n
none_before n = omega arith

pub counts_more : (rejected : List ℕ) (pools : List Pool) (n : ℕ) (pool : Pool) → n < length pools → pool ≡ get_or pools n pool
    → filter_map (count_if rejected) (take n (enumerate_from 0 pools)) ++ option_to_list (count_if rejected (n, pool)) ≡ filter_map (count_if rejected) (take (n + 1) (enumerate_from 0 pools))
counts_more rejected pools n pool within there =
    let f : ℕ × Pool → Option PoolRejections = count_if rejected in
    let all : List (ℕ × Pool) = enumerate_from 0 pools in
    let long : n < length all = grind (arith, within, length-enumerate_from 0 pools) in
    let here : get_or all n (n, pool) ≡ (n, pool) = get_or-enumerate_from 0 pools n (n, pool) within ∙ ap₂ (λ (m : ℕ) (one : Pool). (m, one)) (none_before n) (sym there) in
    sym
    (ap (filter_map f) (take_more all n (n, pool) long)
    ∙ (filter_map_more f (take n all) (get_or all n (n, pool)) ∙ ap (λ (one : ℕ × Pool). filter_map f (take n all) ++ option_to_list (f one)) here))

pub counts_all : (rejected : List ℕ) (pools : List Pool) (n : ℕ) → length pools ≤ n → filter_map (count_if rejected) (take n (enumerate_from 0 pools)) ≡ filter_map (count_if rejected) (enumerate_from 0 pools)
counts_all rejected pools n past =
    let all : List (ℕ × Pool) = enumerate_from 0 pools in
    let long : length all ≤ n = grind (arith, past, length-enumerate_from 0 pools) in
    ap (filter_map (count_if rejected)) (take_all n all long)

-- No pool may reject jobs.
none_counted : (rejected : List ℕ) (first : ℕ) (pools : List Pool) → list_any (λ (pool : Pool). pool.may_reject) pools ≡ false → filter_map (count_if rejected) (enumerate_from first pools) ≡ []
none_counted rejected first [] none = refl
none_counted rejected first (pool ∷ pools) none =
    let both = none_of_both pool.may_reject (list_any (λ (one : Pool). one.may_reject) pools) none in
    ap (λ (may : Bool). cons_option (if may then Some (record { pool = first; count = count_by (λ (one : ℕ). one == first) rejected }) else None) (filter_map (count_if rejected) (enumerate_from (first + 1) pools))) both.0
    ∙ none_counted rejected (first + 1) pools both.1

pub no_counts : (plan : Plan) (lines : List RecordedLine) → has_rejecting_pool plan ≡ false → rejections_of plan lines ≡ []
unfolding has_rejecting_pool
no_counts plan lines none = none_counted (pools_in plan lines lines) 0 plan.pools none
