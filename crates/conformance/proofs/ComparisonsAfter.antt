-- The states of the comparisons after one more line.
use Rattle.std.proofs.Common.{◌≡◌, ℕ, ◌≤◌, map, ◌&&◌, ◌||◌, not, nat_lt, Bool, true, false, if◌then◌else◌, List, [], ◌∷◌, ◌++◌, length, slice_get, Option, Some, None, refl, ap, sym, ◌∙◌, arith}
use Rattle.std.specs.Option.{option_map, option_to_list}
use Rattle.std.proofs.lemmas.Bool.{ltb-true}
use Rattle.std.proofs.lemmas.List.Elements.{filter_agree}
use Rattle.std.proofs.lemmas.Option.{slice_get-get_or, slice_get_past, slice_get-map}
use Rattle.job_bodies.specs.Plan.{Plan, Client, client_at, no_client, pool_at}
use Rattle.recordings.specs.declared.pool_sizes.PoolSizes.{PoolSizes}
use Rattle.recordings.specs.RecordingLine.{RecordedLine, RoundBegins, RoundEnds, Pool}
use Rattle.recordings.specs.LineParts.{is_end, declares}
use Rattle.recordings.specs.Before.{has_pool, is_closed}
use Rattle.recordings.specs.PathsOfLines.{KeepsRules}
use Rattle.conformance.specs.declared.difference.Difference.{Difference}
use Rattle.conformance.specs.declared.pool_comparison.PoolComparison.{PoolComparison}
use Rattle.conformance.specs.declared.round_comparison.KindRounds.{KindRounds}
use Rattle.conformance.specs.declared.round_comparison.RoundComparison.{RoundComparison}
use Rattle.conformance.specs.Sizes.{differences}
use Rattle.conformance.specs.Rounds.{no_rounds, excess_of}
use Rattle.conformance.specs.PoolDeviations.{Differs, pool_named, is_pool, is_among, has_difference, was_reported, deviations_of_pool, reported_by_line as pool_reported, deviations_by_line}
use Rattle.conformance.specs.PoolComparison.{has_name, is_reported, IsPoolComparisonOf, AppliesLine}
use Rattle.conformance.specs.RoundExcesses.{kind_of, kind_at, is_kind, rounds_of, has_exceeded, excess_at, first_excess, excesses_of_kind, excesses_by_line}
use Rattle.conformance.specs.RoundComparison.{kept_of, IsRoundComparisonOf, after_begin, after_end, kind_after, CountsLine, reports_of_kind, reports_at, reported_by_line}
use Rattle.conformance.proofs.LineByLine.{any_more}
use Rattle.conformance.proofs.PoolsFound.{has_pool_more, reported_more}
use Rattle.conformance.proofs.RoundsAfter.{rounds_begun, kept_begun, kept_ended, kept_same, open_here}

-- ---- pools
closed_more : (before : List RecordedLine) (line : RecordedLine) → is_closed (before ++ line ∷ []) ≡ (is_closed before || is_end line)
unfolding is_closed
closed_more before line = any_more is_end before line

pub pools_none : (plan : Plan) (comparison_state : PoolComparison) → ((pool : List ℕ) → has_name comparison_state.named pool ≡ false) → ((pool : ℕ) (difference : Difference) → is_reported comparison_state.reported pool difference ≡ false) → comparison_state.closed ≡ false → IsPoolComparisonOf plan comparison_state []
unfolding has_pool is_closed was_reported
pools_none plan comparison_state named reported closed = record { named = named; reported = reported; closed = closed }

by_names : (plan : Plan) (f g : List ℕ → Bool) → ((name : List ℕ) → f name ≡ g name) → (pool : ℕ) (difference : Difference) (line : RecordedLine) → has_difference plan f pool difference line ≡ has_difference plan g pool difference line
by_names plan f g same pool difference (Pool name sizes) =
    ap (λ (b : Bool). is_pool pool (pool_named plan name) && is_among (differences (not b) sizes (pool_at plan pool)) difference) (same name)
by_names plan f g same pool difference line = refl

reported_after : (plan : Plan) (old new : PoolComparison) (before : List RecordedLine) (line : RecordedLine) → IsPoolComparisonOf plan old before → AppliesLine plan old line new → (pool : ℕ) (difference : Difference)
    → is_reported new.reported pool difference ≡ was_reported plan (before ++ line ∷ []) pool difference
reported_after plan old new before line s n pool difference =
    n.reported pool difference
    ∙ (ap (λ (b : Bool). b || has_difference plan (has_name old.named) pool difference line) (s.reported pool difference)
    ∙ (ap (λ (b : Bool). was_reported plan before pool difference || b) (by_names plan (has_name old.named) (has_pool before) s.named pool difference line) ∙ sym (reported_more plan before line pool difference)))

pub pools_after : (plan : Plan) (old new : PoolComparison) (before : List RecordedLine) (line : RecordedLine) → IsPoolComparisonOf plan old before → AppliesLine plan old line new → IsPoolComparisonOf plan new (before ++ line ∷ [])
pools_after plan old new before line s n = record {
  named = λ pool. n.named pool ∙ (ap (λ b. b || declares pool line) (s.named pool) ∙ sym (has_pool_more before line pool));
  reported = reported_after plan old new before line s n;
  closed = n.closed ∙ (ap (λ b. b || is_end line) s.closed ∙ sym (closed_more before line));
}

by_reported : (plan : Plan) (is_first : Bool) (f g : ℕ → Difference → Bool) → ((pool : ℕ) (difference : Difference) → f pool difference ≡ g pool difference) → (number : ℕ) (name : List ℕ) (sizes : PoolSizes) (there : Option ℕ)
    → deviations_of_pool plan is_first f number name sizes there ≡ deviations_of_pool plan is_first g number name sizes there
by_reported plan is_first f g same number name sizes None = refl
by_reported plan is_first f g same number name sizes (Some pool) =
    ap (map (Differs number pool)) (filter_agree (λ (d : Difference). not (f pool d)) (λ (d : Difference). not (g pool d)) (λ d. ap (λ (b : Bool). not b) (same pool d)) (differences is_first sizes (pool_at plan pool)))

pub pools_reported : (plan : Plan) (comparison_state : PoolComparison) (before : List RecordedLine) (number : ℕ) (line : RecordedLine) → IsPoolComparisonOf plan comparison_state before
    → pool_reported plan (has_name comparison_state.named) (is_reported comparison_state.reported) number line ≡ deviations_by_line plan before number line
pools_reported plan comparison_state before number (Pool name sizes) s =
    ap (λ (b : Bool). deviations_of_pool plan (not b) (is_reported comparison_state.reported) number name sizes (pool_named plan name)) (s.named name)
    ∙ by_reported plan (not (has_pool before name)) (is_reported comparison_state.reported) (was_reported plan before) s.reported number name sizes (pool_named plan name)
pools_reported plan comparison_state before number line s = refl

-- ---- rounds
not_below : (a b : ℕ) → nat_lt a b ≡ false → b ≤ a
not_below a b h = grind (arith, h)

abbrev pub first_kept : Client → KindRounds
first_kept client = record { rounds = no_rounds client; has_exceeded = false }

first_of : (plan : Plan) (kinds : List (Option ℕ)) (kind : ℕ) → first_kept (client_at plan kind) ≡ kept_of plan kinds [] kind
unfolding rounds_of has_exceeded
first_of plan kinds kind = refl

known_first : (plan : Plan) (kinds : List (Option ℕ)) (kind : ℕ) (known : Bool) → nat_lt kind (length plan.clients) ≡ known → option_map first_kept (slice_get plan.clients kind) ≡ (if known then Some (kept_of plan kinds [] kind) else None)
known_first plan kinds kind true is = ap (option_map first_kept) (slice_get-get_or plan.clients kind no_client (ltb-true _ _ is)) ∙ ap Some (first_of plan kinds kind)
known_first plan kinds kind false is = ap (option_map first_kept) (slice_get_past plan.clients kind (not_below kind (length plan.clients) is))

pub rounds_none : (plan : Plan) (kinds : List (Option ℕ)) (comparison_state : RoundComparison) → comparison_state.kinds.items ≡ map first_kept plan.clients → IsRoundComparisonOf plan kinds comparison_state []
rounds_none plan kinds comparison_state is = record {
  kept = λ kind. ap (λ (kept : List KindRounds). slice_get kept kind) is ∙ (slice_get-map first_kept plan.clients kind ∙ known_first plan kinds kind _ refl);
}

-- Mapping the entry of a kind, which exists if the plan has the kind.
mapped : (f : KindRounds → KindRounds) (known : Bool) (a b : KindRounds) → b ≡ f a → option_map f (if known then Some a else None) ≡ (if known then Some b else None)
mapped f true a b h = ap Some (sym h)
mapped f false a b h = refl

same_kept : (known : Bool) (a b : KindRounds) → b ≡ a → (if known then Some a else None) ≡ (if known then Some b else None)
same_kept known a b h = ap (λ kept. if known then Some kept else None) (sym h)

begin_kept : (plan : Plan) (kinds : List (Option ℕ)) (before : List RecordedLine) (round : ℕ) (name : List ℕ) (kind : ℕ) (known here : Bool) → is_kind kind (kind_of kinds round) ≡ here
    → (if here then option_map after_begin (if known then Some (kept_of plan kinds before kind) else None) else (if known then Some (kept_of plan kinds before kind) else None))
    ≡ (if known then Some (kept_of plan kinds (before ++ RoundBegins round name ∷ []) kind) else None)
begin_kept plan kinds before round name kind known true is = mapped after_begin known _ _ (kept_begun plan kinds before (RoundBegins round name) kind is refl)
begin_kept plan kinds before round name kind known false is = same_kept known _ _ (kept_same plan kinds before (RoundBegins round name) kind is refl)

end_kept : (plan : Plan) (kinds : List (Option ℕ)) (before : List RecordedLine) (round : ℕ) (kind : ℕ) (known here : Bool) → KeepsRules (before ++ RoundEnds round ∷ []) → is_kind kind (kind_of kinds round) ≡ here
    → (if here then option_map after_end (if known then Some (kept_of plan kinds before kind) else None) else (if known then Some (kept_of plan kinds before kind) else None))
    ≡ (if known then Some (kept_of plan kinds (before ++ RoundEnds round ∷ []) kind) else None)
end_kept plan kinds before round kind known true kept is = mapped after_end known _ _ (kept_ended plan kinds before (RoundEnds round) kind refl is (open_here plan kinds before round kind kept is))
end_kept plan kinds before round kind known false kept is = same_kept known _ _ (kept_same plan kinds before (RoundEnds round) kind refl is)

later : (plan : Plan) (kinds : List (Option ℕ)) (before : List RecordedLine) (line : RecordedLine) (kind : ℕ) (known : Bool) → KeepsRules (before ++ line ∷ [])
    → kind_after (kind_at kinds line) line kind (if known then Some (kept_of plan kinds before kind) else None) ≡ (if known then Some (kept_of plan kinds (before ++ line ∷ []) kind) else None)
later plan kinds before (RoundBegins round name) kind known kept = begin_kept plan kinds before round name kind known _ refl
later plan kinds before (RoundEnds round) kind known kept = end_kept plan kinds before round kind known _ kept refl
later plan kinds before line kind known kept = same_kept known _ _ (kept_same plan kinds before line kind refl refl)

pub rounds_after : (plan : Plan) (kinds : List (Option ℕ)) (given : Option ℕ) (old new : RoundComparison) (before : List RecordedLine) (line : RecordedLine) → kind_at kinds line ≡ given → KeepsRules (before ++ line ∷ [])
    → IsRoundComparisonOf plan kinds old before → CountsLine given old line new → IsRoundComparisonOf plan kinds new (before ++ line ∷ [])
rounds_after plan kinds given old new before line is kept s excess_tracker = record {
  kept = λ kind. excess_tracker.later kind
      ∙ (ap (λ (one : Option ℕ). kind_after one line kind (slice_get old.kinds.items kind)) (sym is)
      ∙ (ap (kind_after (kind_at kinds line) line kind) (s.kept kind) ∙ later plan kinds before line kind (nat_lt kind (length plan.clients)) kept));
}

-- ---- the reported excesses
reported_known : (plan : Plan) (kinds : List (Option ℕ)) (before : List RecordedLine) (number round : ℕ) (name : List ℕ) (kind : ℕ) (known : Bool) → is_kind kind (kind_of kinds round) ≡ true
    → reports_of_kind number kind (if known then Some (kept_of plan kinds before kind) else None)
    ≡ (if known then option_to_list (option_map (excess_at number kind) (first_excess plan kinds before (RoundBegins round name) kind)) else [])
reported_known plan kinds before number round name kind true is =
    ap (λ rounds. option_to_list (option_map (excess_at number kind) (if has_exceeded plan kinds before kind then None else excess_of rounds))) (sym (rounds_begun plan kinds before (RoundBegins round name) kind is refl))
reported_known plan kinds before number round name kind false is = refl

same_kind : (kind : ℕ) (there : Option ℕ) → there ≡ Some kind → is_kind kind there ≡ true
same_kind kind None h = cc
same_kind kind (Some one) h = grind (arith, h)

reported_kind : (plan : Plan) (kinds : List (Option ℕ)) (comparison_state : RoundComparison) (before : List RecordedLine) (number round : ℕ) (name : List ℕ) (there : Option ℕ) → kind_of kinds round ≡ there → IsRoundComparisonOf plan kinds comparison_state before
    → reports_at comparison_state number there ≡ excesses_of_kind plan kinds before number (RoundBegins round name) there
reported_kind plan kinds comparison_state before number round name None is s = refl
reported_kind plan kinds comparison_state before number round name (Some kind) is s =
    ap (reports_of_kind number kind) (s.kept kind) ∙ reported_known plan kinds before number round name kind (nat_lt kind (length plan.clients)) (same_kind kind (kind_of kinds round) is)

reported_line : (plan : Plan) (kinds : List (Option ℕ)) (comparison_state : RoundComparison) (before : List RecordedLine) (number : ℕ) (line : RecordedLine) → IsRoundComparisonOf plan kinds comparison_state before
    → reported_by_line (kind_at kinds line) comparison_state number line ≡ excesses_by_line plan kinds before number line
reported_line plan kinds comparison_state before number (RoundBegins round name) s = reported_kind plan kinds comparison_state before number round name (kind_of kinds round) refl s
reported_line plan kinds comparison_state before number line s = refl

pub rounds_reported : (plan : Plan) (kinds : List (Option ℕ)) (given : Option ℕ) (comparison_state : RoundComparison) (before : List RecordedLine) (number : ℕ) (line : RecordedLine) → kind_at kinds line ≡ given → IsRoundComparisonOf plan kinds comparison_state before
    → reported_by_line given comparison_state number line ≡ excesses_by_line plan kinds before number line
rounds_reported plan kinds given comparison_state before number line is s = ap (λ (one : Option ℕ). reported_by_line one comparison_state number line) (sym is) ∙ reported_line plan kinds comparison_state before number line s
