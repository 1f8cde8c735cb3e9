-- The rounds of a kind after one more line.
use Rattle.std.proofs.Common.{◌≡◌, ℕ, ◌+◌, ◌&&◌, ◌||◌, Bool, true, false, if◌then◌else◌, List, [], ◌∷◌, ◌++◌, length, is_some, Option, ◌<◌, count_by, refl, ap, ap₂, sym, ◌∙◌, arith}
use Rattle.std.proofs.lemmas.Bool.{lt-ltb}
use Rattle.job_bodies.specs.Plan.{Plan, client_at}
use Rattle.recordings.specs.RecordingLine.{RecordedLine, RoundEnds}
use Rattle.recordings.specs.PathsOfLines.{KeepsRules}
use Rattle.conformance.specs.declared.round_comparison.KindRounds.{KindRounds}
use Rattle.conformance.specs.Rounds.{Rounds, excess_of, IsWithinPlan}
use Rattle.conformance.specs.RoundExcesses.{kind_of, is_kind, begins_kind, ends_kind, rounds_of, exceeds, has_exceeded, excesses_by_line, excesses_by_lines}
use Rattle.conformance.specs.RoundComparison.{kept_of, with_begun, with_ended, after_begin, after_end}
use Rattle.conformance.specs.ComparisonLaws.{ExcessesAddUp}
use Rattle.conformance.proofs.LineByLine.{count_more, all_more, any_line_more}
use Rattle.conformance.proofs.OpenRounds.{is_open}

pub excesses_add_up : ExcessesAddUp
unfolding excesses_by_lines
excesses_add_up plan kinds before line = all_more (λ (before, line). excesses_by_line plan kinds before (length before + 1) line) before line

pub exceeded_more : (plan : Plan) (kinds : List (Option ℕ)) (before : List RecordedLine) (line : RecordedLine) (kind : ℕ) → has_exceeded plan kinds (before ++ line ∷ []) kind ≡ (has_exceeded plan kinds before kind || exceeds plan kinds kind before line)
unfolding has_exceeded
exceeded_more plan kinds before line kind = any_line_more (λ (before, line). exceeds plan kinds kind before line) before line

pub exceeded_none : (plan : Plan) (kinds : List (Option ℕ)) (kind : ℕ) → has_exceeded plan kinds [] kind ≡ false
unfolding has_exceeded
exceeded_none plan kinds kind = refl

-- ---- the counts
abbrev excess_tracker : Plan → ℕ → ℕ → ℕ → Rounds
excess_tracker plan kind begun ended = record { count = (client_at plan kind).count; repeat = (client_at plan kind).repeat; begun = begun; ended = ended }

counts_of : (plan : Plan) (kinds : List (Option ℕ)) (lines : List RecordedLine) (kind : ℕ) → rounds_of plan kinds lines kind ≡ excess_tracker plan kind (count_by (begins_kind kinds kind) lines) (count_by (ends_kind kinds kind) lines)
unfolding rounds_of
counts_of plan kinds lines kind = refl

abbrev with_one : Bool → ℕ → ℕ
with_one b n = n + (if b then 1 else 0)

counts_more : (plan : Plan) (kinds : List (Option ℕ)) (before : List RecordedLine) (line : RecordedLine) (kind : ℕ) (begins ends : Bool) → begins_kind kinds kind line ≡ begins → ends_kind kinds kind line ≡ ends
    → rounds_of plan kinds (before ++ line ∷ []) kind
    ≡ excess_tracker plan kind (with_one begins (count_by (begins_kind kinds kind) before)) (with_one ends (count_by (ends_kind kinds kind) before))
counts_more plan kinds before line kind begins ends is_begin is_end =
    counts_of plan kinds (before ++ line ∷ []) kind
    ∙ ap₂ (excess_tracker plan kind)
    (count_more (begins_kind kinds kind) before line ∙ ap (λ b. with_one b (count_by (begins_kind kinds kind) before)) is_begin)
    (count_more (ends_kind kinds kind) before line ∙ ap (λ b. with_one b (count_by (ends_kind kinds kind) before)) is_end)

plus_none : (n : ℕ) → with_one false n ≡ n
plus_none n = omega arith

pub rounds_begun : (plan : Plan) (kinds : List (Option ℕ)) (before : List RecordedLine) (line : RecordedLine) (kind : ℕ) → begins_kind kinds kind line ≡ true → ends_kind kinds kind line ≡ false
    → rounds_of plan kinds (before ++ line ∷ []) kind ≡ with_begun (rounds_of plan kinds before kind)
rounds_begun plan kinds before line kind begins ends =
    counts_more plan kinds before line kind true false begins ends
    ∙ (ap (excess_tracker plan kind (count_by (begins_kind kinds kind) before + 1)) (plus_none _) ∙ ap with_begun (sym (counts_of plan kinds before kind)))

pub rounds_ended : (plan : Plan) (kinds : List (Option ℕ)) (before : List RecordedLine) (line : RecordedLine) (kind : ℕ) → begins_kind kinds kind line ≡ false → ends_kind kinds kind line ≡ true
    → rounds_of plan kinds (before ++ line ∷ []) kind ≡ with_ended (rounds_of plan kinds before kind)
rounds_ended plan kinds before line kind begins ends =
    counts_more plan kinds before line kind false true begins ends
    ∙ (ap (λ n. excess_tracker plan kind n (count_by (ends_kind kinds kind) before + 1)) (plus_none _) ∙ ap with_ended (sym (counts_of plan kinds before kind)))

pub rounds_same : (plan : Plan) (kinds : List (Option ℕ)) (before : List RecordedLine) (line : RecordedLine) (kind : ℕ) → begins_kind kinds kind line ≡ false → ends_kind kinds kind line ≡ false
    → rounds_of plan kinds (before ++ line ∷ []) kind ≡ rounds_of plan kinds before kind
rounds_same plan kinds before line kind begins ends =
    counts_more plan kinds before line kind false false begins ends
    ∙ (ap₂ (excess_tracker plan kind) (plus_none _) (plus_none _) ∙ sym (counts_of plan kinds before kind))

-- ---- the state
or_false : (a b : Bool) → b ≡ false → (a || b) ≡ a
or_false a b h = grind (arith, h)

pub exceeded_same : (plan : Plan) (kinds : List (Option ℕ)) (before : List RecordedLine) (line : RecordedLine) (kind : ℕ) → begins_kind kinds kind line ≡ false → has_exceeded plan kinds (before ++ line ∷ []) kind ≡ has_exceeded plan kinds before kind
exceeded_same plan kinds before line kind h =
    exceeded_more plan kinds before line kind
    ∙ or_false (has_exceeded plan kinds before kind) _ (ap (λ b. b && is_some (excess_of (rounds_of plan kinds (before ++ line ∷ []) kind))) h)

abbrev kept : Rounds → Bool → KindRounds
kept rounds reported = record { rounds = rounds; has_exceeded = reported }

end_if_open : (rounds : Rounds) (b : Bool) → b ≡ true → (if b then with_ended rounds else rounds) ≡ with_ended rounds
end_if_open rounds true h = refl
end_if_open rounds false h = cc

pub kept_begun : (plan : Plan) (kinds : List (Option ℕ)) (before : List RecordedLine) (line : RecordedLine) (kind : ℕ) → begins_kind kinds kind line ≡ true → ends_kind kinds kind line ≡ false
    → kept_of plan kinds (before ++ line ∷ []) kind ≡ after_begin (kept_of plan kinds before kind)
kept_begun plan kinds before line kind begins ends =
    let rounds = rounds_begun plan kinds before line kind begins ends in
    let reported =
    exceeded_more plan kinds before line kind
    ∙ (ap (λ b. has_exceeded plan kinds before kind || (b && is_some (excess_of (rounds_of plan kinds (before ++ line ∷ []) kind)))) begins
    ∙ ap (λ r. has_exceeded plan kinds before kind || is_some (excess_of r)) rounds) in
    ap₂ kept rounds reported

pub kept_ended : (plan : Plan) (kinds : List (Option ℕ)) (before : List RecordedLine) (line : RecordedLine) (kind : ℕ) → begins_kind kinds kind line ≡ false → ends_kind kinds kind line ≡ true
    → (rounds_of plan kinds before kind).ended < (rounds_of plan kinds before kind).begun
    → kept_of plan kinds (before ++ line ∷ []) kind ≡ after_end (kept_of plan kinds before kind)
kept_ended plan kinds before line kind begins ends still =
    ap₂ kept (rounds_ended plan kinds before line kind begins ends ∙ sym (end_if_open (rounds_of plan kinds before kind) _ (lt-ltb _ _ still))) (exceeded_same plan kinds before line kind begins)

pub kept_same : (plan : Plan) (kinds : List (Option ℕ)) (before : List RecordedLine) (line : RecordedLine) (kind : ℕ) → begins_kind kinds kind line ≡ false → ends_kind kinds kind line ≡ false
    → kept_of plan kinds (before ++ line ∷ []) kind ≡ kept_of plan kinds before kind
kept_same plan kinds before line kind begins ends = ap₂ kept (rounds_same plan kinds before line kind begins ends) (exceeded_same plan kinds before line kind begins)

pub none_within : (plan : Plan) (kinds : List (Option ℕ)) (kind : ℕ) → IsWithinPlan (rounds_of plan kinds [] kind)
unfolding rounds_of
none_within plan kinds kind = record { concurrent = omega arith; in_all = λ h. omega arith }

-- A round that ends was open.
pub open_here : (plan : Plan) (kinds : List (Option ℕ)) (before : List RecordedLine) (round kind : ℕ) → KeepsRules (before ++ RoundEnds round ∷ []) → is_kind kind (kind_of kinds round) ≡ true
    → (rounds_of plan kinds before kind).ended < (rounds_of plan kinds before kind).begun
unfolding rounds_of
open_here plan kinds before round kind kept here = is_open kinds kind before round kept here
