-- A recording in which no job is refused.
use Rattle.std.proofs.Common.{◌≡◌, ℕ, true, false, List, [], ◌∷◌, ◌++◌, refl, ap, sym, ◌∙◌, eq-eqb}
use Rattle.std.specs.Prelude.{slice_get}
use Rattle.std.specs.Option.{option_to_list}
use Rattle.std.specs.List.{list_any}
use Rattle.std.proofs.lemmas.Bool.{or_parts}
use Rattle.job_bodies.specs.Plan.{Plan}
use Rattle.recordings.specs.LineParts.{refuses_job}
use Rattle.recordings.specs.LineSteps.{is_refused}
use Rattle.recordings.specs.RecordingLine.{RecordedLine, Refused}
use Rattle.conformance.specs.declared.rejections.Rejections.{Rejections}
use Rattle.conformance.specs.RejectionRule.{pools_in, refusing_pools_in, refusals_in}
use Rattle.conformance.specs.Rejections.{AreRejectionsOfPrefix, AreAllRejections}
use Rattle.conformance.proofs.LineByLine.{by_last, any_more}
use Rattle.conformance.proofs.RefusalsAfter.{refuses_none, pools_more, refusing_more, refusals_more, no_pool_by, no_refusing_by, no_refusal_by}

abbrev RefusesNoJob : List RecordedLine → Type 0
RefusesNoJob lines = (job : ℕ) → is_refused lines job ≡ false

-- Nothing was rejected or refused in `read`, the first lines of the recording.
record HasNone (plan : Plan) (lines read : List RecordedLine) : Type 0 where
  pools : pools_in plan lines read ≡ []
  refusing : refusing_pools_in plan lines read ≡ []
  refusals : refusals_in plan lines read ≡ []

earlier_refuse_none : (before : List RecordedLine) (line : RecordedLine) → RefusesNoJob (before ++ line ∷ []) → (job : ℕ) → (is_refused before job ≡ false) × (refuses_job job line ≡ false)
unfolding is_refused
earlier_refuse_none before line none job = or_parts (list_any (refuses_job job) before) (refuses_job job line) (sym (any_more (refuses_job job) before line) ∙ none job)

no_refusal_line : (line : RecordedLine) → ((job : ℕ) → refuses_job job line ≡ false) → refuses_none line ≡ true
no_refusal_line (Refused actor job) none = absurd (let no = none job in let yes = eq-eqb job job refl in cc)
no_refusal_line line none = refl

none_yet : (plan : Plan) (lines : List RecordedLine) → HasNone plan lines []
unfolding pools_in refusing_pools_in refusals_in
none_yet plan lines = record { pools = refl; refusing = refl; refusals = refl }

none_more : (plan : Plan) (lines before : List RecordedLine) (line : RecordedLine) → refuses_none line ≡ true → HasNone plan lines before → HasNone plan lines (before ++ line ∷ [])
none_more plan lines before line other has = record {
  pools = pools_more plan lines before line ∙ ap (λ found. pools_in plan lines before ++ option_to_list found) (no_pool_by plan lines before line other) ∙ ap (λ found. found ++ []) has.pools;
  refusing = refusing_more plan lines before line ∙ ap (λ found. refusing_pools_in plan lines before ++ option_to_list found) (no_refusing_by plan lines before line other) ∙ ap (λ found. found ++ []) has.refusing;
  refusals = refusals_more plan lines before line ∙ ap (λ found. refusals_in plan lines before ++ option_to_list found) (no_refusal_by plan lines before line other) ∙ ap (λ found. found ++ []) has.refusals;
}

has_none : (plan : Plan) (lines read : List RecordedLine) → RefusesNoJob read → HasNone plan lines read
has_none plan lines = by_last (λ read. RefusesNoJob read → HasNone plan lines read) (λ none. none_yet plan lines)
    (λ before line earlier none. none_more plan lines before line (no_refusal_line line (λ job. (earlier_refuse_none before line none job).1)) (earlier (λ job. (earlier_refuse_none before line none job).0)))

-- The state before the first line is that of a recording without refusals.
pub no_rejections : (plan : Plan) (lines : List RecordedLine) (rejections : Rejections) → RefusesNoJob lines → AreRejectionsOfPrefix plan lines [] rejections → AreAllRejections plan lines rejections
no_rejections plan lines rejections none are =
    let has = has_none plan lines lines none in
    let start = none_yet plan lines in
    record {
      pools = are.pools ∙ start.pools ∙ sym has.pools;
      refusing = are.refusing ∙ start.refusing ∙ sym has.refusing;
      first = are.first ∙ ap (λ found. slice_get found 0) (start.refusals ∙ sym has.refusals);
    }
