-- The findings for a recording are complete.
use Rattle.std.proofs.Common.{◌≡◌, ℕ, Bool, List, [], ◌∷◌, Option, Some, string_bytes, ap, sym, subst, ◌∙◌}
use Rattle.std.specs.List.Sorted.{IsPermutation}
use Rattle.job_bodies.specs.Plan.{Plan}
use Rattle.recordings.specs.RecordingLine.{RecordedLine}
use Rattle.recordings.specs.declared.recording_line.RecordedActor.{RecordedActor}
use Rattle.recordings.specs.declared.step.RecordedStep.{RecordedStep}
use Rattle.conformance.specs.declared.classified_actor.ClassifiedActor.{ClassifiedActor}
use Rattle.conformance.specs.declared.round_comparison.RoundExcess.{RoundExcess}
use Rattle.conformance.specs.RoundExcesses.{excesses_by_lines}
use Rattle.conformance.specs.Verdicts.{is_planned_class}
use Rattle.conformance.specs.declared.describe_mismatch.JobStep.{JobStep}
use Rattle.conformance.specs.declared.describe_mismatch.JobStep.TheVariants as step
use Rattle.conformance.specs.declared.finding.Finding.{Finding}
use Rattle.conformance.specs.declared.mismatch.DeviatingStep.{DeviatingStep}
use Rattle.conformance.specs.declared.explained_prefix.ExplainedPrefix.{ExplainedPrefix}
use Rattle.conformance.specs.declared.survey.Survey.{Survey}
use Rattle.conformance.specs.Description.{IsDeviatingStep}
use Rattle.conformance.specs.Description as steps
use Rattle.conformance.specs.FirstKinds.{AreFirstKinds}
use Rattle.conformance.specs.Findings.{AreFindingsOf, is_classless_in}
use Rattle.conformance.specs.CollectedFindings.{AreCollected, AreMismatchesOf, AreInvalidationsOf, IsMismatchFinding, all_findings}
use Rattle.conformance.specs.CollectedFindings as made
use Rattle.conformance.specs.JobSet.{has_job}
use Rattle.recordings.specs.declared.invalidation.Invalidation.{Invalidation}
use Rattle.conformance.specs.declared.rejections.Rejections.{Rejections}
use Rattle.conformance.specs.Rejections.{AreRejectionsOf}
use Rattle.conformance.specs.Survey.{IsSurveyOf}
use Rattle.conformance.proofs.NoInvalidation.{counted_is}

-- ---- equal tests describe the same step
same_step : (plan : Plan) (lines : List RecordedLine) (one other : ℕ → Bool) → ((job : ℕ) → one job ≡ other job) → (actor : RecordedActor) (path : List RecordedStep) (explained : ExplainedPrefix) (did : Option JobStep) (found : DeviatingStep) → IsDeviatingStep plan lines one actor path explained did found → IsDeviatingStep plan lines other actor path explained did found
same_step plan lines one other same actor path explained _ _ (steps.ends found end) = steps.ends found end
same_step plan lines one other same actor path explained _ _ (steps.submits job label so) =
    subst (λ (is_classless : Bool). IsDeviatingStep plan lines other actor path explained (Some (step.Submits job)) (steps.deviating_submit is_classless (is_planned_class plan (string_bytes label.name) (string_bytes label.pool)) job label explained.excess)) (sym (same job)) (steps.submits job label so)
same_step plan lines one other same actor path explained _ _ (steps.gets job label so) = steps.gets job label so

same_reported : (plan : Plan) (lines : List RecordedLine) (one other : ℕ → Bool) → ((job : ℕ) → one job ≡ other job) → (reported : ClassifiedActor) (found : Finding) → IsMismatchFinding plan lines one reported found → IsMismatchFinding plan lines other reported found
same_reported plan lines one other same reported _ (made.mismatches number mismatch so) =
    made.mismatches number mismatch (record {
      actor_is = so.actor_is;
      label_is = so.label_is;
      pool_is = so.pool_is;
      line = so.line;
      first = so.first;
      number_is = so.number_is;
      did = same_step plan lines one other same _ _ _ _ _ so.did;
      after = so.after;
    })

same_mismatches : (plan : Plan) (lines : List RecordedLine) (one other : ℕ → Bool) → ((job : ℕ) → one job ≡ other job) → (reported : List ClassifiedActor) (found : List Finding) → AreMismatchesOf plan lines one reported found → AreMismatchesOf plan lines other reported found
same_mismatches plan lines one other same [] [] all = all
same_mismatches plan lines one other same [] (first ∷ found) all = absurd all
same_mismatches plan lines one other same (first ∷ reported) [] all = absurd all
same_mismatches plan lines one other same (first ∷ reported) (mismatch ∷ found) all = (same_reported plan lines one other same first mismatch all.0, same_mismatches plan lines one other same reported found all.1)

-- ---- all findings
pub all_found : (plan : Plan) (lines : List RecordedLine) (survey : Survey) (kinds : List (Option ℕ)) (excesses : List RoundExcess) (rejections : Option Rejections) (collect_findings findings : List Finding)
    → (so : IsSurveyOf plan lines survey) → AreFirstKinds plan lines so.actor_survey.reported kinds → excesses ≡ excesses_by_lines plan kinds lines → AreRejectionsOf plan lines rejections → AreCollected plan lines survey excesses rejections collect_findings → IsPermutation collect_findings findings
    → AreFindingsOf plan lines findings
all_found plan lines survey kinds excesses rejections collect_findings findings so first excess_tracker are_rejections are moved =
    let verdicts = survey.actor_survey.verdicts in
    let found = survey.line_survey in
    let as_counted = ap (λ (rounds : List RoundExcess). all_findings found.deviations.items found.unplanned.found.items are.mismatches verdicts.undecided.actors.items rounds are.foreign are.invalidations) excess_tracker in
    record {
      reported = so.actor_survey.reported;
      all_reported = so.actor_survey.all;
      kinds = kinds;
      kinds_so = first;
      deviations = found.deviations.items;
      deviations_so = so.line_survey.deviations;
      labels = found.unplanned.found.items;
      labels_so = so.line_survey.unplanned.found;
      first_mismatches = verdicts.mismatches.actors.items;
      first_mismatches_so = so.actor_survey.verdicts.mismatches;
      mismatches = are.mismatches;
      mismatches_so = same_mismatches plan lines (has_job verdicts.classless) (is_classless_in so.actor_survey.reported) so.actor_survey.verdicts.classless _ _ are.mismatches_so;
      undecided = verdicts.undecided.actors.items;
      undecided_so = so.actor_survey.verdicts.undecided;
      foreign = are.foreign;
      foreign_so = are.foreign_so;
      invalidations = are.invalidations;
      invalidations_so = subst (λ (counted : List Invalidation). AreInvalidationsOf lines counted are.invalidations) (counted_is plan lines rejections are_rejections) are.invalidations_so;
      all = subst (λ (xs : List Finding). IsPermutation xs findings) (are.all ∙ as_counted) moved;
    }
