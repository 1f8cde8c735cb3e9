-- The findings for a recording, compared with a plan.
use Rattle.std.specs.Prelude.{◌≡◌, ◌++◌, ℕ, Bool, true, false, if◌then◌else◌, List, [], map, filter, Option}
use Rattle.std.specs.List.{list_any}
use Rattle.std.specs.Option.{option_to_list}
use Rattle.std.specs.List.Sorted.{IsPermutation}
use Rattle.job_bodies.specs.Plan.{Plan}
use Rattle.recordings.specs.RecordingLine.{RecordedLine}
use Rattle.conformance.specs.declared.classified_actor.ClassifiedActor.{ClassifiedActor}
use Rattle.conformance.specs.ClassifiedActor.{AreAllResultsOf}
use Rattle.recordings.specs.ForeignGets.{first_foreign_get}
use Rattle.recordings.specs.Invalidations.{invalidations_of}
use Rattle.recordings.specs.declared.invalidation.Invalidation.{Invalidation}
use Rattle.conformance.specs.declared.pool_comparison.PoolDeviation.{PoolDeviation}
use Rattle.conformance.specs.PoolDeviations.{deviation_seen, deviations_by_lines, deviations_at_end}
use Rattle.conformance.specs.RoundExcesses.{excesses_by_lines}
use Rattle.conformance.specs.declared.finding.Finding.{Finding}
use Rattle.conformance.specs.declared.finding.Finding.TheVariants as finding
use Rattle.conformance.specs.declared.unplanned.UnplannedLabel.{UnplannedLabel}
use Rattle.conformance.specs.FirstKinds.{AreFirstKinds}
use Rattle.conformance.specs.FirstActors.{AreFirstActorsOf}
use Rattle.conformance.specs.CollectedFindings.{AreMismatchesOf, AreForeign, AreInvalidationsOf, is_counted, all_findings}
use Rattle.conformance.specs.RejectionRule.{has_rejecting_pool, first_refusal}
use Rattle.conformance.specs.UnplannedLabels.{AreNotPlanned}
use Rattle.conformance.specs.Verdicts.{is_mismatch, is_undecided, is_classless_job}

-- The finding concerns a label, a path or a number of rounds.
abbrev pub is_of_actors : Finding → Bool
is_of_actors (finding.UnplannedLabel label) = true
is_of_actors (finding.PathMismatch line mismatch) = true
is_of_actors (finding.NotDecided actor label) = true
is_of_actors (finding.TooMany excess) = true
is_of_actors (finding.Pool deviation) = false
is_of_actors (finding.ForeignGet get label job) = false
is_of_actors (finding.Invalidation invalidation label) = false

-- The finding says that it is undecided whether the path of an actor matches a body.
abbrev pub is_not_decided : Finding → Bool
is_not_decided (finding.NotDecided actor label) = true
is_not_decided (finding.UnplannedLabel label) = false
is_not_decided (finding.PathMismatch line mismatch) = false
is_not_decided (finding.TooMany excess) = false
is_not_decided (finding.Pool deviation) = false
is_not_decided (finding.ForeignGet get label job) = false
is_not_decided (finding.Invalidation invalidation label) = false

-- The events that become findings: the first event of each type that invalidates a SAFE answer, whatever the paths are. If
-- some pool of the plan may reject jobs, the only refusal among them is the first one that the plan does not allow. It is the
-- last element of the list.
abbrev pub counted_invalidations : Plan → List RecordedLine → List Invalidation
counted_invalidations plan lines = filter (is_counted (has_rejecting_pool plan)) (invalidations_of lines) ++ (if has_rejecting_pool plan then option_to_list (first_refusal plan lines) else [])

-- The path of this job matches no class, according to the classified actors.
abbrev pub is_classless_in : List ClassifiedActor → ℕ → Bool
is_classless_in reported job = list_any (is_classless_job job) reported

-- The findings are exactly these, each once:
--
-- - each difference between a recorded pool and the plan, with the first line that shows it;
-- - each pool of the plan that the recording lacks, if the recording ends with `end`;
-- - each label that is not in the plan;
-- - for each label of the plan, the first actor whose path matches no body, and the first one for which this is undecided;
-- - for each client kind, the first line at which the kind has too many rounds;
-- - the first get of a job that another actor submitted and has not got yet;
-- - the first event of each type that invalidates a SAFE answer, other than the rejections that the plan allows.
pub record AreFindingsOf (plan : Plan) (lines : List RecordedLine) (findings : List Finding) : Type 0 where
  pub reported : List ClassifiedActor
  pub all_reported : AreAllResultsOf plan lines reported
  pub kinds : List (Option ℕ)
  pub kinds_so : AreFirstKinds plan lines reported kinds
  pub deviations : List PoolDeviation
  pub deviations_so : map deviation_seen deviations ≡ deviations_by_lines plan lines ++ deviations_at_end plan lines
  pub labels : List UnplannedLabel
  pub labels_so : AreNotPlanned plan lines labels
  pub first_mismatches : List ClassifiedActor
  pub first_mismatches_so : AreFirstActorsOf (filter (is_mismatch plan) reported) first_mismatches
  pub mismatches : List Finding
  pub mismatches_so : AreMismatchesOf plan lines (is_classless_in reported) first_mismatches mismatches
  pub undecided : List ClassifiedActor
  pub undecided_so : AreFirstActorsOf (filter (is_undecided plan) reported) undecided
  pub foreign : List Finding
  pub foreign_so : AreForeign lines (first_foreign_get lines) foreign
  pub invalidations : List Finding
  pub invalidations_so : AreInvalidationsOf lines (counted_invalidations plan lines) invalidations
  pub all : IsPermutation (all_findings deviations labels mismatches undecided (excesses_by_lines plan kinds lines) foreign invalidations) findings
