-- If there are no findings, the recording conforms.
use Rattle.std.proofs.Common.{◌≡◌, ℕ, Bool, true, false, if◌then◌else◌, List, [], ◌∷◌, ◌++◌, length, map, Contains, Option, Some, None, refl, ap, sym, subst, ◌∙◌, arith}
use Rattle.std.specs.List.{list_any}
use Rattle.std.specs.Option.{option_and_then}
use Rattle.std.proofs.lemmas.List.Elements.{All-contains}
use Rattle.std.proofs.lemmas.List.Folds.{list_any-append}
use Rattle.std.proofs.lemmas.Bool.{eqb-true}
use Rattle.std.specs.List.Sorted.{IsPermutation}
use Rattle.std.proofs.lemmas.List.Sorted.{length_permutation}
use Rattle.job_bodies.specs.Plan.{Plan}
use Rattle.recordings.specs.declared.recording_line.RecordedActor.{RecordedActor}
use Rattle.recordings.specs.declared.recording_line.RecordedActor.TheVariants.{Job, Round}
use Rattle.recordings.specs.RecordingLine.{RecordedLine}
use Rattle.recordings.specs.Before.{is_begun}
use Rattle.recordings.specs.LineParts.{is_same_actor}
use Rattle.recordings.specs.LineSteps.{is_submitted}
use Rattle.conformance.specs.declared.pool_comparison.PoolDeviation.{PoolDeviation}
use Rattle.conformance.specs.declared.round_comparison.RoundExcess.{RoundExcess}
use Rattle.conformance.specs.PoolDeviations.{deviation_seen, deviations_by_lines, deviations_at_end}
use Rattle.conformance.specs.RoundExcesses.{excesses_by_lines}
use Rattle.conformance.specs.ComparisonLaws.{PoolsAreAsPlanned, PoolsAreRecorded, RoundsAreWithinPlan}
use Rattle.recordings.specs.declared.foreign_get.ForeignGet.{ForeignGet}
use Rattle.recordings.specs.declared.invalidation.Invalidation.{Invalidation}
use Rattle.conformance.specs.declared.classified_actor.ClassifiedActor.{ClassifiedActor}
use Rattle.conformance.specs.ClassifiedActor.{IsCorrectResult, AreAllResultsOf, CanBe, is_reported}
use Rattle.conformance.specs.declared.finding.Finding.{Finding}
use Rattle.conformance.specs.declared.finding.Finding.TheVariants as finding
use Rattle.conformance.specs.declared.survey.Survey.{Survey}
use Rattle.conformance.specs.declared.unplanned.UnplannedLabel.{UnplannedLabel}
use Rattle.conformance.specs.Conforms.{Conforms, DoAsPlanned, HasNoInvalidation, IsOfAClass, IsOfAKind, HasItsKind}
use Rattle.conformance.specs.Findings.{is_of_actors, counted_invalidations}
use Rattle.conformance.specs.FirstKinds.{AreFirstKinds, has_kind, has_no_kind, round_and_kind}
use Rattle.conformance.specs.CollectedFindings.{AreCollected, AreMismatchesOf, AreForeign, not_decided}
use Rattle.conformance.specs.CollectedFindings as made
use Rattle.conformance.specs.JobSet.{has_job}
use Rattle.conformance.specs.declared.rejections.Rejections.{Rejections}
use Rattle.conformance.specs.Rejections.{AreRejectionsOf}
use Rattle.conformance.specs.Survey.{IsSurveyOf}
use Rattle.conformance.specs.Verdicts.{is_empty}
use Rattle.conformance.proofs.Among.{here, passing, both_none, map_none}
use Rattle.conformance.proofs.NoInvalidation.{not_invalidation, counted_is}
use Rattle.conformance.proofs.Times.{none_of_both}
use Rattle.conformance.proofs.ConformingActors.{IsWellFormed, all_good}

-- ---- one actor
same_job : (actor : RecordedActor) (job : ℕ) → is_same_actor actor (Job job) ≡ true → actor ≡ Job job
same_job (Job one) job h = ap Job (eqb-true one job h)
same_job (Round one) job h = absurd (grind (arith, h))

same_round : (actor : RecordedActor) (round : ℕ) → is_same_actor actor (Round round) ≡ true → actor ≡ Round round
same_round (Job one) round h = absurd (grind (arith, h))
same_round (Round one) round h = ap Round (eqb-true one round h)

some_class : (plan : Plan) (lines : List RecordedLine) (job : ℕ) (members : List ℕ) → CanBe plan lines (Job job) members → is_empty members ≡ false → IsOfAClass plan lines job
some_class plan lines job [] can_be some = absurd (grind (arith, some))
some_class plan lines job (n ∷ more) can_be some = record { classes = n ∷ more; exact = can_be; some = omega arith }

some_kind : (plan : Plan) (lines : List RecordedLine) (round : ℕ) (members : List ℕ) → CanBe plan lines (Round round) members → is_empty members ≡ false → IsOfAKind plan lines round
some_kind plan lines round [] can_be some = absurd (grind (arith, some))
some_kind plan lines round (n ∷ more) can_be some = record { kinds = n ∷ more; exact = can_be; some = omega arith }

-- The round counts as the first kind that it can belong to.
counted_so : (plan : Plan) (lines : List RecordedLine) (reported : List ClassifiedActor) (kinds : List (Option ℕ)) (one : ClassifiedActor) (round : ℕ) (members : List ℕ) → AreFirstKinds plan lines reported kinds → Contains reported one
    → one.actor ≡ Round round → one.family.is_decided ≡ true → one.family.members.items ≡ members → CanBe plan lines (Round round) members → is_empty members ≡ false → HasItsKind plan lines kinds round
counted_so plan lines reported kinds one round [] are among actor_is decided members_are can_be some = absurd (grind (arith, some))
counted_so plan lines reported kinds one round (kind ∷ more) are among actor_is decided members_are can_be some =
    let reported_is : round_and_kind one ≡ Some (round, Some kind) =
    ap (λ (b : Bool). if b then has_kind one.family.members.items one.actor else has_no_kind one.actor) decided
    ∙ (ap (λ (m : List ℕ). has_kind m one.actor) members_are ∙ ap (λ (a : RecordedActor). has_kind (kind ∷ more) a) actor_is) in
    record {
      kind = kind;
      can_be = kind ∷ more;
      exact = can_be;
      among = here kind more;
      is = ap (λ (o : Option (Option ℕ)). option_and_then (λ (k : Option ℕ). k) o) (are.reports_of one round (Some kind) among reported_is);
    }

-- ---- all actors
pub record AreWellFormed (plan : Plan) (lines : List RecordedLine) (reported : List ClassifiedActor) : Type 0 where
  pub all : AreAllResultsOf plan lines reported
  pub good : (one : ClassifiedActor) → Contains reported one → IsWellFormed one

job_so : (plan : Plan) (lines : List RecordedLine) (reported : List ClassifiedActor) (job : ℕ) → AreWellFormed plan lines reported → is_submitted lines job ≡ true → IsOfAClass plan lines job
job_so plan lines reported job are come =
    let one = passing (is_reported (Job job)) reported (are.all.each (Job job) ∙ come) in
    let good = are.good one.one one.among in
    let so = All-contains (IsCorrectResult plan lines) reported one.one are.all.reported one.among in
    let is = same_job one.one.actor job one.passes in
    some_class plan lines job one.one.family.members.items (subst (λ (a : RecordedActor). CanBe plan lines a one.one.family.members.items) is (so.members good.decided)) good.some

round_so : (plan : Plan) (lines : List RecordedLine) (reported : List ClassifiedActor) (round : ℕ) → AreWellFormed plan lines reported → is_begun lines round ≡ true → IsOfAKind plan lines round
round_so plan lines reported round are come =
    let one = passing (is_reported (Round round)) reported (are.all.each (Round round) ∙ come) in
    let good = are.good one.one one.among in
    let so = All-contains (IsCorrectResult plan lines) reported one.one are.all.reported one.among in
    let is = same_round one.one.actor round one.passes in
    some_kind plan lines round one.one.family.members.items (subst (λ (a : RecordedActor). CanBe plan lines a one.one.family.members.items) is (so.members good.decided)) good.some

kind_so : (plan : Plan) (lines : List RecordedLine) (reported : List ClassifiedActor) (kinds : List (Option ℕ)) (round : ℕ) → AreWellFormed plan lines reported → AreFirstKinds plan lines reported kinds
    → is_begun lines round ≡ true → HasItsKind plan lines kinds round
kind_so plan lines reported kinds round are first come =
    let one = passing (is_reported (Round round)) reported (are.all.each (Round round) ∙ come) in
    let good = are.good one.one one.among in
    let so = All-contains (IsCorrectResult plan lines) reported one.one are.all.reported one.among in
    let is = same_round one.one.actor round one.passes in
    counted_so plan lines reported kinds one.one round one.one.family.members.items first one.among is good.decided refl (subst (λ (a : RecordedActor). CanBe plan lines a one.one.family.members.items) is (so.members good.decided)) good.some

-- ---- the notes
no_foreign : (lines : List RecordedLine) (get : Option ForeignGet) (found : List Finding) → AreForeign lines get found → found ≡ [] → get ≡ None
no_foreign lines _ _ made.none none = refl
no_foreign lines _ _ (made.one get label job is job_is) none = absurd (grind (arith, none))

no_events : (lines : List RecordedLine) (invalidations : List Invalidation) (found : List Finding) → made.AreInvalidationsOf lines invalidations found → found ≡ [] → invalidations ≡ []
no_events lines [] found are none = refl
no_events lines (one ∷ more) [] are none = absurd are
no_events lines (one ∷ more) (first ∷ found) are none = absurd (grind (arith, none))

-- ---- no findings about actors
contra : true ≡ false → ⊥
contra h = cc

none_in_both : (xs ys : List Finding) → list_any is_of_actors (xs ++ ys) ≡ false → (list_any is_of_actors xs ≡ false) × (list_any is_of_actors ys ≡ false)
none_in_both xs ys h = none_of_both (list_any is_of_actors xs) (list_any is_of_actors ys) (sym (list_any-append is_of_actors xs ys) ∙ h)

none_mapped : {X : Type 0} (f : X → Finding) (xs : List X) → ((x : X) → is_of_actors (f x) ≡ true) → list_any is_of_actors (map f xs) ≡ false → xs ≡ []
none_mapped f [] each h = refl
none_mapped f (x ∷ xs) each h = absurd (contra (sym (each x) ∙ (none_of_both (is_of_actors (f x)) (list_any is_of_actors (map f xs)) h).0))

record NoActors (labels : List UnplannedLabel) (mismatched : List Finding) (undecided : List ClassifiedActor) (excesses : List RoundExcess) : Type 0 where
  labels_none : labels ≡ []
  astray_none : list_any is_of_actors mismatched ≡ false
  undecided_none : undecided ≡ []
  excesses_none : excesses ≡ []

none_in_parts : (deviations : List PoolDeviation) (labels : List UnplannedLabel) (mismatched : List Finding) (undecided : List ClassifiedActor) (excesses : List RoundExcess) (gets invalidations : List Finding)
    → list_any is_of_actors (made.all_findings deviations labels mismatched undecided excesses gets invalidations) ≡ false → NoActors labels mismatched undecided excesses
none_in_parts deviations labels mismatched undecided excesses gets invalidations none =
    let pools = map finding.Pool deviations in
    let named = map finding.UnplannedLabel labels in
    let not_yet = map not_decided undecided in
    let many = map finding.TooMany excesses in
    let p6 = none_in_both (pools ++ named ++ mismatched ++ not_yet ++ many ++ gets) invalidations none in
    let p5 = none_in_both (pools ++ named ++ mismatched ++ not_yet ++ many) gets p6.0 in
    let p4 = none_in_both (pools ++ named ++ mismatched ++ not_yet) many p5.0 in
    let p3 = none_in_both (pools ++ named ++ mismatched) not_yet p4.0 in
    let p2 = none_in_both (pools ++ named) mismatched p3.0 in
    let p1 = none_in_both pools named p2.0 in
    record {
      labels_none = none_mapped finding.UnplannedLabel labels (λ label. refl) p1.1;
      astray_none = p2.1;
      undecided_none = none_mapped not_decided undecided (λ reported. refl) p3.1;
      excesses_none = none_mapped finding.TooMany excesses (λ excess. refl) p4.1;
    }

of_actors : (plan : Plan) (lines : List RecordedLine) (is_classless : ℕ → Bool) (reported : ClassifiedActor) (found : Finding) → made.IsMismatchFinding plan lines is_classless reported found → is_of_actors found ≡ true
of_actors plan lines is_classless reported _ (made.mismatches number mismatch so) = refl

none_reported : (plan : Plan) (lines : List RecordedLine) (is_classless : ℕ → Bool) (reported : List ClassifiedActor) (found : List Finding) → AreMismatchesOf plan lines is_classless reported found → list_any is_of_actors found ≡ false → reported ≡ []
none_reported plan lines is_classless [] found are none = refl
none_reported plan lines is_classless (one ∷ reported) [] are none = absurd are
none_reported plan lines is_classless (one ∷ reported) (first ∷ found) are none =
    absurd (contra (sym (of_actors plan lines is_classless one first are.0) ∙ (none_of_both (is_of_actors first) (list_any is_of_actors found) none).0))

-- ---- permutations
pub empty_if : {X : Type 0} (xs : List X) → length xs ≡ 0 → xs ≡ []
empty_if [] h = refl
empty_if (x ∷ xs) h = absurd (omega (arith, h))

pub none_before : {X : Type 0} (xs ys : List X) → IsPermutation xs ys → ys ≡ [] → xs ≡ []
none_before xs ys moved none = empty_if xs (sym (length_permutation xs ys moved) ∙ ap length none)

-- ---- all findings
-- If no finding concerns an actor, the actors behave as planned.
pub actors_do : (plan : Plan) (lines : List RecordedLine) (survey : Survey) (kinds : List (Option ℕ)) (excesses : List RoundExcess) (rejections : Option Rejections) (found : List Finding)
    → RoundsAreWithinPlan → (so : IsSurveyOf plan lines survey) → AreFirstKinds plan lines so.actor_survey.reported kinds → excesses ≡ excesses_by_lines plan kinds lines → AreCollected plan lines survey excesses rejections found
    → list_any is_of_actors found ≡ false → DoAsPlanned plan lines
actors_do plan lines survey kinds excesses rejections found are_within so first excess_tracker collect_findings none =
    let parts = none_in_parts survey.line_survey.deviations.items survey.line_survey.unplanned.found.items collect_findings.mismatches survey.actor_survey.verdicts.undecided.actors.items excesses collect_findings.foreign collect_findings.invalidations
    (ap (list_any is_of_actors) (sym collect_findings.all) ∙ none) in
    let no_mismatches = none_reported plan lines (has_job survey.actor_survey.verdicts.classless) survey.actor_survey.verdicts.mismatches.actors.items collect_findings.mismatches collect_findings.mismatches_so parts.astray_none in
    let actor_survey = so.actor_survey in
    let are : AreWellFormed plan lines actor_survey.reported = record {
      all = actor_survey.all;
      good = λ one among. all_good plan lines actor_survey.reported survey.actor_survey.verdicts survey.line_survey.unplanned one actor_survey.all.reported actor_survey.verdicts so.line_survey.unplanned no_mismatches parts.undecided_none parts.labels_none among;
    } in
    record {
      jobs = λ job. job_so plan lines actor_survey.reported job are;
      rounds = λ round. round_so plan lines actor_survey.reported round are;
      clients = record {
        kinds = kinds;
        each = λ round. kind_so plan lines actor_survey.reported kinds round are first;
        within = λ before after is. are_within plan kinds before after (ap (excesses_by_lines plan kinds) (sym is) ∙ (sym excess_tracker ∙ parts.excesses_none));
      };
    }

pub conforms : (plan : Plan) (lines : List RecordedLine) (survey : Survey) (kinds : List (Option ℕ)) (excesses : List RoundExcess) (rejections : Option Rejections) (found : List Finding)
    → PoolsAreAsPlanned → PoolsAreRecorded → RoundsAreWithinPlan
    → (so : IsSurveyOf plan lines survey) → AreFirstKinds plan lines so.actor_survey.reported kinds → excesses ≡ excesses_by_lines plan kinds lines → AreRejectionsOf plan lines rejections → AreCollected plan lines survey excesses rejections found → found ≡ []
    → Conforms plan lines × HasNoInvalidation plan lines
conforms plan lines survey kinds excesses rejections found as_planned are_recorded are_within so first excess_tracker are_rejections collect_findings none =
    let p6 = both_none _ _ (sym collect_findings.all ∙ none) in
    let p5 = both_none _ _ p6.0 in
    let p4 = both_none _ _ p5.0 in
    let p3 = both_none _ _ p4.0 in
    let p2 = both_none _ _ p3.0 in
    let p1 = both_none _ _ p2.0 in
    let no_deviations = map_none finding.Pool _ p1.0 in
    let no_invalidations : counted_invalidations plan lines ≡ [] = sym (counted_is plan lines rejections are_rejections) ∙ no_events lines _ _ collect_findings.invalidations_so p6.1 in
    let pools = both_none (deviations_by_lines plan lines) (deviations_at_end plan lines) (sym so.line_survey.deviations ∙ ap (map deviation_seen) no_deviations) in (
      record {
        pools = as_planned plan lines pools.0;
        recorded = λ closed. are_recorded plan lines closed pools.1;
        actors = actors_do plan lines survey kinds excesses rejections found are_within so first excess_tracker collect_findings (ap (list_any is_of_actors) none);
        gets = no_foreign lines _ _ collect_findings.foreign_so p5.1;
      },
      not_invalidation plan lines no_invalidations,
    )
