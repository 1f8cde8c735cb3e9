use Rattle.std.proofs.Common.{subst}
use Rattle.std.specs.Prelude.{Result}
use Rattle.recordings.specs.declared.fault.RecordingFault.{RecordingFault}
use Rattle.conformance.specs.declared.survey.Survey.{Survey}
use Rattle.conformance.specs.Survey.{IsSurveyResult}
use Rattle.conformance.proofs.ActorTables.{keeps_rules}
use Rattle.conformance.specs.Lines.{lines_of}
use Rattle.conformance.proofs.Ambiguous.{none_ambiguous}
use Rattle.conformance.proofs.comparison.conform.Goals as goal

pub returns-in_ok-rejections-in-Ok-clause-conforms : goal.returns-in_ok-rejections-in-Ok-clause-conforms
returns-in_ok-rejections-in-Ok-clause-conforms c =
    let so = subst (λ (found : Result Survey RecordingFault). IsSurveyResult c.args.plan.now c.args.recording.now found) c.in-Ok.is c.in_ok-survey.ensures in
    c.in_ok-findings-in-Ok.ensures.conforms (keeps_rules c.args.recording.now so.0) so.1 c.in_ok-refusals-in-Ok.ensures

pub returns-in_ok-rejections-in-Ok-clause-actors : goal.returns-in_ok-rejections-in-Ok-clause-actors
returns-in_ok-rejections-in-Ok-clause-actors c =
    let so = subst (λ (found : Result Survey RecordingFault). IsSurveyResult c.args.plan.now c.args.recording.now found) c.in-Ok.is c.in_ok-survey.ensures in
    c.in_ok-findings-in-Ok.ensures.actors (keeps_rules c.args.recording.now so.0) so.1

pub returns-in_ok-rejections-in-Ok-clause-found : goal.returns-in_ok-rejections-in-Ok-clause-found
returns-in_ok-rejections-in-Ok-clause-found c =
    let so = subst (λ (found : Result Survey RecordingFault). IsSurveyResult c.args.plan.now c.args.recording.now found) c.in-Ok.is c.in_ok-survey.ensures in
    c.in_ok-findings-in-Ok.ensures.found (keeps_rules c.args.recording.now so.0) so.1 c.in_ok-refusals-in-Ok.ensures

pub returns-in_ok-rejections-in-Ok-clause-decided : goal.returns-in_ok-rejections-in-Ok-clause-decided
returns-in_ok-rejections-in-Ok-clause-decided c =
    let so = subst (λ (found : Result Survey RecordingFault). IsSurveyResult c.args.plan.now c.args.recording.now found) c.in-Ok.is c.in_ok-survey.ensures in
    c.in_ok-findings-in-Ok.ensures.decided (keeps_rules c.args.recording.now so.0) so.1 c.in_ok-refusals-in-Ok.ensures

pub returns-in_ok-rejections-in-Ok-clause-one_class_each : goal.returns-in_ok-rejections-in-Ok-clause-one_class_each
returns-in_ok-rejections-in-Ok-clause-one_class_each c =
    let so = subst (λ (found : Result Survey RecordingFault). IsSurveyResult c.args.plan.now c.args.recording.now found) c.in-Ok.is c.in_ok-survey.ensures in
    λ none. c.in_ok-findings-in-Ok.ensures.decided (keeps_rules c.args.recording.now so.0) so.1 c.in_ok-refusals-in-Ok.ensures (none_ambiguous c.args.plan.now (lines_of c.args.recording.now) none)

pub returns-in_ok-rejections-in-Ok-clause-followed : goal.returns-in_ok-rejections-in-Ok-clause-followed
returns-in_ok-rejections-in-Ok-clause-followed c =
    let so = subst (λ (found : Result Survey RecordingFault). IsSurveyResult c.args.plan.now c.args.recording.now found) c.in-Ok.is c.in_ok-survey.ensures in
    λ cert formed accepts none. c.planned_actors_are_followed.ensures c.args.plan.now cert (lines_of c.args.recording.now) formed accepts (c.in_ok-findings-in-Ok.ensures.actors (keeps_rules c.args.recording.now so.0) so.1 none)
