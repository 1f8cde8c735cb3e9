use Rattle.std.proofs.Common.{◌≡◌, List, Option, refl, ap, sym, subst, ◌∙◌}
use Rattle.recordings.specs.declared.step.RecordedStep.{RecordedStep}
use Rattle.conformance.specs.declared.describe_mismatch.JobStep.{JobStep}
use Rattle.conformance.specs.declared.mismatch.NamedStep.{NamedStep}
use Rattle.conformance.specs.declared.line_query.LineQuery.{LineQuery}
use Rattle.conformance.specs.JobSet.{has_job}
use Rattle.conformance.specs.Lines.{lines_of}
use Rattle.conformance.specs.LineQuery.{IsFirstLine}
use Rattle.conformance.specs.Description as spec
use Rattle.conformance.proofs.FirstLinesAfter.{line_found}
use Rattle.conformance.proofs.Steps.{after_begin_line, after_step}
use Rattle.conformance.proofs.describe_mismatch.describe_mismatch.Goals.{in-None, in-Some+in_ok-after-in-Some}
use Rattle.conformance.proofs.describe_mismatch.describe_mismatch.Goals as goal

pub returns : goal.returns
returns c =
    let lines = lines_of c.args.first.now in
    let reported = c.args.reported.now in
    let did : c.step_at-step.result ≡ spec.step_at reported.path.items reported.family.explained.length = c.step_at-step.ensures ∙ ap (λ (path : List RecordedStep). spec.step_at path reported.family.explained.length) c.deref.ensures.value in
    let found = line_found lines c.line_query_of.result c.in_ok-line.line c.in_ok-line.ensures in
    record {
      actor_is = refl;
      label_is = c.in_ok-label_of_classified.ensures.name;
      pool_is = c.in_ok-label_of_classified.ensures.pool;
      line = found.line;
      first = subst (λ (w : LineQuery). IsFirstLine lines w found.line) (c.line_query_of.ensures ∙ ap (spec.line_query_of reported.actor) did) found.first;
      number_is = c.number_of.ensures ∙ found.number_is;
      did = subst (λ (d : Option JobStep). spec.IsDeviatingStep c.args.plan.now lines (has_job c.args.classless.now) reported.actor reported.path.items reported.family.explained d c.in_ok-deviating_step.field-0) did
          (subst (λ (path : List RecordedStep). spec.IsDeviatingStep c.args.plan.now lines (has_job c.args.classless.now) reported.actor path reported.family.explained c.step_at-step.result c.in_ok-deviating_step.field-0) c.deref-2.ensures.value c.in_ok-deviating_step.ensures);
      after = elim c.match-checked_sub.branch [
        | in-None w ↦ after_begin_line lines reported.path.items reported.family.explained.length _ w.in-None.ensures w.after-is
        | in-Some+in_ok-after-in-Some w ↦
            let before : w.step_at.result ≡ spec.step_at reported.path.items w.in-Some.last = w.step_at.ensures ∙ ap (λ (path : List RecordedStep). spec.step_at path w.in-Some.last) w.deref-in-Some.ensures.value in
            let named = subst (λ (d : Option JobStep). spec.IsNamed lines d w.in_ok-after-in-Some.after) before w.in_ok-after-in-Some.ensures in
            after_step lines reported.path.items reported.family.explained.length w.in-Some.last _ w.in-Some.ensures.0 w.in-Some.ensures.1 (subst (λ (b : Option NamedStep). spec.IsNamed lines (spec.step_at reported.path.items w.in-Some.last) b) (sym w.after-is) named)
      ];
    }
