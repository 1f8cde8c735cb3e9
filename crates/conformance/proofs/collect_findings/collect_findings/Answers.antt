use Rattle.std.proofs.Common.{◌++◌, List, map, ap, subst, sym, ◌∙◌}
use Rattle.recordings.specs.declared.notes.RecordedNotes.{RecordedNotes}
use Rattle.recordings.specs.NotesOfLines.{IsNotesOf}
use Rattle.conformance.specs.Lines.{lines_of}
use Rattle.conformance.specs.declared.finding.Finding.{Finding}
use Rattle.conformance.specs.declared.finding.Finding.TheVariants as finding
use Rattle.conformance.specs.CollectedFindings as made
use Rattle.conformance.proofs.collect_findings.collect_findings.Goals as goal

pub returns : goal.returns
returns c = λ so.
    let survey = c.args.survey.now in
    let actor_survey = c.in_ok-push_actor_survey.ensures in
    let noted = c.in_ok-push_notes.ensures (subst (λ (notes : RecordedNotes). IsNotesOf notes (lines_of c.args.recording.now)) (sym c.push_plan_differences.ensures.notes) so) in
    let a1 = c.in_ok-push_plan_differences.ensures.pushed ∙ ap (λ (xs : List Finding). xs ++ map finding.Pool survey.line_survey.deviations.items ++ map finding.UnplannedLabel survey.line_survey.unplanned.found.items) c.new-findings.ensures.items in
    let a2 = actor_survey.after ∙ ap (λ (xs : List Finding). xs ++ actor_survey.mismatches ++ map made.not_decided survey.actor_survey.verdicts.undecided.actors.items) a1 in
    let a3 = c.in_ok-push_excesses.ensures ∙ ap (λ (xs : List Finding). xs ++ map finding.TooMany c.args.excesses.now) a2 in
    record {
      mismatches = actor_survey.mismatches;
      foreign = noted.foreign;
      invalidations = noted.invalidations;
      mismatches_so = actor_survey.mismatches_so;
      foreign_so = noted.foreign_so;
      invalidations_so = noted.invalidations_so;
      all = noted.after ∙ ap (λ (xs : List Finding). xs ++ noted.foreign ++ noted.invalidations) a3;
    }
