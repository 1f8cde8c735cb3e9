use Rattle.std.proofs.Common.{◌≡◌, ◌+◌, ◌++◌, ◌∷◌, [], ℕ, List, length, Option, Some, Result, Ok, Err, ap, sym, subst, ◌∙◌}
use Rattle.recordings.specs.declared.recording_line.Line.{Line}
use Rattle.recordings.specs.RecordingLine.{RecordedLine, line_view, lines_read}
use Rattle.recordings.specs.declared.fault.RecordingFault.{RecordingFault}
use Rattle.recordings.specs.Faults.{lines_before}
use Rattle.recordings.specs.CheckedLines.{AreUnbroken, AreAllAccepted, IsNext, IsAcceptedNext}
use Rattle.recordings.specs.PathsOfLines.{KeepsRules}
use Rattle.conformance.specs.Lines.{lines_of}
use Rattle.conformance.specs.Survey.{IsSurveyBuilderOf}
use Rattle.conformance.proofs.survey.SurveyBuilder.take_all.Goals as goal

pub loop-lines-init : goal.loop-lines-init
loop-lines-init c =
    let all = lines_read c.args.recording.now in
    let nothing : lines_before all c.new-lines.result.number ≡ [] = ap (λ (n : ℕ). lines_before all n) c.new-lines.ensures.number in
    record {
      checked = c.new-lines.ensures.checked;
      builder = λ so. subst (λ (ls : List RecordedLine). IsSurveyBuilderOf c.args.plan.now ls c.args.self.now) (sym nothing) so;
    }

pub loop-lines-preserved : goal.loop-lines-preserved
loop-lines-preserved c =
    let all = lines_read c.args.recording.now in
    let old = c.loop-lines.lines in
    let new = c.next.new.self in
    let line = line_view c.in-Ok.line in
    let before = lines_before all old.number in
    let is : c.in_ok-line.field-0 ≡ Some (Ok c.in-Ok.line) = c.in-Some.is ∙ ap (λ (next : Result Line RecordingFault). Some next) c.in-Ok.is in
    let next : IsAcceptedNext all old line new = subst (λ (next : Option (Result Line RecordingFault)). IsNext all old next new) is (c.in_ok-line.ensures all c.loop-lines.invariant.checked) in
    let keeps : KeepsRules (before ++ line ∷ []) = record { unbroken = subst AreUnbroken next.taken next.checked.unbroken } in
    let number : c.number.result ≡ length before + 1 = c.number.ensures ∙ next.number ∙ ap (λ (n : ℕ). n + 1) (sym c.loop-lines.invariant.checked.counted) in
    record {
      checked = next.checked;
      builder = λ so. subst (λ (ls : List RecordedLine). IsSurveyBuilderOf c.args.plan.now ls c.take.new.self) (sym next.taken)
          (c.in_ok-take.ensures before keeps number (c.loop-lines.invariant.builder so));
    }

pub returns-in-Err : goal.returns-in-Err
returns-in-Err c = λ so.
    let all = lines_read c.args.recording.now in
    let old = c.loop-lines.lines in
    let new = c.next.new.self in
    let is : c.in_ok-line.field-0 ≡ Some (Err c.in-Err.fault) = c.in-Some.is ∙ ap (λ (next : Result Line RecordingFault). Some next) c.in-Err.is in
    subst (λ (next : Option (Result Line RecordingFault)). IsNext all old next new) is (c.in_ok-line.ensures all c.loop-lines.invariant.checked)

pub returns : goal.returns
returns c = λ so.
    let all = lines_read c.args.recording.now in
    let lines = lines_of c.args.recording.now in
    let old = c.loop-lines.lines in
    let new = c.next.new.self in
    let current = c.loop-lines.invariant in
    let taken : AreAllAccepted all old new = subst (λ (next : Option (Result Line RecordingFault)). IsNext all old next new) c.in_default.is (c.in_ok-line.ensures all current.checked) in
    let keeps : KeepsRules lines = record { unbroken = subst AreUnbroken taken.taken current.checked.unbroken } in
    (taken.none, keeps, subst (λ (ls : List RecordedLine). IsSurveyBuilderOf c.args.plan.now ls c.loop-lines.self) taken.taken (current.builder so))
