use Rattle.std.proofs.Common.{◌≡◌, ◌++◌, ◌∷◌, [], ℕ, List, drop, take, Option, Some, Result, Ok, Err, ap, sym, subst, ◌∙◌}
use Rattle.std.proofs.lemmas.List.{append_assoc, take-append-drop}
use Rattle.std.proofs.lemmas.List.Elements.{filter_map-append}
use Rattle.recordings.specs.declared.recording_line.Line.{Line}
use Rattle.recordings.specs.RecordingLine.{RecordedLine, line_view, lines_read}
use Rattle.recordings.specs.declared.fault.RecordingFault.{RecordingFault}
use Rattle.recordings.specs.Faults.{lines_before}
use Rattle.recordings.specs.CheckedLines.{AreAllAccepted, IsNext, IsAcceptedNext}
use Rattle.learning.specs.LearningState.{AreNamesOf, IsDraftOf, IsLearnError}
use Rattle.learning.specs.LabelRounds.{AreLabelRoundsOf}
use Rattle.learning.specs.FirstPass.{well_formed}
use Rattle.learning.proofs.FirstPass.{still_stops_at}
use Rattle.learning.proofs.recorded_names.RecordedNames.note_lines.Goals as goal

-- The well-formed lines are the lines before the line that was read, that line, and the well-formed lines after it.
with_next : (all : List (Option RecordedLine)) (number : ℕ) (before : List RecordedLine) (line : RecordedLine) → lines_before all number ≡ before ++ line ∷ [] → well_formed all ≡ before ++ line ∷ well_formed (drop number all)
with_next all number before line taken =
    ap well_formed (sym (take-append-drop number all)) ∙ filter_map-append (λ one. one) (take number all) (drop number all)
    ∙ ap (λ ls. ls ++ well_formed (drop number all)) taken ∙ append_assoc before (line ∷ []) (well_formed (drop number all))

pub returns-in-Err-clause-fault : goal.returns-in-Err-clause-fault
returns-in-Err-clause-fault c =
    let all = lines_read c.args.recording.now in
    let is : c.in_ok-line.field-0 ≡ Some (Err c.in-Err.fault) = c.in-Some.is ∙ ap (λ (next : Result Line RecordingFault). Some next) c.in-Err.is in
    subst (λ (next : Option (Result Line RecordingFault)). IsNext all c.loop-line.lines next c.next.new.self) is (c.in_ok-line.ensures all c.loop-line.invariant.checked)

pub returns-in_err-fault_or_error-clause-err : goal.returns-in_err-fault_or_error-clause-err
returns-in_err-fault_or_error-clause-err c =
    let all = lines_read c.args.recording.now in
    let current = c.loop-line.invariant in
    let old = c.loop-line.lines in
    let new = c.next.new.self in
    let line = line_view c.in-Ok.line in
    let is : c.in_ok-line.field-0 ≡ Some (Ok c.in-Ok.line) = c.in-Some.is ∙ ap (λ (next : Result Line RecordingFault). Some next) c.in-Ok.is in
    let next : IsAcceptedNext all old line new = subst (λ (next : Option (Result Line RecordingFault)). IsNext all old next new) is (c.in_ok-line.ensures all current.checked) in
    let whole = with_next all new.number (lines_before all old.number) line next.taken in
    still_stops_at all _ _ c.from_residual-in_err-fault_or_error.ensures.1 (c.in_err-fault_or_error.ensures.err (subst (λ ls. IsLearnError ls c.in-Err-note.learn_error) (sym whole)
    (c.in-Err-note.ensures.err (lines_before all old.number) (well_formed (drop new.number all)) current.named (subst (λ ls. IsDraftOf ls c.loop-line.self.draft) whole current.draft) next.kept)))

pub loop-line-preserved : goal.loop-line-preserved
loop-line-preserved c =
    let all = lines_read c.args.recording.now in
    let current = c.loop-line.invariant in
    let old = c.loop-line.lines in
    let new = c.next.new.self in
    let line = line_view c.in-Ok.line in
    let is : c.in_ok-line.field-0 ≡ Some (Ok c.in-Ok.line) = c.in-Some.is ∙ ap (λ (next : Result Line RecordingFault). Some next) c.in-Ok.is in
    let next : IsAcceptedNext all old line new = subst (λ (next : Option (Result Line RecordingFault)). IsNext all old next new) is (c.in_ok-line.ensures all current.checked) in
    let before = lines_before all old.number in
    let after = well_formed (drop new.number all) in
    let whole = with_next all new.number before line next.taken in
    record {
      checked = next.checked;
      named = subst (AreNamesOf c.note.new.self) (sym next.taken) (c.in_default-note.ensures.names before current.named);
      rounds = subst (AreLabelRoundsOf c.note.new.self.label_rounds) (sym next.taken) (c.in_default-note.ensures.rounds before current.rounds);
      draft = subst (λ ls. IsDraftOf ls c.note.new.self.draft) (sym whole) (c.in_default-note.ensures.draft before after current.named (subst (λ ls. IsDraftOf ls c.loop-line.self.draft) whole current.draft));
    }

pub returns-clause-named : goal.returns-clause-named
returns-clause-named c =
    let all = lines_read c.args.recording.now in
    let current = c.loop-line.invariant in
    let names = c.loop-line.self in
    let old = c.loop-line.lines in
    let new = c.next.new.self in
    let taken : AreAllAccepted all old new = subst (λ (next : Option (Result Line RecordingFault)). IsNext all old next new) c.in_default.is (c.in_ok-line.ensures all current.checked) in
    λ none. record {
      no_fault = taken.none;
      named = subst (AreNamesOf names) taken.taken current.named;
      rounds = subst (AreLabelRoundsOf names.label_rounds) taken.taken current.rounds;
      draft = current.draft;
    }
