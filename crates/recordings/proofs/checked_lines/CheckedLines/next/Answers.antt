use Rattle.std.proofs.Common.{◌≡◌, ◌∷◌, Some, None, Result, refl, ap, sym, subst, ◌∙◌, arith}
use Rattle.std.specs.Option.{option_map}
use Rattle.recordings.specs.declared.recording_line.Line.{Line}
use Rattle.recordings.specs.declared.lines.BadLine.{BadLine}
use Rattle.recordings.specs.RecordingLine.{line_view, line_read}
use Rattle.recordings.specs.declared.fault.FaultReason.TheVariants as reason
use Rattle.recordings.specs.Rules.{first_broken_rule}
use Rattle.recordings.specs.StateOfLines.{Represents, with_line}
use Rattle.recordings.specs.Faults.{lines_before}
use Rattle.recordings.proofs.CheckedLinesAfter.{number_next, bad_next, good_next, missing_first, all_taken}
use Rattle.recordings.proofs.checked_lines.CheckedLines.next.Goals as goal

pub returns-in-Some : goal.returns-in-Some
returns-in-Some c = λ all r.
    let old = c.args.self.now in
    let next : old.lines ≡ Some (line_view c.in-Some-Ok.line) ∷ c.next.new.self = c.in-Some-Ok.ensures ∙ ap (λ (line : Result Line BadLine). line_read line ∷ c.next.new.self) c.in-Some-Ok.field-0-is in
    let number = number_next all old r _ c.next.new.self next _ c.saturating_add-number.ensures in
    let taken = c.in_ok-rule-in-Some-Ok.ensures (lines_before all old.number) r.represents in
    bad_next all old r _ c.next.new.self next _ (reason.LineRule c.in-Some.rule) number (ap (option_map reason.LineRule) (sym taken.0 ∙ c.in-Some.is))

pub returns-in-None-3 : goal.returns-in-None-3
returns-in-None-3 c = λ all r.
    let old = c.args.self.now in
    let before = lines_before all old.number in
    let line = line_view c.in-Some-Ok.line in
    let next : old.lines ≡ Some line ∷ c.next.new.self = c.in-Some-Ok.ensures ∙ ap (λ (line : Result Line BadLine). line_read line ∷ c.next.new.self) c.in-Some-Ok.field-0-is in
    let number = number_next all old r _ c.next.new.self next _ c.saturating_add-number.ensures in
    let taken = c.in_ok-rule-in-Some-Ok.ensures before r.represents in
    let kept : first_broken_rule before line ≡ None = sym taken.0 ∙ c.in-None-3.is in
    good_next all old _ r line next number kept (subst (λ broken. Represents c.take.new.self (with_line broken before line)) c.in-None-3.is taken.1)

pub returns-in-Some-Err : goal.returns-in-Some-Err
returns-in-Some-Err c = λ all r.
    let old = c.args.self.now in
    let next : old.lines ≡ None ∷ c.next.new.self = c.in-Some-Err.ensures ∙ ap (λ (line : Result Line BadLine). line_read line ∷ c.next.new.self) c.in-Some-Err.field-0-is in
    let number = number_next all old r _ c.next.new.self next _ c.saturating_add-number.ensures in
    bad_next all old r _ c.next.new.self next _ reason.Form number refl

pub returns-in-None : goal.returns-in-None
returns-in-None c = λ all r. (0, refl, missing_first all c.args.self.now r c.in-None.ensures.0 c.if-self-eq0.true, λ k below. absurd (omega arith))

pub returns-in-None-2 : goal.returns-in-None-2
returns-in-None-2 c = λ all r.
    let old = c.args.self.now in
    all_taken all old r c.in-None.ensures.0 c.next.new.self c.in-None.ensures.1 (omega arith)
