use Rattle.std.proofs.Common.{◌≡◌, ◌∷◌, [], List, drop, take, sym, subst, ◌∙◌}
use Rattle.recordings.specs.RecordingLine.{RecordedLine, line_view}
use Rattle.conformance.specs.Lines.{lines_of}
use Rattle.conformance.specs.FirstLines.{AreFirst}
use Rattle.conformance.proofs.FirstLinesAfter.{taken_number, nothing_sought}
use Rattle.conformance.proofs.ListSteps.{rest_next, within_next, front_next, all_taken}
use Rattle.conformance.proofs.first_lines.note_lines.Goals as goal

pub loop-line-preserved : goal.loop-line-preserved
loop-line-preserved c =
    let lines = lines_of c.args.text.now in
    let n = c.loop-line.number in
    let next : drop n lines ≡ line_view c.in-Some.line ∷ c.next.new.self = sym c.loop-line.invariant.rest ∙ c.in-Some.ensures in
    record {
      rest = rest_next lines _ n _ next;
      within = within_next lines _ n _ next;
      few = c.loop-line.invariant.few;
      first = λ none. subst (λ (read : List RecordedLine). AreFirst read c.note_line.new.table) (sym (front_next lines _ n _ next))
          (c.in_ok-note_line.ensures (take n lines) (taken_number lines n c.loop-line.invariant.within) (c.loop-line.invariant.first none));
    }

pub returns : goal.returns
returns c = λ none.
    let lines = lines_of c.args.text.now in
    let n = c.loop-line.number in
    let rest : drop n lines ≡ [] = sym c.loop-line.invariant.rest ∙ c.in_default.ensures.0 in
    subst (λ (read : List RecordedLine). AreFirst read c.loop-line.table) (all_taken lines n rest) (c.loop-line.invariant.first none)

pub returns-then-is_empty : goal.returns-then-is_empty
returns-then-is_empty c = λ none. nothing_sought (lines_of c.args.text.now) c.args.table.now (c.is_empty.ensures.0 c.if-is_empty.true)
