use Rattle.std.proofs.Common.{◌≡◌, ◌∷◌, [], drop, refl, ap, sym, ◌∙◌}
use Rattle.std.specs.List.{list_any}
use Rattle.recordings.specs.RecordingLine.{line_view}
use Rattle.conformance.specs.Lines.{lines_of}
use Rattle.conformance.specs.LineQuery.{is_match}
use Rattle.conformance.proofs.ListSteps.{next_is, rest_next, within_next, all_taken}
use Rattle.conformance.proofs.Among.{any_more}
use Rattle.conformance.proofs.line_query.first_line.Goals as goal

pub returns-then-matches : goal.returns-then-matches
returns-then-matches c =
    let lines = lines_of c.args.text.now in
    let n = c.loop-line.number in
    let next : drop n lines ≡ line_view c.in-Some.line ∷ c.next.new.self = sym c.loop-line.invariant.rest ∙ c.in-Some.ensures in
    record { before = n; number_is = refl; there = next_is lines _ n _ next; is = sym c.matches.ensures ∙ c.if-matches.true; none_before = c.loop-line.invariant.none }

pub loop-line-preserved : goal.loop-line-preserved
loop-line-preserved c =
    let lines = lines_of c.args.text.now in
    let n = c.loop-line.number in
    let next : drop n lines ≡ line_view c.in-Some.line ∷ c.next.new.self = sym c.loop-line.invariant.rest ∙ c.in-Some.ensures in
    record {
      rest = rest_next lines _ n _ next;
      within = within_next lines _ n _ next;
      few = c.loop-line.invariant.few;
      none = any_more (is_match c.args.line_query) lines _ n _ next c.loop-line.invariant.none (sym c.matches.ensures ∙ c.if-matches.false);
    }

pub returns : goal.returns
returns c =
    let lines = lines_of c.args.text.now in
    let n = c.loop-line.number in
    let rest : drop n lines ≡ [] = sym c.loop-line.invariant.rest ∙ c.in_default.ensures.0 in
    sym (ap (list_any (is_match c.args.line_query)) (all_taken lines n rest)) ∙ c.loop-line.invariant.none
