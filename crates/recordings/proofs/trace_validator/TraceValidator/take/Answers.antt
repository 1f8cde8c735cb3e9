use Rattle.std.proofs.Common.{◌≡◌, None, sym, subst, ◌∙◌, arith}
use Rattle.std.proofs.lemmas.Grind.{common_steps}
use Rattle.recordings.specs.RecordingLine.{line_view}
use Rattle.recordings.specs.StateOfLines.{Represents, with_line}
use Rattle.recordings.proofs.StateAfter.{stands_after}
use Rattle.recordings.proofs.trace_validator.TraceValidator.take.Goals as goal

pub returns-in_ok-apply_line : goal.returns-in_ok-apply_line
returns-in_ok-apply_line c = λ before s.
    let answer = c.first_broken_rule-broken.ensures before s in
    let none : c.first_broken_rule-broken.result ≡ None = grind (arith, common_steps) in (
      answer,
      subst (λ broken. Represents c.apply_line.new.lines (with_line broken before (line_view c.args.line.now))) (sym none)
          (stands_after c.args.self.now c.apply_line.new.lines before (line_view c.args.line.now) s (sym answer ∙ none) c.in_ok-apply_line.ensures.stored),
    )
