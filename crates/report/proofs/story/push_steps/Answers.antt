use Rattle.std.proofs.Common.{◌∙◌, ap, map, List, subst}
use Rattle.support.specs.Pushed.{Pushes}
use Rattle.report.specs.Story as spec
use Rattle.report.specs.StorySeen.{turn_seen}
use Rattle.report.proofs.story.push_steps.Goals as goal

pub returns : goal.returns
returns c =
    subst (λ (ts : List spec.Turn). Pushes c.push_lines.result c.args.text.now c.push_lines.new.text (spec.lines_text (spec.lines ts)))
    (ap (map turn_seen) c.deref.ensures.value ∙ c.in_ok-turns.ensures) c.push_lines.ensures
