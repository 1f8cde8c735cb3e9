use Rattle.std.proofs.Common.{List, ℕ, subst, sym}
use Rattle.support.specs.Pushed.{Pushes}
use Rattle.report.proofs.StoryTurns.{lines_shortened, lines_whole}
use Rattle.report.proofs.story_lines.push_shown.Goals as goal

pub returns-then-lines-le-MAX_LINES : goal.returns-then-lines-le-MAX_LINES
returns-then-lines-le-MAX_LINES c =
    subst (λ (t : List ℕ). Pushes c.push_each.result c.args.text.now c.push_each.new.text t) (sym (lines_whole c.args.lines.now c.if-lines-le-MAX_LINES.true)) c.push_each.ensures

pub returns-else-lines-le-MAX_LINES : goal.returns-else-lines-le-MAX_LINES
returns-else-lines-le-MAX_LINES c =
    subst (λ (t : List ℕ). Pushes c.push_shortened.result c.args.text.now c.push_shortened.new.text t) (sym (lines_shortened c.args.lines.now c.if-lines-le-MAX_LINES.false)) c.push_shortened.ensures
