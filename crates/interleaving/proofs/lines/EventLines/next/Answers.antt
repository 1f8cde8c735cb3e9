use Rattle.std.proofs.Common.{sym, ◌∙◌}
use Rattle.std.proofs.lemmas.Bool.{eqb-true}
use Rattle.interleaving.specs.EventLine.{line_seen}
use Rattle.support.proofs.Numbers.{not_zero}
use Rattle.interleaving.proofs.LineByLine.{next_good, next_bad, none_left}
use Rattle.interleaving.proofs.lines.EventLines.next.Goals as goal

pub returns-then-is_empty : goal.returns-then-is_empty
returns-then-is_empty c =
    let none = sym c.self.view_is ∙ none_left c.self.inside.plan.now c.self.inside.rest.now (eqb-true _ 0 (sym c.is_empty.ensures ∙ c.if-is_empty.true)) in
    (none, none)

pub returns-in-Some : goal.returns-in-Some
returns-in-Some c =
    sym c.self.view_is
    ∙ next_good c.self.inside.plan.now c.self.inside.rest.now c.in-Some.behind.now (line_seen c.in-Some.line) (not_zero _ (sym c.is_empty.ensures ∙ c.if-is_empty.false)) c.in-Some.ensures

pub returns-in-None : goal.returns-in-None
returns-in-None c =
    sym c.self.view_is
    ∙ next_bad c.self.inside.plan.now c.self.inside.rest.now c.split_line.result.1.now (not_zero _ (sym c.is_empty.ensures ∙ c.if-is_empty.false)) c.in-None.ensures c.split_line.ensures.rest_after
