use Rattle.std.proofs.Common.{◌∙◌, sym}
use Rattle.learning.proofs.LabelEntries.{still_stops, draft_actors}
use Rattle.learning.proofs.inference.learn_round_kinds.Goals as goal

pub returns-in_err-kinds-clause-err : goal.returns-in_err-kinds-clause-err
returns-in_err-kinds-clause-err c = λ lines draft.
    let actors = draft_actors lines c.args.names.now.draft draft (sym c.is_empty.ensures ∙ c.if-is_empty.false) in
    still_stops lines _ _ c.from_residual.ensures.1 (c.in_err-kinds.ensures.err lines actors draft)

pub returns-then-not-are_of-clause-err : goal.returns-then-not-are_of-clause-err
returns-then-not-are_of-clause-err c = λ lines draft. draft_actors lines c.args.names.now.draft draft (sym c.is_empty.ensures ∙ c.if-is_empty.false)
