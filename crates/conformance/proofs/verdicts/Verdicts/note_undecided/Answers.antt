use Rattle.std.proofs.Common.{sym, ◌∙◌}
use Rattle.conformance.proofs.VerdictsAfter.{noted_planned}
use Rattle.conformance.proofs.verdicts.Verdicts.note_undecided.Goals as goal

pub returns-in_ok-note-clause-undecided : goal.returns-in_ok-note-clause-undecided
returns-in_ok-note-clause-undecided c = λ reported are. noted_planned c.args.plan.now c.args.settled reported _ (sym c.is_planned.ensures ∙ c.if-is_planned.true) (c.in_ok-note.ensures reported are)
