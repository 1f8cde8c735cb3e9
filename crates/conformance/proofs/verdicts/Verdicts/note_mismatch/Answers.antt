use Rattle.std.proofs.Common.{sym, ◌∙◌}
use Rattle.conformance.proofs.VerdictsAfter.{noted_planned, same_firsts}
use Rattle.conformance.proofs.verdicts.Verdicts.note_mismatch.Goals as goal

pub returns-in_ok-note-clause-mismatches : goal.returns-in_ok-note-clause-mismatches
returns-in_ok-note-clause-mismatches c = λ reported are. noted_planned c.args.plan.now c.args.settled reported _ (sym c.is_planned.ensures ∙ c.if-is_planned.true) (c.in_ok-note.ensures reported (same_firsts reported c.args.self.now.mismatches c.note_job.new.self.mismatches c.in_ok-note_job.ensures.mismatches are))
