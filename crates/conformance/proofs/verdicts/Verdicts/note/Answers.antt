use Rattle.std.proofs.Common.{ap, sym, ◌∙◌}
use Rattle.conformance.specs.Verdicts.{is_empty}
use Rattle.std.proofs.lemmas.Result.{on_ok_weaker}
use Rattle.conformance.proofs.VerdictsAfter.{after_undecided, after_mismatch, after_good, on_both}
use Rattle.conformance.proofs.verdicts.Verdicts.note.Goals as goal

pub returns-then-not-settled : goal.returns-then-not-settled
returns-then-not-settled c = λ reported so. on_ok_weaker c.note_undecided.result
    (λ first_actors. after_undecided c.args.plan.now reported c.args.settled c.args.self.now c.note_undecided.new.self so c.if-not-settled.true first_actors c.note_undecided.ensures.mismatches c.note_undecided.ensures.classless) c.note_undecided.ensures.undecided

pub returns-then-is_empty_slice : goal.returns-then-is_empty_slice
returns-then-is_empty_slice c = λ reported so. on_both c.note_mismatch.result
    (λ first_actors jobs. after_mismatch c.args.plan.now reported c.args.settled c.args.self.now c.note_mismatch.new.self so c.if-not-settled.false (ap is_empty (sym c.deref.ensures.value) ∙ (sym c.is_empty_slice.ensures ∙ c.if-is_empty_slice.true)) first_actors c.note_mismatch.ensures.undecided jobs) c.note_mismatch.ensures.mismatches c.note_mismatch.ensures.classless

pub returns : goal.returns
returns c = λ reported so. after_good c.args.plan.now reported c.args.settled c.args.self.now so c.if-not-settled.false (ap is_empty (sym c.deref.ensures.value) ∙ (sym c.is_empty_slice.ensures ∙ c.if-is_empty_slice.false))
