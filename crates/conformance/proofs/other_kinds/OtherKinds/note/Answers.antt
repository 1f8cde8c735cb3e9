use Rattle.std.proofs.Common.{refl, sym, ◌∙◌}
use Rattle.conformance.proofs.OtherKindResults.{same_others, one_other}
use Rattle.conformance.proofs.other_kinds.OtherKinds.note.Goals as goal

pub returns-in_ok-insert-clause-noted : goal.returns-in_ok-insert-clause-noted
returns-in_ok-insert-clause-noted c = λ reported so.
    one_other c.args.plan.now reported c.args.settled.now c.args.self.now (record { kinds = c.insert.new.self; has_any = _ }) c.in-Some.round c.in-Some.kind (sym c.other_kind.ensures ∙ c.in-Some.is) c.in_ok-insert.ensures.values refl so

pub returns-in_default-clause-noted : goal.returns-in_default-clause-noted
returns-in_default-clause-noted c = λ reported so. same_others c.args.plan.now reported c.args.settled.now c.args.self.now (sym c.other_kind.ensures ∙ c.in_default.is) so
