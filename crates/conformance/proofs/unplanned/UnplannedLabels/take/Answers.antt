use Rattle.std.proofs.lemmas.Result.{on_ok_weaker}
use Rattle.conformance.proofs.UnplannedAfter.{submit_seen, begin_seen, after_other, label_none}
use Rattle.conformance.proofs.unplanned.UnplannedLabels.take.Goals as goal

pub returns-in-Submits : goal.returns-in-Submits
returns-in-Submits c = λ before next so. on_ok_weaker c.take_class.result
    (λ takes. submit_seen c.args.plan.now before c.args.number c.args.line.now c.in-Submits.actor c.in-Submits.job c.in-Submits.class c.in-Submits.pool c.args.self.now c.take_class.new.self c.in-Submits.is next so takes) c.take_class.ensures

pub returns-in-RoundBegins : goal.returns-in-RoundBegins
returns-in-RoundBegins c = λ before next so. on_ok_weaker c.take_kind.result
    (λ takes. begin_seen c.args.plan.now before c.args.number c.args.line.now c.in-RoundBegins.round c.in-RoundBegins.kind c.args.self.now c.take_kind.new.self c.in-RoundBegins.is next so takes) c.take_kind.ensures

pub returns-in_default : goal.returns-in_default
returns-in_default c = λ before next so. after_other c.args.plan.now before _ c.args.self.now so (label_none c.args.line.now c.in_default.not-Submits c.in_default.not-RoundBegins)
