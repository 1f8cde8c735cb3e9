use Rattle.std.proofs.Common.{◌++◌, List, ap, sym, subst, ◌∙◌}
use Rattle.std.proofs.lemmas.List.{append-nil}
use Rattle.conformance.specs.declared.classified_actor.ClassifiedActor.{ClassifiedActor}
use Rattle.conformance.specs.ClassifiedActor.{AreResultsOfPrefix}
use Rattle.conformance.proofs.VerdictsAfter.{on_both}
use Rattle.conformance.proofs.survey.finish.Goals as goal

pub returns-clause-all : goal.returns-clause-all
returns-clause-all c = λ lines keeps so.
    let plan = c.args.plan.now in
    let more = c.finish.new.reported.items in
    let none = ap (λ (xs : List ClassifiedActor). so.reported ++ xs) c.new-reported.ensures.items ∙ append-nil so.reported in
    let all = c.in_ok-finish.ensures lines so.reported keeps so.classes_represent (subst (AreResultsOfPrefix plan lines) (sym none) so.actor_survey_so.reported_so) in
    on_both c.note_all.result (λ verdicts others. record { reported = so.reported ++ more; all = all; verdicts = verdicts; others = others })
    (c.note_all.ensures.verdicts so.reported so.actor_survey_so.verdicts) (c.note_all.ensures.others so.reported so.actor_survey_so.others)
