use Rattle.std.proofs.Common.{◌++◌, List, ap, sym, subst, ◌∙◌}
use Rattle.std.proofs.lemmas.List.{append-nil}
use Rattle.conformance.specs.declared.classified_actor.ClassifiedActor.{ClassifiedActor}
use Rattle.conformance.specs.ClassifiedActor.{AreResultsOfPrefix}
use Rattle.conformance.proofs.VerdictsAfter.{on_both}
use Rattle.conformance.proofs.survey.take_line.Goals as goal

pub returns-clause-current : goal.returns-clause-current
returns-clause-current c = λ before keeps nothing so.
    let plan = c.args.plan.now in
    let more = c.take.new.reported.items in
    let none = ap (λ (xs : List ClassifiedActor). so.reported ++ xs) nothing ∙ append-nil so.reported in
    let all = c.in_ok-take.ensures.all before so.reported keeps so.classes_represent (subst (AreResultsOfPrefix plan before) (sym none) so.actor_survey_so.reported_so) in
    on_both c.note_all.result
    (λ verdicts others. record {
      reported = so.reported ++ more;
      classes_represent = c.in_ok-take.ensures.taken before keeps so.classes_represent;
      actor_survey_so = record { reported_so = all; verdicts = verdicts; others = others };
    })
    (c.note_all.ensures.verdicts so.reported so.actor_survey_so.verdicts) (c.note_all.ensures.others so.reported so.actor_survey_so.others)
