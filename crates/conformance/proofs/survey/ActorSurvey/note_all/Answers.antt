use Rattle.std.proofs.Common.{◌≡◌, ◌++◌, ◌∷◌, [], List, ap, sym, subst, ◌∙◌, append_assoc}
use Rattle.std.proofs.lemmas.List.{append-nil}
use Rattle.std.specs.Vec.Iter.{drain_items}
use Rattle.conformance.specs.declared.classified_actor.ClassifiedActor.{ClassifiedActor}
use Rattle.conformance.specs.OtherKinds.{AreOtherKinds}
use Rattle.conformance.specs.Verdicts.{IsVerdictsOf}
use Rattle.conformance.proofs.survey.ActorSurvey.note_all.Goals as goal

pub loop-settled-preserved : goal.loop-settled-preserved
loop-settled-preserved c = record {
  verdicts = λ earlier so. subst (λ (all : List ClassifiedActor). IsVerdictsOf c.args.plan.now all c.note-in-loop-settled.new.self) (append_assoc earlier c.loop-settled.yielded (c.in-Some.settled ∷ []))
      (c.in_ok-note-2.ensures (earlier ++ c.loop-settled.yielded) (c.loop-settled.invariant.verdicts earlier so));
  others = λ earlier so. subst (λ (all : List ClassifiedActor). AreOtherKinds c.args.plan.now all c.note.new.self) (append_assoc earlier c.loop-settled.yielded (c.in-Some.settled ∷ []))
      (c.in_ok-note.ensures.noted (earlier ++ c.loop-settled.yielded) (c.loop-settled.invariant.others earlier so));
  had = λ none. c.loop-settled.invariant.had (c.in_ok-note.ensures.had none);
  rest = append_assoc c.loop-settled.yielded (c.in-Some.settled ∷ []) (drain_items c.next.new.self) ∙ (ap (λ (xs : List ClassifiedActor). c.loop-settled.yielded ++ xs) (sym c.in-Some.ensures.steps.0) ∙ c.loop-settled.invariant.rest);
}

pub returns-clause-verdicts : goal.returns-clause-verdicts
returns-clause-verdicts c = λ earlier so.
    let same : c.loop-settled.yielded ≡ c.args.reported.now.items = sym (append-nil c.loop-settled.yielded) ∙ (ap (λ (xs : List ClassifiedActor). c.loop-settled.yielded ++ xs) (sym c.in-None.ensures.steps.0) ∙ c.loop-settled.invariant.rest) in
    subst (λ (all : List ClassifiedActor). IsVerdictsOf c.args.plan.now (earlier ++ all) c.loop-settled.self.verdicts) same (c.loop-settled.invariant.verdicts earlier so)

pub returns-clause-others : goal.returns-clause-others
returns-clause-others c = λ earlier so.
    let same : c.loop-settled.yielded ≡ c.args.reported.now.items = sym (append-nil c.loop-settled.yielded) ∙ (ap (λ (xs : List ClassifiedActor). c.loop-settled.yielded ++ xs) (sym c.in-None.ensures.steps.0) ∙ c.loop-settled.invariant.rest) in
    subst (λ (all : List ClassifiedActor). AreOtherKinds c.args.plan.now (earlier ++ all) c.loop-settled.self.others) same (c.loop-settled.invariant.others earlier so)
