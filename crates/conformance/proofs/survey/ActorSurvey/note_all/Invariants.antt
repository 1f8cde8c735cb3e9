use Rattle.std.proofs.Common.{◌≡◌, ◌++◌, false, List}
use Rattle.std.specs.Vec.Iter.{drain_items}
use Rattle.conformance.specs.declared.classified_actor.ClassifiedActor.{ClassifiedActor}
use Rattle.conformance.specs.OtherKinds.{AreOtherKinds}
use Rattle.conformance.specs.Verdicts.{IsVerdictsOf}
use Rattle.conformance.proofs.survey.ActorSurvey.note_all.Given as goal

abbrev pub invariant-loop-settled : goal.invariant-loop-settled
invariant-loop-settled l = record {
  verdicts : (earlier : List ClassifiedActor) → IsVerdictsOf l.plan earlier l.initial.self.verdicts → IsVerdictsOf l.plan (earlier ++ l.yielded) l.self.verdicts;
  others : (earlier : List ClassifiedActor) → AreOtherKinds l.plan earlier l.initial.self.others → AreOtherKinds l.plan (earlier ++ l.yielded) l.self.others;
  had : l.self.others.has_any ≡ false → l.initial.self.others.has_any ≡ false;
  rest : l.yielded ++ drain_items l.settled-iterator ≡ l.fn.reported.items;
}
