use Rattle.std.proofs.Common.{◌≡◌, ◌&&◌, true, List, sym, subst, ◌∙◌}
use Rattle.std.specs.Prelude.{string_bytes}
use Rattle.recordings.specs.declared.step.RecordedStep.{RecordedStep}
use Rattle.recordings.proofs.Tests.{and_first, and_second}
use Rattle.conformance.specs.declared.family_match.FamilyMatch.{FamilyMatch}
use Rattle.conformance.specs.Classes.{AreStepsOf}
use Rattle.conformance.specs.ActorTables.{AreDecidedOn, AreAllIn, AreOnce, AreRemoved}
use Rattle.conformance.specs.ClassificationResults.{IsFamilyOf}
use Rattle.conformance.specs.declared.step.PathStep.{PathStep}
use Rattle.conformance.proofs.RemovedJobs.{replaces}
use Rattle.conformance.proofs.Words.{both_true, by_bool}
use Rattle.conformance.proofs.actor_classifier.ActorClassifier.classify.Goals as goal

pub returns-clause-reported : goal.returns-clause-reported
returns-clause-reported c =
    let a = c.args in
    let is_step_decided = c.in_ok-is_decided.is_decided in
    let steps = c.take_path.new.steps.items in
    let family : FamilyMatch = record { members = c.in_ok-family.family.members; explained = c.in_ok-family.family.explained; is_decided = c.both_hold.result } in
    let its : IsFamilyOf a.plan.now a.actor (string_bytes a.label) (string_bytes a.pool) a.actor_path.path_state steps c.in_ok-family.family =
    subst (λ (some : List PathStep). IsFamilyOf a.plan.now a.actor (string_bytes a.label) (string_bytes a.pool) a.actor_path.path_state some c.in_ok-family.family) c.deref-4.ensures.value
    (subst (λ (pool : List _). IsFamilyOf a.plan.now a.actor (string_bytes a.label) pool a.actor_path.path_state c.deref-4.result.now c.in_ok-family.family) c.deref-3.ensures
    (subst (λ (label : List _). IsFamilyOf a.plan.now a.actor label c.deref-3.result.now a.actor_path.path_state c.deref-4.result.now c.in_ok-family.family) c.deref-2.ensures c.in_ok-family.ensures)) in
    record {
      family = family;
      after = c.in_ok-push.ensures.items;
      table = replaces a.self.now.known c.take_path.new.self c.keep.new.self a.actor_path.path.items a.actor a.submitter family.members.items family.is_decided
          (subst (λ (path : List RecordedStep). AreRemoved a.self.now.known path c.take_path.new.self) c.deref.ensures.value c.in_ok-is_decided.ensures.gone) c.in_ok-keep.ensures;
      right = λ lines classes decided.
          let both : (c.in_ok-family.family.is_decided && is_step_decided) ≡ true = sym c.both_hold.ensures ∙ decided in
          record {
            steps = steps;
            path = subst (λ (path : List RecordedStep). AreStepsOf a.plan.now lines path steps) c.deref.ensures.value (c.in_ok-is_decided.ensures.represents a.plan.now lines classes (and_second _ _ both));
            members = its.members (and_first _ _ both);
            explained = its.explained (and_first _ _ both);
            named = its.named (and_first _ _ both);
          };
      decided = λ lines classes are all once few.
          let path_is : is_step_decided ≡ true = c.in_ok-is_decided.ensures.decided (subst (λ (path : List RecordedStep). AreDecidedOn a.self.now.known path) (sym c.deref.ensures.value) are) (subst (λ (path : List RecordedStep). AreAllIn a.self.now.known path) (sym c.deref.ensures.value) all) (subst AreOnce (sym c.deref.ensures.value) once) in
          let stand = subst (λ (path : List RecordedStep). AreStepsOf a.plan.now lines path steps) c.deref.ensures.value (c.in_ok-is_decided.ensures.represents a.plan.now lines classes path_is) in
          c.both_hold.ensures ∙ both_true _ _ (by_bool c.in_ok-family.family.is_decided (λ is. is) (λ undecided. absurd (few steps stand (its.many undecided)))) path_is;
      ascending = its.ascending;
    }
