use Rattle.std.proofs.Common.{ℕ, List, length, filter, ap, sym, ◌∙◌, arith}
use Rattle.std.specs.List.{range_with_len}
use Rattle.conformance.specs.Family.{is_class_in_family}
use Rattle.conformance.specs.FamilyMatch.{class_body}
use Rattle.conformance.specs.FamilyResult.{IsCorrectMatch}
use Rattle.conformance.specs.declared.step.ActorKind.TheVariants as actor_kind
use Rattle.conformance.specs.declared.family_match.FamilyMatch.{FamilyMatch}
use Rattle.conformance.proofs.OneByOne.{kept_one, kept_none}
use Rattle.conformance.proofs.MatchedClasses.{class_whole, class_sound, class_exact, class_sure, class_ascending}
use Rattle.conformance.proofs.members.classes_of_path.Goals as goal
use Rattle.conformance.proofs.members.classes_of_path.Goals.{then-is_class_in_family+in_ok-match_body, else-is_class_in_family}

pub loop-class-init : goal.loop-class-init
loop-class-init c = c.new-reported.ensures actor_kind.Job (class_body c.args.plan.now) c.args.path_state c.args.path.now

pub loop-class-preserved : goal.loop-class-preserved
loop-class-preserved c =
    let a = c.args in
    let IsTelling : FamilyMatch → List ℕ → Type 0 = λ reported matched. IsCorrectMatch reported actor_kind.Job (class_body a.plan.now) a.path_state a.path.now matched in
    elim c.if-is_class_in_family.branch [
      | then-is_class_in_family+in_ok-match_body w ↦ rw (w.reported-is, kept_one (is_class_in_family c.args.plan.now c.args.label.now c.args.pool.now) c.loop-class.class (sym c.is_class_in_family.ensures ∙ w.if-is_class_in_family.true))
          (w.in_ok-match_body.ensures (class_body a.plan.now) (filter (is_class_in_family c.args.plan.now c.args.label.now c.args.pool.now) (range_with_len 0 c.loop-class.class)) (sym w.class_body-body.ensures.value) c.loop-class.invariant)
      | else-is_class_in_family w ↦ rw (w.reported-is, kept_none (is_class_in_family c.args.plan.now c.args.label.now c.args.pool.now) c.loop-class.class (sym c.is_class_in_family.ensures ∙ w.if-is_class_in_family.false)) c.loop-class.invariant
    ]

pub returns-clause-sound : goal.returns-clause-sound
returns-clause-sound c = class_sound c.args.plan.now c.args.label.now c.args.pool.now c.args.path_state c.args.path.now _ _ _ (class_whole c.args.plan.now c.args.label.now c.args.pool.now c.args.path_state c.args.path.now c.loop-class.reported c.loop-class.class (omega (arith, c.loop-class-test.false, c.loop-class.auto.class-end, ap length c.classes-class-end.ensures.value)) c.loop-class.invariant)

pub returns-clause-ascending : goal.returns-clause-ascending
returns-clause-ascending c = class_ascending c.args.plan.now c.args.label.now c.args.pool.now c.args.path_state c.args.path.now _ _ _ (class_whole c.args.plan.now c.args.label.now c.args.pool.now c.args.path_state c.args.path.now c.loop-class.reported c.loop-class.class (omega (arith, c.loop-class-test.false, c.loop-class.auto.class-end, ap length c.classes-class-end.ensures.value)) c.loop-class.invariant)

pub returns-clause-exact : goal.returns-clause-exact
returns-clause-exact c = class_exact c.args.plan.now c.args.label.now c.args.pool.now c.args.path_state c.args.path.now _ _ _ (class_whole c.args.plan.now c.args.label.now c.args.pool.now c.args.path_state c.args.path.now c.loop-class.reported c.loop-class.class (omega (arith, c.loop-class-test.false, c.loop-class.auto.class-end, ap length c.classes-class-end.ensures.value)) c.loop-class.invariant)

pub returns-clause-sure : goal.returns-clause-sure
returns-clause-sure c = class_sure c.args.plan.now c.args.label.now c.args.pool.now c.args.path_state c.args.path.now _ _ _ (class_whole c.args.plan.now c.args.label.now c.args.pool.now c.args.path_state c.args.path.now c.loop-class.reported c.loop-class.class (omega (arith, c.loop-class-test.false, c.loop-class.auto.class-end, ap length c.classes-class-end.ensures.value)) c.loop-class.invariant)

pub returns-clause-explained : goal.returns-clause-explained
returns-clause-explained c = (class_whole c.args.plan.now c.args.label.now c.args.pool.now c.args.path_state c.args.path.now c.loop-class.reported c.loop-class.class (omega (arith, c.loop-class-test.false, c.loop-class.auto.class-end, ap length c.classes-class-end.ensures.value)) c.loop-class.invariant).explained

pub returns-clause-named : goal.returns-clause-named
returns-clause-named c = (class_whole c.args.plan.now c.args.label.now c.args.pool.now c.args.path_state c.args.path.now c.loop-class.reported c.loop-class.class (omega (arith, c.loop-class-test.false, c.loop-class.auto.class-end, ap length c.classes-class-end.ensures.value)) c.loop-class.invariant).named

pub returns-clause-decided : goal.returns-clause-decided
returns-clause-decided c = (class_whole c.args.plan.now c.args.label.now c.args.pool.now c.args.path_state c.args.path.now c.loop-class.reported c.loop-class.class (omega (arith, c.loop-class-test.false, c.loop-class.auto.class-end, ap length c.classes-class-end.ensures.value)) c.loop-class.invariant).decided

pub returns-clause-many : goal.returns-clause-many
returns-clause-many c = (class_whole c.args.plan.now c.args.label.now c.args.pool.now c.args.path_state c.args.path.now c.loop-class.reported c.loop-class.class (omega (arith, c.loop-class-test.false, c.loop-class.auto.class-end, ap length c.classes-class-end.ensures.value)) c.loop-class.invariant).many

pub returns-clause-few : goal.returns-clause-few
returns-clause-few c = (class_whole c.args.plan.now c.args.label.now c.args.pool.now c.args.path_state c.args.path.now c.loop-class.reported c.loop-class.class (omega (arith, c.loop-class-test.false, c.loop-class.auto.class-end, ap length c.classes-class-end.ensures.value)) c.loop-class.invariant).few
