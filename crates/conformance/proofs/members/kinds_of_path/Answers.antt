use Rattle.std.proofs.Common.{ℕ, List, length, filter, ap, sym, ◌∙◌, arith}
use Rattle.std.specs.List.{range_with_len}
use Rattle.conformance.specs.Family.{is_client_in_family}
use Rattle.conformance.specs.FamilyMatch.{client_body}
use Rattle.conformance.specs.FamilyResult.{IsCorrectMatch}
use Rattle.conformance.specs.declared.step.ActorKind.TheVariants as actor_kind
use Rattle.conformance.specs.declared.family_match.FamilyMatch.{FamilyMatch}
use Rattle.conformance.proofs.OneByOne.{kept_one, kept_none}
use Rattle.conformance.proofs.MatchedKinds.{kind_whole, kind_sound, kind_exact, kind_sure, kind_ascending}
use Rattle.conformance.proofs.members.kinds_of_path.Goals as goal
use Rattle.conformance.proofs.members.kinds_of_path.Goals.{then-is_client_in_family+in_ok-match_body, else-is_client_in_family}

pub loop-kind-init : goal.loop-kind-init
loop-kind-init c = c.new-reported.ensures actor_kind.Round (client_body c.args.plan.now) c.args.path_state c.args.path.now

pub loop-kind-preserved : goal.loop-kind-preserved
loop-kind-preserved c =
    let a = c.args in
    let IsTelling : FamilyMatch → List ℕ → Type 0 = λ reported matched. IsCorrectMatch reported actor_kind.Round (client_body a.plan.now) a.path_state a.path.now matched in
    elim c.if-is_client_in_family.branch [
      | then-is_client_in_family+in_ok-match_body w ↦ rw (w.reported-is, kept_one (is_client_in_family c.args.plan.now c.args.label.now) c.loop-kind.kind (sym c.is_client_in_family.ensures ∙ w.if-is_client_in_family.true))
          (w.in_ok-match_body.ensures (client_body a.plan.now) (filter (is_client_in_family c.args.plan.now c.args.label.now) (range_with_len 0 c.loop-kind.kind)) (sym w.client_body-body.ensures.value) c.loop-kind.invariant)
      | else-is_client_in_family w ↦ rw (w.reported-is, kept_none (is_client_in_family c.args.plan.now c.args.label.now) c.loop-kind.kind (sym c.is_client_in_family.ensures ∙ w.if-is_client_in_family.false)) c.loop-kind.invariant
    ]

pub returns-clause-sound : goal.returns-clause-sound
returns-clause-sound c = kind_sound c.args.plan.now c.args.label.now c.args.path_state c.args.path.now _ _ _ (kind_whole c.args.plan.now c.args.label.now c.args.path_state c.args.path.now c.loop-kind.reported c.loop-kind.kind (omega (arith, c.loop-kind-test.false, c.loop-kind.auto.kind-end, ap length c.clients-kind-end.ensures.value)) c.loop-kind.invariant)

pub returns-clause-ascending : goal.returns-clause-ascending
returns-clause-ascending c = kind_ascending c.args.plan.now c.args.label.now c.args.path_state c.args.path.now _ _ _ (kind_whole c.args.plan.now c.args.label.now c.args.path_state c.args.path.now c.loop-kind.reported c.loop-kind.kind (omega (arith, c.loop-kind-test.false, c.loop-kind.auto.kind-end, ap length c.clients-kind-end.ensures.value)) c.loop-kind.invariant)

pub returns-clause-exact : goal.returns-clause-exact
returns-clause-exact c = kind_exact c.args.plan.now c.args.label.now c.args.path_state c.args.path.now _ _ _ (kind_whole c.args.plan.now c.args.label.now c.args.path_state c.args.path.now c.loop-kind.reported c.loop-kind.kind (omega (arith, c.loop-kind-test.false, c.loop-kind.auto.kind-end, ap length c.clients-kind-end.ensures.value)) c.loop-kind.invariant)

pub returns-clause-sure : goal.returns-clause-sure
returns-clause-sure c = kind_sure c.args.plan.now c.args.label.now c.args.path_state c.args.path.now _ _ _ (kind_whole c.args.plan.now c.args.label.now c.args.path_state c.args.path.now c.loop-kind.reported c.loop-kind.kind (omega (arith, c.loop-kind-test.false, c.loop-kind.auto.kind-end, ap length c.clients-kind-end.ensures.value)) c.loop-kind.invariant)

pub returns-clause-explained : goal.returns-clause-explained
returns-clause-explained c = (kind_whole c.args.plan.now c.args.label.now c.args.path_state c.args.path.now c.loop-kind.reported c.loop-kind.kind (omega (arith, c.loop-kind-test.false, c.loop-kind.auto.kind-end, ap length c.clients-kind-end.ensures.value)) c.loop-kind.invariant).explained

pub returns-clause-named : goal.returns-clause-named
returns-clause-named c = (kind_whole c.args.plan.now c.args.label.now c.args.path_state c.args.path.now c.loop-kind.reported c.loop-kind.kind (omega (arith, c.loop-kind-test.false, c.loop-kind.auto.kind-end, ap length c.clients-kind-end.ensures.value)) c.loop-kind.invariant).named

pub returns-clause-decided : goal.returns-clause-decided
returns-clause-decided c = (kind_whole c.args.plan.now c.args.label.now c.args.path_state c.args.path.now c.loop-kind.reported c.loop-kind.kind (omega (arith, c.loop-kind-test.false, c.loop-kind.auto.kind-end, ap length c.clients-kind-end.ensures.value)) c.loop-kind.invariant).decided

pub returns-clause-many : goal.returns-clause-many
returns-clause-many c = (kind_whole c.args.plan.now c.args.label.now c.args.path_state c.args.path.now c.loop-kind.reported c.loop-kind.kind (omega (arith, c.loop-kind-test.false, c.loop-kind.auto.kind-end, ap length c.clients-kind-end.ensures.value)) c.loop-kind.invariant).many

pub returns-clause-few : goal.returns-clause-few
returns-clause-few c = (kind_whole c.args.plan.now c.args.label.now c.args.path_state c.args.path.now c.loop-kind.reported c.loop-kind.kind (omega (arith, c.loop-kind-test.false, c.loop-kind.auto.kind-end, ap length c.clients-kind-end.ensures.value)) c.loop-kind.invariant).few
