-- A waiting set is a loose waiting set.
use Rattle.std.proofs.Common.{◌≡◌, ℕ, List, refl, sym, ap, ◌∙◌, arith}
use Rattle.std.proofs.lemmas.Option.{same_Some}
use Rattle.job_bodies.specs.Plan.{Plan, class_at}
use Rattle.job_bodies.proofs.Bodies.{HasValidBodies, ordered}
use Rattle.pool_machine.specs.declared.parent.Parent.TheVariants as parent
use Rattle.pool_machine.specs.State.{Stage, State, job_at}
use Rattle.pool_machine.specs.Step.{point_of_job}
use Rattle.pool_machine.specs.Waiting.{WaitsAtStage, IsWaitingSet}
use Rattle.pool_machine.specs.LooseWaiting.{WaitsLoosely, IsLooseWaitingSet}
use Rattle.pool_machine.specs.Laws.{WaitingSetsAreLoose}
use Rattle.pool_machine.proofs.StateInvariant.{StateInvariant}
use Rattle.pool_machine.proofs.Children.{maker_of, child_is}
use Rattle.pool_machine.proofs.Reached.{kept}
use Rattle.pool_machine.proofs.ReachedLaws.{child_at_get}

-- a member that waits only for members also waits for them loosely; if it is at a get, that get is at its position
waits_loosely : (plan : Plan) (s : State) (members : List ℕ) (j : ℕ) (stage : Stage) → HasValidBodies plan → StateInvariant plan s → (job_at s j).stage ≡ stage → WaitsAtStage plan s members j stage → WaitsLoosely plan s members j stage
waits_loosely plan s members j Stage.Queued ordered kept is_stage waits = waits
waits_loosely plan s members j (Stage.At i) ordered kept is_stage waits =
    let k = (job_at s j).class in
    let found = child_at_get plan s (parent.Job j) (class_at plan k).body i waits.submit ordered kept (record { stands = ap (point_of_job plan k) is_stage; is_there = waits.stands }) in
    let same : found.number ≡ waits.child_number = same_Some found.number waits.child_number (sym found.is_child ∙ waits.is_child) in
    record {
      child_number = waits.child_number;
      is_child = sym (maker_of (job_at s waits.child_number) (parent.Job j) waits.submit (child_is s.jobs (parent.Job j) waits.submit waits.child_number waits.is_child).1).0;
      member = waits.member;
      get = i;
      submit = waits.submit;
      not_passed = omega arith;
      stands = waits.stands;
      of_class = ap (λ (n : ℕ). (job_at s n).class) (sym same) ∙ found.of_class;
    }
waits_loosely plan s members j Stage.Done ordered kept is_stage waits = absurd waits
waits_loosely plan s members j Stage.Claimed ordered kept is_stage waits = absurd waits

-- a waiting set is a loose waiting set
pub waiting_is_loose : (plan : Plan) (s : State) (members : List ℕ) → HasValidBodies plan → StateInvariant plan s → IsWaitingSet plan s members → IsLooseWaitingSet plan s members
waiting_is_loose plan s members ordered kept waiting = record {
  first = waiting.first;
  not_empty = waiting.not_empty;
  each = λ j member. waits_loosely plan s members j (job_at s j).stage ordered kept refl (waiting.each j member);
}

-- the law that each waiting set of a reachable state is loose
pub waiting_sets_are_loose : WaitingSetsAreLoose
waiting_sets_are_loose plan s well_formed reached members waiting = waiting_is_loose plan s members (ordered plan well_formed) (kept plan s well_formed reached) waiting
