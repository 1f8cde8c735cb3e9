-- No certificate accepts a plan that has a witness.
use Rattle.std.proofs.Common.{◌≡◌, ℕ, ◌+◌, List, arith, refl}
use Rattle.std.proofs.lemmas.Bool.{false_from_ne_true}
use Rattle.job_bodies.specs.Plan.{Plan}
use Rattle.pool_machine.specs.declared.event.Event.{Event}
use Rattle.pool_machine.specs.declared.event.Outcome.TheVariants as outcome
use Rattle.pool_machine.specs.State.{State}
use Rattle.pool_machine.specs.Safe.{Safe}
use Rattle.pool_machine.proofs.Events.{Happens, is_refused, happens}
use Rattle.interleaving.proofs.Reached.{reached_after}
use Rattle.soundness.specs.Accepted.{accepted}
use Rattle.soundness.proofs.Theorem.{accepted_plans_are_safe}
use Rattle.counterexample.specs.declared.ending.Ending.{Ending}
use Rattle.counterexample.specs.declared.ending.Ending.TheVariants.{Refused, StuckForever, StuckNow}
use Rattle.counterexample.specs.declared.ending.Reason.TheVariants.{PoolsAreFull, PoolsStayAtCore}
use Rattle.counterexample.specs.Witness.{EndsRefused, IsWitness, WitnessedPlansAreNotAccepted, WitnessedPlansAreNotSafe}

pub refusal_counts : (plan : Plan) (s s' : State) (p : ℕ) {e : Event} → Happens plan s e s' (outcome.Refused p) → s'.refusals ≡ s.refusals + 1
refusal_counts plan s s' p (is_refused a body i k at must within full) = refl

no_refusal : (plan : Plan) (events : List Event) (p : ℕ) → Safe plan → EndsRefused plan events p → ⊥
no_refusal plan events p safe ends =
    let reached = reached_after plan ends.before ends.after ends.last (outcome.Refused p) (ends.front, ends.reaches) ends.refused in
    let none = (safe reached.0 ends.after reached.1).none_refused in
    let counts = refusal_counts plan ends.before ends.after p (happens plan ends.before ends.last ends.after (outcome.Refused p) ends.refused) in
    omega arith

-- a safe plan has no witness
no_witness : (plan : Plan) (events : List Event) (ending : Ending) → Safe plan → IsWitness plan events ending → ⊥
no_witness plan events (Refused p) safe ends = no_refusal plan events p safe ends
no_witness plan events (StuckForever members PoolsAreFull) safe led = (safe events led.1.0 led.1.1).none_waits members.items led.1.2.0.waits
no_witness plan events (StuckForever members PoolsStayAtCore) safe led = (safe events led.1.0 led.1.1).none_waits members.items led.1.2.waits
no_witness plan events (StuckNow members) safe led = (safe events led.1.0 led.1.1).none_waits members.items led.1.2.waits

pub not_accepted : WitnessedPlansAreNotAccepted
not_accepted plan cert events ending well_formed is_witness =
    false_from_ne_true (accepted plan cert) (λ accepts. no_witness plan events ending (accepted_plans_are_safe plan cert well_formed accepts) is_witness)

pub not_safe : WitnessedPlansAreNotSafe
not_safe plan events ending is_witness safe = no_witness plan events ending safe is_witness
