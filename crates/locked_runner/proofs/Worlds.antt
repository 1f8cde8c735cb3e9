-- The states that a certified plan's history reaches.
use Rattle.std.proofs.Common.{◌≡◌, ℕ, ◌+◌, ◌++◌, List, [], ◌∷◌, IsTrue, refl, ap, ◌∙◌, subst, arith}
use Rattle.job_bodies.specs.Plan.{Plan}
use Rattle.job_bodies.specs.WellFormed.{IsWellFormed}
use Rattle.pool_machine.specs.declared.event.Event.{Event}
use Rattle.pool_machine.specs.declared.event.Outcome.TheVariants as outcome
use Rattle.pool_machine.specs.State.{State}
use Rattle.pool_machine.specs.Reach.{state_after, Reaches}
use Rattle.pool_machine.proofs.Events.{Happens, happens}
use Rattle.pool_machine.proofs.Events.Happens.{is_refused}
use Rattle.interleaving.specs.LiveView.{View}
use Rattle.cert_text.specs.Cert.{Cert}
use Rattle.soundness.specs.Accepted.{accepted}
use Rattle.soundness.proofs.Theorem.{accepted_plans_are_safe}
use Rattle.locked_runner.specs.HeldWorld.{IsReachedBy, RefusesNothing}
use Rattle.locked_runner.proofs.Traces.{reaches_more}

-- in a reachable state of an accepted plan, no submit was refused
pub none_refused_in : (plan : Plan) (cert : Cert) (history : List Event) (s : State) → IsWellFormed plan → IsTrue (accepted plan cert) → Reaches plan history s → s.refusals ≡ 0
none_refused_in plan cert history s well_formed accepts reached = (accepted_plans_are_safe plan cert well_formed accepts history s reached).none_refused

pub none_refused : (plan : Plan) (cert : Cert) (history : List Event) (view : View) → IsWellFormed plan → IsTrue (accepted plan cert) → IsReachedBy plan history view → view.refusals ≡ 0
none_refused plan cert history view well_formed accepts led = subst (λ v. v.refusals ≡ 0) led.2 (none_refused_in plan cert history led.0 well_formed accepts led.1)

refusal_counts : (plan : Plan) (s s' : State) (p : ℕ) {e : Event} → Happens plan s e s' (outcome.Refused p) → s'.refusals ≡ s.refusals + 1
refusal_counts plan s s' p (is_refused a body i k at must within full) = refl

-- after a history of an accepted plan, no event is a refused submit
pub refuses_nothing : (plan : Plan) (cert : Cert) (history : List Event) → IsWellFormed plan → IsTrue (accepted plan cert) → RefusesNothing plan history
refuses_nothing plan cert history well_formed accepts s s' event p reached is_step =
    let none = none_refused_in plan cert (history ++ event ∷ []) s' well_formed accepts (reaches_more plan history event s reached ∙ ap state_after is_step) in
    let counts = refusal_counts plan s s' p (happens plan s event s' (outcome.Refused p) is_step) in
    omega (arith, none, counts)
