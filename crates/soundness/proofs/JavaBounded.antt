-- Submits in Java's steps, in a plan in which each pool has a bound whose rows hold, or needs none: no submit is refused, and no call
-- requests a thread from a pool with a standing vector.
use Rattle.std.proofs.Common.{◌≡◌, ℕ, List, Option, Some, subst}
use Rattle.std.proofs.lemmas.Bool.{false_from_ne_true}
use Rattle.job_bodies.specs.Plan.{Plan}
use Rattle.job_bodies.proofs.Bodies.{HasValidBodies, ordered}
use Rattle.pool_machine.proofs.EnoughThreads.{have_threads_start}
use Rattle.pool_machine.specs.Reach.{start}
use Rattle.weights.specs.declared.bound.Bound.{Bound}
use Rattle.soundness.specs.Execute.{JavaState, JavaEvent, is_calling, java_step, without_calls}
use Rattle.soundness.specs.JavaSafe.{JavaReaches}
use Rattle.soundness.proofs.JavaEvents.{java_happens}
use Rattle.soundness.proofs.JavaReplays.{java_replay_keeps}
use Rattle.soundness.specs.Headline.{BoundedPlansJavaRefuseNothing, StandingPoolsAreNotAsked}
use Rattle.soundness.proofs.Bounded.{Bounded, BoundsHold, bound_holds, bounded_start, bounded_step, bounded_spares, keeps_sizes}
use Rattle.soundness.proofs.Calls.{QueueWasFull, CallsKept, calls_none, calls_found, machine_keeps, calls_step}

-- the invariants of the states that are reachable in Java's steps
record JavaBounded (plan : Plan) (bounds : ℕ → Option Bound) (s : JavaState) : Type 0 where
  bounded : Bounded plan bounds s.machine
  calls : CallsKept plan bounds s

-- each event in Java's steps preserves the invariants
java_bounded_step : (plan : Plan) (bounds : ℕ → Option Bound) → HasValidBodies plan → BoundsHold plan bounds → (s : JavaState) (e : JavaEvent) (s' : JavaState) → JavaBounded plan bounds s → java_step plan s e ≡ Some s' → JavaBounded plan bounds s'
java_bounded_step plan bounds ordered laws s e s' held is_step =
    let happened = java_happens plan s e s' ordered (calls_found plan bounds s held.calls) is_step in
    record {
      bounded = machine_keeps plan bounds (Bounded plan bounds) s s' ordered laws held.bounded held.calls (λ e' after o. bounded_step plan bounds s.machine after o ordered laws held.bounded) (λ p. bounded_spares plan bounds s.machine p held.bounded) held.bounded happened;
      calls = calls_step plan bounds s s' ordered laws held.bounded held.calls happened;
    }

java_bounded : (plan : Plan) (bounds : ℕ → Option Bound) → HasValidBodies plan → BoundsHold plan bounds → (events : List JavaEvent) (s : JavaState) → JavaReaches plan events s → JavaBounded plan bounds s
java_bounded plan bounds ordered laws events s reached =
    java_replay_keeps plan (JavaBounded plan bounds) (java_bounded_step plan bounds ordered laws) events (without_calls (start plan)) s
    (record { bounded = bounded_start plan bounds ordered; calls = calls_none plan bounds (start plan) (have_threads_start plan) }) reached

-- the law that no submit is refused and each pool is within its maximum and its queue's capacity
pub bounded_plans_java_refuse_nothing : BoundedPlansJavaRefuseNothing
bounded_plans_java_refuse_nothing plan bounds well_formed hold events s reached =
    keeps_sizes plan bounds s.machine (java_bounded plan bounds (ordered plan well_formed) (λ p inside. bound_holds plan p (bounds p) (hold p inside)) events s reached).bounded

-- the law that no call requests a thread from a pool with a standing vector
pub standing_pools_are_not_asked : StandingPoolsAreNotAsked
standing_pools_are_not_asked plan bounds p v events s a well_formed hold inside is_standing reached =
    let held = java_bounded plan bounds (ordered plan well_formed) (λ q within. bound_holds plan q (bounds q) (hold q within)) events s reached in
    false_from_ne_true (is_calling s.requesting a p) (λ requests_thread. (subst (λ (bound : Option Bound). QueueWasFull plan bound s.machine p) is_standing (held.calls.requesting a p inside requests_thread)).1)
