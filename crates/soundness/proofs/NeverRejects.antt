-- A pool with a bound in an accepted certificate rejects no job, even if it may.
use Rattle.std.proofs.Common.{◌≡◌, ℕ, ◌≤◌, List, length, Option, Some, None, refl, subst}
use Rattle.job_bodies.specs.declared.action.Action.{Action}
use Rattle.job_bodies.specs.declared.action.Action.TheVariants as action
use Rattle.job_bodies.specs.Plan.{Plan, pool_at}
use Rattle.job_bodies.proofs.Bodies.{HasValidBodies, ordered}
use Rattle.pool_machine.specs.declared.parent.Parent.{Parent}
use Rattle.pool_machine.specs.State.{State, pool_of, pool_part, threads}
use Rattle.pool_machine.proofs.Events.{IsAtAction, HasNoRoom}
use Rattle.pool_machine.proofs.StateInvariant.{StateInvariant}
use Rattle.pool_machine.proofs.InvariantSubmits.{class_exists}
use Rattle.pool_machine.proofs.JobsMade.{HaveJobs}
use Rattle.weights.specs.declared.bound.Bound.{Bound}
use Rattle.soundness.specs.Headline.{bound_of, AcceptedBoundsNeverReject, AcceptedBoundsNeverDecline}
use Rattle.soundness.proofs.NoRefusal.{not_refused}
use Rattle.soundness.proofs.Bounded.{IsBoundBalanced, BoundHolds}
use Rattle.soundness.proofs.Rejections.{rejected_when}
use Rattle.soundness.proofs.ThreadChanges.{IsLasting}
use Rattle.soundness.proofs.CertLaws.{cert_laws}
use Rattle.soundness.proofs.Theorem.{bounds_hold, sound}
use Rattle.soundness.proofs.JavaEvents.{is_submission}
use Rattle.soundness.proofs.Calls.{QueueWasFull, bound_leaves_room}
use Rattle.soundness.proofs.Skipping.{choices_sound}

-- if a submit finds a full queue and max threads, its pool has no bound
no_bound_if_full : (plan : Plan) (bound : Option Bound) (s : State) (a : Parent) (body : List Action) (i k : ℕ) → HasValidBodies plan → BoundHolds plan (pool_of plan k) bound → StateInvariant plan s → HaveJobs plan (IsLasting plan) s → IsBoundBalanced plan bound s
    → IsAtAction plan s a body i (Some (action.Submit k))
    → HasNoRoom plan s (pool_of plan k) → (pool_at plan (pool_of plan k)).max ≤ threads plan s (pool_of plan k) → bound ≡ None
no_bound_if_full plan None s a body i k ordered holds kept have balanced at no_room all_started = refl
no_bound_if_full plan (Some bound) s a body i k ordered holds kept have balanced at no_room all_started = absurd (not_refused plan bound s a body i k ordered holds.0 kept have balanced at no_room all_started)

-- if a submit whose call found the queue full finds max threads, its pool has no bound
no_bound_if_requested : (plan : Plan) (bound : Option Bound) (s : State) (a : Parent) (body : List Action) (i k : ℕ) → HasValidBodies plan → BoundHolds plan (pool_of plan k) bound → StateInvariant plan s → IsBoundBalanced plan bound s
    → IsAtAction plan s a body i (Some (action.Submit k))
    → QueueWasFull plan bound s (pool_of plan k) → (pool_at plan (pool_of plan k)).max ≤ threads plan s (pool_of plan k) → bound ≡ None
no_bound_if_requested plan None s a body i k ordered holds kept balanced at full all_started = refl
no_bound_if_requested plan (Some bound) s a body i k ordered holds kept balanced at full all_started = absurd (bound_leaves_room plan bound s a body i k ordered holds kept balanced at full all_started)

-- the law that a pool with a bound rejects no job in any reachable state
pub accepted_bounds_never_reject : AcceptedBoundsNeverReject
accepted_bounds_never_reject plan cert well_formed is_accepted events s after event p j reached is_step =
    let is_ordered = ordered plan well_formed in
    let laws = cert_laws plan cert is_accepted in
    let held = (sound plan cert s is_ordered laws (events, reached)).bounded in
    let full = rejected_when plan s after event p j is_step in
    let q = pool_of plan full.class in
    let inside = is_ordered.pools full.class (class_exists plan s full.actor full.body full.position full.class is_ordered full.at) in
    subst (λ (pool : ℕ). bound_of cert pool ≡ None) full.of_pool
    (no_bound_if_full plan (bound_of cert q) s full.actor full.body full.position full.class is_ordered (bounds_hold plan cert is_ordered laws q inside) held.kept held.have_jobs (held.balanced q inside) full.at full.no_room full.all_started)

-- the law that a pool with a bound refuses and rejects no job in any state that choices reach
pub accepted_bounds_never_decline : AcceptedBoundsNeverDecline
accepted_bounds_never_decline plan cert well_formed is_accepted choices s event x reached is_submitting requesting all_started =
    let is_ordered = ordered plan well_formed in
    let laws = cert_laws plan cert is_accepted in
    let held = choices_sound plan cert is_ordered laws choices s reached in
    let bounded = held.sound.bounded in
    let submitting = is_submission plan s.machine event x is_submitting in
    let q = pool_of plan x.class in
    let inside = is_ordered.pools x.class (class_exists plan s.machine x.actor submitting.body x.position x.class is_ordered submitting.at) in
    no_bound_if_requested plan (bound_of cert q) s.machine x.actor submitting.body x.position x.class is_ordered (bounds_hold plan cert is_ordered laws q inside) bounded.kept (bounded.balanced q inside) submitting.at (held.calls.requesting x.actor q inside requesting) all_started
