-- A pool with a standing vector never has more than core threads.
use Rattle.std.proofs.Common.{◌≡◌, ℕ, Bool, true, false, cond, eqb, ◌<◌, ◌≤◌, ◌⊎◌, inl, inr, ⊎_elim, List, [], ◌∷◌, length, Option, Some, None, refl, sym, ap, subst, arith}
use Rattle.std.proofs.lemmas.Bool.{eqb-true, eq-eqb}
use Rattle.std.proofs.lemmas.Option.{same_Some}
use Rattle.job_bodies.specs.declared.action.Action.{Action}
use Rattle.job_bodies.specs.declared.action.Action.TheVariants as action
use Rattle.job_bodies.specs.Plan.{Plan, pool_at}
use Rattle.job_bodies.specs.WellFormed.{IsWellFormed}
use Rattle.job_bodies.proofs.Bodies.{HasValidBodies, ordered}
use Rattle.pool_machine.specs.declared.offer.Offer.TheVariants as offer
use Rattle.pool_machine.specs.PoolState.{answer}
use Rattle.pool_machine.proofs.PoolEvents.{started_below}
use Rattle.pool_machine.specs.declared.parent.Parent.{Parent}
use Rattle.pool_machine.specs.declared.event.Event.{Event}
use Rattle.pool_machine.specs.declared.event.Outcome.{Outcome}
use Rattle.pool_machine.specs.State.{State, pool_of, pool_seen, threads}
use Rattle.pool_machine.specs.Step.{step}
use Rattle.pool_machine.specs.Reach.{start, state_after, replay, IsReached}
use Rattle.pool_machine.proofs.Events.{IsAtAction, happens}
use Rattle.pool_machine.proofs.StateInvariant.{StateInvariant}
use Rattle.pool_machine.proofs.InvariantAtStart.{kept_start}
use Rattle.pool_machine.proofs.InvariantStep.{kept_step}
use Rattle.pool_machine.proofs.Reached.{replay_none, kept}
use Rattle.weights.specs.declared.get_return.GetReturn.TheVariants.{DoneWeight}
use Rattle.soundness.proofs.BoundLaws.{standing_laws}
use Rattle.soundness.proofs.NoRefusal.{standing_refuses_nothing}
use Rattle.soundness.proofs.ReachedLaws.{balanced}
use Rattle.interleaving.proofs.Reached.{reached_after}
use Rattle.counterexample.specs.PermanentSets.{HasStanding, StandingPoolsStayAtCore}
use Rattle.counterexample.proofs.Lowered.{lowered, IsBetween, length-lowered, max-lowered, start-lowered, ordered-lowered, started_when, StartsBelow, happens-lowered}

-- ---- the invariant of every step

abbrev pub StaysThroughSteps : Plan → (State → Type 0) → Type 0
StaysThroughSteps plan holds = (s : State) (e : Event) (s' : State) (o : Outcome) → holds s → step plan s e ≡ Some (s', o) → holds s'

after_step : (plan : Plan) (holds : State → Type 0) → StaysThroughSteps plan holds → (s : State) (e : Event) (events : List Event) (s' : State) → ((next : State) → holds next → replay plan (Some next) events ≡ Some s' → holds s')
    → holds s → (found : Option (State × Outcome)) → step plan s e ≡ found → replay plan (state_after found) events ≡ Some s' → holds s'
after_step plan holds stays s e events s' onward held None is_step replayed =
    let none : replay plan None events ≡ None = replay_none plan events in
    absurd cc
after_step plan holds stays s e events s' onward held (Some (next, o)) is_step replayed = onward next (stays s e next o held is_step) replayed

pub steps_keep : (plan : Plan) (holds : State → Type 0) → StaysThroughSteps plan holds → (events : List Event) (s s' : State) → holds s → replay plan (Some s) events ≡ Some s' → holds s'
steps_keep plan holds stays [] s s' held replayed = subst holds (same_Some s s' replayed) held
steps_keep plan holds stays (e ∷ events) s s' held replayed =
    after_step plan holds stays s e events s' (λ next held' rest. steps_keep plan holds stays events next s' held' rest) held (step plan s e) refl replayed

-- ---- the threads of the pool

-- a pool with a standing vector starts a thread only if it has fewer than core threads, since a submit never finds its queue
-- full
pub starts_below_core : (plan : Plan) (s : State) (a : Parent) (body : List Action) (i k : ℕ) → IsWellFormed plan → IsReached plan s → HasStanding plan (pool_of plan k) → IsAtAction plan s a body i (Some (action.Submit k))
    → answer (pool_seen plan s (pool_of plan k)) ≡ offer.Started → threads plan s (pool_of plan k) < (pool_at plan (pool_of plan k)).core
starts_below_core plan s a body i k well_formed reached standing at starts =
    let laws = standing_laws plan (pool_of plan k) standing.vector standing.hold in
    ⊎_elim (λ below. below)
    (λ full. absurd (standing_refuses_nothing plan standing.vector s a body i k (ordered plan well_formed) laws (kept plan s well_formed reached) (balanced DoneWeight plan standing.vector s well_formed laws.laws standing.light reached) at full))
    (started_when (pool_seen plan s (pool_of plan k)) starts)

-- the lowered maximum of pool q: its core if q is p, and otherwise its maximum
abbrev core_for_max : Plan → ℕ → ℕ → ℕ
core_for_max plan p q = cond (eqb q p) (pool_at plan q).core (pool_at plan q).max

between_cond : (b : Bool) (low high : ℕ) → low ≤ high → (low ≤ cond b low high) × (cond b low high ≤ high)
between_cond true low high h = (omega arith, h)
between_cond false low high h = (h, omega arith)

between_core : (plan : Plan) (p : ℕ) → HasValidBodies plan → IsBetween plan (core_for_max plan p)
between_core plan p ordered q inside = between_cond (eqb q p) (pool_at plan q).core (pool_at plan q).max (ordered.max q inside)

below_cond : (b : Bool) (n low high : ℕ) {Bounded : Type 0} → (b ≡ true → n < low) → (n < low) ⊎ ((n < high) × Bounded) → ((n < cond b low high) × Bounded) ⊎ (n < low)
below_cond true n low high few given = inr (few refl)
below_cond false n low high few given = ⊎_elim (λ below. inr below) (λ below. inl below) given

below_core : (plan : Plan) (p : ℕ) (s : State) → IsWellFormed plan → HasStanding plan p → IsReached plan s → StartsBelow plan (core_for_max plan p) s
below_core plan p s well_formed standing reached a body i k at starts =
    let q = pool_of plan k in
    below_cond (eqb q p) (threads plan s q) (pool_at plan q).core (pool_at plan q).max
    (λ same. starts_below_core plan s a body i k well_formed reached (subst (HasStanding plan) (sym (eqb-true q p same)) standing) at starts)
    (started_below (pool_seen plan s q) starts)

-- the state is reached in the plan, and satisfies the invariant of the lowered plan
record BothKeep (plan : Plan) (p : ℕ) (s : State) : Type 0 where
  reached : IsReached plan s
  kept_low : StateInvariant (lowered plan (core_for_max plan p)) s

both_keep : (plan : Plan) (p : ℕ) → IsWellFormed plan → HasStanding plan p → StaysThroughSteps plan (BothKeep plan p)
both_keep plan p well_formed standing s e s' o both is_step =
    let most = core_for_max plan p in
    let is_ordered = ordered plan well_formed in
    let between = between_core plan p is_ordered in
    record {
      reached = reached_after plan s s' e o both.reached is_step;
      kept_low = kept_step (lowered plan most) s s' o (ordered-lowered plan most is_ordered between) both.kept_low
          (happens-lowered plan most s s' e o is_ordered between (below_core plan p s well_formed standing both.reached) (happens plan s e s' o is_step) is_step);
    }

-- a pool with a standing vector never has more than core threads
pub stays_at_core : StandingPoolsStayAtCore
stays_at_core plan p s well_formed inside standing reached =
    let most = core_for_max plan p in
    let is_ordered = ordered plan well_formed in
    let low = lowered plan most in
    let at_start : BothKeep plan p (start plan) =
    record { reached = ([], refl); kept_low = subst (StateInvariant low) (start-lowered plan most) (kept_start low (ordered-lowered plan most is_ordered (between_core plan p is_ordered))) } in
    let both = steps_keep plan (BothKeep plan p) (both_keep plan p well_formed standing) reached.0 (start plan) s at_start reached.1 in
    let is_inside : p < length low.pools = omega (arith, length-lowered plan most) in
    let within = (both.kept_low.pools p is_inside).within_max in
    let core : most p ≡ (pool_at plan p).core = ap (λ (b : Bool). cond b (pool_at plan p).core (pool_at plan p).max) (eq-eqb p p refl) in
    omega (arith, max-lowered plan most p inside)
