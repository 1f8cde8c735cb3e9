-- Proofs that a property holds in every reachable state if it holds in the initial state and every event preserves it.
use Rattle.std.proofs.Common.{◌≡◌, List, [], ◌∷◌, Option, Some, None, refl, subst}
use Rattle.std.proofs.lemmas.Option.{same_Some}
use Rattle.job_bodies.specs.Plan.{Plan}
use Rattle.job_bodies.specs.WellFormed.{IsWellFormed}
use Rattle.job_bodies.proofs.Bodies.{ordered}
use Rattle.pool_machine.specs.declared.event.Event.{Event}
use Rattle.pool_machine.specs.declared.event.Outcome.{Outcome}
use Rattle.pool_machine.specs.State.{State}
use Rattle.pool_machine.specs.Step.{step}
use Rattle.pool_machine.specs.Reach.{start, state_after, replay, IsReached}
use Rattle.pool_machine.proofs.Events.{Happens, MachineStep, stepped}
use Rattle.pool_machine.proofs.StateInvariant.{StateInvariant}
use Rattle.pool_machine.proofs.InvariantAtStart.{kept_start}
use Rattle.pool_machine.proofs.InvariantStep.{kept_step}
use Rattle.pool_machine.proofs.EnoughThreads.{HaveThreads, have_threads_start, threads_step}

-- every event preserves the property
abbrev pub StaysThrough : Plan → (State → Type 0) → Type 0
StaysThrough plan holds = (s : State) (e : Event) (s' : State) (o : Outcome) → holds s → Happens plan s e s' o → holds s'

-- every step preserves the property
abbrev pub StaysThroughSteps : Plan → (State → Type 0) → Type 0
StaysThroughSteps plan holds = (s : State) (e : Event) (s' : State) (o : Outcome) → holds s → MachineStep plan s e s' o → holds s'

-- the replay of events after an impossible event has no state
pub replay_none : (plan : Plan) (events : List Event) → replay plan None events ≡ None
replay_none plan [] = refl
replay_none plan (e ∷ events) = refl

after_event : (plan : Plan) (holds : State → Type 0) → StaysThroughSteps plan holds → (s : State) (e : Event) (events : List Event) (s' : State) → ((next : State) → holds next → replay plan (Some next) events ≡ Some s' → holds s')
    → holds s → (found : Option (State × Outcome)) → step plan s e ≡ found → replay plan (state_after found) events ≡ Some s' → holds s'
after_event plan holds stays s e events s' onward held None is_step replayed =
    let none : replay plan None events ≡ None = replay_none plan events in
    absurd cc
after_event plan holds stays s e events s' onward held (Some (next, o)) is_step replayed = onward next (stays s e next o held (stepped plan s e next o is_step)) replayed

steps_keep : (plan : Plan) (holds : State → Type 0) → StaysThroughSteps plan holds → (events : List Event) (s s' : State) → holds s → replay plan (Some s) events ≡ Some s' → holds s'
steps_keep plan holds stays [] s s' held replayed = subst holds (same_Some s s' replayed) held
steps_keep plan holds stays (e ∷ events) s s' held replayed =
    after_event plan holds stays s e events s' (λ next held' rest. steps_keep plan holds stays events next s' held' rest) held (step plan s e) refl replayed

pub replay_keeps : (plan : Plan) (holds : State → Type 0) → StaysThrough plan holds → (events : List Event) (s s' : State) → holds s → replay plan (Some s) events ≡ Some s' → holds s'
replay_keeps plan holds stays events s s' held replayed = steps_keep plan holds (λ s₁ e s₂ o before now. stays s₁ e s₂ o before now.happened) events s s' held replayed

pub reached_keeps : (plan : Plan) (holds : State → Type 0) → holds (start plan) → StaysThrough plan holds → (s : State) → IsReached plan s → holds s
reached_keeps plan holds at_start stays s reached = replay_keeps plan holds stays reached.0 (start plan) s at_start reached.1

pub kept : (plan : Plan) (s : State) → IsWellFormed plan → IsReached plan s → StateInvariant plan s
kept plan s well_formed reached =
    reached_keeps plan (StateInvariant plan) (kept_start plan (ordered plan well_formed)) (λ s₁ e s₂ o held happened. kept_step plan s₁ s₂ o (ordered plan well_formed) held happened) s reached

-- a list of events leaves each pool with enough threads; the proof needs the invariant too
threads_kept : (plan : Plan) (events : List Event) (s s' : State) → IsWellFormed plan → StateInvariant plan s → HaveThreads plan s → replay plan (Some s) events ≡ Some s' → HaveThreads plan s'
threads_kept plan events s s' well_formed invariant have replayed =
    let is_ordered = ordered plan well_formed in
    (steps_keep plan (λ s₁. StateInvariant plan s₁ × HaveThreads plan s₁)
    (λ s₁ e s₂ o held now. (kept_step plan s₁ s₂ o is_ordered held.0 now.happened, λ p inside. threads_step plan s₁ s₂ o is_ordered held.0 now.happened p inside (now.keeps p) (held.1 p inside)))
    events s s' (invariant, have) replayed).1

-- each pool has enough threads in every reachable state
pub have_threads : (plan : Plan) (s : State) → IsWellFormed plan → IsReached plan s → HaveThreads plan s
have_threads plan s well_formed reached = threads_kept plan reached.0 (start plan) s well_formed (kept_start plan (ordered plan well_formed)) (have_threads_start plan) reached.1

-- each pool has enough threads in every state to which events lead from a reachable state
pub have_threads_after : (plan : Plan) (s s' : State) (events : List Event) → IsWellFormed plan → IsReached plan s → replay plan (Some s) events ≡ Some s' → HaveThreads plan s'
have_threads_after plan s s' events well_formed reached replayed = threads_kept plan events s s' well_formed (kept plan s well_formed reached) (have_threads plan s well_formed reached) replayed
