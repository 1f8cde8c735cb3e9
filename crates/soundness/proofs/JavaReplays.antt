-- Invariants of the states that are reachable in Java's steps, by induction over lists of events, and which events are possible.
use Rattle.std.proofs.Common.{◌≡◌, true, List, [], ◌∷◌, ◌++◌, Option, Some, None, is_some, refl, sym, subst}
use Rattle.std.proofs.lemmas.Option.{same_Some}
use Rattle.job_bodies.specs.Plan.{Plan}
use Rattle.pool_machine.specs.declared.event.Event.{Event}
use Rattle.pool_machine.specs.declared.event.Event.TheVariants as event
use Rattle.pool_machine.specs.declared.event.Outcome.{Outcome}
use Rattle.pool_machine.specs.State.{State}
use Rattle.pool_machine.specs.Step.{step}
use Rattle.pool_machine.specs.Safe.{is_of_job_or_pool}
use Rattle.soundness.specs.Execute.{JavaState, JavaEvent, Submission, as_atomic, other_step, java_stepped, java_step, java_replay}

-- ---- induction over events

-- no state follows an impossible event
pub java_replay_none : (plan : Plan) (events : List JavaEvent) → java_replay plan None events ≡ None
java_replay_none plan [] = refl
java_replay_none plan (e ∷ events) = refl

-- the state after two lists of events is the state after the second list, from the state after the first
pub java_replay-append : (plan : Plan) (s : Option JavaState) (first second : List JavaEvent) → java_replay plan s (first ++ second) ≡ java_replay plan (java_replay plan s first) second
java_replay-append plan s [] second = refl
java_replay-append plan None (e ∷ first) second = sym (java_replay_none plan second)
java_replay-append plan (Some s) (e ∷ first) second = java_replay-append plan (java_step plan s e) first second

-- each event in Java's steps preserves the property
abbrev JavaStays : Plan → (JavaState → Type 0) → Type 0
JavaStays plan holds = (s : JavaState) (e : JavaEvent) (s' : JavaState) → holds s → java_step plan s e ≡ Some s' → holds s'

after_event : (plan : Plan) (holds : JavaState → Type 0) → JavaStays plan holds → (s : JavaState) (e : JavaEvent) (events : List JavaEvent) (s' : JavaState) → ((next : JavaState) → holds next → java_replay plan (Some next) events ≡ Some s' → holds s')
    → holds s → (found : Option JavaState) → java_step plan s e ≡ found → java_replay plan found events ≡ Some s' → holds s'
after_event plan holds stays s e events s' onward held None is_step replayed =
    let none : java_replay plan None events ≡ None = java_replay_none plan events in
    absurd cc
after_event plan holds stays s e events s' onward held (Some next) is_step replayed = onward next (stays s e next held is_step) replayed

-- a property that each event preserves is preserved by every list of events
pub java_replay_keeps : (plan : Plan) (holds : JavaState → Type 0) → ((s : JavaState) (e : JavaEvent) (s' : JavaState) → holds s → java_step plan s e ≡ Some s' → holds s') → (events : List JavaEvent) (s s' : JavaState) → holds s → java_replay plan (Some s) events ≡ Some s' → holds s'
java_replay_keeps plan holds stays [] s s' held replayed = subst holds (same_Some s s' replayed) held
java_replay_keeps plan holds stays (e ∷ events) s s' held replayed =
    after_event plan holds stays s e events s' (λ next held' rest. java_replay_keeps plan holds stays events next s' held' rest) held (java_step plan s e) refl replayed

-- ---- what is possible

-- an event that is not part of a submit is possible in Java's steps if the machine allows it
atomic_possible : (s : JavaState) (found : Option (State × Outcome)) → is_some found ≡ true → is_some (as_atomic s found) ≡ true
atomic_possible s None possible = absurd cc
atomic_possible s (Some x) possible = refl

-- an event of a job or a take that is not part of a submit is possible in Java's steps if the machine allows it
other_possible : (plan : Plan) (s : JavaState) (e : Event) → is_of_job_or_pool e ≡ true → is_some (step plan s.machine e) ≡ true → is_some (other_step plan s e) ≡ true
other_possible plan s (event.Client c) counted possible = absurd cc
other_possible plan s (event.Job j) counted possible = atomic_possible s (step plan s.machine (event.Job j)) possible
other_possible plan s (event.Take p) counted possible = atomic_possible s (step plan s.machine (event.Take p)) possible
other_possible plan s (event.Retire p) counted possible = absurd cc

pub java_possible : (plan : Plan) (s : JavaState) (e : Event) (found : Option Submission) → is_of_job_or_pool e ≡ true → is_some (step plan s.machine e) ≡ true → is_some (java_stepped plan s e found) ≡ true
java_possible plan s e None counted possible = other_possible plan s e counted possible
java_possible plan s e (Some x) counted possible = refl
