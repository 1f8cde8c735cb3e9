-- Lists of events that prove that a plan is unsafe.
use Rattle.std.specs.Prelude.{◌≡◌, ℕ, List, [], ◌∷◌, ◌++◌, Some, IsTrue, IsFalse}
use Rattle.support.specs.In.{In}
use Rattle.job_bodies.specs.Plan.{Plan}
use Rattle.job_bodies.specs.WellFormed.{IsWellFormed}
use Rattle.pool_machine.specs.declared.event.Event.{Event}
use Rattle.pool_machine.specs.declared.event.Outcome.TheVariants as outcome
use Rattle.pool_machine.specs.State.{State}
use Rattle.pool_machine.specs.Step.{step}
use Rattle.pool_machine.specs.Reach.{start, outcomes, Reaches}
use Rattle.pool_machine.specs.Safe.{Safe}
use Rattle.pool_machine.specs.Waiting.{IsWaitingSet}
use Rattle.pool_machine.specs.FullWaitingSets.{WhereMembersQueue, HasMaxThreads, IsFullWaitingSet}
use Rattle.cert_text.specs.Cert.{Cert}
use Rattle.soundness.specs.Accepted.{accepted}
use Rattle.counterexample.specs.declared.ending.Ending.{Ending}
use Rattle.counterexample.specs.declared.ending.Ending.TheVariants.{Refused, StuckForever, StuckNow}
use Rattle.counterexample.specs.declared.ending.Reason.{Reason}
use Rattle.counterexample.specs.declared.ending.Reason.TheVariants.{PoolsAreFull, PoolsStayAtCore}
use Rattle.counterexample.specs.Rising.{are_rising}
use Rattle.counterexample.specs.PermanentSets.{IsPermanentWaitingSet}

-- the events are possible in sequence from the plan's start, and the property holds in the last state
abbrev pub LeadsTo : Plan → List Event → (State → Type 0) → Type 0
LeadsTo plan events holds = (s : State) × Reaches plan events s × holds s

-- no event is a refused submit
abbrev pub NoneRefused : Plan → List Event → Type 0
NoneRefused plan events = (p : ℕ) → ¬ In (Some (outcome.Refused p)) (outcomes plan (Some (start plan)) events)

-- the last event is a submit that pool p refuses; each earlier event is possible and not a refused submit
pub record EndsRefused (plan : Plan) (events : List Event) (p : ℕ) : Type 0 where
  pub front : List Event
  pub last : Event
  pub is_last : events ≡ front ++ last ∷ []
  pub none_before : NoneRefused plan front
  pub before : State
  pub reaches : Reaches plan front before
  pub after : State
  pub refused : step plan before last ≡ Some (after, outcome.Refused p)

-- the members are a waiting set, which is permanent for this reason
abbrev pub StaysFor : Plan → List ℕ → Reason → State → Type 0
StaysFor plan members PoolsAreFull s = IsFullWaitingSet plan s members × WhereMembersQueue plan s members (HasMaxThreads plan s)
StaysFor plan members PoolsStayAtCore s = IsPermanentWaitingSet plan s members

-- the members are a waiting set, and one of them waits in the queue of a pool that is not full
pub record WaitsForNow (plan : Plan) (members : List ℕ) (s : State) : Type 0 where
  pub waits : IsWaitingSet plan s members
  pub not_full : ¬ IsFullWaitingSet plan s members

-- the events have this ending, and the members are in ascending order
abbrev pub IsWitness : Plan → List Event → Ending → Type 0
IsWitness plan events (Refused p) = EndsRefused plan events p
IsWitness plan events (StuckForever members reason) = IsTrue (are_rising members.items) × LeadsTo plan events (StaysFor plan members.items reason)
IsWitness plan events (StuckNow members) = IsTrue (are_rising members.items) × LeadsTo plan events (WaitsForNow plan members.items)

-- no certificate accepts a plan that has a witness
abbrev pub WitnessedPlansAreNotAccepted : Type 0
WitnessedPlansAreNotAccepted = (plan : Plan) (cert : Cert) (events : List Event) (ending : Ending) → IsWellFormed plan → IsWitness plan events ending → IsFalse (accepted plan cert)

-- a plan that has a witness is not safe
abbrev pub WitnessedPlansAreNotSafe : Type 0
WitnessedPlansAreNotSafe = (plan : Plan) (events : List Event) (ending : Ending) → IsWitness plan events ending → ¬ Safe plan
