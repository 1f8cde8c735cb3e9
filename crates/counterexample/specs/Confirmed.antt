-- The result of the call `confirmed`, which checks a witness.
use Rattle.std.specs.Prelude.{◌≡◌, ◌≤◌, ◌⊎◌, ℕ, IsTrue, List, ◌++◌, Option, Some, None, slice_get}
use Rattle.job_bodies.specs.Plan.{Plan, pool_at}
use Rattle.pool_machine.specs.declared.event.Event.{Event}
use Rattle.pool_machine.specs.State.{State, threads}
use Rattle.pool_machine.specs.Waiting.{IsWaitingSet}
use Rattle.pool_machine.specs.FullWaitingSets.{WhereMembersQueue, HasMaxThreads, IsFull}
use Rattle.weights.specs.Row.{AllHold}
use Rattle.weights.specs.Vector.{Vector, vector_fits}
use Rattle.weights.specs.Standing.{standing_rows}
use Rattle.soundness.specs.WeightLaws.{RejectedAreLight}
use Rattle.counterexample.specs.declared.ending.Ending.{Ending}
use Rattle.counterexample.specs.declared.ending.Ending.TheVariants.{Refused, StuckForever, StuckNow}
use Rattle.counterexample.specs.declared.ending.Reason.{Reason}
use Rattle.counterexample.specs.declared.ending.Reason.TheVariants.{PoolsAreFull, PoolsStayAtCore}
use Rattle.counterexample.specs.declared.witness.Witness.{Witness}
use Rattle.counterexample.specs.Rising.{are_rising}
use Rattle.counterexample.specs.Witness.{LeadsTo, NoneRefused, EndsRefused}

-- ---- the reasons for a permanent wait

-- `standing` has a vector for the pool that satisfies the conditions of a standing vector, and under this vector a rejected job
-- does not increase the weight of a state
pub record GivenStanding (plan : Plan) (standing : List Vector) (p : ℕ) : Type 0 where
  pub vector : Vector
  pub given : slice_get standing p ≡ Some vector
  pub fits : IsTrue (vector_fits plan vector)
  pub hold : AllHold (standing_rows plan p vector)
  pub light : RejectedAreLight plan vector

-- pool p starts no thread, for this reason. `PoolsAreFull`: p has all its threads. `PoolsStayAtCore`: p is full (`IsFull`), or it
-- has at least core threads and `standing` has a valid standing vector for it.
abbrev pub StartsNoneFor : Plan → List Vector → State → Reason → ℕ → Type 0
StartsNoneFor plan standing s PoolsAreFull p = HasMaxThreads plan s p
StartsNoneFor plan standing s PoolsStayAtCore p = IsFull plan s p ⊎ (GivenStanding plan standing p × ((pool_at plan p).core ≤ threads plan s p))

-- no pool with a queued member starts a thread, for this reason
abbrev pub AllStartNoneFor : Plan → List ℕ → List Vector → State → Reason → Type 0
AllStartNoneFor plan members standing s reason = WhereMembersQueue plan s members (StartsNoneFor plan standing s reason)

-- the first of the two reasons that holds; None if neither holds
abbrev pub IsReason : Plan → List ℕ → List Vector → State → Option Reason → Type 0
IsReason plan members standing s (Some PoolsAreFull) = AllStartNoneFor plan members standing s PoolsAreFull
IsReason plan members standing s (Some PoolsStayAtCore) = (¬ AllStartNoneFor plan members standing s PoolsAreFull) × AllStartNoneFor plan members standing s PoolsStayAtCore
IsReason plan members standing s None = ¬ AllStartNoneFor plan members standing s PoolsStayAtCore

-- ---- the result

-- no event is a refused submit, and after all events the members wait only for each other. If there is a reason, they wait
-- permanently.
pub record IsStuck (plan : Plan) (events : List Event) (members : List ℕ) (standing : List Vector) (reason : Option Reason) : Type 0 where
  pub rising : IsTrue (are_rising members)
  pub none_refused : NoneRefused plan events
  pub leads : LeadsTo plan events (λ s. IsWaitingSet plan s members × IsReason plan members standing s reason)

-- the list begins with these events
abbrev pub BeginsWith : List Event → List Event → Type 0
BeginsWith events front = (rest : List Event) × (events ≡ front ++ rest)

-- the list begins with the events `front`, and these events have this ending
abbrev pub HasEnding : Plan → List Event → List ℕ → List Vector → List Event → Ending → Type 0
HasEnding plan events members standing front (Refused p) = BeginsWith events front × EndsRefused plan front p
HasEnding plan events members standing front (StuckForever stuck reason) = (front ≡ events) × (stuck.items ≡ members) × IsStuck plan events members standing (Some reason)
HasEnding plan events members standing front (StuckNow stuck) = (front ≡ events) × (stuck.items ≡ members) × IsStuck plan events members standing None

-- the answer of `confirmed`. It is a witness with its ending, or None exactly if two conditions hold: no event is a refused
-- submit, and the events do not lead to a waiting set whose members are these numbers in ascending order.
abbrev pub IsAnswer : Plan → List Event → List ℕ → List Vector → Option Witness → Type 0
IsAnswer plan events members standing None = NoneRefused plan events × (IsTrue (are_rising members) → ¬ LeadsTo plan events (λ s. IsWaitingSet plan s members))
IsAnswer plan events members standing (Some witness) = HasEnding plan events members standing witness.events.items witness.ending
