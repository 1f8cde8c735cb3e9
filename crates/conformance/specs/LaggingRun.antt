-- Runs of the machine that follow the path of an actor. In such a run the machine's actor lags: it passes the actions of its
-- body before a submit only directly before the path makes this submit. So it gets each job no sooner than the path.
use Rattle.std.specs.Prelude.{◌≡◌, ◌≢◌, ◌⊎◌, ℕ, zero, suc, ◌==◌, Bool, true, false, if◌then◌else◌, IsTrue, List, [], ◌∷◌, ◌++◌, Option, None, Some, ⊤, length, slice_get}
use Rattle.std.specs.List.{list_any}
use Rattle.job_bodies.specs.declared.action.Action.{Action}
use Rattle.job_bodies.specs.declared.action.Action.TheVariants as action
use Rattle.job_bodies.specs.Plan.{Plan}
use Rattle.job_bodies.specs.WellFormed.{IsWellFormed}
use Rattle.pool_machine.specs.declared.event.Event.{Event}
use Rattle.pool_machine.specs.declared.event.Event.TheVariants as event
use Rattle.pool_machine.specs.declared.parent.Parent.{Parent}
use Rattle.pool_machine.specs.declared.parent.Parent.TheVariants as parent
use Rattle.pool_machine.specs.State.{Stage, job_at, same_parent, child}
use Rattle.pool_machine.specs.Step.{point}
use Rattle.cert_text.specs.Cert.{Cert}
use Rattle.soundness.specs.Accepted.{accepted}
use Rattle.soundness.specs.Execute.{JavaState, is_calling}
use Rattle.soundness.specs.Skipping.{Choice, choice_step, ChoicesReach, event_of_actor}
use Rattle.soundness.specs.Skipping.Choice.{Acts, Skips, Misses, Exchanges, Leaves, Spares}
use Rattle.conformance.specs.declared.step.ActorKind.{ActorKind}
use Rattle.conformance.specs.declared.step.PathStep.{PathStep}
use Rattle.conformance.specs.declared.step.PathStep.TheVariants as step
use Rattle.conformance.specs.declared.step.PathState.{PathState}
use Rattle.conformance.specs.declared.step.PathState.TheVariants as path_state
use Rattle.conformance.specs.PathStep.{submits}
use Rattle.conformance.specs.Path.{MayGet, IsPathOf}

-- ---- the choices of others
-- The event is an event of this actor.
abbrev pub is_event_of : Parent → Event → Bool
is_event_of (parent.Client c) (event.Client other) = c == other
is_event_of (parent.Job j) (event.Job other) = j == other
is_event_of _ _ = false

-- The choice is a choice of this actor. In `Leaves` and `Spares` Java looks at a pool, so they are choices of no actor.
abbrev pub is_choice_of : Parent → Choice → Bool
is_choice_of actor (Acts e) = is_event_of actor e
is_choice_of actor (Skips e) = is_event_of actor e
is_choice_of actor (Misses e) = is_event_of actor e
is_choice_of actor (Exchanges other t u) = same_parent actor other
is_choice_of actor (Leaves p) = false
is_choice_of actor (Spares p) = false

-- Choices of other actors and of pools lead from the first state to the second.
pub data OthersAct (plan : Plan) (actor : Parent) : JavaState → JavaState → Type 0 where
  stays : {s : JavaState} → OthersAct plan actor s s
  acts : {s next s' : JavaState} (x : Choice) → is_choice_of actor x ≡ false → choice_step plan s x ≡ Some next → OthersAct plan actor next s' → OthersAct plan actor s s'

-- ---- the open jobs of the path
-- An open job of the path: the index of its submit in the path, its class, and its number in the machine.
pub record MachineJob : Type 0 where
  pub job : ℕ
  pub class : ℕ
  pub number : ℕ

-- The job with this number in the machine is open in the path.
abbrev pub is_open : ℕ → List MachineJob → Bool
is_open number jobs = list_any (λ one. one.number == number) jobs

-- The open job that the path submitted at this index, or `None` if there is no such job.
abbrev pub open_job : ℕ → List MachineJob → Option MachineJob
open_job job [] = None
open_job job (one ∷ others) = if one.job == job then Some one else open_job job others

abbrev pub without_job : ℕ → List MachineJob → List MachineJob
without_job job [] = []
without_job job (one ∷ others) = if one.job == job then others else one ∷ without_job job others

-- ---- the choices of the actor
-- The actor passes the actions of its body from the first index up to the second, in order. It works, skips each submit, and
-- gets only jobs that are not open in the path. It may exchange alike jobs, which have the same class and are not got. It
-- submits nothing.
pub data Passes (plan : Plan) (actor : Parent) (body : List Action) (jobs : List MachineJob) : ℕ → JavaState → ℕ → JavaState → Type 0 where
  arrives : {i : ℕ} {s : JavaState} → Passes plan actor body jobs i s i s
  works : {i j : ℕ} {s next s' : JavaState} (units : ℕ) → slice_get body i ≡ Some (action.Work units)
      → choice_step plan s (Acts (event_of_actor actor)) ≡ Some next
      → Passes plan actor body jobs (suc i) next j s'
      → Passes plan actor body jobs i s j s'
  skips : {i j : ℕ} {s next s' : JavaState} (class : ℕ) → slice_get body i ≡ Some (action.Submit class)
      → choice_step plan s (Skips (event_of_actor actor)) ≡ Some next
      → Passes plan actor body jobs (suc i) next j s'
      → Passes plan actor body jobs i s j s'
  gets : {i j : ℕ} {s next s' : JavaState} (submit number : ℕ) → slice_get body i ≡ Some (action.Get submit)
      → child s.machine actor submit ≡ Some number
      → is_open number jobs ≡ false
      → choice_step plan s (Acts (event_of_actor actor)) ≡ Some next
      → Passes plan actor body jobs (suc i) next j s'
      → Passes plan actor body jobs i s j s'
  exchanges : {i j : ℕ} {s next s' : JavaState} (t u : ℕ)
      → choice_step plan s (Exchanges actor t u) ≡ Some next
      → Passes plan actor body jobs i next j s'
      → Passes plan actor body jobs i s j s'

-- The actor can reach this index of its body by its own choices, without a submit.
pub record CanReach (plan : Plan) (actor : Parent) (body : List Action) (jobs : List MachineJob) (index : ℕ) (s : JavaState) : Type 0 where
  pub position : ℕ
  pub stands : point plan s.machine actor ≡ Some (record { body = body; position = position })
  pub after : JavaState
  pub passes : Passes plan actor body jobs position s index after

-- The actor submits one job, which gets this number. A submit is one or more events of the actor, and other actors may act
-- between them. Only the last of these events changes the machine: the pool takes the job or rejects it. A rejected job is
-- done at once.
pub data IsSubmitted (plan : Plan) (actor : Parent) : JavaState → ℕ → JavaState → Type 0 where
  others_act : {s next s' : JavaState} {number : ℕ} (x : Choice) → is_choice_of actor x ≡ false
      → choice_step plan s x ≡ Some next
      → IsSubmitted plan actor next number s'
      → IsSubmitted plan actor s number s'
  calls : {s next s' : JavaState} {number : ℕ} → choice_step plan s (Acts (event_of_actor actor)) ≡ Some next
      → next.machine ≡ s.machine
      → IsSubmitted plan actor next number s'
      → IsSubmitted plan actor s number s'
  is_taken : {s s' : JavaState} → choice_step plan s (Acts (event_of_actor actor)) ≡ Some s'
      → length s'.machine.jobs ≡ suc (length s.machine.jobs)
      → IsSubmitted plan actor s (length s.machine.jobs) s'

-- The actor's next event is possible. After this event one of two facts holds. Either the machine has one more job, which the
-- pool took or rejected, or the machine is unchanged and `later` holds.
pub record NextOfSubmit (plan : Plan) (actor : Parent) (s : JavaState) (later : JavaState → Type 0) : Type 0 where
  pub next : JavaState
  pub is_next : choice_step plan s (Acts (event_of_actor actor)) ≡ Some next
  pub onward : (length next.machine.jobs ≡ suc (length s.machine.jobs)) ⊎ ((next.machine ≡ s.machine) × later next)

-- The pool takes or rejects the actor's job within this number of events of the actor. Each of these events is possible,
-- whatever others do before it.
abbrev pub IsTakenWithin : ℕ → Plan → Parent → JavaState → Type 0
IsTakenWithin zero plan actor s = ⊥
IsTakenWithin (suc more) plan actor s = (s' : JavaState) → OthersAct plan actor s s' → NextOfSubmit plan actor s' (IsTakenWithin more plan actor)

-- ---- steps of the path
-- The actor can make this submit of the path. It can reach a submit of a class of the job in its body. The pool takes or
-- rejects the job within three events of the actor. A rejected job is done at once. After the submit, `next` holds.
pub record CanSubmit (plan : Plan) (actor : Parent) (body : List Action) (jobs : List MachineJob) (one : PathStep) (s : JavaState) (next : ℕ → ℕ → JavaState → Type 0) : Type 0 where
  pub index : ℕ
  pub class : ℕ
  pub reaches : CanReach plan actor body jobs index s
  pub submit : slice_get body index ≡ Some (action.Submit class)
  pub of_class : submits one class ≡ true
  pub is_taken : IsTakenWithin 3 plan actor reaches.after
  pub onward : (number : ℕ) (s' : JavaState) → IsSubmitted plan actor reaches.after number s' → next class number s'

-- The path gets an open job. The actor submitted this job, and has not got it in the machine. If the actor is a job, its body
-- has a get of a job of that class at its position or later. If the job is done, `next` holds, without a choice of the actor.
pub record AwaitsJob (plan : Plan) (actor : Parent) (kind : ActorKind) (body : List Action) (jobs : List MachineJob) (job : ℕ) (s : JavaState) (next : Type 0) : Type 0 where
  pub one : MachineJob
  pub is_one : open_job job jobs ≡ Some one
  pub of_actor : (job_at s.machine one.number).parent ≡ actor
  pub of_class : (job_at s.machine one.number).class ≡ one.class
  pub unclaimed : (job_at s.machine one.number).stage ≢ Stage.Claimed
  pub position : ℕ
  pub stands : point plan s.machine actor ≡ Some (record { body = body; position = position })
  pub may_get : MayGet kind body position one.class
  pub onward : (job_at s.machine one.number).stage ≡ Stage.Done → next

-- The machine can follow these steps of a path from this state, whatever others do in between. `index` is the index of the
-- first of these steps in the path. If the path is whole, the actor can reach the end of its body after the last step.
abbrev pub Follows : Plan → Parent → ActorKind → PathState → List Action → ℕ → List MachineJob → List PathStep → JavaState → Type 0
Follows plan actor kind path_state.Prefix body index jobs [] s = ⊤
Follows plan actor kind path_state.Whole body index jobs [] s = (s' : JavaState) → OthersAct plan actor s s' → CanReach plan actor body jobs (length body) s'
Follows plan actor kind state body index jobs (step.Submits classes ∷ steps) s = (s' : JavaState) → OthersAct plan actor s s'
    → CanSubmit plan actor body jobs (step.Submits classes) s'
    (λ class number after. Follows plan actor kind state body (suc index) (jobs ++ record { job = index; class = class; number = number } ∷ []) steps after)
Follows plan actor kind state body index jobs (step.Gets job ∷ steps) s = (s' : JavaState) → OthersAct plan actor s s'
    → AwaitsJob plan actor kind body jobs job s' (Follows plan actor kind state body (suc index) (without_job job jobs) steps s')

-- ---- the laws
-- The actor is at the start of the body, and no call of it is in progress.
pub record IsAtStart (plan : Plan) (actor : Parent) (body : List Action) (s : JavaState) : Type 0 where
  pub stands : point plan s.machine actor ≡ Some (record { body = body; position = 0 })
  pub not_offering : (p : ℕ) → is_calling s.offering actor p ≡ false
  pub not_requesting : (p : ℕ) → is_calling s.requesting actor p ≡ false

-- If a certificate accepts a well-formed plan, the machine can follow each path that matches the body of an actor. It can do
-- so from each reachable state in which the actor is at the start of its body.
abbrev pub PathsAreFollowed : Type 0
PathsAreFollowed = (plan : Plan) (cert : Cert) (actor : Parent) (kind : ActorKind) (state : PathState) (body : List Action) (path : List PathStep) (choices : List Choice) (s : JavaState) → IsWellFormed plan → IsTrue (accepted plan cert)
    → ChoicesReach plan choices s → IsAtStart plan actor body s → IsPathOf kind state body path → Follows plan actor kind state body 0 [] path s

-- Some choices lead from the initial state to this one.
abbrev pub IsReachedByChoices : Plan → JavaState → Type 0
IsReachedByChoices plan s = (choices : List Choice) × ChoicesReach plan choices s

-- If a run that follows a path starts in a reachable state, all its states are reachable. These are the states after choices
-- of others, after actions that the actor passes, and after a submit.
pub record StaysReachable (plan : Plan) (actor : Parent) : Type 0 where
  pub others : (s s' : JavaState) → OthersAct plan actor s s' → IsReachedByChoices plan s → IsReachedByChoices plan s'
  pub passes : (body : List Action) (jobs : List MachineJob) (i j : ℕ) (s s' : JavaState) → Passes plan actor body jobs i s j s' → IsReachedByChoices plan s → IsReachedByChoices plan s'
  pub submits : (number : ℕ) (s s' : JavaState) → IsSubmitted plan actor s number s' → IsReachedByChoices plan s → IsReachedByChoices plan s'

abbrev pub RunsStayReachable : Type 0
RunsStayReachable = (plan : Plan) (actor : Parent) → StaysReachable plan actor
