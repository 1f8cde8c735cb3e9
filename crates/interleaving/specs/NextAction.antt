-- The next action of an actor.
use Rattle.std.specs.Prelude.{◌≡◌, ℕ, ◌<◌, ◌&&◌, ◌⊎◌, List, Some, IsSome, slice_get}
use Rattle.job_bodies.specs.declared.action.Action.{Action}
use Rattle.job_bodies.specs.declared.action.Action.TheVariants.{Submit}
use Rattle.job_bodies.specs.Plan.{Plan, submits, has_get_of}
use Rattle.pool_machine.specs.declared.event.Event.{Event}
use Rattle.pool_machine.specs.declared.event.Event.TheVariants.{Client, Job, Take, Retire}
use Rattle.pool_machine.specs.declared.parent.Parent.{Parent}
use Rattle.pool_machine.specs.declared.parent.Parent.TheVariants as parent
use Rattle.pool_machine.specs.Step.{Point}
use Rattle.interleaving.specs.LiveView.{View}
use Rattle.interleaving.specs.ViewStep.{point_in}
use Rattle.interleaving.specs.declared.next_action.NextAction.{NextAction}
use Rattle.interleaving.specs.Clients.{IsFirst}

-- the actor exists: its number is below the number of clients or, for a job, below the number of jobs
abbrev pub IsAmong : ℕ → ℕ → Parent → Type 0
IsAmong clients jobs (parent.Client c) = c < clients
IsAmong clients jobs (parent.Job j) = j < jobs

-- the next action at position i of the body: the position, the action there, and `has_get`. `has_get` is true if the action is
-- a submit and the body has a get of this submit.
abbrev pub next_action_in : List Action → ℕ → NextAction
next_action_in body i = record { position = i; action = slice_get body i; has_get = submits (slice_get body i) && has_get_of body i }

abbrev pub next_action_at : Point → NextAction
next_action_at at = next_action_in at.body at.position

-- the actor's next action is a submit
pub record IsAtSubmit (plan : Plan) (view : View) (actor : Parent) : Type 0 where
  pub at : Point
  pub stands : point_in plan view actor ≡ Some at
  pub class : ℕ
  pub submits : slice_get at.body at.position ≡ Some (Submit class)

-- the actor is a client, and its next action is the first of its body
pub record IsAtFirst (plan : Plan) (view : View) (actor : Parent) : Type 0 where
  pub at : Point
  pub stands : point_in plan view actor ≡ Some at
  pub first : IsFirst actor at.position
  pub acts : IsSome (slice_get at.body at.position)

-- the actor's next action is a submit, or the actor is a client and its next action is the first of its body
abbrev pub ActorMayGrow : Plan → View → Parent → Type 0
ActorMayGrow plan view actor = IsAtSubmit plan view actor ⊎ IsAtFirst plan view actor

-- the event belongs to an actor whose next action is a submit, or to a client whose next action is its first
abbrev pub MayGrow : Plan → View → Event → Type 0
MayGrow plan view (Client c) = ActorMayGrow plan view (parent.Client c)
MayGrow plan view (Job j) = ActorMayGrow plan view (parent.Job j)
MayGrow plan view (Take p) = ⊥
MayGrow plan view (Retire p) = ⊥
