-- The states of the joint walks over a body and a path in which jobs may belong to several classes. In different walks, a job
-- may have different classes. Each list of open jobs has a state of its own.
use Rattle.std.specs.Prelude.{◌≡◌, ◌≤◌, ◌<◌, ℕ, suc, Bool, true, false, ◌||◌, nat_le, if◌then◌else◌, List, Option, Some, None, length, map, flat_map, slice_get, slice_index_or}
use Rattle.std.specs.List.{list_any}
use Rattle.support.specs.In.{In}
use Rattle.job_bodies.specs.declared.action.Action.{Action}
use Rattle.conformance.specs.declared.open_job.OpenJob.{OpenJob}
use Rattle.conformance.specs.declared.step.ActorKind.{ActorKind}
use Rattle.conformance.specs.declared.step.PathStep.{PathStep}
use Rattle.conformance.specs.declared.walk_state.WalkState.{WalkState}
use Rattle.conformance.specs.declared.furthest.Reached.{Reached}
use Rattle.conformance.specs.declared.stop_reasons.SubmitAhead.{SubmitAhead}
use Rattle.conformance.specs.Path.{Walks, is_submit_of}
use Rattle.conformance.specs.BodyGets.{get_at, can_pass}
use Rattle.conformance.specs.BlockingGet.{IsLastReached}
use Rattle.conformance.specs.WalkState.{is_at, HasTables, IsAfterSubmit, IsAfterGet, IsBegun, CanSubmit}

-- ---- the states at a place of the path
-- The state represents joint walks up to index `place` of the path. If the body may then continue alone, the state represents
-- this too.
pub record IsStateOf (kind : ActorKind) (body : List Action) (path : List PathStep) (place : ℕ) (state : WalkState) : Type 0 where
  pub tables : HasTables body state
  pub begun : IsBegun state
  pub sound : (index : ℕ) → is_at state index ≡ true → Walks kind body path index place state.jobs.items
  pub closed : (index : ℕ) → index < length body → is_at state index ≡ true → can_pass (get_at body index) state.jobs.items ≡ true → is_at state (suc index) ≡ true

-- One of the states represents the walks to this index of the body after which these jobs are open.
pub record IsRepresented (states : List WalkState) (index : ℕ) (jobs : List OpenJob) : Type 0 where
  pub state : WalkState
  pub is_in : In state states
  pub jobs_are : jobs ≡ state.jobs.items
  pub at : is_at state index ≡ true

-- The states represent exactly the joint walks up to index `place` of the path.
pub record AreStatesAt (kind : ActorKind) (body : List Action) (path : List PathStep) (place : ℕ) (states : List WalkState) : Type 0 where
  pub each : (state : WalkState) → In state states → IsStateOf kind body path place state
  pub complete : (index : ℕ) (jobs : List OpenJob) → Walks kind body path index place jobs → IsRepresented states index jobs

-- There is a state.
abbrev pub HasState : List WalkState → Type 0
HasState states = (state : WalkState) × In state states

abbrev pub HaveTables : List Action → List WalkState → Type 0
HaveTables body states = (state : WalkState) → In state states → HasTables body state

-- The two states have the same open jobs and the same tables.
pub record IsCopy (state copy : WalkState) : Type 0 where
  pub jobs : copy.jobs.items ≡ state.jobs.items
  pub passes : copy.passes.items ≡ state.passes.items
  pub row : copy.row.items ≡ state.row.items

-- ---- after a submit
-- Each of the states with each of the classes.
abbrev pub choices : List WalkState → List ℕ → List (WalkState × ℕ)
choices states classes = flat_map (λ state. map (λ class. (state, class)) classes) states

-- `new` has exactly the states after a submit, one for each choice of a state and a class of the submitted job with which
-- the body can make the submit. `job` is the index of the submit in the path.
pub record AreAfterSubmit (body : List Action) (job : ℕ) (choices : List (WalkState × ℕ)) (new : List WalkState) : Type 0 where
  pub from : (state : WalkState) → In state new → (choice : WalkState × ℕ) × In choice choices × CanSubmit body choice.1 choice.0 × IsAfterSubmit body job choice.1 choice.0 state
  pub to : (choice : WalkState × ℕ) → In choice choices → CanSubmit body choice.1 choice.0 → (state : WalkState) × In state new × IsAfterSubmit body job choice.1 choice.0 state

-- ---- after a get
-- `new` has exactly the states after a get of the job that have a walk left.
pub record AreAfterGet (kind : ActorKind) (body : List Action) (job : ℕ) (old new : List WalkState) : Type 0 where
  pub from : (state : WalkState) → In state new → (before : WalkState) × In before old × IsAfterGet kind body job before state × IsBegun state
  pub to : (before : WalkState) → In before old → (state : WalkState) × IsAfterGet kind body job before state × (IsBegun state → In state new)

-- ---- states with the same open jobs
-- `new` is `row` with the indices of another row.
abbrev pub AreJoined : List Bool → List Bool → List Bool → Type 0
AreJoined row other new = (index : ℕ) → index < length row → slice_index_or new index false ≡ (slice_index_or row index false || slice_index_or other index false)

-- `new` represents the walks of all states of the list that have the same open jobs as `one`.
pub record IsMerged (states : List WalkState) (one new : WalkState) : Type 0 where
  pub jobs : new.jobs.items ≡ one.jobs.items
  pub passes : new.passes.items ≡ one.passes.items
  pub row_length : length new.row.items ≡ length one.row.items
  pub from : (index : ℕ) → is_at new index ≡ true → (state : WalkState) × In state states × (state.jobs.items ≡ one.jobs.items) × (is_at state index ≡ true)
  pub to : (index : ℕ) (state : WalkState) → In state states → state.jobs.items ≡ one.jobs.items → is_at state index ≡ true → index < length one.row.items → is_at new index ≡ true

-- No two of the states have the same open jobs.
abbrev pub AreDistinct : List WalkState → Type 0
AreDistinct states = (i j : ℕ) (one other : WalkState) → slice_get states i ≡ Some one → slice_get states j ≡ Some other → one.jobs.items ≡ other.jobs.items → i ≡ j

-- The states of `new` are those of `old`, with one state in place of all that have the same open jobs.
pub record AreMerged (old new : List WalkState) : Type 0 where
  pub from : (state : WalkState) → In state new → (one : WalkState) × In one old × IsMerged old one state
  pub to : (one : WalkState) → In one old → (state : WalkState) × In state new × (state.jobs.items ≡ one.jobs.items)
  pub distinct : AreDistinct new

-- ---- the furthest index of the body
-- The last index up to `end` at which the body can be in the state.
abbrev pub IsLastAt : WalkState → ℕ → Option ℕ → Type 0
IsLastAt state end None = (index : ℕ) → index ≤ end → is_at state index ≡ false
IsLastAt state end (Some last) = IsLastReached state.row.items (suc end) last

-- `reached.index` is the last index up to `end` at which the body can be in some state, and `reached.state` is the place of
-- such a state in the list.
pub record IsFurthestAt (states : List WalkState) (end : ℕ) (reached : Reached) : Type 0 where
  pub state : WalkState
  pub state_is : slice_get states reached.state ≡ Some state
  pub last : IsLastReached state.row.items (suc end) reached.index
  pub furthest : (other : WalkState) (index : ℕ) → In other states → index ≤ end → is_at other index ≡ true → index ≤ reached.index

abbrev pub IsFurthest : List WalkState → ℕ → Option Reached → Type 0
IsFurthest states end None = (state : WalkState) (index : ℕ) → In state states → index ≤ end → is_at state index ≡ false
IsFurthest states end (Some reached) = IsFurthestAt states end reached

-- The one of two reached indices that is further. `number` is the place of the second one's state. If both are the same, it is
-- the first one.
abbrev pub further : Option Reached → ℕ → Option ℕ → Option Reached
further before number None = before
further None number (Some index) = Some (record { state = number; index = index })
further (Some before) number (Some index) = if nat_le index before.index then Some before else Some (record { state = number; index = index })

-- ---- the next submit
-- The body submits a job of one of the classes at this index.
abbrev pub submits_any : List Action → List ℕ → ℕ → Bool
submits_any body classes submit = list_any (λ class. is_submit_of class (slice_get body submit)) classes

-- The body has a submit of one of the classes at this index, and can be at this index or at an earlier one.
pub record IsAhead (states : List WalkState) (body : List Action) (classes : List ℕ) (submit : ℕ) : Type 0 where
  pub of_any : submits_any body classes submit ≡ true
  pub state : WalkState
  pub index : ℕ
  pub is_in : In state states
  pub before : index ≤ submit
  pub at : is_at state index ≡ true

pub record IsNextSubmit (states : List WalkState) (body : List Action) (classes : List ℕ) (ahead : SubmitAhead) : Type 0 where
  pub in_body : ahead.submit < length body
  pub of_any : submits_any body classes ahead.submit ≡ true
  pub reached : IsFurthestAt states ahead.submit ahead.reached
  pub next : (submit : ℕ) → IsAhead states body classes submit → ahead.submit ≤ submit

abbrev pub AreAhead : List WalkState → List Action → List ℕ → Option SubmitAhead → Type 0
AreAhead states body classes None = (submit : ℕ) → ¬ IsAhead states body classes submit
AreAhead states body classes (Some ahead) = IsNextSubmit states body classes ahead
