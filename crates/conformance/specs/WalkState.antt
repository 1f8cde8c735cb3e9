-- The state of the joint walks over a body and a path.
use Rattle.std.specs.Prelude.{◌≡◌, ◌≤◌, ◌<◌, ◌↔◌, ℕ, ◌+◌, Bool, true, false, ◌&&◌, ◌||◌, nat_lt, List, [], ◌∷◌, ◌++◌, None, Some, length, slice_get, slice_index_or}
use Rattle.job_bodies.specs.declared.action.Action.{Action}
use Rattle.conformance.specs.declared.step.ActorKind.{ActorKind}
use Rattle.conformance.specs.declared.walk_state.WalkState.{WalkState}
use Rattle.conformance.specs.Path.{MayGet, is_submit_of, open_class, without}
use Rattle.conformance.specs.BodyGets.{get_at, can_pass}

-- The body can be at this index.
abbrev pub is_at : WalkState → ℕ → Bool
is_at state index = slice_index_or state.row.items index false

-- The tables of the state fit the body: they have the right lengths, and `passes` says for each action whether the body may
-- pass it while these jobs are open.
pub record HasTables (body : List Action) (state : WalkState) : Type 0 where
  pub row_length : length state.row.items ≡ length body + 1
  pub passes_length : length state.passes.items ≡ length body
  pub passes : (index : ℕ) → index < length body → slice_index_or state.passes.items index false ≡ can_pass (get_at body index) state.jobs.items

-- `new` is the state `old` after the path and the body have both submitted a job of the class. `job` is the index of this
-- submit in the path.
pub record IsAfterSubmit (body : List Action) (job class : ℕ) (old new : WalkState) : Type 0 where
  pub tables : HasTables body new
  pub jobs : new.jobs.items ≡ old.jobs.items ++ record { job = job; class = class } ∷ []
  pub first : is_at new 0 ≡ false
  pub rest : (index : ℕ) → index < length body → is_at new (index + 1) ≡ ((is_at old index && is_submit_of class (slice_get body index)) || (is_at new index && can_pass (get_at body index) new.jobs.items))

-- `new` is the state `old` after the path has got a job of the class. Only walks in which the body is before index `end` are
-- left, because the actor may get no job of the class at `end` or later.
pub record IsAfterGetOf (kind : ActorKind) (body : List Action) (job class : ℕ) (old new : WalkState) : Type 0 where
  pub tables : HasTables body new
  pub jobs : new.jobs.items ≡ without job old.jobs.items
  pub end : ℕ
  pub is_end : (index : ℕ) → index ≤ length body → (nat_lt index end ≡ true) ↔ MayGet kind body index class
  pub first : is_at new 0 ≡ (is_at old 0 && nat_lt 0 end)
  pub rest : (index : ℕ) → index < length body → is_at new (index + 1) ≡ ((is_at old (index + 1) && nat_lt (index + 1) end) || (is_at new index && can_pass (get_at body index) new.jobs.items))

-- `new` is the state `old` after the path has got the job that it submitted at index `job`. If the job is not open, no walk
-- is left.
pub record IsAfterGet (kind : ActorKind) (body : List Action) (job : ℕ) (old new : WalkState) : Type 0 where
  pub got : (class : ℕ) → open_class job old.jobs.items ≡ Some class → IsAfterGetOf kind body job class old new
  pub missing : open_class job old.jobs.items ≡ None → (index : ℕ) → is_at new index ≡ false

-- ---- where the body can be
-- The body can be at some index.
abbrev pub IsBegun : WalkState → Type 0
IsBegun state = (index : ℕ) × (is_at state index ≡ true)

-- The body has a submit of the class at an index where it can be.
abbrev pub CanSubmit : List Action → ℕ → WalkState → Type 0
CanSubmit body class state = (index : ℕ) × (is_at state index ≡ true) × (is_submit_of class (slice_get body index) ≡ true)
