-- The get that keeps a body from an index: from a submit, or from its end.
use Rattle.std.specs.Prelude.{◌≡◌, ◌≤◌, ◌<◌, ℕ, suc, Bool, true, false, ◌==◌, ◌&&◌, nat_lt, if◌then◌else◌, List, Option, Some, None, slice_index_or}
use Rattle.conformance.specs.declared.body_gets.BodyGet.{BodyGet}
use Rattle.conformance.specs.declared.blocking_get.Way.{Way}
use Rattle.conformance.specs.declared.blocking_get.Way.TheVariants as way

-- The body may pass the action: it is no get, or `passes` holds.
abbrev pub may_pass : Option BodyGet → Bool → Bool
may_pass None passes = true
may_pass (Some get) passes = passes

-- ---- the way to a later index
-- `reached` is the last index below `n` at which the body can be. `row` says for each index whether the body can be there.
pub record IsLastReached (row : List Bool) (n reached : ℕ) : Type 0 where
  pub before : reached < n
  pub at : slice_index_or row reached false ≡ true
  pub last : (index : ℕ) → reached < index → index < n → slice_index_or row index false ≡ false

-- The body may pass each action from index `reached` up to, but not including, index `m`.
abbrev pub IsFreeFrom : List Bool → List (Option BodyGet) → ℕ → ℕ → Type 0
IsFreeFrom passes gets reached m = (index : ℕ) → reached ≤ index → index < m → may_pass (slice_index_or gets index None) (slice_index_or passes index false) ≡ true

pub record IsFree (row passes : List Bool) (gets : List (Option BodyGet)) (n m : ℕ) : Type 0 where
  pub reached : ℕ
  pub from : IsLastReached row n reached
  pub free : IsFreeFrom passes gets reached m

-- The body cannot reach index `m` from the last index below `n` where it can be. On the way, `stop` is the first get that the
-- body may not pass. Among this get and the later gets of its class below `m`, `get` has the smallest limit.
pub record IsBlocked (row passes : List Bool) (gets : List (Option BodyGet)) (n m : ℕ) (get : BodyGet) : Type 0 where
  pub reached : ℕ
  pub from : IsLastReached row n reached
  pub stop : ℕ
  pub first : BodyGet
  pub after : reached ≤ stop
  pub within : stop < m
  pub free : IsFreeFrom passes gets reached stop
  pub stops : slice_index_or passes stop false ≡ false
  pub first_is : slice_index_or gets stop None ≡ Some first
  pub same_class : first.class ≡ get.class
  pub least : (index : ℕ) (other : BodyGet) → stop ≤ index → index < m → slice_index_or gets index None ≡ Some other → other.class ≡ get.class → get.limit ≤ other.limit
  pub place : ℕ
  pub place_after : stop ≤ place
  pub place_within : place < m
  pub place_is : slice_index_or gets place None ≡ Some get

-- ---- an index of the body
-- If there is a get, it keeps the body from the index `end`. If there is none, the body can reach `end`, or it can be at no
-- index up to `end`.
abbrev pub IsBlocking : List Bool → List Bool → List (Option BodyGet) → ℕ → Option BodyGet → Type 0
IsBlocking row passes gets end None = (index : ℕ) → index ≤ end → slice_index_or row index false ≡ true → IsFree row passes gets (suc end) end
IsBlocking row passes gets end (Some get) = IsBlocked row passes gets (suc end) end get

-- ---- the way to and over one index, as the functions of `blocking_get.rt` compute it
-- The way to an index. It is free if the body can be at the index, and otherwise it is the way `before` the index.
abbrev pub way_at : Way → Bool → Way
way_at before is_at = if is_at then way.Free else before

abbrev pub get_on : Way → Option BodyGet
get_on (way.Blocked get) = Some get
get_on _ = None

abbrev pub least_get : BodyGet → Option BodyGet → BodyGet
least_get least None = least
least_get least (Some get) = if (get.class == least.class) && nat_lt get.limit least.limit then get else least

abbrev pub free_after : Bool → Option BodyGet → Way
free_after passes None = way.Free
free_after passes (Some get) = if passes then way.Free else way.Blocked get

abbrev pub way_after : Way → Bool → Option BodyGet → Way
way_after way.Unreached passes get = way.Unreached
way_after way.Free passes get = free_after passes get
way_after (way.Blocked least) passes get = way.Blocked (least_get least get)
