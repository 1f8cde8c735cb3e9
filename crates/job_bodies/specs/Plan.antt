-- Plans: pools of threads, classes of jobs and client kinds. Each class and each client kind has a body of actions.
use Rattle.std.specs.Prelude.{ℕ, Bool, false, true, ◌==◌, ◌||◌, if◌then◌else◌, List, [], map, Option, Some, slice_index_or, slice_get}
use Rattle.std.specs.List.{list_any}
use Rattle.job_bodies.specs.declared.action.Action.{Action}
use Rattle.job_bodies.specs.declared.action.Action.TheVariants.{Submit, Get}

pub record Pool : Type 0 where
  pub name : List ℕ
  pub core : ℕ
  pub max : ℕ
  pub queue : ℕ
  pub prestart : Bool
  pub may_reject : Bool
  pub unbounded : Bool
  pub core_timeout : Bool

pub record Class : Type 0 where
  pub name : List ℕ
  pub pool : ℕ
  pub body : List Action

-- a client kind: a number of clients that perform the same body, once or repeatedly
pub record Client : Type 0 where
  pub name : List ℕ
  pub count : ℕ
  pub repeat : Bool
  pub body : List Action

pub record Plan : Type 0 where
  pub pools : List Pool
  pub classes : List Class
  pub clients : List Client

-- the pool that `pool_at` gives for an index past the end of the list
abbrev pub no_pool : Pool
no_pool = record { name = []; core = 0; max = 0; queue = 0; prestart = false; may_reject = false; unbounded = false; core_timeout = false }

abbrev pub no_class : Class
no_class = record { name = []; pool = 0; body = [] }

abbrev pub no_client : Client
no_client = record { name = []; count = 0; repeat = false; body = [] }

abbrev pub pool_at : Plan → ℕ → Pool
pool_at plan p = slice_index_or plan.pools p no_pool

abbrev pub class_at : Plan → ℕ → Class
class_at plan k = slice_index_or plan.classes k no_class

abbrev pub client_at : Plan → ℕ → Client
client_at plan c = slice_index_or plan.clients c no_client

-- the names of the pools, in plan order
abbrev pub pool_names : Plan → List (List ℕ)
pool_names plan = map (λ pool. pool.name) plan.pools

-- the number of threads that the pool has at first, all idle: core if the core threads are prestarted, and otherwise 0
abbrev pub first_workers : Pool → ℕ
first_workers pool = if pool.prestart then pool.core else 0

-- the least number of threads that the pool has while a job is in its queue: core, or 1 if core threads may time out
abbrev pub least_threads : Pool → ℕ
least_threads pool = if pool.core_timeout then 1 else pool.core

-- whether a certificate needs no vector that bounds the pool's queue: the pool may reject jobs, or its queue is unbounded
abbrev pub needs_no_bound : Pool → Bool
needs_no_bound pool = pool.may_reject || pool.unbounded

-- whether the action is a submit
abbrev pub submits : Option Action → Bool
submits (Some (Submit k)) = true
submits _ = false

-- the index of the class that the action submits; 0 if the action is not a submit
abbrev pub class_of_submit : Option Action → ℕ
class_of_submit (Some (Submit k)) = k
class_of_submit _ = 0

-- the index of the class that the submit at position t of the body submits; a get of t waits for a job of this class
abbrev pub submitted_class : List Action → ℕ → ℕ
submitted_class body t = class_of_submit (slice_get body t)

-- whether the action is a get of the submit at position t of the same body
abbrev pub gets : ℕ → Action → Bool
gets t (Get u) = t == u
gets t _ = false

-- whether one of the actions of a body is a get of the submit at position t of this body
abbrev pub has_get_of : List Action → ℕ → Bool
has_get_of body t = list_any (gets t) body
