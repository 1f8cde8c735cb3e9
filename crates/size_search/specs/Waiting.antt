-- The jobs for which the last thread of a pool can wait at a get. The core threads of this pool may time out, so only one thread
-- can be left.
use Rattle.std.specs.Prelude.{◌≡◌, ℕ, List, IsTrue}
use Rattle.support.specs.In.{In}
use Rattle.job_bodies.specs.declared.action.Action.{Action}
use Rattle.job_bodies.specs.declared.action.Action.TheVariants.{Get}
use Rattle.job_bodies.specs.Plan.{Plan, pool_at, class_at, submitted_class}
use Rattle.size_search.specs.Submitted.{IsSubmitted, IsAllGot}
use Rattle.size_search.specs.ByClients.{client_bodies}

-- the body has a get of a job of class k
pub record GetsClass (body : List Action) (k : ℕ) : Type 0 where
  pub submit : ℕ
  pub at : In (Get submit) body
  pub of_class : submitted_class body submit ≡ k

-- the core threads of class k's pool may time out
abbrev pub MayLoseThreads : Plan → ℕ → Type 0
MayLoseThreads plan k = IsTrue (pool_at plan (class_at plan k).pool).core_timeout

-- the last thread of class k's pool can wait for a job of class j. The conditions are that core threads of this pool may time
-- out, that clients submit class k, directly or through other jobs, and that its body has a get of a job of class j.
pub record HoldsLastThread (plan : Plan) (k j : ℕ) : Type 0 where
  pub submitted : IsSubmitted plan (client_bodies plan) k
  pub may_lose : MayLoseThreads plan k
  pub gets : GetsClass (class_at plan k).body j

-- the last thread of pool p can wait until a job of class j ends
pub data WaitsFor (plan : Plan) (p : ℕ) : ℕ → Type 0 where
  -- the last thread executes a job of class k, which gets a job of class j
  at_get : {k j : ℕ} → (class_at plan k).pool ≡ p → HoldsLastThread plan k j → WaitsFor plan p j
  -- the last thread waits for a job of class i, which gets a job of class j
  by_job : {i j : ℕ} → WaitsFor plan p i → GetsClass (class_at plan i).body j → WaitsFor plan p j
  -- the last thread waits for a queued job of class i. The last thread of that job's pool executes a job of class k, which gets a
  -- job of class j.
  by_thread : {i k j : ℕ} → WaitsFor plan p i → (class_at plan k).pool ≡ (class_at plan i).pool → HoldsLastThread plan k j → WaitsFor plan p j

-- the last thread of pool p can wait until a job of p ends
pub record WaitsForItself (plan : Plan) (p : ℕ) : Type 0 where
  pub class : ℕ
  pub of_pool : (class_at plan class).pool ≡ p
  pub waits : WaitsFor plan p class

abbrev pub NoneWaitsForItself : Plan → Type 0
NoneWaitsForItself plan = (p : ℕ) → ¬ WaitsForItself plan p

-- ---- classes that no client submits

-- clients submit, directly or through other jobs, each class that has a get and whose pool's core threads may time out
abbrev pub GetsAreUsed : Plan → Type 0
GetsAreUsed plan = (k j : ℕ) → MayLoseThreads plan k → GetsClass (class_at plan k).body j → IsSubmitted plan (client_bodies plan) k

-- the core threads of a class's pool may time out, and the class has a get, but no client submits it, directly or through other
-- jobs
pub record HasUnusedGet (plan : Plan) : Type 0 where
  pub class : ℕ
  pub got : ℕ
  pub may_lose : MayLoseThreads plan class
  pub gets : GetsClass (class_at plan class).body got
  pub unused : ¬ IsSubmitted plan (client_bodies plan) class

-- ---- plans that a steady certificate accepts with large enough sizes

pub record IsSteady (plan : Plan) : Type 0 where
  pub all_got : IsAllGot plan
  pub none_waits : NoneWaitsForItself plan
  pub used : GetsAreUsed plan
