-- Jobs that are submitted, directly or through other jobs, and never got.
use Rattle.std.specs.Prelude.{◌≡◌, ℕ, Bool, List, [], ◌∷◌, map, filter, slice_get, true, false}
use Rattle.support.specs.In.{In}
use Rattle.job_bodies.specs.declared.action.Action.{Action}
use Rattle.job_bodies.specs.declared.action.Action.TheVariants.{Submit}
use Rattle.job_bodies.specs.Plan.{Client, Plan, pool_at, class_at, client_at, needs_no_bound, submits, submitted_class, has_get_of}

-- the class is submitted: by one of the bodies, or by the body of a class that is itself submitted
pub data IsSubmitted (plan : Plan) (bodies : List (List Action)) : ℕ → Type 0 where
  begins : {k : ℕ} {body : List Action} → In body bodies → In (Submit k) body → IsSubmitted plan bodies k
  follows : {j k : ℕ} → IsSubmitted plan bodies j → In (Submit k) (class_at plan j).body → IsSubmitted plan bodies k

-- each class that `body` submits is one that `bodies` submit, directly or through other classes
pub record SubmitsOnly (plan : Plan) (bodies : List (List Action)) (body : List Action) : Type 0 where
  pub submitted : (k : ℕ) → In (Submit k) body → IsSubmitted plan bodies k

-- the action at position i is a submit, and the body has no get of it
pub record IsNeverGot (body : List Action) (i : ℕ) : Type 0 where
  pub is_submit : submits (slice_get body i) ≡ true
  pub not_got : has_get_of body i ≡ false

-- the bodies of the client kinds that repeat
abbrev pub repeated_bodies : Plan → List (List Action)
repeated_bodies plan = map (λ (client : Client). client.body) (filter (λ (client : Client). client.repeat) plan.clients)

pub record NeverGotByClients (plan : Plan) (c i : ℕ) : Type 0 where
  pub repeats : (client_at plan c).repeat ≡ true
  pub never_got : IsNeverGot (client_at plan c).body i

pub record NeverGotByJobs (plan : Plan) (k i : ℕ) : Type 0 where
  pub submitted : IsSubmitted plan (repeated_bodies plan) k
  pub never_got : IsNeverGot (class_at plan k).body i

-- no class submits itself, directly or through other classes
abbrev pub NoCircle : Plan → Type 0
NoCircle plan = (k : ℕ) → ¬ IsSubmitted plan ((class_at plan k).body ∷ []) k

-- no class submits itself, and no repeating client submits, directly or through other jobs, a job that is never got
pub record IsAllGot (plan : Plan) : Type 0 where
  pub no_circle : NoCircle plan
  pub clients_get : (c i : ℕ) → ¬ NeverGotByClients plan c i
  pub jobs_get : (k i : ℕ) → ¬ NeverGotByJobs plan k i

-- ---- the pools of the jobs that are never got

-- whether the submit at position i of the body goes to a pool that needs no bound in a certificate, because the pool may reject
-- jobs or its queue is unbounded
abbrev pub goes_without_bound : Plan → List Action → ℕ → Bool
goes_without_bound plan body i = needs_no_bound (pool_at plan (class_at plan (submitted_class body i)).pool)

-- repeating clients of kind c never get the job that they submit at position i. The pool of that job needs no bound if
-- `without_bound` is true, and needs one if it is false.
pub record LostByClients (plan : Plan) (without_bound : Bool) (c i : ℕ) : Type 0 where
  pub never_got : NeverGotByClients plan c i
  pub of_pool : goes_without_bound plan (client_at plan c).body i ≡ without_bound

-- jobs of class k, which repeating clients submit directly or through other jobs, never get the job that they submit at position
-- i. The pool of that job needs no bound if `without_bound` is true, and needs one if it is false.
pub record LostByJobs (plan : Plan) (without_bound : Bool) (k i : ℕ) : Type 0 where
  pub never_got : NeverGotByJobs plan k i
  pub of_pool : goes_without_bound plan (class_at plan k).body i ≡ without_bound

-- a repeating client submits a job to a pool that needs no bound, directly or through other jobs, and the job is never got
pub data LosesWithoutBound (plan : Plan) : Type 0 where
  by_client : {c i : ℕ} → LostByClients plan true c i → LosesWithoutBound plan
  by_job : {k i : ℕ} → LostByJobs plan true k i → LosesWithoutBound plan
