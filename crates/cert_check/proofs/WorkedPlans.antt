-- Small plans and certificates for them. proofs/WorkedVerdicts.antt computes their verdicts.
use Rattle.std.proofs.Common.{ℕ, List, [], ◌∷◌, map, Option, Some, None, Bool, true, false}
use Rattle.job_bodies.specs.declared.action.Action.{Action}
use Rattle.job_bodies.specs.declared.action.Action.TheVariants.{Work, Submit, Get}
use Rattle.job_bodies.specs.Plan.{Plan, Pool, Class, Client}
use Rattle.weights.specs.declared.bound.Bound.{Bound}
use Rattle.weights.specs.declared.bound.Bound.TheVariants.{Standing, Lifetime}
use Rattle.weights.specs.Vector.{Vector}
use Rattle.weights.specs.Ranks.{Ranks}
use Rattle.cert_text.specs.Cert.{Cert, PoolCert}

-- ---- parts of plans, each with a name of one letter

abbrev pub a_pool : ℕ → ℕ → ℕ → ℕ → Bool → Pool
a_pool letter core max queue prestart = record { name = letter ∷ []; core = core; max = max; queue = queue; prestart = prestart; may_reject = false; unbounded = false; core_timeout = false }

abbrev pub a_class : ℕ → ℕ → List Action → Class
a_class letter pool body = record { name = letter ∷ []; pool = pool; body = body }

abbrev pub clients : ℕ → ℕ → Bool → List Action → Client
clients letter count repeat body = record { name = letter ∷ []; count = count; repeat = repeat; body = body }

-- the body that submits a job of this class and gets it
abbrev pub asks : ℕ → List Action
asks class = Submit class ∷ Get 0 ∷ []

abbrev pub works : List Action
works = Work 1 ∷ []

-- ---- plans

-- a plan without pools, classes and clients
abbrev pub no_parts : Plan
no_parts = record { pools = []; classes = []; clients = [] }

-- a plan of this pool, one class whose jobs work, and this client kind
abbrev pub one_class : Pool → Client → Plan
one_class pool client = record { pools = pool ∷ []; classes = a_class 97 0 works ∷ []; clients = client ∷ [] }

-- a plan of a pool of these sizes (core, maximum, queue) and `count` clients that repeatedly submit a job and wait for it
abbrev pub one_pool : ℕ → ℕ → ℕ → ℕ → Plan
one_pool core max queue count = one_class (a_pool 112 core max queue false) (clients 99 count true (asks 0))

-- a plan like `one_pool`, but each client goes through its body once, and the core threads may be prestarted
abbrev pub one_pool_once : ℕ → ℕ → ℕ → ℕ → Bool → Plan
one_pool_once core max queue count prestart = one_class (a_pool 112 core max queue prestart) (clients 99 count false (asks 0))

-- a plan like `one_pool`, but the pool may reject jobs
abbrev pub rejecting : ℕ → ℕ → ℕ → ℕ → Plan
rejecting core max queue count = one_class (record (a_pool 112 core max queue false) { may_reject = true }) (clients 99 count true (asks 0))

-- a pool of this many threads whose queue is unbounded
abbrev pub unbounded_pool : ℕ → Pool
unbounded_pool threads = record (a_pool 112 threads threads 1000000 false) { unbounded = true }

-- a plan like `one_pool`, but the queue is unbounded
abbrev pub unbounded_queue : ℕ → ℕ → Plan
unbounded_queue threads count = one_class (unbounded_pool threads) (clients 99 count true (asks 0))

-- a plan of one client that submits a job and never waits for it, once or repeatedly
abbrev pub forgetting : Bool → Plan
forgetting repeat = one_class (a_pool 112 1 1 2 false) (clients 99 1 repeat (Submit 0 ∷ []))

-- the plan with core threads that may time out in each pool
abbrev pub timing_out : Plan → Plan
timing_out plan = record plan { pools = map (λ (pool : Pool). record pool { core_timeout = true }) plan.pools }

-- a plan like `forgetting` with a client that repeats, but the queue is unbounded
abbrev pub forgetting_unbounded : Plan
forgetting_unbounded = one_class (unbounded_pool 1) (clients 99 1 true (Submit 0 ∷ []))

-- a plan of a pool with this core and maximum and a queue of 5, in which an outer job submits an inner one and waits for it
abbrev pub nested : ℕ → ℕ → Bool → Plan
nested core max prestart = record {
  pools = a_pool 112 core max 5 prestart ∷ [];
  classes = a_class 111 0 (asks 1) ∷ a_class 105 0 works ∷ [];
  clients = clients 99 1 true (asks 0) ∷ [];
}

-- a plan like `nested`, with `threads` as its core and maximum, but the pool may reject jobs
abbrev pub nested_rejecting : ℕ → Plan
nested_rejecting threads = record (nested threads threads false) { pools = record (a_pool 112 threads threads 5 false) { may_reject = true } ∷ [] }

-- a plan like `nested`, with `threads` as its core and maximum, but the queue is unbounded
abbrev pub nested_unbounded : ℕ → Plan
nested_unbounded threads = record (nested threads threads false) { pools = unbounded_pool threads ∷ [] }

-- a plan of a pool with two threads and this queue, in which an outer job submits three inner jobs and then waits for them
abbrev pub fan_out : ℕ → Plan
fan_out queue = record {
  pools = a_pool 112 2 2 queue false ∷ [];
  classes = a_class 111 0 (Submit 1 ∷ Submit 1 ∷ Submit 1 ∷ Get 0 ∷ Get 1 ∷ Get 2 ∷ []) ∷ a_class 105 0 works ∷ [];
  clients = clients 99 1 true (asks 0) ∷ [];
}

-- a plan in which jobs of a first pool wait for jobs of a second one
abbrev pub front_and_back : Plan
front_and_back = record {
  pools = a_pool 102 4 4 1000 false ∷ a_pool 98 2 2 4 false ∷ [];
  classes = a_class 102 0 (asks 1) ∷ a_class 98 1 works ∷ [];
  clients = clients 99 1000 true (asks 0) ∷ [];
}

-- a plan of a pool of one thread and a pool of `threads` threads, each with jobs that wait for jobs of the other
abbrev pub two_pools : ℕ → Plan
two_pools threads = record {
  pools = a_pool 112 1 1 2 false ∷ a_pool 113 threads threads 2 false ∷ [];
  classes = a_class 97 0 (asks 1) ∷ a_class 98 1 works ∷ a_class 99 1 (asks 3) ∷ a_class 100 0 works ∷ [];
  clients = clients 117 1 true (asks 0) ∷ clients 119 1 true (asks 2) ∷ [];
}

-- a plan in which a job of pool p waits for a job of pool q, which waits for another job of pool p
abbrev pub there_and_back : Plan
there_and_back = record {
  pools = a_pool 112 1 1 2 false ∷ a_pool 113 2 2 2 false ∷ [];
  classes = a_class 97 0 (asks 1) ∷ a_class 98 1 (asks 2) ∷ a_class 100 0 works ∷ [];
  clients = clients 99 1 true (asks 0) ∷ [];
}

-- ---- parts of certificates

abbrev pub weighing : List ℕ → List (List ℕ) → List (List ℕ) → Vector
weighing workers classes clients = record { workers = workers; classes = classes; clients = clients }

abbrev pub pool_cert : Bound → Vector → PoolCert
pool_cert bound blocked = record { bound = Some bound; blocked = blocked }

-- the weights of a class, all 0 or all 1: `pair_of` for a body of two actions, `one_of` for a body of one action
abbrev pub pair_of_zeros : List ℕ
pair_of_zeros = 0 ∷ 0 ∷ 0 ∷ 0 ∷ 0 ∷ []

abbrev pub pair_of_ones : List ℕ
pair_of_ones = 1 ∷ 1 ∷ 1 ∷ 1 ∷ 1 ∷ []

abbrev pub one_of_zeros : List ℕ
one_of_zeros = 0 ∷ 0 ∷ 0 ∷ 0 ∷ []

abbrev pub one_of_ones : List ℕ
one_of_ones = 1 ∷ 1 ∷ 1 ∷ 1 ∷ []

-- the weights of a client that submits a job and gets it: 1, but 0 at the get, while the job has the weight
abbrev pub lends : List ℕ
lends = 1 ∷ 0 ∷ 1 ∷ []

abbrev pub has_nothing : List ℕ
has_nothing = 0 ∷ 0 ∷ 0 ∷ []

-- the weights of a class that submits a job and gets it: 1, but 0 at the get, while the submitted job has the weight
abbrev pub job_lends : List ℕ
job_lends = 1 ∷ 1 ∷ 0 ∷ 1 ∷ 1 ∷ []

-- ---- certificates

abbrev pub no_parts_cert : Cert
no_parts_cert = record { pools = []; ranks = record { pools = []; reach = []; levels = [] } }

-- a certificate for a plan of one pool, with this bound and rank, in which no job is ever blocked
abbrev pub one_pool_cert : Bound → ℕ → Cert
one_pool_cert bound rank = record {
  pools = pool_cert bound (weighing (0 ∷ []) (one_of_zeros ∷ []) (has_nothing ∷ [])) ∷ [];
  ranks = record { pools = rank ∷ []; reach = 0 ∷ []; levels = 0 ∷ [] };
}

-- a certificate whose standing vector gives each client this weight, and gives it to the client's job while the client waits
abbrev pub standing_cert : ℕ → Cert
standing_cert weight = one_pool_cert (Standing (weighing (0 ∷ []) ((weight ∷ weight ∷ weight ∷ weight ∷ []) ∷ []) ((weight ∷ 0 ∷ weight ∷ []) ∷ []))) 0

-- a certificate without a bound, for a plan of one pool in which no job is ever blocked
abbrev pub cert_without_bound : Cert
cert_without_bound = record {
  pools = record { bound = None; blocked = weighing (0 ∷ []) (one_of_zeros ∷ []) (has_nothing ∷ []) } ∷ [];
  ranks = record { pools = 0 ∷ []; reach = 0 ∷ []; levels = 0 ∷ [] };
}

-- a certificate with two faults: a done job weighs more than a job at its end, and the rank of the pool is above the reach of its class
abbrev pub faulty_cert : Cert
faulty_cert = one_pool_cert (Standing (weighing (0 ∷ []) ((1 ∷ 1 ∷ 1 ∷ 2 ∷ []) ∷ []) (lends ∷ []))) 1

-- a certificate with a lifetime vector: a client weighs 1 until it submits its job, and the job has the weight after that
abbrev pub lifetime_cert : Cert
lifetime_cert = one_pool_cert (Lifetime (weighing (0 ∷ []) (one_of_ones ∷ []) ((1 ∷ 0 ∷ 0 ∷ []) ∷ []))) 0

-- a certificate for `forgetting`: a job weighs nothing once it is done, since no get waits for it
abbrev pub forgetting_cert : Cert
forgetting_cert = record {
  pools =
      pool_cert
      (Standing (weighing (0 ∷ []) ((1 ∷ 1 ∷ 1 ∷ 0 ∷ []) ∷ []) ((1 ∷ 0 ∷ []) ∷ [])))
      (weighing (0 ∷ []) (one_of_zeros ∷ []) ((0 ∷ 0 ∷ []) ∷ []))
      ∷ [];
  ranks = record { pools = 0 ∷ []; reach = 0 ∷ []; levels = 0 ∷ [] };
}

-- a certificate without a bound, for `forgetting_unbounded`: no job is ever blocked
abbrev pub forgetting_cert_without_bound : Cert
forgetting_cert_without_bound = record {
  pools = record { bound = None; blocked = weighing (0 ∷ []) (one_of_zeros ∷ []) ((0 ∷ 0 ∷ []) ∷ []) } ∷ [];
  ranks = record { pools = 0 ∷ []; reach = 0 ∷ []; levels = 0 ∷ [] };
}

-- the ranks for `nested`: the level of the outer class is above that of the inner one
abbrev pub nested_ranks : Ranks
nested_ranks = record { pools = 0 ∷ []; reach = 0 ∷ 0 ∷ []; levels = 1 ∷ 0 ∷ [] }

-- a certificate for `nested`: at most one of the two jobs is queued, and only the outer job is ever blocked
abbrev pub nested_cert : Cert
nested_cert = record {
  pools =
      pool_cert
      (Standing (weighing (0 ∷ []) (job_lends ∷ one_of_ones ∷ []) (lends ∷ [])))
      (weighing (0 ∷ []) (pair_of_ones ∷ one_of_zeros ∷ []) (lends ∷ []))
      ∷ [];
  ranks = nested_ranks;
}

-- a certificate without a bound, for `nested_rejecting` and `nested_unbounded`: only the outer job is ever blocked
abbrev pub nested_cert_without_bound : Cert
nested_cert_without_bound = record {
  pools = record { bound = None; blocked = weighing (0 ∷ []) (pair_of_ones ∷ one_of_zeros ∷ []) (lends ∷ []) } ∷ [];
  ranks = nested_ranks;
}

-- a certificate for `fan_out`: the outer job has weight 3, and gives 1 of it to each inner job
abbrev pub fan_out_cert : Cert
fan_out_cert = record {
  pools =
      pool_cert
      (Standing (weighing (0 ∷ []) ((3 ∷ 3 ∷ 2 ∷ 1 ∷ 0 ∷ 1 ∷ 2 ∷ 3 ∷ 3 ∷ []) ∷ one_of_ones ∷ []) ((3 ∷ 0 ∷ 3 ∷ []) ∷ [])))
      (weighing (0 ∷ []) ((1 ∷ 1 ∷ 1 ∷ 1 ∷ 1 ∷ 1 ∷ 1 ∷ 1 ∷ 1 ∷ []) ∷ one_of_zeros ∷ []) (lends ∷ []))
      ∷ [];
  ranks = nested_ranks;
}

-- a certificate for `front_and_back`: the clients pass their weight to the jobs of the first pool, and the workers of the first pool pass
-- theirs to the jobs of the second; no get of a job of the first pool is counted
abbrev pub front_and_back_cert : Cert
front_and_back_cert = record {
  pools =
      pool_cert
      (Standing (weighing (0 ∷ 0 ∷ []) (pair_of_ones ∷ one_of_zeros ∷ []) (lends ∷ [])))
      (weighing (0 ∷ 0 ∷ []) (pair_of_zeros ∷ one_of_zeros ∷ []) (has_nothing ∷ []))
      ∷ pool_cert
      (Standing (weighing (1 ∷ 0 ∷ []) ((0 ∷ 1 ∷ 0 ∷ 1 ∷ 0 ∷ []) ∷ one_of_ones ∷ []) (has_nothing ∷ [])))
      (weighing (0 ∷ 0 ∷ []) (pair_of_zeros ∷ one_of_zeros ∷ []) (has_nothing ∷ []))
      ∷ [];
  ranks = record { pools = 1 ∷ 0 ∷ []; reach = 1 ∷ 0 ∷ []; levels = 1 ∷ 0 ∷ [] };
}

-- a certificate for `two_pools`: jobs of the first pool get a job whose reach is below the first pool's rank; jobs of the second pool get a
-- job whose reach is not below the second pool's rank
abbrev pub two_pools_cert : Cert
two_pools_cert = record {
  pools =
      pool_cert
      (Standing (weighing (0 ∷ 0 ∷ []) (pair_of_ones ∷ one_of_zeros ∷ job_lends ∷ one_of_ones ∷ []) (lends ∷ lends ∷ [])))
      (weighing (0 ∷ 0 ∷ []) (pair_of_zeros ∷ one_of_zeros ∷ pair_of_zeros ∷ one_of_zeros ∷ []) (has_nothing ∷ has_nothing ∷ []))
      ∷ pool_cert
      (Standing (weighing (0 ∷ 0 ∷ []) (job_lends ∷ one_of_ones ∷ pair_of_ones ∷ one_of_zeros ∷ []) (lends ∷ lends ∷ [])))
      (weighing (0 ∷ 0 ∷ []) (pair_of_zeros ∷ one_of_zeros ∷ pair_of_ones ∷ one_of_zeros ∷ []) (has_nothing ∷ lends ∷ []))
      ∷ [];
  ranks = record { pools = 1 ∷ 0 ∷ []; reach = 1 ∷ 0 ∷ 1 ∷ 1 ∷ []; levels = 1 ∷ 0 ∷ 1 ∷ 0 ∷ [] };
}

-- a certificate for `there_and_back`: the first job waits for a job whose reach is the rank of the first job's own pool
abbrev pub there_and_back_cert : Cert
there_and_back_cert = record {
  pools =
      pool_cert
      (Standing (weighing (0 ∷ 0 ∷ []) (job_lends ∷ job_lends ∷ one_of_ones ∷ []) (lends ∷ [])))
      (weighing (0 ∷ 0 ∷ []) (pair_of_zeros ∷ pair_of_zeros ∷ one_of_zeros ∷ []) (has_nothing ∷ []))
      ∷ pool_cert
      (Standing (weighing (0 ∷ 0 ∷ []) (job_lends ∷ pair_of_ones ∷ one_of_zeros ∷ []) (lends ∷ [])))
      (weighing (0 ∷ 0 ∷ []) (job_lends ∷ pair_of_ones ∷ one_of_zeros ∷ []) (lends ∷ []))
      ∷ [];
  ranks = record { pools = 1 ∷ 0 ∷ []; reach = 1 ∷ 1 ∷ 1 ∷ []; levels = 2 ∷ 1 ∷ 0 ∷ [] };
}
