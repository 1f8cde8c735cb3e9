-- Texts whose plan or fault is computed from the definitions.
use Rattle.std.proofs.Common.{◌≡◌, ℕ, List, [], ◌∷◌, ◌++◌, true, false, Ok, Err, codes, refl}
use Rattle.job_bodies.specs.declared.action.Action.TheVariants.{Work, Submit, Get}
use Rattle.job_bodies.specs.declared.fault.Part.TheVariants as part
use Rattle.job_bodies.specs.declared.limits.TheConstants.{MAX_THREADS}
use Rattle.job_bodies.specs.Plan.{Plan}
use Rattle.job_bodies.specs.Checks.{at_text, at_entry, at_action}
use Rattle.plan_text.specs.PlanOf.{plan_of}
use Rattle.plan_text.proofs.OnLiterals.{plan_on_literals}

abbrev pool : List ℕ
pool = codes "[[pool]]\nname = \"p\"\ncore = 1\nmax = 1\nqueue = 2\n"

abbrev class : List ℕ
class = codes "[[class]]\nname = \"a\"\npool = \"p\"\nbody = [\"work 1\"]\n"

abbrev client : List ℕ
client = codes "[[client]]\nname = \"c\"\ncount = 2\nrepeat = true\nbody = [\"submit a as x\", \"get x\"]\n"

abbrev plan : Plan
plan = record {
  pools = record { name = codes "p"; core = 1; max = 1; queue = 2; prestart = false; may_reject = false; unbounded = false; core_timeout = false } ∷ [];
  classes = record { name = codes "a"; pool = 0; body = Work 1 ∷ [] } ∷ [];
  clients = record { name = codes "c"; count = 2; repeat = true; body = Submit 0 ∷ Get 0 ∷ [] } ∷ [];
}

abbrev again : Plan
again = record {
  pools = plan.pools;
  classes = plan.classes;
  clients = record { name = codes "c"; count = 2; repeat = true; body = Submit 0 ∷ Get 0 ∷ Submit 0 ∷ Get 2 ∷ [] } ∷ [];
}

-- the plan of a text with a pool, a class and a client kind that submits and gets
one_of_each : plan_of (pool ++ class ++ client) ≡ Ok plan
unfolding plan_on_literals
one_of_each = refl

abbrev prestarted : Plan
prestarted = record { pools = record { name = codes "p"; core = 1; max = 1; queue = 2; prestart = true; may_reject = false; unbounded = false; core_timeout = false } ∷ []; classes = []; clients = [] }

-- the plan of a text with a pool whose core threads are prestarted
prestarted_pool : plan_of (pool ++ codes "prestart = true\n") ≡ Ok prestarted
unfolding plan_on_literals
prestarted_pool = refl

abbrev rejecting : Plan
rejecting = record { pools = record { name = codes "p"; core = 1; max = 1; queue = 2; prestart = false; may_reject = true; unbounded = false; core_timeout = false } ∷ []; classes = []; clients = [] }

-- the plan of a text with a pool that may reject jobs
rejecting_pool : plan_of (pool ++ codes "may_reject = true\n") ≡ Ok rejecting
unfolding plan_on_literals
rejecting_pool = refl

abbrev timed : Plan
timed = record { pools = record { name = codes "p"; core = 1; max = 1; queue = 2; prestart = false; may_reject = false; unbounded = false; core_timeout = true } ∷ []; classes = []; clients = [] }

-- the plan of a text with a pool whose core threads may time out
timed_pool : plan_of (pool ++ codes "core_timeout = true\n") ≡ Ok timed
unfolding plan_on_literals
timed_pool = refl

abbrev pool_of : List ℕ → List ℕ → List ℕ
pool_of max queue = codes "[[pool]]\nname = \"p\"\ncore = 2\nmax = " ++ max ++ codes "\nqueue = " ++ queue ++ codes "\n"

abbrev unbounded : Plan
unbounded = record { pools = record { name = codes "p"; core = 2; max = 2; queue = 1000000; prestart = false; may_reject = false; unbounded = true; core_timeout = false } ∷ []; classes = []; clients = [] }

-- the plan of a text with a pool that has an unbounded queue and an unbounded maximum
unbounded_pool : plan_of (pool_of (codes "\"unbounded\"") (codes "\"unbounded\"")) ≡ Ok unbounded
unfolding plan_on_literals
unbounded_pool = refl

-- a number above core as the maximum of a pool with an unbounded queue gives the same plan
unused_maximum : plan_of (pool_of (codes "7") (codes "\"unbounded\"")) ≡ Ok unbounded
unfolding plan_on_literals
unused_maximum = refl

abbrev timed_up_to : ℕ → Plan
timed_up_to max = record { pools = record { name = codes "p"; core = 2; max = max; queue = 1000000; prestart = false; may_reject = false; unbounded = true; core_timeout = true } ∷ []; classes = []; clients = [] }

-- the plan of a text with a pool that has an unbounded queue and core threads that may time out: its maximum is the number of the text
used_maximum : plan_of (pool_of (codes "7") (codes "\"unbounded\"") ++ codes "core_timeout = true\n") ≡ Ok (timed_up_to 7)
unfolding plan_on_literals
used_maximum = refl

-- the plan of such a text with an unbounded maximum
no_maximum : plan_of (pool_of (codes "\"unbounded\"") (codes "\"unbounded\"") ++ codes "core_timeout = true\n") ≡ Ok (timed_up_to MAX_THREADS)
unfolding plan_on_literals
no_maximum = refl

-- the fault of such a text with the maximum that an unbounded maximum gives, as a number
numbered_maximum : plan_of (pool_of (codes "268435455") (codes "\"unbounded\"") ++ codes "core_timeout = true\n") ≡ Err (at_entry part.Pool 0 8)
unfolding plan_on_literals
numbered_maximum = refl

-- the fault of such a text with a maximum below core
small_used_maximum : plan_of (pool_of (codes "1") (codes "\"unbounded\"") ++ codes "core_timeout = true\n") ≡ Err (at_entry part.Pool 0 8)
unfolding plan_on_literals
small_used_maximum = refl

-- the fault of a maximum below core over an unbounded queue
small_unused_maximum : plan_of (pool_of (codes "1") (codes "\"unbounded\"")) ≡ Err (at_entry part.Pool 0 8)
unfolding plan_on_literals
small_unused_maximum = refl

-- the fault of a negative maximum over an unbounded queue
negative_unused_maximum : plan_of (pool_of (codes "-7") (codes "\"unbounded\"")) ≡ Err (at_entry part.Pool 0 8)
unfolding plan_on_literals
negative_unused_maximum = refl

-- the fault of an unbounded maximum over a queue with a capacity
unbounded_maximum : plan_of (pool_of (codes "\"unbounded\"") (codes "3")) ≡ Err (at_entry part.Pool 0 8)
unfolding plan_on_literals
unbounded_maximum = refl

-- the fault of such a maximum if core threads may time out
unbounded_used_maximum : plan_of (pool_of (codes "\"unbounded\"") (codes "3") ++ codes "core_timeout = true\n") ≡ Err (at_entry part.Pool 0 8)
unfolding plan_on_literals
unbounded_used_maximum = refl

-- the fault of a queue that is a string other than `unbounded`
no_size : plan_of (pool_of (codes "2") (codes "\"Unbounded\"")) ≡ Err (at_entry part.Pool 0 5)
unfolding plan_on_literals
no_size = refl

-- the fault of an unbounded core
unbounded_core : plan_of (codes "[[pool]]\nname = \"p\"\ncore = \"unbounded\"\nmax = 1\nqueue = 2\n") ≡ Err (at_entry part.Pool 0 5)
unfolding plan_on_literals
unbounded_core = refl

-- the fault of a value that should be a boolean and is not
no_truth : plan_of (pool ++ codes "prestart = 1\n") ≡ Err (at_entry part.Pool 0 5)
unfolding plan_on_literals
no_truth = refl

-- the fault of a `may_reject` that is not a boolean
no_truth_of_may_reject : plan_of (pool ++ codes "may_reject = 1\n") ≡ Err (at_entry part.Pool 0 5)
unfolding plan_on_literals
no_truth_of_may_reject = refl

-- the fault of a `core_timeout` that is not a boolean
no_truth_of_core_timeout : plan_of (pool ++ codes "core_timeout = 1\n") ≡ Err (at_entry part.Pool 0 5)
unfolding plan_on_literals
no_truth_of_core_timeout = refl

abbrev client_with : List ℕ → List ℕ
client_with body = codes "[[client]]\nname = \"c\"\ncount = 2\nbody = [" ++ body ++ codes "]\n"

-- the fault of a second get of a slot, which the first get has emptied
empty_slot : plan_of (pool ++ class ++ client_with (codes "\"submit a as x\", \"get x\", \"get x\"")) ≡ Err (at_action part.Client 0 2 13)
unfolding plan_on_literals
empty_slot = refl

-- the fault of a submit that fills a filled slot
open_slot : plan_of (pool ++ class ++ client_with (codes "\"submit a as x\", \"submit a as x\"")) ≡ Err (at_action part.Client 0 1 12)
unfolding plan_on_literals
open_slot = refl

-- a slot can be filled again after a get has emptied it
slot_again : plan_of (pool ++ class ++ codes "[[client]]\nname = \"c\"\ncount = 2\nrepeat = true\nbody = [\"submit a as x\", \"get x\", \"submit a as x\", \"get x\"]\n") ≡ Ok again
unfolding plan_on_literals
slot_again = refl

-- the fault of a maximum below core
small_maximum : plan_of (codes "[[pool]]\nname = \"p\"\ncore = 2\nmax = 1\nqueue = 2\n") ≡ Err (at_entry part.Pool 0 8)
unfolding plan_on_literals
small_maximum = refl

-- the fault of 0 units of work
no_work : plan_of (pool ++ codes "[[class]]\nname = \"a\"\npool = \"p\"\nbody = [\"work 0\"]\n") ≡ Err (at_action part.Class 0 0 11)
unfolding plan_on_literals
no_work = refl

-- the fault of bytes that are not UTF-8
no_text : plan_of (255 ∷ []) ≡ Err (at_text 1)
unfolding plan_on_literals
no_text = refl
