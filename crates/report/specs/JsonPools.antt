-- The pools of an answer as JSON: their sizes, and the bounds and the shares that a certificate gives.
use Rattle.std.specs.Prelude.{ℕ, ◌-◌, ◌==◌, true, if◌then◌else◌, List, [], ◌∷◌, map, flat_map, codes, Option, Some, None, slice_get}
use Rattle.std.specs.List.{enumerate_from}
use Rattle.serde_json.specs.Data.{Data, Members, null, boolean, number, unsigned, string, array, object, member, no_members, put}
use Rattle.serde_json.specs.View.{items_of}
use Rattle.job_bodies.specs.Plan.{Pool, Plan, client_at, pool_at, least_threads}
use Rattle.weights.specs.Vector.{Vector, vector_fits, total}
use Rattle.weights.specs.Bound.{bound_vector}
use Rattle.weights.specs.declared.bound.Bound.{Bound}
use Rattle.weights.specs.declared.bound.Bound.TheVariants.{Standing, Lifetime}
use Rattle.cert_text.specs.Cert.{PoolCert}
use Rattle.report.specs.JsonObject.{with_flag}
use Rattle.report.specs.JsonPlan.{max_data, queue_data}
use Rattle.report.specs.Places.{bounds_jobs, total_of}
use Rattle.report.specs.SafeText.{waited_names, rejection_at}
use Rattle.report.specs.Shares.{client_shares, worker_shares}

-- ---- the bound of a queue, and the shares in it

unfoldable pub share_data : ℕ → List ℕ → Data
share_data jobs name = object (member (codes "jobs") (number (unsigned jobs)) (member (codes "name") (string name) no_members))

-- one share, or nothing if it is 0
abbrev pub share_of : ℕ → List ℕ → List Data
share_of share name = if share == 0 then [] else share_data share name ∷ []

-- the share of a client kind
abbrev pub client_share : Plan → ℕ × ℕ → List Data
client_share plan (kind, share) = share_of share (client_at plan kind).name

-- the share of a pool's threads
abbrev pub thread_share : Plan → ℕ × ℕ → List Data
thread_share plan (pool, share) = share_of share (pool_at plan pool).name

abbrev pub clients_data : Plan → List ℕ → Data
clients_data plan shares = array (items_of (flat_map (client_share plan) (enumerate_from 0 shares)))

abbrev pub threads_data : Plan → List ℕ → Data
threads_data plan shares = array (items_of (flat_map (thread_share plan) (enumerate_from 0 shares)))

-- the kind of a bound: `standing` if its total limits the jobs in the queue at one time, and `lifetime` if it limits the jobs
-- that are ever submitted to the pool
abbrev pub kind_of : Bound → List ℕ
kind_of (Standing v) = codes "standing"
kind_of (Lifetime v) = codes "lifetime"

unfoldable pub bound_object : Data → List ℕ → Data → ℕ → Data
bound_object clients kind threads n =
    object (member (codes "clients") clients
    (member (codes "kind") (string kind)
    (member (codes "threads") threads
    (member (codes "total") (number (unsigned n)) no_members))))

-- the object of a bound; v is its vector, and `kind` is `standing` or `lifetime`
abbrev pub vector_data : Plan → List ℕ → Vector → Data
vector_data plan kind v = bound_object (clients_data plan (client_shares plan v)) kind (threads_data plan (worker_shares plan v)) (total plan v)

-- the bound of the queue; null if its vector does not fit the plan
abbrev pub fitting_data : Plan → Bound → Data
fitting_data plan bound = if vector_fits plan (bound_vector bound) then vector_data plan (kind_of bound) (bound_vector bound) else null

-- the bound of the queue of pool p. Null if there is no bound, if its vector does not fit the plan, or if its total does not
-- limit the jobs in an unbounded queue
abbrev pub bound_data : Plan → ℕ → Option Bound → Data
bound_data plan p None = null
bound_data plan p (Some bound) = if bounds_jobs plan p bound then fitting_data plan bound else null

-- ---- threads that wait

unfoldable pub waiting_data : ℕ → ℕ → Data
waiting_data left most = object (member (codes "left") (number (unsigned left)) (member (codes "most") (number (unsigned most)) no_members))

-- an object with two numbers; null if the maximum is not known. `most` is the maximum number of core threads that wait at counted
-- gets at once. `left` is the number of threads that the pool has at least while a job is queued (`least_threads`), minus `most`
abbrev pub blocked_of : Pool → Option ℕ → Data
blocked_of pool None = null
blocked_of pool (Some most) = waiting_data (least_threads pool - most) most

abbrev pub blocked_data : Plan → Pool → Vector → Data
blocked_data plan pool v = blocked_of pool (total_of plan v)

-- the names of the pools that jobs of pool p wait for
abbrev pub waits_data : Plan → ℕ → Data
waits_data plan p = array (items_of (map string (waited_names plan p)))

-- ---- pools

unfoldable pub sized_members : Data → Data → Pool → Data → Members
sized_members blocked bound pool waits_for =
    member (codes "blocked") blocked
    (member (codes "bound") bound
    (member (codes "core") (number (unsigned pool.core))
    (member (codes "max") (max_data pool)
    (member (codes "name") (string pool.name)
    (member (codes "prestart") (boolean pool.prestart)
    (member (codes "queue") (queue_data pool)
    (member (codes "waits_for") waits_for no_members)))))))

-- the members of a pool, with `core_timeout` only if its core threads may time out
abbrev pub pool_members : Data → Data → Pool → Data → Members
pool_members blocked bound pool waits_for = with_flag (codes "core_timeout") pool.core_timeout (sized_members blocked bound pool waits_for)

-- the object of a pool that the plan allows to reject jobs
abbrev pub rejecting_object : Data → Data → Pool → Data → Data → Data
rejecting_object blocked bound pool rejects_after waits_for =
    object (put (codes "rejects_after") rejects_after (put (codes "may_reject") (boolean true) (pool_members blocked bound pool waits_for)))

-- the number of events after which a pool rejects a job; null if it is not known
abbrev pub rejects_data : Option ℕ → Data
rejects_data None = null
rejects_data (Some events) = number (unsigned events)

-- the object of pool p. It has the members `may_reject` and `rejects_after` only if the plan allows p to reject jobs
abbrev pub sized_pool : Plan → ℕ → Pool → Option ℕ → Data → Data → Data
sized_pool plan p pool rejection blocked bound =
    if pool.may_reject then rejecting_object blocked bound pool (rejects_data rejection) (waits_data plan p) else object (pool_members blocked bound pool (waits_data plan p))

-- the object of pool p; `Some` has the certificate's part for p
abbrev pub pool_data : Plan → ℕ → Pool → Option ℕ → Option PoolCert → Data
pool_data plan p pool rejection None = sized_pool plan p pool rejection null null
pool_data plan p pool rejection (Some part) = sized_pool plan p pool rejection (blocked_data plan pool part.blocked) (bound_data plan p part.bound)

abbrev pub pool_entry : Plan → List PoolCert → List (Option ℕ) → ℕ × Pool → Data
pool_entry plan parts rejections (p, pool) = pool_data plan p pool (rejection_at rejections p) (slice_get parts p)

-- the list of the pools. `parts` has the certificate's part for each pool, and `rejections` the number of events after which it
-- rejects a job
abbrev pub pools_data : Plan → List PoolCert → List (Option ℕ) → Data
pools_data plan parts rejections = array (items_of (map (pool_entry plan parts rejections) (enumerate_from 0 plan.pools)))
