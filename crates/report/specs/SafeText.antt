-- The text for a plan that a certificate accepts. For each pool it has the bound of its queue, the shares in the bound, and the
-- pools for which its jobs wait.
use Rattle.std.specs.Prelude.{ℕ, ◌-◌, ◌==◌, Bool, not, ◌&&◌, if◌then◌else◌, List, [], ◌∷◌, ◌++◌, flat_map, codes, decimal, Option, Some, None, is_none, slice_get, slice_index_or}
use Rattle.std.specs.List.{enumerate_from, join_by, list_any}
use Rattle.job_bodies.specs.Plan.{Pool, Plan, client_at, pool_at}
use Rattle.job_bodies.specs.WellFormed.{has_no_max}
use Rattle.weights.specs.Vector.{Vector, vector_fits, total}
use Rattle.weights.specs.Bound.{bound_vector}
use Rattle.weights.specs.declared.bound.Bound.{Bound}
use Rattle.weights.specs.declared.bound.Bound.TheVariants.{Standing, Lifetime}
use Rattle.cert_text.specs.Cert.{PoolCert, Cert}
use Rattle.report.specs.LostSubmits.{lost_texts}
use Rattle.report.specs.Places.{bounds_jobs}
use Rattle.report.specs.Shares.{client_shares, worker_shares}
use Rattle.report.specs.SubmitsTo.{submits_text}
use Rattle.report.specs.Waits.{waits_for}

-- the parts, joined with commas
abbrev pub separated : List (List ℕ) → List ℕ
separated = join_by (λ part. part) (codes ", ")

-- ---- the bound of a queue

-- the text for `least` to `most` threads, such as `2 to 4 threads`, or `4 threads` if the two are equal
abbrev pub range_text : ℕ → ℕ → List ℕ
range_text least most =
    if least == most
    then (if least == 1 then codes "1 thread" else decimal least ++ codes " threads")
    else decimal least ++ codes " to " ++ decimal most ++ codes " threads"

-- the greatest number of threads of a pool whose core threads never time out: its maximum, or core if its queue is unbounded
abbrev pub most_threads : Pool → ℕ
most_threads pool = if pool.unbounded then pool.core else pool.max

-- the number of threads of a pool whose core threads may time out, such as `2 to 4 threads` or `2 or more threads`
unfoldable pub range_of_timeouts : Pool → List ℕ
range_of_timeouts pool = if has_no_max pool then decimal pool.core ++ codes " or more threads" else range_text pool.core pool.max

-- the threads of a pool whose core threads may time out, such as `2 to 4 threads that may time out`
abbrev pub timeouts_text : Pool → List ℕ
timeouts_text pool = range_of_timeouts pool ++ codes " that may time out"

-- the number of threads of the pool and, if core threads may time out, that they may
abbrev pub threads_text : Pool → List ℕ
threads_text pool = if pool.core_timeout then timeouts_text pool else range_text pool.core (most_threads pool)

-- the capacity of the pool's queue, or `unbounded`
abbrev pub queue_size : Pool → List ℕ
queue_size pool = if pool.unbounded then codes "unbounded" else decimal pool.queue

-- what the total n of a bound limits: the jobs in the queue at one time, or the jobs that are ever submitted to the pool
unfoldable pub most_text : Bound → ℕ → List ℕ
most_text (Standing v) n = if n == 1 then codes "up to 1 job waits at once" else codes "up to " ++ decimal n ++ codes " jobs wait at once"
most_text (Lifetime v) n = if n == 1 then codes "at most 1 job is ever given to it" else codes "at most " ++ decimal n ++ codes " jobs are ever given to it"

-- one share, or nothing if it is 0
abbrev pub share_text : ℕ → List ℕ → List ℕ → List (List ℕ)
share_text share from name = if share == 0 then [] else (decimal share ++ codes " " ++ from ++ name) ∷ []

-- the share of a client kind
abbrev pub client_part : Plan → ℕ × ℕ → List (List ℕ)
client_part plan (kind, share) = share_text share [] (client_at plan kind).name

-- the share of a pool's threads
abbrev pub worker_part : Plan → ℕ × ℕ → List (List ℕ)
worker_part plan (pool, share) = share_text share (codes "from threads of ") (pool_at plan pool).name

-- the shares of the client kinds
abbrev pub client_parts : Plan → List ℕ → List (List ℕ)
client_parts plan shares = flat_map (client_part plan) (enumerate_from 0 shares)

-- the shares of the pools
abbrev pub worker_parts : Plan → List ℕ → List (List ℕ)
worker_parts plan shares = flat_map (worker_part plan) (enumerate_from 0 shares)

-- the shares in the total of a vector
abbrev pub share_texts : Plan → Vector → List (List ℕ)
share_texts plan v = client_parts plan (client_shares plan v) ++ worker_parts plan (worker_shares plan v)

-- what the total n of the bound limits, and the shares in n
abbrev pub places_text : Plan → Bound → ℕ → List ℕ
places_text plan bound n =
    if n == 0 then codes "no job waits in it" else most_text bound n ++ codes " (" ++ separated (share_texts plan (bound_vector bound)) ++ codes ")"

-- the words before the bound of a queue: `never rejects: ` if the plan allows the pool to reject jobs and its queue is bounded.
-- Otherwise empty
abbrev pub never_text : Pool → List ℕ
never_text pool = if pool.may_reject && not pool.unbounded then codes "never rejects: " else []

-- the capacity of the pool's queue and its bound; empty if the vector of the bound does not fit the plan
abbrev pub bounded_text : Plan → Pool → Bound → List ℕ
bounded_text plan pool bound =
    if vector_fits plan (bound_vector bound)
    then codes ", queue " ++ queue_size pool ++ codes ": " ++ never_text pool ++ places_text plan bound (total plan (bound_vector bound))
    else []

-- the words that a pool may reject jobs and, if it is known, after how many events
abbrev pub rejects_text : Option ℕ → List ℕ
rejects_text None = codes "may reject (not shown)"
rejects_text (Some events) = codes "may reject: after " ++ decimal events ++ codes " events"

-- why an unbounded queue has no bound: the texts about submits to it whose jobs are never got, or that no bound is known
abbrev pub growth_text : List (List ℕ) → List ℕ
growth_text [] = codes "no bound is known"
growth_text (lost ∷ more) = codes "no bound: " ++ separated (lost ∷ more)

-- the text for pool p without a bound. If its queue is unbounded, it is the reason why there is no bound. Otherwise it says that
-- the pool may reject jobs
abbrev pub no_bound_text : Plan → ℕ → Pool → Option ℕ → List ℕ
no_bound_text plan p pool rejection = if pool.unbounded then growth_text (lost_texts plan p) else rejects_text rejection

-- the capacity of the queue of pool p, and the text for a pool without a bound
abbrev pub open_queue_text : Plan → ℕ → Pool → Option ℕ → List ℕ
open_queue_text plan p pool rejection = codes ", queue " ++ queue_size pool ++ codes ": " ++ no_bound_text plan p pool rejection

-- the capacity of the queue of pool p, and its bound. If there is no bound, or its total does not limit the jobs in an unbounded
-- queue, the text is `open_queue_text`
abbrev pub queue_text : Plan → ℕ → Pool → Option ℕ → Option Bound → List ℕ
queue_text plan p pool rejection None = open_queue_text plan p pool rejection
queue_text plan p pool rejection (Some bound) = if bounds_jobs plan p bound then bounded_text plan pool bound else open_queue_text plan p pool rejection

-- the line with the threads of pool p and its queue
abbrev pub bound_line : Plan → ℕ → Pool → Option ℕ → Option Bound → List ℕ
bound_line plan p pool rejection bound = pool.name ++ codes ": " ++ threads_text pool ++ queue_text plan p pool rejection bound ++ 10 ∷ []

-- ---- pools that wait for pools

-- a list of the name of `pool`, whose number is q, if jobs of pool p wait for jobs of pool q; otherwise empty
abbrev pub waited_name : Plan → ℕ → ℕ × Pool → List (List ℕ)
waited_name plan p (q, pool) = if waits_for plan p q then pool.name ∷ [] else []

abbrev pub or_no_pool : List (List ℕ) → List ℕ
or_no_pool [] = codes "no pool"
or_no_pool (name ∷ names) = separated (name ∷ names)

-- the names of the pools that jobs of pool p wait for
abbrev pub waited_names : Plan → ℕ → List (List ℕ)
waited_names plan p = flat_map (waited_name plan p) (enumerate_from 0 plan.pools)

abbrev pub waited_text : Plan → ℕ → List ℕ
waited_text plan p = or_no_pool (waited_names plan p)

-- the maximum number n of core threads that wait at counted gets at once, and the number of the others; empty if n is 0
abbrev pub waiting_text : Pool → ℕ → List ℕ
waiting_text pool n =
    if n == 0
    then []
    else codes ": at most " ++ (decimal n ++ (codes " of its " ++ (decimal pool.core ++ (codes " core threads wait at once where other jobs need a thread, " ++ (decimal (pool.core - n) ++ codes " left")))))

-- the text about core threads that wait at counted gets, for the total of the vector `blocked`; empty if it does not fit the plan
abbrev pub left_text : Plan → Pool → Vector → List ℕ
left_text plan pool blocked = if vector_fits plan blocked then waiting_text pool (total plan blocked) else []

-- the line with the pools for which the pool's jobs wait, and the maximum number of its core threads that wait
abbrev pub waits_line : Plan → ℕ → Pool → Vector → List ℕ
waits_line plan p pool blocked = codes "  " ++ pool.name ++ codes " waits for " ++ waited_text plan p ++ left_text plan pool blocked ++ 10 ∷ []

-- ---- the whole text

-- the lines of the submits to pool p, if its queue is bounded and has no bound in the certificate; otherwise empty
abbrev pub pool_submits : Plan → ℕ → Pool → Option Bound → List ℕ
pool_submits plan p pool bound = if is_none bound && not pool.unbounded then submits_text plan p else []

-- the lines of pool p, if the certificate has a part for it
abbrev pub part_lines : Plan → ℕ → Pool → Option ℕ → Option PoolCert → List ℕ
part_lines plan p pool rejection None = []
part_lines plan p pool rejection (Some part) = bound_line plan p pool rejection part.bound ++ (waits_line plan p pool part.blocked ++ pool_submits plan p pool part.bound)

-- the number of events after which pool p rejects a job; None if it is not known
abbrev pub rejection_at : List (Option ℕ) → ℕ → Option ℕ
rejection_at rejections p = slice_index_or rejections p None

abbrev pub pool_lines : Plan → Cert → List (Option ℕ) → ℕ × Pool → List ℕ
pool_lines plan cert rejections (p, pool) = part_lines plan p pool (rejection_at rejections p) (slice_get cert.pools p)

abbrev pub pools_text : Plan → Cert → List (Option ℕ) → List ℕ
pools_text plan cert rejections = flat_map (pool_lines plan cert rejections) (enumerate_from 0 plan.pools)

-- pool p has no bound, and its queue is bounded; if the certificate accepts the plan, p may reject jobs
abbrev pub may_reject_jobs : Plan → ℕ × PoolCert → Bool
may_reject_jobs plan (p, part) = is_none part.bound && not (pool_at plan p).unbounded

-- the words for what the certificate guarantees. If `may_reject_jobs` holds for a pool, they exclude submits to such pools
abbrev pub safe_words : Plan → Cert → List ℕ
safe_words plan cert =
    if list_any (may_reject_jobs plan) (enumerate_from 0 cert.pools)
    then codes "no submit to another pool is ever refused, and no jobs wait for each other forever"
    else codes "no submit is ever refused, and no jobs wait for each other forever"

-- the lines of each pool, and then what the certificate guarantees
abbrev pub safe_text : Plan → Cert → List (Option ℕ) → List ℕ
safe_text plan cert rejections = pools_text plan cert rejections ++ (safe_words plan cert ++ 10 ∷ [])
