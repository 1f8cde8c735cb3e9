-- The reasons why no choice of cores and queues, or of maximums, makes a certificate accept a plan.
use Rattle.std.specs.Prelude.{◌≡◌, ◌<◌, ℕ, not, ◌||◌, ◌&&◌, nat_lt, if◌then◌else◌, List, [], ◌∷◌, Option, Some, None}
use Rattle.std.specs.List.{enumerate_from, find}
use Rattle.std.specs.Option.{option_or, option_map}
use Rattle.job_bodies.specs.declared.limits.TheConstants.{MAX_SIZE}
use Rattle.job_bodies.specs.Plan.{Pool, Plan, pool_at}
use Rattle.job_bodies.specs.WellFormed.{IsWellFormed}
use Rattle.cert_text.specs.Cert.{Cert, pool_cert_at, cert_fits}
use Rattle.soundness.specs.declared.note.Note.{Note}
use Rattle.soundness.specs.Conditions.{failing}
use Rattle.size_search.specs.declared.fit_error.FitError.{FitError}
use Rattle.size_search.specs.declared.fit_error.FitError.TheVariants.{Shape, Condition, Core, Queue, CoreTimeout}
use Rattle.size_search.specs.Fitted.{is_total, has_queue, has_threads, raised}
use Rattle.size_search.specs.Widened.{widened, IsWideFit}

-- the first failing condition that does not depend on cores and queues
abbrev pub failing_elsewhere : Plan → Cert → Option Note
failing_elsewhere plan cert = find (λ note. not (is_total note.place)) (failing plan cert)

-- the reason why the raised sizes of a pool are invalid, or None if they are valid:
--
-- - `Core` if the core is above the maximum. Also `Core` if the maximum is above the limit, because it was raised for the core.
--   (The maximum of a pool whose core threads may time out is not raised.)
-- - `Queue` if the queue is above the limit
abbrev pub unfit_pool : ℕ → Pool → Option FitError
unfit_pool p pool = if nat_lt pool.max pool.core || nat_lt MAX_SIZE pool.max && not pool.core_timeout then Some (Core p) else (if nat_lt MAX_SIZE pool.queue then Some (Queue p) else None)

-- the reason for the first pool of the list whose sizes are invalid, or None
abbrev pub first_unfit : List (ℕ × Pool) → Option FitError
first_unfit [] = None
first_unfit (entry ∷ entries) = option_or (unfit_pool entry.0 entry.1) (first_unfit entries)

-- the reason for the first pool of the list whose queue is smaller than its bound requires, or None
abbrev pub first_tight : Plan → Cert → List (ℕ × Pool) → Option FitError
first_tight plan cert [] = None
first_tight plan cert (entry ∷ entries) = if has_queue plan (pool_cert_at cert entry.0).bound entry.1 then first_tight plan cert entries else Some (Queue entry.0)

-- the reason for the first pool of the list that has fewer threads than its blocked vector requires, or None
abbrev pub first_short : Plan → Cert → List (ℕ × Pool) → Option FitError
first_short plan cert [] = None
first_short plan cert (entry ∷ entries) = if has_threads plan (pool_cert_at cert entry.0).blocked entry.1 then first_short plan cert entries else Some (CoreTimeout entry.0)

-- the reason why the sizes of the raised plan are not enough, or None. An invalid size takes precedence over a queue that is too
-- small, and such a queue takes precedence over too few threads.
abbrev pub unfit_sizes : Plan → Cert → Option FitError
unfit_sizes plan cert =
    option_or (first_unfit (enumerate_from 0 (raised plan cert).pools))
    (option_or (first_tight plan cert (enumerate_from 0 (raised plan cert).pools)) (first_short plan cert (enumerate_from 0 (raised plan cert).pools)))

-- the reason why the plan has no fitted plan, or None. A failing condition that does not depend on cores and queues takes
-- precedence over the sizes.
abbrev pub why_unfit : Plan → Cert → Option FitError
why_unfit plan cert = if cert_fits plan cert then option_or (option_map Condition (failing_elsewhere plan cert)) (unfit_sizes plan cert) else Some Shape

-- the reason why the plan has no widened plan, or None
abbrev pub why_not_widened : Plan → Cert → Option FitError
why_not_widened plan cert = if cert_fits plan cert then first_unfit (enumerate_from 0 (widened plan cert).pools) else Some Shape

-- if the plan is not fitted because of the core of a pool, this pool has a larger maximum in each plan that satisfies `IsWideFit`
abbrev pub ReportedCoresNeedLargerMaxes : Type 0
ReportedCoresNeedLargerMaxes = (plan other : Plan) (cert : Cert) (p : ℕ) → IsWellFormed plan → why_unfit plan cert ≡ Some (Core p) → IsWideFit plan cert other → (pool_at plan p).max < (pool_at other p).max
