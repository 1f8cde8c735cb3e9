-- The advice of an answer: the reasons for the sizes that were found, or what to do if no sizes were found.
use Rattle.std.specs.Prelude.{ℕ, ◌-◌, ◌==◌, ◌||◌, if◌then◌else◌, List, [], ◌∷◌, ◌++◌, flat_map, codes, decimal}
use Rattle.job_bodies.specs.Plan.{Pool, Plan}
use Rattle.size_search.specs.declared.cause.Cause.TheVariants.{Circle, ClientNeverGets, ClassNeverGets, PoolWaitsForItself}
use Rattle.size_search.specs.declared.found.NoSizes.{NoSizes}
use Rattle.size_search.specs.declared.found.NoSizes.TheVariants.{Cause, TooLarge}
use Rattle.size_search.specs.declared.found.SizesFound.{SizesFound}
use Rattle.size_search.specs.declared.found.SizesFound.TheVariants.{Found, NotFound}
use Rattle.report.specs.Sizes.{both_pools}

-- the reason for this core size: up to `core` - 1 jobs of the pool may wait for jobs at once, and one more thread is left
abbrev pub core_line : List ℕ → ℕ → List ℕ
core_line name core =
    name ++ (codes ": up to " ++ (decimal (core - 1) ++ (codes " of its jobs may wait for other jobs at once, and core " ++ (decimal core ++ (codes " leaves a thread" ++ 10 ∷ [])))))

-- the reason for the core size that was found; empty if the core size does not change
abbrev pub core_reason : Pool → Pool → List ℕ
core_reason declared fit = if declared.core == fit.core then [] else core_line declared.name fit.core

-- the reason for the queue capacity that was found; empty if the capacity does not change, or if the queue is unbounded
abbrev pub queue_reason : Pool → Pool → List ℕ
queue_reason declared fit =
    if fit.unbounded || declared.queue == fit.queue then [] else declared.name ++ (codes ": up to " ++ (decimal fit.queue ++ (codes " jobs may wait in its queue at once" ++ 10 ∷ [])))

abbrev pub pool_reasons : Pool × Pool → List ℕ
pool_reasons both = core_reason both.0 both.1 ++ queue_reason both.0 both.1

-- the reasons for each core size and each queue capacity that changes
abbrev pub reasons_text : Plan → Plan → List ℕ
reasons_text declared fit = flat_map pool_reasons (both_pools declared fit)

-- the advice for jobs that are never got
abbrev pub not_got_text : List ℕ
not_got_text = codes "no certificate accepts any sizes as long as these jobs are never got: get the result, or bound them by permits (docs/PERMITS.md)" ++ 10 ∷ []

-- the advice for a pool whose last thread can wait for a job of the same pool, because its core threads may time out
abbrev pub core_timeout_text : List ℕ
core_timeout_text =
    codes "no certificate accepts any sizes while core threads of this pool may time out: do not allow it (Spring Boot: spring.task.execution.pool.allow-core-thread-timeout=false), or give the inner jobs a pool of their own"
    ++ 10 ∷ []

-- the advice for the reason why no sizes were found
abbrev pub cause_advice_text : NoSizes → List ℕ
cause_advice_text (Cause (Circle k)) = codes "no certificate accepts any sizes while jobs submit jobs of their own class: write the levels as classes of their own" ++ 10 ∷ []
cause_advice_text (Cause (ClientNeverGets c i)) = not_got_text
cause_advice_text (Cause (ClassNeverGets k i)) = not_got_text
cause_advice_text (Cause (PoolWaitsForItself p)) = core_timeout_text
cause_advice_text (TooLarge p) = codes "fewer clients, or bodies with fewer open jobs at a time, need less" ++ 10 ∷ []

abbrev pub advice_text : Plan → SizesFound → List ℕ
advice_text plan (Found fit cert) = reasons_text plan fit
advice_text plan (NotFound cause) = cause_advice_text cause

-- the words that say that the declared sizes may be safe
abbrev pub maybe_words : List ℕ
maybe_words = codes "neither a certificate for the declared sizes nor a counterexample was found: the sizes may be safe"

-- the words that say that no counterexample was found, and no certificate for the declared sizes or for any sizes
abbrev pub open_words : SizesFound → List ℕ
open_words (NotFound (Cause cause)) = codes "no certificate accepts this plan with any sizes, and no counterexample was found"
open_words (NotFound (TooLarge p)) = maybe_words
open_words (Found fit cert) = maybe_words

-- the last line of the answer NOT DECIDED
abbrev pub open_text : SizesFound → List ℕ
open_text sizes = open_words sizes ++ 10 ∷ []
