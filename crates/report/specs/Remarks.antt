-- The remarks of an answer: its faults, or its warnings and its finding.
use Rattle.std.specs.Prelude.{◌≡◌, ℕ, ◌==◌, ◌||◌, if◌then◌else◌, List, [], ◌∷◌, ◌++◌, map, codes, decimal, slice_get, slice_index_or, Option, Some, None, string_bytes}
use Rattle.std.specs.List.{flat_map, enumerate_from}
use Rattle.std.specs.Str.Lines.{lines}
use Rattle.job_bodies.specs.Plan.{Pool, Plan}
use Rattle.cert_text.specs.Cert.{Cert}
use Rattle.plan_text.specs.declared.place.TextPlace.{TextPlace}
use Rattle.size_search.specs.declared.found.NoSizes.{NoSizes}
use Rattle.size_search.specs.declared.found.SizesFound.{SizesFound}
use Rattle.size_search.specs.declared.found.SizesFound.TheVariants.{Found, NotFound}
use Rattle.counterexample.specs.declared.ending.Ending.{Ending}
use Rattle.counterexample.specs.declared.ending.Ending.TheVariants.{Refused, StuckForever, StuckNow}
use Rattle.counterexample.specs.declared.witness.Witness.{Witness}
use Rattle.report.specs.Description.{IsDescription}
use Rattle.diagnostics.specs.declared.diagnostic.Diagnostic.{Diagnostic}
use Rattle.diagnostics.specs.declared.diagnostic.Faults.{Faults}
use Rattle.diagnostics.specs.declared.warnings.Warning.{Warning}
use Rattle.diagnostics.specs.declared.entry_places.PlanPlaces.{PlanPlaces}
use Rattle.diagnostics.specs.declared.entry_places.PoolPlaces.{PoolPlaces}
use Rattle.report.specs.declared.annotation.Rule.{Rule}
use Rattle.report.specs.declared.annotation.Rule.TheVariants as rule
use Rattle.report.specs.declared.finding.PlanFinding.{PlanFinding}
use Rattle.report.specs.declared.finding.PlanFinding.TheVariants.{Safe, NotSafe, NotDecided}
use Rattle.report.specs.AdviceText.{open_words}
use Rattle.report.specs.Annotations.{Remark}
use Rattle.report.specs.Cause.{cause_words}
use Rattle.report.specs.JsonPlaces.{pool_places_at, cause_place}
use Rattle.report.specs.SafeText.{safe_words}
use Rattle.report.specs.Sizes.{has_useless_max, max_size}

-- a list of one remark
abbrev pub one : Rule → List ℕ → Option TextPlace → List Remark
one r message place = record { rule = r; message = message; place = place } ∷ []

-- ---- faults

abbrev pub fault_remark : Diagnostic → Remark
fault_remark fault = record { rule = rule.Fault fault.fault.number; message = string_bytes fault.what; place = Some fault.place }

abbrev pub each_fault : List Diagnostic → List Remark
each_fault = map fault_remark

-- the words for a number of faults that are left out
abbrev pub omitted_words : ℕ → List ℕ
omitted_words omitted = if omitted == 1 then codes "... and 1 more fault" else codes "... and " ++ (decimal omitted ++ codes " more faults")

-- the remark about faults that are left out, if there are any
abbrev pub omitted_remarks : ℕ → List Remark
omitted_remarks omitted = if omitted == 0 then [] else one rule.MoreFaults (omitted_words omitted) None

-- a remark for each fault that is reported, and one for those that are left out
abbrev pub fault_remarks : Faults → List Remark
fault_remarks faults = fault_remark faults.first ∷ (each_fault faults.others.items ++ omitted_remarks faults.omitted)

-- the remark about a fault that has no place in the plan's text
abbrev pub single_fault : ℕ → List ℕ → List Remark
single_fault number words = one (rule.Fault number) words None

-- ---- warnings

abbrev pub warning_remark : Warning → Remark
warning_remark warning = record { rule = rule.Warning warning.lint; message = string_bytes warning.what; place = Some warning.place }

abbrev pub warning_remarks : List Warning → List Remark
warning_remarks = map warning_remark

-- ---- sizes to change, or the cause why there are none

-- the words for a size that changes, such as `pool web: queue 10 -> 13`
abbrev pub change_words : List ℕ → List ℕ → List ℕ → List ℕ → List ℕ
change_words pool key declared fit = codes "pool " ++ (pool ++ (codes ": " ++ (key ++ (codes " " ++ (declared ++ (codes " -> " ++ fit))))))

-- the remark about the size `key` of a pool; none if the size does not change. `size` has the declared value and the value that
-- was found
abbrev pub change_remarks : Rule → Option TextPlace → List ℕ → List ℕ → ℕ × ℕ → List Remark
change_remarks r place pool key size = if size.0 == size.1 then [] else one r (change_words pool key (decimal size.0) (decimal size.1)) place

abbrev pub max_words : Pool → Pool → List ℕ
max_words declared fit = change_words declared.name (codes "max") (max_size declared) (max_size fit)

-- the remark about the maximum; none if the maximum does not change or has no effect
abbrev pub max_remarks : Rule → Option TextPlace → Pool → Pool → List Remark
max_remarks r place declared fit = if has_useless_max fit || declared.max == fit.max then [] else one r (max_words declared fit) place

-- the remark about the capacity of the queue; none if the capacity does not change, or if the queue is unbounded
abbrev pub queue_remarks : Rule → Option TextPlace → Pool → Pool → List Remark
queue_remarks r place declared fit = if fit.unbounded then [] else change_remarks r place declared.name (codes "queue") (declared.queue, fit.queue)

-- the remarks about the maximum and the queue of a pool
abbrev pub limit_remarks : Rule → PoolPlaces → Pool → Pool → List Remark
limit_remarks r places declared fit = max_remarks r places.max declared fit ++ queue_remarks r places.queue declared fit

abbrev pub pool_remarks : Rule → PoolPlaces → Pool → Pool → List Remark
pool_remarks r places declared fit = change_remarks r places.core declared.name (codes "core") (declared.core, fit.core) ++ limit_remarks r places declared fit

abbrev pub declared_remarks : Rule → PoolPlaces → Option Pool → Pool → List Remark
declared_remarks r places None fit = []
declared_remarks r places (Some declared) fit = pool_remarks r places declared fit

-- the remarks about the sizes of pool p that change; `fit` is the pool with the sizes that were found
abbrev pub fitted_remarks : Rule → PlanPlaces → Plan → ℕ × Pool → List Remark
fitted_remarks r places plan (p, fit) = declared_remarks r (pool_places_at places.pools.items p) (slice_get plan.pools p) fit

abbrev pub changes_remarks : Rule → PlanPlaces → Plan → List Pool → List Remark
changes_remarks r places plan fitted = flat_map (fitted_remarks r places plan) (enumerate_from 0 fitted)

abbrev pub cause_remarks : Rule → PlanPlaces → Plan → NoSizes → List Remark
cause_remarks r places plan cause = one r (cause_words plan cause) (cause_place places cause)

abbrev pub sizes_remarks : Rule → PlanPlaces → Plan → SizesFound → List Remark
sizes_remarks r places plan (Found fit cert) = changes_remarks r places plan fit.pools
sizes_remarks r places plan (NotFound cause) = cause_remarks r places plan cause

-- ---- findings

abbrev pub safe_remarks : Plan → Cert → List Remark
safe_remarks plan cert = one rule.Safe (safe_words plan cert) None

abbrev pub not_decided_remarks : PlanPlaces → Plan → SizesFound → List Remark
not_decided_remarks places plan sizes = one rule.NotDecided (open_words sizes) None ++ sizes_remarks rule.NotDecided places plan sizes

abbrev pub first_line : List ℕ → List ℕ
first_line text = slice_index_or (lines text) 0 []

-- the place of the name of the pool that refuses a submit; None if the witness ends in another way
abbrev pub ending_place : PlanPlaces → Ending → Option TextPlace
ending_place places (Refused p) = (pool_places_at places.pools.items p).name
ending_place places (StuckForever members reason) = None
ending_place places (StuckNow members) = None

abbrev pub not_safe_remarks : PlanPlaces → Plan → Witness → SizesFound → List ℕ → List Remark
not_safe_remarks places plan witness sizes description =
    one rule.NotSafe (first_line description) (ending_place places witness.ending) ++ sizes_remarks rule.NotSafe places plan sizes

-- the remarks of the answer NOT SAFE: the warnings, the first line of the witness's description, and the sizes
pub record AreNotSafe (places : PlanPlaces) (plan : Plan) (witness : Witness) (sizes : SizesFound) (warnings : List Warning) (remarks : List Remark) : Type 0 where
  pub description : List ℕ
  pub is_description : IsDescription plan witness description
  pub are : remarks ≡ warning_remarks warnings ++ not_safe_remarks places plan witness sizes description

-- the remarks of an answer: one for each warning, and then those about the finding
abbrev pub AreRemarks : PlanPlaces → Plan → PlanFinding → List Warning → List Remark → Type 0
AreRemarks places plan (Safe cert rejections) warnings remarks = remarks ≡ warning_remarks warnings ++ safe_remarks plan cert
AreRemarks places plan (NotSafe witness sizes) warnings remarks = AreNotSafe places plan witness sizes warnings remarks
AreRemarks places plan (NotDecided sizes) warnings remarks = remarks ≡ warning_remarks warnings ++ not_decided_remarks places plan sizes
