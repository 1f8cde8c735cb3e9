-- The sizes that were found, or the cause why no sizes were found, as JSON.
use Rattle.std.specs.Prelude.{ℕ, ◌==◌, ◌||◌, if◌then◌else◌, List, [], ◌∷◌, ◌++◌, map, codes, Option, Some, None, slice_get}
use Rattle.std.specs.List.{enumerate_from}
use Rattle.serde_json.specs.Data.{Data, null, number, unsigned, string, array, object, member, no_members}
use Rattle.serde_json.specs.View.{items_of}
use Rattle.job_bodies.specs.Plan.{Pool, Plan, pool_at, class_at, client_at}
use Rattle.plan_text.specs.declared.place.TextPlace.{TextPlace}
use Rattle.size_search.specs.declared.cause.Cause.TheVariants.{Circle, ClientNeverGets, ClassNeverGets, PoolWaitsForItself}
use Rattle.size_search.specs.declared.found.NoSizes.{NoSizes}
use Rattle.size_search.specs.declared.found.NoSizes.TheVariants.{Cause, TooLarge}
use Rattle.size_search.specs.declared.found.SizesFound.{SizesFound}
use Rattle.size_search.specs.declared.found.SizesFound.TheVariants.{Found, NotFound}
use Rattle.diagnostics.specs.declared.entry_places.PoolPlaces.{PoolPlaces}
use Rattle.diagnostics.specs.declared.entry_places.PlanPlaces.{PlanPlaces}
use Rattle.report.specs.Cause.{cause_words}
use Rattle.report.specs.JsonPlan.{max_data, queue_data}
use Rattle.report.specs.JsonPlaces.{line_data, column_data, pool_places_at, cause_place}
use Rattle.report.specs.Sizes.{has_useless_max}

-- ---- sizes

unfoldable pub change_data : List ℕ → Option TextPlace → Data → Data → Data
change_data key place now value =
    object (member (codes "column") (column_data place)
    (member (codes "key") (string key)
    (member (codes "line") (line_data place)
    (member (codes "now") now
    (member (codes "value") value no_members)))))

-- the change of one size from `now` to `value`; empty if the two are equal
abbrev pub change_of : List ℕ → Option TextPlace → ℕ → ℕ → List Data
change_of key place now value = if now == value then [] else change_data key place (number (unsigned now)) (number (unsigned value)) ∷ []

-- the change of a pool's maximum; empty if the maximum does not change or has no effect
abbrev pub max_change : Option TextPlace → Pool → Pool → List Data
max_change place declared fit =
    if has_useless_max fit || declared.max == fit.max then [] else change_data (codes "max") place (max_data declared) (max_data fit) ∷ []

-- the change of the capacity of a pool's queue; empty if the capacity does not change, or if the queue is unbounded
abbrev pub queue_change : Option TextPlace → Pool → Pool → List Data
queue_change place declared fit = if fit.unbounded then [] else change_of (codes "queue") place declared.queue fit.queue

abbrev pub limit_changes : PoolPlaces → Pool → Pool → List Data
limit_changes places declared fit = max_change places.max declared fit ++ queue_change places.queue declared fit

-- the changes of a pool's sizes, in the order core, max, queue
abbrev pub declared_changes : PoolPlaces → Pool → Pool → List Data
declared_changes places declared fit = change_of (codes "core") places.core declared.core fit.core ++ limit_changes places declared fit

-- the changes of a pool's sizes; empty if there is no declared pool
abbrev pub changes_of : PoolPlaces → Option Pool → Pool → List Data
changes_of places None fit = []
changes_of places (Some declared) fit = declared_changes places declared fit

unfoldable pub size_data : List Data → Pool → Data
size_data changes fit =
    object (member (codes "changes") (array (items_of changes))
    (member (codes "core") (number (unsigned fit.core))
    (member (codes "max") (max_data fit)
    (member (codes "name") (string fit.name)
    (member (codes "queue") (queue_data fit) no_members)))))

-- the sizes that were found for pool p, and the changes from its declared sizes
abbrev pub size_entry : List PoolPlaces → Plan → ℕ × Pool → Data
size_entry places plan (p, fit) = size_data (changes_of (pool_places_at places p) (slice_get plan.pools p) fit) fit

-- ---- the cause why there are no sizes

-- the object of the cause that jobs of a class submit jobs of the same class
unfoldable pub cycle_data : Option TextPlace → List ℕ → List ℕ → Data
cycle_data place class words =
    object (member (codes "action") null
    (member (codes "class") (string class)
    (member (codes "client") null
    (member (codes "column") (column_data place)
    (member (codes "kind") (string (codes "cycle"))
    (member (codes "line") (line_data place)
    (member (codes "pool") null
    (member (codes "text") (string words) no_members))))))))

-- the object of the cause that a submit is repeated without limit and its jobs are never got. The submit is in the body of a
-- class or of a client kind, and the member for the other is null
unfoldable pub never_got_data : Option TextPlace → ℕ → Data → Data → List ℕ → Data
never_got_data place action class client words =
    object (member (codes "action") (number (unsigned action))
    (member (codes "class") class
    (member (codes "client") client
    (member (codes "column") (column_data place)
    (member (codes "kind") (string (codes "never got"))
    (member (codes "line") (line_data place)
    (member (codes "pool") null
    (member (codes "text") (string words) no_members))))))))

-- the object of a cause that names a pool
unfoldable pub pool_cause_data : List ℕ → Option TextPlace → List ℕ → List ℕ → Data
pool_cause_data kind place pool words =
    object (member (codes "action") null
    (member (codes "class") null
    (member (codes "client") null
    (member (codes "column") (column_data place)
    (member (codes "kind") (string kind)
    (member (codes "line") (line_data place)
    (member (codes "pool") (string pool)
    (member (codes "text") (string words) no_members))))))))

-- the object of a cause, with its place and its message `words`
abbrev pub cause_object : Plan → NoSizes → Option TextPlace → List ℕ → Data
cause_object plan (Cause (Circle k)) place words = cycle_data place (class_at plan k).name words
cause_object plan (Cause (ClientNeverGets c i)) place words = never_got_data place i null (string (client_at plan c).name) words
cause_object plan (Cause (ClassNeverGets k i)) place words = never_got_data place i (string (class_at plan k).name) null words
cause_object plan (Cause (PoolWaitsForItself p)) place words = pool_cause_data (codes "core timeout") place (pool_at plan p).name words
cause_object plan (TooLarge p) place words = pool_cause_data (codes "limit") place (pool_at plan p).name words

abbrev pub cause_data : PlanPlaces → Plan → NoSizes → Data
cause_data places plan cause = cause_object plan cause (cause_place places cause) (cause_words plan cause)

-- ---- both

unfoldable pub sizes_object : Data → Data → Data
sizes_object cause pools = object (member (codes "cause") cause (member (codes "pools") pools no_members))

abbrev pub pools_data : List PoolPlaces → Plan → List Pool → Data
pools_data places plan fitted = array (items_of (map (size_entry places plan) (enumerate_from 0 fitted)))

-- the object with the result of the search for sizes
abbrev pub sizes_data : PlanPlaces → Plan → SizesFound → Data
sizes_data places plan (Found fit cert) = sizes_object null (pools_data places.pools.items plan fit.pools)
sizes_data places plan (NotFound cause) = sizes_object (cause_data places plan cause) (array (items_of []))
