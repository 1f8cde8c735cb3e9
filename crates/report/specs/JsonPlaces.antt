-- The places of a plan's entries, the place of the cause why no sizes were found, and lines and columns as JSON.
use Rattle.std.specs.Prelude.{ℕ, List, Option, Some, None, option_and_then, slice_get, slice_index_or}
use Rattle.serde_json.specs.Data.{Data, null, number, unsigned}
use Rattle.plan_text.specs.declared.place.TextPlace.{TextPlace}
use Rattle.diagnostics.specs.declared.entry_places.BodyPlaces.{BodyPlaces}
use Rattle.diagnostics.specs.declared.entry_places.PoolPlaces.{PoolPlaces}
use Rattle.diagnostics.specs.declared.entry_places.PlanPlaces.{PlanPlaces}
use Rattle.size_search.specs.declared.cause.Cause.TheVariants.{Circle, ClientNeverGets, ClassNeverGets, PoolWaitsForItself}
use Rattle.size_search.specs.declared.found.NoSizes.{NoSizes}
use Rattle.size_search.specs.declared.found.NoSizes.TheVariants.{Cause, TooLarge}

-- the line of the place; null if the place is not known
unfoldable pub line_data : Option TextPlace → Data
line_data None = null
line_data (Some place) = number (unsigned place.line)

-- the column of the place; null if the place is not known
unfoldable pub column_data : Option TextPlace → Data
column_data None = null
column_data (Some place) = number (unsigned place.column)

-- the places of a pool, if none of them is known
abbrev pub no_pool_places : PoolPlaces
no_pool_places = record { name = None; core = None; max = None; queue = None; core_timeout = None }

-- the places of pool p
abbrev pub pool_places_at : List PoolPlaces → ℕ → PoolPlaces
pool_places_at pools p = slice_index_or pools p no_pool_places

-- the place of the name of the class or client kind at an index
abbrev pub name_place : List BodyPlaces → ℕ → Option TextPlace
name_place bodies index = option_and_then (λ body. body.name) (slice_get bodies index)

-- the place of an action; `actions` are the places of the actions of its body
abbrev pub listed_place : List (Option TextPlace) → ℕ → Option TextPlace
listed_place actions action = slice_index_or actions action None

-- the place of an action of the class or client kind at an index
abbrev pub action_place : List BodyPlaces → ℕ → ℕ → Option TextPlace
action_place bodies index action = option_and_then (λ body. listed_place body.actions.items action) (slice_get bodies index)

-- the place of what the cause names: a class, an action, the key `core_timeout` of a pool or, for sizes above the limit, a pool's
-- name
abbrev pub cause_place : PlanPlaces → NoSizes → Option TextPlace
cause_place places (Cause (Circle k)) = name_place places.classes.items k
cause_place places (Cause (ClientNeverGets c i)) = action_place places.clients.items c i
cause_place places (Cause (ClassNeverGets k i)) = action_place places.classes.items k i
cause_place places (Cause (PoolWaitsForItself p)) = (pool_places_at places.pools.items p).core_timeout
cause_place places (TooLarge p) = (pool_places_at places.pools.items p).name
