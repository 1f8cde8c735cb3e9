-- A plan as JSON: its text, and its pools, classes and client kinds with their places.
use Rattle.std.specs.Prelude.{ℕ, Bool, if◌then◌else◌, List, [], map, codes, Option}
use Rattle.std.specs.List.{enumerate_from}
use Rattle.std.specs.Str.{is_utf8}
use Rattle.serde_json.specs.Data.{Data, Members, null, boolean, number, unsigned, string, array, object, member, no_members}
use Rattle.serde_json.specs.View.{items_of}
use Rattle.job_bodies.specs.declared.action.Action.{Action}
use Rattle.job_bodies.specs.declared.action.Action.TheVariants.{Work, Submit, Get}
use Rattle.job_bodies.specs.Plan.{Pool, Class, Client, Plan, pool_at, class_at, has_get_of}
use Rattle.job_bodies.specs.WellFormed.{has_no_max}
use Rattle.plan_text.specs.declared.place.TextPlace.{TextPlace}
use Rattle.diagnostics.specs.declared.entry_places.BodyPlaces.{BodyPlaces}
use Rattle.diagnostics.specs.declared.entry_places.PoolPlaces.{PoolPlaces}
use Rattle.diagnostics.specs.declared.entry_places.PlanPlaces.{PlanPlaces}
use Rattle.report.specs.JsonObject.{with_flag}
use Rattle.report.specs.JsonPlaces.{line_data, column_data, pool_places_at, name_place, action_place}

-- ---- actions

unfoldable pub work_data : Option TextPlace → ℕ → Data
work_data place units =
    object (member (codes "action") (string (codes "work"))
    (member (codes "column") (column_data place)
    (member (codes "line") (line_data place)
    (member (codes "units") (number (unsigned units)) no_members))))

unfoldable pub submit_data : Option TextPlace → List ℕ → Data → Data
submit_data place class slot =
    object (member (codes "action") (string (codes "submit"))
    (member (codes "class") (string class)
    (member (codes "column") (column_data place)
    (member (codes "line") (line_data place)
    (member (codes "slot") slot no_members)))))

unfoldable pub get_data : Option TextPlace → ℕ → Data
get_data place slot =
    object (member (codes "action") (string (codes "get"))
    (member (codes "column") (column_data place)
    (member (codes "line") (line_data place)
    (member (codes "slot") (number (unsigned slot)) no_members))))

-- the slot of the submit at position i of the body: this position, or null if the body has no get of its job
abbrev pub slot_data : List Action → ℕ → Data
slot_data body i = if has_get_of body i then number (unsigned i) else null

-- the action at position i of the body
abbrev pub action_data : Plan → Option TextPlace → List Action → ℕ → Action → Data
action_data plan place body i (Work units) = work_data place units
action_data plan place body i (Submit k) = submit_data place (class_at plan k).name (slot_data body i)
action_data plan place body i (Get t) = get_data place t

-- the action at position i of a body; `index` is the index of the class or client kind with this body
abbrev pub action_entry : Plan → List BodyPlaces → ℕ → List Action → ℕ × Action → Data
action_entry plan bodies index body (i, action) = action_data plan (action_place bodies index i) body i action

-- the list of the actions of a body; `index` is the index of the class or client kind with this body
abbrev pub body_data : Plan → List BodyPlaces → ℕ → List Action → Data
body_data plan bodies index body = array (items_of (map (action_entry plan bodies index body) (enumerate_from 0 body)))

-- ---- pools, classes and client kinds

-- a size, or the string `unbounded`
unfoldable pub limit_data : Bool → ℕ → Data
limit_data unbounded size = if unbounded then string (codes "unbounded") else number (unsigned size)

-- the maximum of the pool; `unbounded` if it has none
abbrev pub max_data : Pool → Data
max_data pool = limit_data (has_no_max pool) pool.max

-- the capacity of the pool's queue; `unbounded` if it has none
abbrev pub queue_data : Pool → Data
queue_data pool = limit_data pool.unbounded pool.queue

-- the members that every pool has, without `core_timeout` and `may_reject`
unfoldable pub pool_members : Option TextPlace → Pool → Members
pool_members place pool =
    member (codes "column") (column_data place)
    (member (codes "core") (number (unsigned pool.core))
    (member (codes "line") (line_data place)
    (member (codes "max") (max_data pool)
    (member (codes "name") (string pool.name)
    (member (codes "prestart") (boolean pool.prestart)
    (member (codes "queue") (queue_data pool) no_members))))))

-- a pool; `core_timeout` and `may_reject` are members only if they are true
abbrev pub pool_data : Option TextPlace → Pool → Data
pool_data place pool = object (with_flag (codes "may_reject") pool.may_reject (with_flag (codes "core_timeout") pool.core_timeout (pool_members place pool)))

unfoldable pub class_data : Option TextPlace → List ℕ → List ℕ → Data → Data
class_data place name pool body =
    object (member (codes "body") body
    (member (codes "column") (column_data place)
    (member (codes "line") (line_data place)
    (member (codes "name") (string name)
    (member (codes "pool") (string pool) no_members)))))

unfoldable pub client_data : Option TextPlace → Client → Data → Data
client_data place client body =
    object (member (codes "body") body
    (member (codes "column") (column_data place)
    (member (codes "count") (number (unsigned client.count))
    (member (codes "line") (line_data place)
    (member (codes "name") (string client.name)
    (member (codes "repeat") (boolean client.repeat) no_members))))))

abbrev pub pool_entry : List PoolPlaces → ℕ × Pool → Data
pool_entry places (p, pool) = pool_data (pool_places_at places p).name pool

abbrev pub class_entry : Plan → List BodyPlaces → ℕ × Class → Data
class_entry plan places (k, class) = class_data (name_place places k) class.name (pool_at plan class.pool).name (body_data plan places k class.body)

abbrev pub client_entry : Plan → List BodyPlaces → ℕ × Client → Data
client_entry plan places (c, client) = client_data (name_place places c) client (body_data plan places c client.body)

abbrev pub pools_data : List PoolPlaces → List Pool → Data
pools_data places pools = array (items_of (map (pool_entry places) (enumerate_from 0 pools)))

abbrev pub classes_data : Plan → List BodyPlaces → List Class → Data
classes_data plan places classes = array (items_of (map (class_entry plan places) (enumerate_from 0 classes)))

abbrev pub clients_data : Plan → List BodyPlaces → List Client → Data
clients_data plan places clients = array (items_of (map (client_entry plan places) (enumerate_from 0 clients)))

-- ---- the plan

-- the plan's text; null if it is not UTF-8
abbrev pub text_data : List ℕ → Data
text_data text = if is_utf8 text then string text else null

unfoldable pub plan_object : Data → Data → Data → Data → Data
plan_object classes clients pools text =
    object (member (codes "classes") classes
    (member (codes "clients") clients
    (member (codes "pools") pools
    (member (codes "text") text no_members))))

-- the plan that was read from this text
abbrev pub plan_data : List ℕ → PlanPlaces → Plan → Data
plan_data text places plan =
    plan_object (classes_data plan places.classes.items plan.classes) (clients_data plan places.clients.items plan.clients) (pools_data places.pools.items plan.pools)
    (text_data text)

-- the object for a text from which no plan was read: the text, and no pools, classes or client kinds
abbrev pub text_only_data : List ℕ → Data
text_only_data text = plan_object (array (items_of [])) (array (items_of [])) (array (items_of [])) (text_data text)
