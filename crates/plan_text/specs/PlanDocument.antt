-- The document of a plan: a table with the arrays of pools, of classes and of client kinds. The keys of each table are in
-- ascending order.
use Rattle.std.specs.Prelude.{ℕ, pos, Bool, true, false, if◌then◌else◌, List, map, codes}
use Rattle.std.specs.Ordering.{nat_cmp, match_ordering}
use Rattle.std.specs.Cmp.Lexicographic.{slice_cmp}
use Rattle.toml.specs.Data.{Data, string, integer, boolean, array, table, Members, no_members, member}
use Rattle.toml.specs.View.{items_of}
use Rattle.toml.specs.Text.{IsDocumentText}
use Rattle.job_bodies.specs.Plan.{Pool, Class, Client, Plan, pool_names}
use Rattle.job_bodies.specs.WellFormed.{has_no_max}
use Rattle.plan_text.specs.Spelling.{name_at, body_texts}

-- a natural number as a TOML integer
abbrev pub number_data : ℕ → Data
number_data number = integer (pos number)

abbrev pub list_data : List Data → Data
list_data values = array (items_of values)

abbrev pub texts_data : List (List ℕ) → Data
texts_data texts = list_data (map string texts)

-- the members `rest`; if the flag is set, the member `key = true` is prepended
abbrev pub flag_and : List ℕ → Bool → Members → Members
flag_and key flag rest = if flag then member key (boolean true) rest else rest

-- a size as a TOML value: the string `unbounded` if `unbounded` is true, and otherwise the number
abbrev pub size_data : Bool → ℕ → Data
size_data unbounded number = if unbounded then string (codes "unbounded") else number_data number

unfoldable pub pool_data : Pool → Data
pool_data pool =
    table (member (codes "core") (number_data pool.core)
    (flag_and (codes "core_timeout") pool.core_timeout
    (member (codes "max") (size_data (has_no_max pool) pool.max)
    (flag_and (codes "may_reject") pool.may_reject
    (member (codes "name") (string pool.name)
    (flag_and (codes "prestart") pool.prestart
    (member (codes "queue") (size_data pool.unbounded pool.queue) no_members)))))))

-- the table of a class, given the names of all pools and classes
unfoldable pub class_data : List (List ℕ) → List (List ℕ) → Class → Data
class_data pools classes class =
    table (member (codes "body") (texts_data (body_texts classes class.body))
    (member (codes "name") (string class.name)
    (member (codes "pool") (string (name_at pools class.pool)) no_members)))

-- the table of a client kind, given the names of all classes
unfoldable pub client_data : List (List ℕ) → Client → Data
client_data classes client =
    table (member (codes "body") (texts_data (body_texts classes client.body))
    (member (codes "count") (number_data client.count)
    (member (codes "name") (string client.name)
    (member (codes "repeat") (boolean client.repeat) no_members))))

unfoldable pub plan_document : Plan → Members
plan_document plan =
    let pools = pool_names plan in
    let classes = map (λ class. class.name) plan.classes in
    member (codes "class") (list_data (map (class_data pools classes) plan.classes))
    (member (codes "client") (list_data (map (client_data classes) plan.clients))
    (member (codes "pool") (list_data (map pool_data plan.pools)) no_members))

-- the text is TOML, and its document is the document of the plan
abbrev pub IsPlanText : Plan → List ℕ → Type 0
IsPlanText plan text = IsDocumentText false (plan_document plan) text

-- the members after `value` is stored at `key`. An earlier value of the key is replaced. A new key is inserted before the first
-- greater key.
abbrev pub with_member : List ℕ → Data → Members → Members
with_member key value no_members = member key value no_members
with_member key value (member first there rest) =
    match_ordering (slice_cmp nat_cmp key first) (member key value (member first there rest)) (member first value rest) (member first there (with_member key value rest))

-- the members after `true` is stored at `key` if the flag is set
abbrev pub with_flag : List ℕ → Bool → Members → Members
with_flag key flag members = if flag then with_member key (boolean true) members else members
