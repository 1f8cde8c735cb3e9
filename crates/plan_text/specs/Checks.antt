-- The checks of names and numbers. Each name must be valid and unique in its list, each number must be in range, and the pool
-- of each class must exist.
use Rattle.std.specs.Prelude.{ℕ, List, [], length, map, take, Result, Ok}
use Rattle.std.specs.List.{position_or_len}
use Rattle.std.specs.Str.{bytes_eq}
use Rattle.support.specs.Reading.{◌>>=◌, check_each}
use Rattle.job_bodies.specs.declared.fault.PlanFault.{PlanFault}
use Rattle.job_bodies.specs.Plan.{Pool, Class, Client}
use Rattle.job_bodies.specs.Checks.{check_pool, check_class, check_client}
use Rattle.plan_text.specs.Entries.{ClassEntry, ClientEntry}

-- the names of the classes, in order
abbrev pub class_names : List ClassEntry → List (List ℕ)
class_names classes = map (λ class. class.name) classes

abbrev pub client_names : List ClientEntry → List (List ℕ)
client_names clients = map (λ client. client.name) clients

-- the index of a name in a list, or the length of the list if the name is not in it
abbrev pub place_of : List (List ℕ) → List ℕ → ℕ
place_of names name = position_or_len (λ known. bytes_eq name known) names

-- the class of an entry, with the index of its pool, and with an empty body in place of its own
abbrev pub class_head : List (List ℕ) → ClassEntry → Class
class_head pools class = record { name = class.name; pool = place_of pools class.pool; body = [] }

-- the client kind of an entry, with an empty body in place of its own
abbrev pub client_head : ClientEntry → Client
client_head client = record { name = client.name; count = client.count; repeat = client.repeat; body = [] }

-- the names of the pools, if all names are valid and distinct and all sizes are valid; otherwise the first fault
unfoldable pub check_pools : List Pool → Result (List (List ℕ)) PlanFault
check_pools pools =
    check_each (λ index. check_pool (take index (map (λ pool. pool.name) pools)) index) 0 pools >>= λ _.
    Ok (map (λ pool. pool.name) pools)

-- the names of the classes, if all names are valid and distinct and the pool of each class is one of `pools`; otherwise the
-- first fault
unfoldable pub check_classes : List (List ℕ) → List ClassEntry → Result (List (List ℕ)) PlanFault
check_classes pools classes =
    check_each (λ index class. check_class (length pools) (take index (class_names classes)) index (class_head pools class)) 0 classes >>= λ _.
    Ok (class_names classes)

-- Ok if all names of the client kinds are valid and distinct and all counts are valid; otherwise the first fault
unfoldable pub check_clients : List ClientEntry → Result (Unit {0}) PlanFault
check_clients clients = check_each (λ index client. check_client (take index (client_names clients)) index (client_head client)) 0 clients
