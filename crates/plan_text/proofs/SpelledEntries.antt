-- Proofs that the entries of a plan are read from its document.
use Rattle.std.proofs.Common.{◌≡◌, ℕ, suc, ◌+◌, ◌≤◌, Bool, true, false, if◌then◌else◌, ◌||◌, ◌==◌, nat_le, List, [], ◌∷◌, length, map, codes, Option, None, Some, Result, Ok, inl, inr, refl, sym, ap, subst, ◌∙◌, arith, zero-add}
use Rattle.std.proofs.lemmas.Bool.{cases_Bool, eqb-true}
use Rattle.std.proofs.lemmas.List.{length-map}
use Rattle.std.proofs.Math.Nat.{max-le}
use Rattle.toml.specs.Data.{Data, string, boolean, table, Members, no_members, member, get_member, depth, items_depth, members_depth}
use Rattle.toml.specs.View.{items_of}
use Rattle.support.specs.Reading.{read_each}
use Rattle.job_bodies.specs.declared.fault.Part.{Part}
use Rattle.job_bodies.specs.declared.fault.Part.TheVariants as part
use Rattle.job_bodies.specs.declared.limits.TheConstants.{MAX_POOLS, MAX_CLASSES, MAX_CLIENT_KINDS, MAX_ACTIONS, MAX_SIZE, MAX_THREADS}
use Rattle.job_bodies.specs.Plan.{Pool, Class, Client, Plan, pool_names}
use Rattle.job_bodies.specs.WellFormed.{is_within, has_no_max}
use Rattle.job_bodies.proofs.Passing.{EachPlace}
use Rattle.plan_text.specs.Document.{has_only, list_at}
use Rattle.plan_text.specs.Entry.{Entry, entry_of, text_at, number_at, size_at, flag_at, texts_at, action_text}
use Rattle.plan_text.specs.Sizes.{sizes_of}
use Rattle.plan_text.specs.Entries.{ClassEntry, ClientEntry, Entries, read_pool, read_class, read_client, entries_of}
use Rattle.plan_text.specs.Spelling.{name_at, body_texts}
use Rattle.plan_text.specs.PlanDocument.{list_data, texts_data, flag_and, size_data, pool_data, class_data, client_data, plan_document}
use Rattle.plan_text.specs.EffectivePlan.{effective_pool, effective_plan}
use Rattle.plan_text.proofs.Tables.{elements-items_of}
use Rattle.plan_text.proofs.EffectivePlans.{pool_with, same_pool_names}

-- ---- reading the images of a list's elements
read_made_from : {X Y Z F : Type 0} (read : ℕ → Y → Result Z F) (make : X → Y) (image : X → Z) (n : ℕ) (xs : List X) → EachPlace xs (λ i x. read (n + i) (make x) ≡ Ok (image x))
    → read_each read n (map make xs) ≡ Ok (map image xs)
read_made_from read make image n [] each = refl
read_made_from read make image n (x ∷ xs) each =
    let here : n + 0 ≡ n = omega arith in
    let first : read n (make x) ≡ Ok (image x) = subst (λ (k : ℕ). read k (make x) ≡ Ok (image x)) here (each 0 x refl) in
    let rest = read_made_from read make image (n + 1) xs (λ i y e. let place : n + suc i ≡ n + 1 + i = omega arith in subst (λ (k : ℕ). read k (make y) ≡ Ok (image y)) place (each (suc i) y e)) in
    rw (first, rest) refl

pub read_made : {X Y Z F : Type 0} (read : ℕ → Y → Result Z F) (make : X → Y) (image : X → Z) (xs : List X) → EachPlace xs (λ i x. read i (make x) ≡ Ok (image x))
    → read_each read 0 (map make xs) ≡ Ok (map image xs)
read_made read make image xs each = read_made_from read make image 0 xs (λ i x e. subst (λ (k : ℕ). read k (make x) ≡ Ok (image x)) (sym (zero-add i)) (each i x e))

pub map_same : {X : Type 0} (xs : List X) → map (λ x. x) xs ≡ xs
map_same [] = refl
map_same (x ∷ xs) = ap (λ (ys : List _). x ∷ ys) (map_same xs)

-- reading the images of a list's elements gives the elements, if reading each image gives its element
pub read_again : {X Y F : Type 0} (read : ℕ → Y → Result X F) (make : X → Y) (xs : List X) → EachPlace xs (λ i x. read i (make x) ≡ Ok x) → read_each read 0 (map make xs) ≡ Ok xs
read_again read make xs each = read_made read make (λ x. x) xs each ∙ ap (λ (ys : List _). Ok ys) (map_same xs)

-- ---- one entry
-- the entry of a class in the text of a plan
abbrev pub class_entry : List (List ℕ) → List (List ℕ) → Class → ClassEntry
class_entry pools classes class = record { name = class.name; pool = name_at pools class.pool; body = body_texts classes class.body }

abbrev pub client_entry : List (List ℕ) → Client → ClientEntry
client_entry classes client = record { name = client.name; count = client.count; repeat = client.repeat; body = body_texts classes client.body }

texts_back : (entry : Entry) (key : List ℕ) (texts : List (List ℕ)) → get_member key entry.table ≡ Some (texts_data texts) → nat_le (length texts) MAX_ACTIONS ≡ true → texts_at entry key ≡ Ok texts
unfolding texts_at
texts_back entry key texts found short =
    let long : length (map string texts) ≡ length texts = length-map texts string in
    rw (found, elements-items_of (map string texts), long, short) (read_again (action_text entry.part entry.index) string texts (λ i text e. refl))

-- the entry with this table; an entry with an empty table if the value is not a table
abbrev entry_at : Part → ℕ → Data → Entry
entry_at part index (table members) = record { table = members; part = part; index = index }
entry_at part index _ = record { table = no_members; part = part; index = index }

-- the value at a key is the same with and without a flag of another key
skip_flag : (key flag_key : List ℕ) (flag : Bool) (rest : Members) → get_member key (member flag_key (boolean true) rest) ≡ get_member key rest
    → get_member key (flag_and flag_key flag rest) ≡ get_member key rest
skip_flag key flag_key true rest other = other
skip_flag key flag_key false rest other = refl

-- the size that is read from the value of a size
abbrev size_read : Bool → ℕ → Option ℕ
size_read unbounded number = if unbounded then None else Some number

size_back : (entry : Entry) (key : List ℕ) (unbounded : Bool) (number : ℕ) → get_member key entry.table ≡ Some (size_data unbounded number) → size_at entry key ≡ Ok (size_read unbounded number)
unfolding size_at
size_back entry key true number found = rw found refl
size_back entry key false number found = rw found refl

max_back : (index : ℕ) (pool : Pool) → size_at (entry_at part.Pool index (pool_data pool)) (codes "max") ≡ Ok (size_read (has_no_max pool) pool.max)
unfolding pool_data
max_back index pool = size_back (entry_at part.Pool index (pool_data pool)) (codes "max") (has_no_max pool) pool.max (skip_flag (codes "max") (codes "core_timeout") pool.core_timeout _ refl)

queue_back : (index : ℕ) (pool : Pool) → size_at (entry_at part.Pool index (pool_data pool)) (codes "queue") ≡ Ok (size_read pool.unbounded pool.queue)
unfolding pool_data
queue_back index pool =
    size_back (entry_at part.Pool index (pool_data pool)) (codes "queue") pool.unbounded pool.queue
    (skip_flag (codes "queue") (codes "core_timeout") pool.core_timeout _ refl
    ∙ skip_flag (codes "queue") (codes "may_reject") pool.may_reject _ refl
    ∙ skip_flag (codes "queue") (codes "prestart") pool.prestart _ refl)

-- the pool with the sizes that are read from its table
abbrev pool_read : Pool → Pool
pool_read pool =
    let sizes = sizes_of pool.core pool.core_timeout (size_read (has_no_max pool) pool.max) (size_read pool.unbounded pool.queue) in
    record pool { max = sizes.max; queue = sizes.queue; unbounded = sizes.unbounded }

-- if the two sizes are read from the table of a pool, the table is read as the pool with these sizes
by_sizes : (index : ℕ) (name : List ℕ) (core max queue : ℕ) (prestart may_reject unbounded core_timeout : Bool)
    → let pool = pool_with name core max queue prestart may_reject unbounded core_timeout in
    let entry = entry_at part.Pool index (pool_data pool) in
    size_at entry (codes "max") ≡ Ok (size_read (has_no_max pool) max) → size_at entry (codes "queue") ≡ Ok (size_read unbounded queue) → read_pool index (pool_data pool) ≡ Ok (pool_read pool)
unfolding read_pool pool_data entry_of text_at number_at flag_at
by_sizes index name core max queue true true unbounded true of_max of_queue = rw (of_max, of_queue) refl
by_sizes index name core max queue true true unbounded false of_max of_queue = rw (of_max, of_queue) refl
by_sizes index name core max queue true false unbounded true of_max of_queue = rw (of_max, of_queue) refl
by_sizes index name core max queue true false unbounded false of_max of_queue = rw (of_max, of_queue) refl
by_sizes index name core max queue false true unbounded true of_max of_queue = rw (of_max, of_queue) refl
by_sizes index name core max queue false true unbounded false of_max of_queue = rw (of_max, of_queue) refl
by_sizes index name core max queue false false unbounded true of_max of_queue = rw (of_max, of_queue) refl
by_sizes index name core max queue false false unbounded false of_max of_queue = rw (of_max, of_queue) refl

-- whether the maximum is at least core and within the limit on sizes, or that of a pool that has none
abbrev pub has_valid_max : Pool → Bool
has_valid_max pool = is_within pool.core MAX_SIZE pool.max || has_no_max pool

-- the first alternative holds if the second does not
first_of : (a b : Bool) → (a || b) ≡ true → b ≡ false → a ≡ true
first_of true b either off = refl
first_of false b either off = absurd cc

read_as_effective : (name : List ℕ) (core max queue : ℕ) (prestart may_reject unbounded core_timeout : Bool)
    → let pool = pool_with name core max queue prestart may_reject unbounded core_timeout in
    has_valid_max pool ≡ true → pool_read pool ≡ effective_pool pool
read_as_effective name core max queue prestart may_reject false true valid = refl
read_as_effective name core max queue prestart may_reject false false valid = refl
read_as_effective name core max queue prestart may_reject true false valid = rw (first_of (is_within core MAX_SIZE max) false valid refl) refl
read_as_effective name core max queue prestart may_reject true true valid =
    elim (cases_Bool (max == MAX_THREADS)) [
      | inl largest ↦ rw (eqb-true max MAX_THREADS largest) refl
      | inr other ↦ rw (other, first_of (is_within core MAX_SIZE max) (max == MAX_THREADS) valid other) refl
    ]

-- the table of a pool is read as the pool's effective pool
pool_back : (index : ℕ) (pool : Pool) → has_valid_max pool ≡ true → read_pool index (pool_data pool) ≡ Ok (effective_pool pool)
pool_back index pool valid =
    by_sizes index pool.name pool.core pool.max pool.queue pool.prestart pool.may_reject pool.unbounded pool.core_timeout (max_back index pool) (queue_back index pool)
    ∙ ap (λ (p : Pool). Ok p) (read_as_effective pool.name pool.core pool.max pool.queue pool.prestart pool.may_reject pool.unbounded pool.core_timeout valid)

class_back : (pools classes : List (List ℕ)) (index : ℕ) (class : Class) → nat_le (length (body_texts classes class.body)) MAX_ACTIONS ≡ true
    → read_class index (class_data pools classes class) ≡ Ok (class_entry pools classes class)
unfolding read_class class_data entry_of text_at
class_back pools classes index class short = rw (texts_back (entry_at part.Class index (class_data pools classes class)) (codes "body") (body_texts classes class.body) refl short) refl

client_back : (classes : List (List ℕ)) (index : ℕ) (client : Client) → nat_le (length (body_texts classes client.body)) MAX_ACTIONS ≡ true
    → read_client index (client_data classes client) ≡ Ok (client_entry classes client)
unfolding read_client client_data entry_of text_at number_at flag_at
client_back classes index client short = rw (texts_back (entry_at part.Client index (client_data classes client)) (codes "body") (body_texts classes client.body) refl short) refl

-- ---- the whole document
abbrev pub class_names_of : Plan → List (List ℕ)
class_names_of plan = map (λ class. class.name) plan.classes

abbrev pub entries_in : Plan → Entries
entries_in plan = record {
  pools = plan.pools;
  classes = map (class_entry (pool_names plan) (class_names_of plan)) plan.classes;
  clients = map (client_entry (class_names_of plan)) plan.clients;
}

-- no list of the plan and no body is longer than its limit
pub record IsShort (plan : Plan) : Type 0 where
  pub few_pools : nat_le (length plan.pools) MAX_POOLS ≡ true
  pub few_classes : nat_le (length plan.classes) MAX_CLASSES ≡ true
  pub few_clients : nat_le (length plan.clients) MAX_CLIENT_KINDS ≡ true
  pub classes : EachPlace plan.classes (λ i class. nat_le (length (body_texts (class_names_of plan) class.body)) MAX_ACTIONS ≡ true)
  pub clients : EachPlace plan.clients (λ i client. nat_le (length (body_texts (class_names_of plan) client.body)) MAX_ACTIONS ≡ true)

list_back : {X : Type 0} (key : List ℕ) (most : ℕ) (document : Members) (make : X → Data) (xs : List X) → get_member key document ≡ Some (list_data (map make xs)) → nat_le (length xs) most ≡ true
    → list_at key most document ≡ Ok (map make xs)
unfolding list_at
list_back key most document make xs found few =
    let long : length (map make xs) ≡ length xs = length-map xs make in
    rw (found, elements-items_of (map make xs), long, few) refl

-- the document of a plan is read as the entries of the effective plan
pub entries_back : (plan : Plan) → IsShort plan → EachPlace plan.pools (λ i pool. has_valid_max pool ≡ true) → entries_of (plan_document plan) ≡ Ok (entries_in (effective_plan plan))
unfolding entries_of plan_document
entries_back plan s valid =
    let pools = pool_names plan in
    let classes = class_names_of plan in
    rw (
      list_back (codes "pool") MAX_POOLS (plan_document plan) pool_data plan.pools refl s.few_pools,
      list_back (codes "class") MAX_CLASSES (plan_document plan) (class_data pools classes) plan.classes refl s.few_classes,
      list_back (codes "client") MAX_CLIENT_KINDS (plan_document plan) (client_data classes) plan.clients refl s.few_clients,
      read_made read_pool pool_data effective_pool plan.pools (λ i pool e. pool_back i pool (valid i pool e)),
      read_made read_class (class_data pools classes) (class_entry pools classes) plan.classes (λ i class e. class_back pools classes i class (s.classes i class e)),
      read_made read_client (client_data classes) (client_entry classes) plan.clients (λ i client e. client_back classes i client (s.clients i client e)),
      same_pool_names plan,
    ) refl

-- the document has only the keys of a plan
pub keys_are_known : (plan : Plan) → has_only (codes "pool" ∷ codes "class" ∷ codes "client" ∷ []) (plan_document plan) ≡ true
unfolding plan_document
keys_are_known plan = refl

-- ---- the depth of nesting in the document
each_at_most : {X : Type 0} (make : X → Data) (most : ℕ) → ((x : X) → depth (make x) ≤ most) → (xs : List X) → items_depth (items_of (map make xs)) ≤ most
each_at_most make most each [] = omega arith
each_at_most make most each (x ∷ xs) = max-le (each x) (each_at_most make most each xs)

texts_depth : (texts : List (List ℕ)) → items_depth (items_of (map string texts)) ≤ 0
texts_depth texts = each_at_most string 0 (λ text. omega arith) texts

size_depth : (unbounded : Bool) (number : ℕ) → depth (size_data unbounded number) ≤ 0
size_depth true number = omega arith
size_depth false number = omega arith

flag_depth : (key : List ℕ) (flag : Bool) (rest : Members) → members_depth rest ≤ 0 → members_depth (flag_and key flag rest) ≤ 0
flag_depth key true rest shallow = max-le (omega arith) shallow
flag_depth key false rest shallow = shallow

pool_depth : (pool : Pool) → depth (pool_data pool) ≤ 2
unfolding pool_data
pool_depth pool =
    let of_queue = member (codes "queue") (size_data pool.unbounded pool.queue) no_members in
    let of_name = member (codes "name") (string pool.name) (flag_and (codes "prestart") pool.prestart of_queue) in
    let of_max = member (codes "max") (size_data (has_no_max pool) pool.max) (flag_and (codes "may_reject") pool.may_reject of_name) in
    let queue : members_depth of_queue ≤ 0 = max-le (size_depth pool.unbounded pool.queue) (omega arith) in
    let name : members_depth of_name ≤ 0 = max-le (omega arith) (flag_depth (codes "prestart") pool.prestart of_queue queue) in
    let max : members_depth of_max ≤ 0 = max-le (size_depth (has_no_max pool) pool.max) (flag_depth (codes "may_reject") pool.may_reject of_name name) in
    omega (arith, flag_depth (codes "core_timeout") pool.core_timeout of_max max)

class_depth : (pools classes : List (List ℕ)) (class : Class) → depth (class_data pools classes class) ≤ 2
unfolding class_data
class_depth pools classes class = omega (arith, texts_depth (body_texts classes class.body))

client_depth : (classes : List (List ℕ)) (client : Client) → depth (client_data classes client) ≤ 2
unfolding client_data
client_depth classes client = omega (arith, texts_depth (body_texts classes client.body))

pub document_depth : (plan : Plan) → members_depth (plan_document plan) ≤ 80
unfolding plan_document
document_depth plan =
    let pools = each_at_most pool_data 2 pool_depth plan.pools in
    let classes = each_at_most (class_data (pool_names plan) (class_names_of plan)) 2 (class_depth (pool_names plan) (class_names_of plan)) plan.classes in
    let clients = each_at_most (client_data (class_names_of plan)) 2 (client_depth (class_names_of plan)) plan.clients in
    omega (arith, pools, classes, clients)
