-- Proofs that a parsed plan passes every check of a plan.
use Rattle.std.proofs.Common.{◌≡◌, ℕ, true, nat_le, List, [], length, map, take, codes, Ok, refl, sym, ap, subst, ◌∙◌}
use Rattle.std.proofs.lemmas.List.{length-map}
use Rattle.toml.specs.Data.{Data, Members, get_member}
use Rattle.support.specs.Reading.{ensure, ok_or, check_each, read_each}
use Rattle.support.proofs.Steps.{given, ok_injective, bind_ok, bind_ok_then, holds_ok}
use Rattle.support.proofs.ReadElements.{read_length, read_at, read_images}
use Rattle.job_bodies.specs.declared.fault.PlanFault.{PlanFault}
use Rattle.job_bodies.specs.declared.fault.Part.TheVariants as part
use Rattle.job_bodies.specs.declared.limits.TheConstants.{MAX_POOLS, MAX_CLASSES, MAX_CLIENT_KINDS, MAX_ACTIONS}
use Rattle.job_bodies.specs.Plan.{Pool, Class, Client, Plan}
use Rattle.support.specs.declared.number.TheConstants.{TOO_MANY}
use Rattle.job_bodies.specs.Checks.{at_text, check_pool, check_class, check_client, check_length, check_body}
use Rattle.job_bodies.specs.Build.{check_counts, check_lengths, check_entries, check_bodies, build}
use Rattle.job_bodies.specs.WellFormed.{IsWellFormed}
use Rattle.job_bodies.proofs.BuildLaws.{well_formed}
use Rattle.job_bodies.proofs.Passing.{both_pass, test_passes, each_passed, each_passes, EachPlace}
use Rattle.plan_text.specs.Document.{list_of, list_at, as_list}
use Rattle.plan_text.specs.Entry.{Entry, value_at, entry_of, text_at, number_at, flag_at, texts_at, action_text}
use Rattle.plan_text.specs.Entries.{ClassEntry, ClientEntry, Entries, AreWithinLimits, read_pool, read_class, read_client, entries_of}
use Rattle.plan_text.specs.Checks.{class_names, client_names, class_head, client_head, check_pools, check_classes, check_clients}
use Rattle.plan_text.specs.Bodies.{body_of, class_of, client_of}
use Rattle.plan_text.specs.PlanOf.{plan_of_entries}
use Rattle.plan_text.proofs.BodyLaws.{body_length, body_passes}

-- ---- the lengths of lists and bodies
few : (key : List ℕ) (most : ℕ) (document : Members) (values : List Data) → list_at key most document ≡ Ok values → nat_le (length values) most ≡ true
unfolding list_at
few key most document values e =
    let found = bind_ok (list_of (get_member key document)) _ _ e in
    let passed = bind_ok (ensure (nat_le (length found.0) most) (at_text TOO_MANY)) _ _ found.2 in
    let same : found.0 ≡ values = ok_injective {F = PlanFault} found.0 values passed.2 in
    subst (λ (vs : List Data). nat_le (length vs) most ≡ true) same (holds_ok _ _ passed.1)

few_texts : (entry : Entry) (key : List ℕ) (texts : List (List ℕ)) → texts_at entry key ≡ Ok texts → nat_le (length texts) MAX_ACTIONS ≡ true
unfolding texts_at
few_texts entry key texts e =
    let value = bind_ok (value_at entry key) _ _ e in
    let values = bind_ok (ok_or (as_list value.0) _) _ _ value.2 in
    let passed = bind_ok (ensure (nat_le (length values.0) MAX_ACTIONS) _) _ _ values.2 in
    let long = read_length (action_text entry.part entry.index) 0 values.0 texts passed.2 in
    rw long (holds_ok _ _ passed.1)

class_short : (index : ℕ) (value : Data) (class : ClassEntry) → read_class index value ≡ Ok class → nat_le (length class.body) MAX_ACTIONS ≡ true
unfolding read_class
class_short index value class e =
    let entry = bind_ok (entry_of part.Class index _ value) _ _ e in
    let name = bind_ok (text_at entry.0 (codes "name")) _ _ entry.2 in
    let pool = bind_ok (text_at entry.0 (codes "pool")) _ _ name.2 in
    let body = bind_ok (texts_at entry.0 (codes "body")) _ _ pool.2 in
    let same : body.0 ≡ class.body = ap (λ (c : ClassEntry). c.body) (ok_injective {F = PlanFault} _ class body.2) in
    subst (λ (texts : List (List ℕ)). nat_le (length texts) MAX_ACTIONS ≡ true) same (few_texts entry.0 (codes "body") body.0 body.1)

client_short : (index : ℕ) (value : Data) (client : ClientEntry) → read_client index value ≡ Ok client → nat_le (length client.body) MAX_ACTIONS ≡ true
unfolding read_client
client_short index value client e =
    let entry = bind_ok (entry_of part.Client index _ value) _ _ e in
    let name = bind_ok (text_at entry.0 (codes "name")) _ _ entry.2 in
    let count = bind_ok (number_at entry.0 (codes "count")) _ _ name.2 in
    let repeat = bind_ok (flag_at entry.0 (codes "repeat")) _ _ count.2 in
    let body = bind_ok (texts_at entry.0 (codes "body")) _ _ repeat.2 in
    let same : body.0 ≡ client.body = ap (λ (c : ClientEntry). c.body) (ok_injective {F = PlanFault} _ client body.2) in
    subst (λ (texts : List (List ℕ)). nat_le (length texts) MAX_ACTIONS ≡ true) same (few_texts entry.0 (codes "body") body.0 body.1)

-- entries that were read are within the limits
pub are_within_limits : (document : Members) (entries : Entries) → entries_of document ≡ Ok entries → AreWithinLimits entries
unfolding entries_of
are_within_limits document entries e =
    let pools = bind_ok (list_at (codes "pool") MAX_POOLS document) _ _ e in
    let classes = bind_ok (list_at (codes "class") MAX_CLASSES document) _ _ pools.2 in
    let clients = bind_ok (list_at (codes "client") MAX_CLIENT_KINDS document) _ _ classes.2 in
    let p = bind_ok (read_each read_pool 0 pools.0) _ _ clients.2 in
    let k = bind_ok (read_each read_class 0 classes.0) _ _ p.2 in
    let c = bind_ok (read_each read_client 0 clients.0) _ _ k.2 in
    let short : AreWithinLimits (record { pools = p.0; classes = k.0; clients = c.0 }) = record {
      few_pools = rw (read_length read_pool 0 pools.0 p.0 p.1) (few (codes "pool") MAX_POOLS document pools.0 pools.1);
      few_classes = rw (read_length read_class 0 classes.0 k.0 k.1) (few (codes "class") MAX_CLASSES document classes.0 classes.1);
      few_clients = rw (read_length read_client 0 clients.0 c.0 c.1) (few (codes "client") MAX_CLIENT_KINDS document clients.0 clients.1);
      classes = λ i class here. let found = read_at read_class classes.0 k.0 i class k.1 here in class_short i found.0 class found.2;
      clients = λ i client here. let found = read_at read_client clients.0 c.0 i client c.1 here in client_short i found.0 client found.2;
    } in
    subst AreWithinLimits (ok_injective {F = PlanFault} _ entries c.2) short

-- ---- the names and numbers of entries
record ClassIs (pools classes : List (List ℕ)) (index : ℕ) (class : ClassEntry) (made : Class) : Type 0 where
  head : class_head pools class ≡ record { name = made.name; pool = made.pool; body = [] }
  name : made.name ≡ class.name
  body : body_of classes part.Class index class.body ≡ Ok made.body

class_is : (pools classes : List (List ℕ)) (index : ℕ) (class : ClassEntry) (made : Class) → class_of pools classes index class ≡ Ok made → ClassIs pools classes index class made
class_is pools classes index class made e =
    let body = bind_ok (body_of classes part.Class index class.body) _ _ e in
    let same = ok_injective {F = PlanFault} _ made body.2 in
    record {
      head = ap (λ (k : Class). record { name = k.name; pool = k.pool; body = [] }) same;
      name = ap (λ (k : Class). k.name) (sym same);
      body = body.1 ∙ ap (λ (k : Class). given {F = PlanFault} k.body) same;
    }

record ClientIs (classes : List (List ℕ)) (index : ℕ) (client : ClientEntry) (made : Client) : Type 0 where
  head : client_head client ≡ record { name = made.name; count = made.count; repeat = made.repeat; body = [] }
  name : made.name ≡ client.name
  body : body_of classes part.Client index client.body ≡ Ok made.body

client_is : (classes : List (List ℕ)) (index : ℕ) (client : ClientEntry) (made : Client) → client_of classes index client ≡ Ok made → ClientIs classes index client made
client_is classes index client made e =
    let body = bind_ok (body_of classes part.Client index client.body) _ _ e in
    let same = ok_injective {F = PlanFault} _ made body.2 in
    record {
      head = ap (λ (c : Client). record { name = c.name; count = c.count; repeat = c.repeat; body = [] }) same;
      name = ap (λ (c : Client). c.name) (sym same);
      body = body.1 ∙ ap (λ (c : Client). given {F = PlanFault} c.body) same;
    }

-- the checks of all pools, all classes and all client kinds pass
abbrev pub PoolsPass : List Pool → Type 0
PoolsPass pools = check_each (λ index. check_pool (take index (map (λ pool. pool.name) pools)) index) 0 pools ≡ Ok tt

abbrev pub ClassesPass : List (List ℕ) → List ClassEntry → Type 0
ClassesPass pools classes = check_each (λ index class. check_class (length pools) (take index (class_names classes)) index (class_head pools class)) 0 classes ≡ Ok tt

abbrev pub ClientsPass : List ClientEntry → Type 0
ClientsPass clients = check_each (λ index client. check_client (take index (client_names clients)) index (client_head client)) 0 clients ≡ Ok tt

pools_pass : (pools : List Pool) (names : List (List ℕ)) → check_pools pools ≡ Ok names → PoolsPass pools × (map (λ pool. pool.name) pools ≡ names)
unfolding check_pools
pools_pass pools names e = bind_ok_then (check_each _ 0 pools) _ names e (λ passed at rest. (at, ok_injective {F = PlanFault} _ names rest))

classes_pass : (pools : List (List ℕ)) (classes : List ClassEntry) (names : List (List ℕ)) → check_classes pools classes ≡ Ok names → ClassesPass pools classes × (class_names classes ≡ names)
unfolding check_classes
classes_pass pools classes names e = bind_ok_then (check_each _ 0 classes) _ names e (λ passed at rest. (at, ok_injective {F = PlanFault} _ names rest))

clients_pass : (clients : List ClientEntry) (passed : Unit {0}) → check_clients clients ≡ Ok passed → ClientsPass clients
unfolding check_clients
clients_pass clients passed e = e

-- the results of the steps that parsed a plan
pub record IsRead (entries : Entries) (pools classes : List (List ℕ)) (plan : Plan) : Type 0 where
  pub pool_names_are : map (λ pool. pool.name) entries.pools ≡ pools
  pub class_names_are : class_names entries.classes ≡ classes
  pub pools_pass : PoolsPass entries.pools
  pub classes_pass : ClassesPass pools entries.classes
  pub clients_pass : ClientsPass entries.clients
  pub pools_are : entries.pools ≡ plan.pools
  pub classes_are : read_each (class_of pools classes) 0 entries.classes ≡ Ok plan.classes
  pub clients_are : read_each (client_of classes) 0 entries.clients ≡ Ok plan.clients

pub is_read : {P : Type 0} (entries : Entries) (plan : Plan) → plan_of_entries entries ≡ Ok plan → ((pools classes : List (List ℕ)) → IsRead entries pools classes plan → P) → P
unfolding plan_of_entries
is_read entries plan e next =
    bind_ok_then (check_pools entries.pools) _ plan e (λ pools at_pools e1.
    bind_ok_then (check_classes pools entries.classes) _ plan e1 (λ classes at_classes e2.
    bind_ok_then (check_clients entries.clients) _ plan e2 (λ passed at_clients e3.
    bind_ok_then (read_each (class_of pools classes) 0 entries.classes) _ plan e3 (λ ks at_ks e4.
    bind_ok_then (read_each (client_of classes) 0 entries.clients) _ plan e4 (λ cs at_cs e5.
    let same = ok_injective {F = PlanFault} _ plan e5 in
    next pools classes (record {
      pool_names_are = (pools_pass entries.pools pools at_pools).1;
      class_names_are = (classes_pass pools entries.classes classes at_classes).1;
      pools_pass = (pools_pass entries.pools pools at_pools).0;
      classes_pass = (classes_pass pools entries.classes classes at_classes).0;
      clients_pass = clients_pass entries.clients passed at_clients;
      pools_are = ap (λ (p : Plan). p.pools) same;
      classes_are = at_ks ∙ ap (λ (p : Plan). given {F = PlanFault} p.classes) same;
      clients_are = at_cs ∙ ap (λ (p : Plan). given {F = PlanFault} p.clients) same;
    }))))))

-- ---- the checks of a parsed plan
counts_pass : (plan : Plan) → nat_le (length plan.pools) MAX_POOLS ≡ true → nat_le (length plan.classes) MAX_CLASSES ≡ true → nat_le (length plan.clients) MAX_CLIENT_KINDS ≡ true → check_counts plan ≡ Ok tt
counts_pass plan few_pools few_classes few_clients =
    both_pass _ _ tt (test_passes _ (at_text TOO_MANY) few_pools) (both_pass _ _ tt (test_passes _ (at_text TOO_MANY) few_classes) (test_passes _ (at_text TOO_MANY) few_clients))

lengths_pass : (entries : Entries) (pools classes : List (List ℕ)) (plan : Plan) → AreWithinLimits entries → IsRead entries pools classes plan → check_lengths plan ≡ Ok tt
lengths_pass entries pools classes plan limits r =
    both_pass _ _ tt
    (each_passes (λ index class. check_length part.Class index class.body) plan.classes (λ i made here.
    let from = read_at (class_of pools classes) entries.classes plan.classes i made r.classes_are here in
    let is = class_is pools classes i from.0 made from.2 in
    test_passes _ _ (rw (body_length classes part.Class i from.0.body made.body is.body) (limits.classes i from.0 from.1))))
    (each_passes (λ index client. check_length part.Client index client.body) plan.clients (λ i made here.
    let from = read_at (client_of classes) entries.clients plan.clients i made r.clients_are here in
    let is = client_is classes i from.0 made from.2 in
    test_passes _ _ (rw (body_length classes part.Client i from.0.body made.body is.body) (limits.clients i from.0 from.1))))

class_names_stay : (entries : Entries) (pools classes : List (List ℕ)) (plan : Plan) → IsRead entries pools classes plan → map (λ class. class.name) plan.classes ≡ class_names entries.classes
class_names_stay entries pools classes plan r =
    read_images (class_of pools classes) (λ class. class.name) (λ class. class.name) entries.classes plan.classes (λ i class made e. (class_is pools classes i class made e).name) r.classes_are

client_names_stay : (entries : Entries) (pools classes : List (List ℕ)) (plan : Plan) → IsRead entries pools classes plan → map (λ client. client.name) plan.clients ≡ client_names entries.clients
client_names_stay entries pools classes plan r =
    read_images (client_of classes) (λ client. client.name) (λ client. client.name) entries.clients plan.clients (λ i client made e. (client_is classes i client made e).name) r.clients_are

class_passes : (entries : Entries) (pools classes : List (List ℕ)) (plan : Plan) → IsRead entries pools classes plan
    → EachPlace plan.classes (λ i made. check_class (length plan.pools) (take i (map (λ class. class.name) plan.classes)) i made ≡ Ok tt)
class_passes entries pools classes plan r i made here =
    let from = read_at (class_of pools classes) entries.classes plan.classes i made r.classes_are here in
    let is = class_is pools classes i from.0 made from.2 in
    let passed = each_passed (λ index class. check_class (length pools) (take index (class_names entries.classes)) index (class_head pools class)) entries.classes r.classes_pass i from.0 from.1 in
    let long : length plan.pools ≡ length pools = ap (λ (ps : List Pool). length ps) (sym r.pools_are) ∙ sym (length-map entries.pools (λ pool. pool.name)) ∙ ap (λ (ns : List (List ℕ)). length ns) r.pool_names_are in
    rw (long, class_names_stay entries pools classes plan r) (subst (λ (k : Class). check_class (length pools) (take i (class_names entries.classes)) i k ≡ Ok tt) is.head passed)

client_passes : (entries : Entries) (pools classes : List (List ℕ)) (plan : Plan) → IsRead entries pools classes plan
    → EachPlace plan.clients (λ i made. check_client (take i (map (λ client. client.name) plan.clients)) i made ≡ Ok tt)
client_passes entries pools classes plan r i made here =
    let from = read_at (client_of classes) entries.clients plan.clients i made r.clients_are here in
    let is = client_is classes i from.0 made from.2 in
    let passed = each_passed (λ index client. check_client (take index (client_names entries.clients)) index (client_head client)) entries.clients r.clients_pass i from.0 from.1 in
    rw (client_names_stay entries pools classes plan r) (subst (λ (c : Client). check_client (take i (client_names entries.clients)) i c ≡ Ok tt) is.head passed)

entries_pass : (entries : Entries) (pools classes : List (List ℕ)) (plan : Plan) → IsRead entries pools classes plan → check_entries plan ≡ Ok tt
entries_pass entries pools classes plan r =
    both_pass _ _ tt
    (subst (λ (ps : List Pool). PoolsPass ps) r.pools_are r.pools_pass)
    (both_pass _ _ tt
    (each_passes (λ index. check_class (length plan.pools) (take index (map (λ class. class.name) plan.classes)) index) plan.classes (class_passes entries pools classes plan r))
    (each_passes (λ index. check_client (take index (map (λ client. client.name) plan.clients)) index) plan.clients (client_passes entries pools classes plan r)))

bodies_pass : (entries : Entries) (pools classes : List (List ℕ)) (plan : Plan) → IsRead entries pools classes plan → check_bodies plan ≡ Ok tt
bodies_pass entries pools classes plan r =
    let long : length plan.classes ≡ length classes =
    read_length (class_of pools classes) 0 entries.classes plan.classes r.classes_are ∙ sym (length-map entries.classes (λ class. class.name)) ∙ ap (λ (ns : List (List ℕ)). length ns) r.class_names_are in
    both_pass _ _ tt
    (each_passes (λ index class. check_body (length plan.classes) part.Class index class.body) plan.classes (λ i made here.
    let from = read_at (class_of pools classes) entries.classes plan.classes i made r.classes_are here in
    let is = class_is pools classes i from.0 made from.2 in
    body_passes classes part.Class i from.0.body made.body is.body (length plan.classes) part.Class i long))
    (each_passes (λ index client. check_body (length plan.classes) part.Client index client.body) plan.clients (λ i made here.
    let from = read_at (client_of classes) entries.clients plan.clients i made r.clients_are here in
    let is = client_is classes i from.0 made from.2 in
    body_passes classes part.Client i from.0.body made.body is.body (length plan.classes) part.Client i long))

-- a parsed plan passes all checks of a plan
builds_read : (entries : Entries) (plan : Plan) → AreWithinLimits entries → plan_of_entries entries ≡ Ok plan → build plan ≡ Ok plan
builds_read entries plan limits e = is_read entries plan e (λ pools classes r.
    let few_pools : nat_le (length plan.pools) MAX_POOLS ≡ true = rw (← r.pools_are) limits.few_pools in
    let few_classes : nat_le (length plan.classes) MAX_CLASSES ≡ true = rw (read_length (class_of pools classes) 0 entries.classes plan.classes r.classes_are) limits.few_classes in
    let few_clients : nat_le (length plan.clients) MAX_CLIENT_KINDS ≡ true = rw (read_length (client_of classes) 0 entries.clients plan.clients r.clients_are) limits.few_clients in
    both_pass (check_counts plan) _ plan (counts_pass plan few_pools few_classes few_clients)
    (both_pass (check_lengths plan) _ plan (lengths_pass entries pools classes plan limits r)
    (both_pass (check_entries plan) _ plan (entries_pass entries pools classes plan r)
    (both_pass (check_bodies plan) _ plan (bodies_pass entries pools classes plan r) refl))))

-- a parsed plan is well-formed
pub well_formed_read : (entries : Entries) (plan : Plan) → AreWithinLimits entries → plan_of_entries entries ≡ Ok plan → IsWellFormed plan
well_formed_read entries plan limits e = well_formed plan plan (builds_read entries plan limits e)
