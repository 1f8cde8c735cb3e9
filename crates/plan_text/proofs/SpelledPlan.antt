-- Proofs that the document of a plan is read as its effective plan.
use Rattle.std.proofs.Common.{◌≡◌, ℕ, ◌≤◌, true, ◌&&◌, ◌||◌, le-leb, List, [], length, map, take, slice_get, Some, Ok, refl, ap, subst, ◌∙◌}
use Rattle.std.specs.Str.{is_utf8}
use Rattle.std.proofs.lemmas.Bool.{and_parts, ltb-true}
use Rattle.std.proofs.lemmas.List.{length-map}
use Rattle.std.proofs.lemmas.Simd.{map-map}
use Rattle.toml.specs.Parse.{parse_document}
use Rattle.support.specs.Reading.{check_each}
use Rattle.job_bodies.specs.declared.fault.Part.TheVariants as part
use Rattle.job_bodies.specs.Plan.{Class, Client, Plan, pool_names}
use Rattle.job_bodies.specs.WellFormed.{is_within, has_no_max, is_valid_name, is_valid_pool, is_valid_body, is_valid_class, is_valid_client, IsWellFormed}
use Rattle.job_bodies.specs.Checks.{check_pool, check_class, check_client}
use Rattle.job_bodies.specs.Build.{check_counts, check_lengths, check_entries}
use Rattle.job_bodies.proofs.Bodies.{list_all_get}
use Rattle.job_bodies.proofs.BuildLaws.{builds}
use Rattle.job_bodies.proofs.Passing.{both_passed, EachPlace, each_passed, each_passes, mapped_get}
use Rattle.job_bodies.specs.declared.limits.TheConstants.{MAX_PLAN_BYTES, MAX_SIZE}
use Rattle.plan_text.specs.Document.{document_of}
use Rattle.plan_text.specs.Entries.{ClassEntry, ClientEntry}
use Rattle.plan_text.specs.Checks.{class_names, client_names, class_head, client_head, check_pools, check_classes, check_clients}
use Rattle.plan_text.specs.Bodies.{class_of, client_of}
use Rattle.plan_text.specs.EffectivePlan.{effective_plan}
use Rattle.plan_text.specs.PlanDocument.{plan_document}
use Rattle.plan_text.specs.PlanOf.{plan_of_entries, plan_of}
use Rattle.plan_text.proofs.SpelledBodies.{place_is, length-texts, reads_back}
use Rattle.plan_text.proofs.EffectivePlans.{effective_is_well_formed}
use Rattle.plan_text.proofs.SpelledEntries.{read_again, class_entry, client_entry, class_names_of, entries_in, IsShort, has_valid_max, entries_back, keys_are_known}

-- ---- the checks of names and numbers
record Checked (plan : Plan) : Type 0 where
  pools : check_each (λ index. check_pool (take index (map (λ pool. pool.name) plan.pools)) index) 0 plan.pools ≡ Ok tt
  classes : check_each (λ index. check_class (length plan.pools) (take index (map (λ class. class.name) plan.classes)) index) 0 plan.classes ≡ Ok tt
  clients : check_each (λ index. check_client (take index (map (λ client. client.name) plan.clients)) index) 0 plan.clients ≡ Ok tt

checked : (plan : Plan) → IsWellFormed plan → Checked plan
checked plan w =
    let counts = both_passed (check_counts plan) _ plan (builds plan w) in
    let lengths = both_passed (check_lengths plan) _ plan counts.1 in
    let entries = both_passed (check_entries plan) _ plan lengths.1 in
    let pools = both_passed (check_each (λ index. check_pool (take index (map (λ pool. pool.name) plan.pools)) index) 0 plan.pools) _ tt entries.0 in
    let classes = both_passed (check_each (λ index. check_class (length plan.pools) (take index (map (λ class. class.name) plan.classes)) index) 0 plan.classes) _ tt pools.1 in
    record { pools = pools.0; classes = classes.0; clients = classes.1 }

class_parts : (plan : Plan) → IsWellFormed plan → EachPlace plan.classes (λ i class. is_valid_class plan class ≡ true)
class_parts plan w i class e = list_all_get (is_valid_class plan) plan.classes i class w.classes e

client_parts : (plan : Plan) → IsWellFormed plan → EachPlace plan.clients (λ i client. is_valid_client plan client ≡ true)
client_parts plan w i client e = list_all_get (is_valid_client plan) plan.clients i client w.clients e

class_body : (plan : Plan) → IsWellFormed plan → EachPlace plan.classes (λ i class. is_valid_body (length plan.classes) class.body ≡ true)
class_body plan w i class e = (and_parts _ _ (class_parts plan w i class e)).1

client_body : (plan : Plan) → IsWellFormed plan → EachPlace plan.clients (λ i client. is_valid_body (length plan.classes) client.body ≡ true)
client_body plan w i client e = (and_parts _ _ (client_parts plan w i client e)).1

-- the pool that a class's entry names is the pool of the class
pool_place : (plan : Plan) → IsWellFormed plan → (i : ℕ) (class : Class) → slice_get plan.classes i ≡ Some class
    → class_head (pool_names plan) (class_entry (pool_names plan) (class_names_of plan) class) ≡ record { name = class.name; pool = class.pool; body = [] }
pool_place plan w i class e =
    let within = ltb-true _ _ (and_parts _ _ (and_parts _ _ (class_parts plan w i class e)).0).1 in
    let long : length (pool_names plan) ≡ length plan.pools = length-map plan.pools (λ pool. pool.name) in
    let place = place_is (pool_names plan) w.pool_names class.pool (rw long within) in
    rw place refl

names_of_entries : (plan : Plan) → class_names (entries_in plan).classes ≡ class_names_of plan
names_of_entries plan = map-map (λ (entry : ClassEntry). entry.name) (class_entry (pool_names plan) (class_names_of plan)) plan.classes

client_names_of_entries : (plan : Plan) → client_names (entries_in plan).clients ≡ map (λ client. client.name) plan.clients
client_names_of_entries plan = map-map (λ (entry : ClientEntry). entry.name) (client_entry (class_names_of plan)) plan.clients

pools_checked : (plan : Plan) → IsWellFormed plan → check_pools plan.pools ≡ Ok (pool_names plan)
unfolding check_pools
pools_checked plan w = rw (checked plan w).pools refl

classes_checked : (plan : Plan) → IsWellFormed plan → check_classes (pool_names plan) (entries_in plan).classes ≡ Ok (class_names_of plan)
unfolding check_classes
classes_checked plan w =
    let check = λ (index : ℕ) (class : ClassEntry). check_class (length (pool_names plan)) (take index (class_names (entries_in plan).classes)) index (class_head (pool_names plan) class) in
    let long : length (pool_names plan) ≡ length plan.pools = length-map plan.pools (λ pool. pool.name) in
    let passes : check_each check 0 (entries_in plan).classes ≡ Ok tt = each_passes check (entries_in plan).classes (λ i entry e.
    let from = mapped_get (class_entry (pool_names plan) (class_names_of plan)) plan.classes i entry e in
    let head = class_head (pool_names plan) (class_entry (pool_names plan) (class_names_of plan) from.0) in
    let same : check i (class_entry (pool_names plan) (class_names_of plan) from.0) ≡ check_class (length plan.pools) (take i (class_names_of plan)) i from.0 =
    ap (λ (n : ℕ). check_class n (take i (class_names (entries_in plan).classes)) i head) long
    ∙ ap (λ (names : List (List ℕ)). check_class (length plan.pools) (take i names) i head) (names_of_entries plan)
    ∙ ap (λ (class : Class). check_class (length plan.pools) (take i (class_names_of plan)) i class) (pool_place plan w i from.0 from.1) in
    let passed = each_passed (λ index. check_class (length plan.pools) (take index (class_names_of plan)) index) plan.classes (checked plan w).classes i from.0 from.1 in
    subst (λ (class : ClassEntry). check i class ≡ Ok tt) from.2 (same ∙ passed)) in
    rw (passes, names_of_entries plan) refl

clients_checked : (plan : Plan) → IsWellFormed plan → check_clients (entries_in plan).clients ≡ Ok tt
unfolding check_clients
clients_checked plan w =
    each_passes (λ index client. check_client (take index (client_names (entries_in plan).clients)) index (client_head client)) (entries_in plan).clients (λ i entry e.
    let from = mapped_get (client_entry (class_names_of plan)) plan.clients i entry e in
    let passed = each_passed (λ index. check_client (take index (map (λ client. client.name) plan.clients)) index) plan.clients (checked plan w).clients i from.0 from.1 in
    rw (← from.2, client_names_of_entries plan) passed)

-- ---- the bodies of classes and client kinds
class_names_valid : (plan : Plan) → IsWellFormed plan → EachPlace (class_names_of plan) (λ i name. is_valid_name name ≡ true)
class_names_valid plan w i name e =
    let from = mapped_get (λ class. class.name) plan.classes i name e in
    rw (← from.2) (and_parts _ _ (and_parts _ _ (class_parts plan w i from.0 from.1)).0).0

as_many : (plan : Plan) → length (class_names_of plan) ≡ length plan.classes
as_many plan = length-map plan.classes (λ class. class.name)

class_again : (plan : Plan) → IsWellFormed plan → (i : ℕ) (class : Class) → slice_get plan.classes i ≡ Some class
    → class_of (pool_names plan) (class_names_of plan) i (class_entry (pool_names plan) (class_names_of plan) class) ≡ Ok class
class_again plan w i class e =
    let body = reads_back (class_names_of plan) part.Class i class.body w.class_names (class_names_valid plan w) (rw (as_many plan) (class_body plan w i class e)) in
    let within = ltb-true _ _ (and_parts _ _ (and_parts _ _ (class_parts plan w i class e)).0).1 in
    let long : length (pool_names plan) ≡ length plan.pools = length-map plan.pools (λ pool. pool.name) in
    let place = place_is (pool_names plan) w.pool_names class.pool (rw long within) in
    rw (body, place) refl

client_again : (plan : Plan) → IsWellFormed plan → (i : ℕ) (client : Client) → slice_get plan.clients i ≡ Some client
    → client_of (class_names_of plan) i (client_entry (class_names_of plan) client) ≡ Ok client
client_again plan w i client e =
    let body = reads_back (class_names_of plan) part.Client i client.body w.class_names (class_names_valid plan w) (rw (as_many plan) (client_body plan w i client e)) in
    rw body refl

entries_again : (plan : Plan) → IsWellFormed plan → plan_of_entries (entries_in plan) ≡ Ok plan
unfolding plan_of_entries
entries_again plan w =
    let classes = read_again (class_of (pool_names plan) (class_names_of plan)) (class_entry (pool_names plan) (class_names_of plan)) plan.classes (class_again plan w) in
    let clients = read_again (client_of (class_names_of plan)) (client_entry (class_names_of plan)) plan.clients (client_again plan w) in
    rw (pools_checked plan w, classes_checked plan w, clients_checked plan w, classes, clients) refl

-- ---- the text of a plan
is_short : (plan : Plan) → IsWellFormed plan → IsShort plan
is_short plan w = record {
  few_pools = le-leb _ _ w.few_pools;
  few_classes = le-leb _ _ w.few_classes;
  few_clients = le-leb _ _ w.few_clients;
  classes = λ i class e. rw (length-texts (class_names_of plan) class.body) (and_parts _ _ (class_body plan w i class e)).0;
  clients = λ i client e. rw (length-texts (class_names_of plan) client.body) (and_parts _ _ (client_body plan w i client e)).0;
}

-- the maximum of each pool is valid
maximum_valid : (plan : Plan) → IsWellFormed plan → EachPlace plan.pools (λ i pool. has_valid_max pool ≡ true)
maximum_valid plan w i pool e =
    let valid = and_parts (is_valid_name pool.name) _ (list_all_get is_valid_pool plan.pools i pool w.pools e) in
    let sizes = and_parts (is_within 1 MAX_SIZE pool.core && (is_within pool.core MAX_SIZE pool.max || has_no_max pool)) _ valid.1 in
    (and_parts (is_within 1 MAX_SIZE pool.core) _ sizes.0).1

-- a text for the document of a plan, if it is not longer than a plan's text may be, is read as the effective plan
pub text_again : (plan : Plan) (text : List ℕ) → IsWellFormed plan → is_utf8 text ≡ true → length text ≤ MAX_PLAN_BYTES → parse_document text ≡ Some (plan_document plan) → plan_of text ≡ Ok (effective_plan plan)
unfolding plan_of document_of
text_again plan text w valid short parsed =
    rw (le-leb (length text) MAX_PLAN_BYTES short, valid, parsed, keys_are_known plan, entries_back plan (is_short plan w) (maximum_valid plan w)) (entries_again (effective_plan plan) (effective_is_well_formed plan w))
