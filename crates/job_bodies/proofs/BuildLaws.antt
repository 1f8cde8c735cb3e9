-- Proofs that a plan is built exactly when it is well-formed.
use Rattle.std.proofs.Common.{◌≡◌, ◌↔◌, ℕ, Bool, true, false, nat_le, nat_lt, List, length, take, map, slice_get, Some, Result, Ok, Err, refl, sym, ap, subst, ◌∙◌, zero-add, ◌+◌, option_map}
use Rattle.std.specs.Prelude.{IsOk}
use Rattle.std.specs.List.{list_all, list_any, enumerate_from}
use Rattle.std.specs.Str.{bytes_eq}
use Rattle.std.proofs.lemmas.Bool.{and_parts, and_from, leb-true, le-leb, not-true, not_from_false}
use Rattle.std.proofs.lemmas.Option.{slice_get-map}
use Rattle.support.specs.Reading.{◌>>=◌, ensure, check_each}
use Rattle.job_bodies.specs.declared.action.Action.{Action}
use Rattle.job_bodies.specs.declared.action.Action.TheVariants.{Work, Submit, Get}
use Rattle.job_bodies.specs.declared.fault.PlanFault.{PlanFault}
use Rattle.job_bodies.specs.declared.fault.Part.{Part}
use Rattle.job_bodies.specs.declared.fault.Part.TheVariants as part
use Rattle.support.specs.declared.number.TheConstants.{BAD_NUMBER, NO_SUCH_POOL}
use Rattle.job_bodies.specs.declared.limits.TheConstants.{MAX_POOLS, MAX_CLASSES, MAX_ACTIONS, MAX_SIZE}
use Rattle.job_bodies.specs.Plan.{Class, Client, Plan}
use Rattle.job_bodies.specs.WellFormed.{is_within, is_valid_name, has_valid_sizes, are_distinct, is_valid_action, is_valid_pool, is_valid_class, is_valid_client, IsWellFormed}
use Rattle.job_bodies.specs.Checks.{at_entry, check_name, check_length, check_action, check_body}
use Rattle.job_bodies.specs.Build.{check_counts, check_lengths, check_entries, check_bodies, build}
use Rattle.job_bodies.proofs.Bodies.{list_all_get, list_all_enumerated}
use Rattle.job_bodies.proofs.Passing.{both_passed, both_pass, test_passed, test_passes, EachPlace, each_passed, each_passes, list_all_from, list_all_enumerated_from, mapped_get}
use Rattle.job_bodies.proofs.DistinctNames.{distinct_before, distinct_from}

-- ---- the checks of a list of entries, each of which checks the name and one other property
abbrev check_entry : {X : Type 0} → (X → List ℕ) → (X → Bool) → Part → ℕ → List X → ℕ → X → Result (Unit {0}) PlanFault
check_entry name test part number xs index x = check_name (take index (map name xs)) part index (name x) >>= λ _. ensure (test x) (at_entry part index number)

record AreValid {X : Type 0} (name : X → List ℕ) (test : X → Bool) (xs : List X) : Type 0 where
  distinct : are_distinct (map name xs) ≡ true
  names : EachPlace xs (λ i x. is_valid_name (name x) ≡ true)
  tests : EachPlace xs (λ i x. test x ≡ true)

entries_passed : {X : Type 0} (name : X → List ℕ) (test : X → Bool) (part : Part) (number : ℕ) (xs : List X) → check_each (check_entry name test part number xs) 0 xs ≡ Ok tt → AreValid name test xs
entries_passed {X} name test part number xs h =
    let check = check_entry name test part number xs in
    let steps : (i : ℕ) (x : X) → slice_get xs i ≡ Some x → (check_name (take i (map name xs)) part i (name x) ≡ Ok tt) × (test x ≡ true) =
    λ i x e. let p = both_passed (check_name (take i (map name xs)) part i (name x)) _ tt (each_passed check xs h i x e) in (p.0, test_passed (test x) _ p.1) in
    let names : (i : ℕ) (x : X) → slice_get xs i ≡ Some x → (is_valid_name (name x) ≡ true) × (list_any (bytes_eq (name x)) (take i (map name xs)) ≡ false) =
    λ i x e. let p = both_passed (ensure (is_valid_name (name x)) _) _ tt (steps i x e).0 in (test_passed _ _ p.0, not-true _ (test_passed _ _ p.1)) in
    record {
      distinct = distinct_from (map name xs) (λ i y e. let found = mapped_get name xs i y e in rw (← found.2) (names i found.0 found.1).1);
      names = λ i x e. (names i x e).0;
      tests = λ i x e. (steps i x e).1;
    }

entries_pass : {X : Type 0} (name : X → List ℕ) (test : X → Bool) (part : Part) (number : ℕ) (xs : List X) → AreValid name test xs → check_each (check_entry name test part number xs) 0 xs ≡ Ok tt
entries_pass name test part number xs w = each_passes (check_entry name test part number xs) xs (λ i x e.
    let named : slice_get (map name xs) i ≡ Some (name x) = slice_get-map name xs i ∙ ap (λ o. option_map name o) e in
    let new = not_from_false _ (distinct_before (map name xs) w.distinct i (name x) named) in
    both_pass _ _ tt (both_pass _ _ tt (test_passes _ _ (w.names i x e)) (test_passes _ _ new)) (test_passes _ _ (w.tests i x e)))

-- ---- the checks of the lengths of bodies
lengths_passed : {X : Type 0} (body : X → List Action) (part : Part) (xs : List X) → check_each (λ index x. check_length part index (body x)) 0 xs ≡ Ok tt → EachPlace xs (λ i x. nat_le (length (body x)) MAX_ACTIONS ≡ true)
lengths_passed body part xs h i x e = test_passed _ _ (each_passed (λ index x. check_length part index (body x)) xs h i x e)

lengths_pass : {X : Type 0} (body : X → List Action) (part : Part) (xs : List X) → EachPlace xs (λ i x. nat_le (length (body x)) MAX_ACTIONS ≡ true) → check_each (λ index x. check_length part index (body x)) 0 xs ≡ Ok tt
lengths_pass body part xs h = each_passes (λ index x. check_length part index (body x)) xs (λ i x e. test_passes _ _ (h i x e))

-- ---- the checks of bodies
action_passed : (classes : ℕ) (part : Part) (index : ℕ) (body : List Action) (i : ℕ) (action : Action) → check_action classes part index body i action ≡ Ok tt → is_valid_action classes body i action ≡ true
action_passed classes part index body i (Work u) h = test_passed _ _ h
action_passed classes part index body i (Submit k) h = test_passed _ _ h
action_passed classes part index body i (Get t) h = test_passed _ _ h

action_passes : (classes : ℕ) (part : Part) (index : ℕ) (body : List Action) (i : ℕ) (action : Action) → is_valid_action classes body i action ≡ true → check_action classes part index body i action ≡ Ok tt
action_passes classes part index body i (Work u) h = test_passes _ _ h
action_passes classes part index body i (Submit k) h = test_passes _ _ h
action_passes classes part index body i (Get t) h = test_passes _ _ h

-- whether all actions of the body are valid
abbrev are_valid_actions : ℕ → List Action → Bool
are_valid_actions classes body = list_all (λ entry. is_valid_action classes body entry.0 entry.1) (enumerate_from 0 body)

body_passed : (classes : ℕ) (part : Part) (index : ℕ) (body : List Action) → check_body classes part index body ≡ Ok tt → are_valid_actions classes body ≡ true
body_passed classes part index body h =
    list_all_enumerated_from (λ entry. is_valid_action classes body entry.0 entry.1) 0 body (λ i action e.
    let place : 0 + i ≡ i = zero-add i in
    rw place (action_passed classes part index body i action (each_passed (check_action classes part index body) body h i action e)))

body_passes : (classes : ℕ) (part : Part) (index : ℕ) (body : List Action) → are_valid_actions classes body ≡ true → check_body classes part index body ≡ Ok tt
body_passes classes part index body h = each_passes (check_action classes part index body) body (λ i action e.
    let found : is_valid_action classes body (0 + i) action ≡ true = list_all_enumerated (λ entry. is_valid_action classes body entry.0 entry.1) 0 body i action h e in
    action_passes classes part index body i action (subst (λ (k : ℕ). is_valid_action classes body k action ≡ true) (zero-add i) found))

bodies_passed : {X : Type 0} (body : X → List Action) (classes : ℕ) (part : Part) (xs : List X) → check_each (λ index x. check_body classes part index (body x)) 0 xs ≡ Ok tt → EachPlace xs (λ i x. are_valid_actions classes (body x) ≡ true)
bodies_passed body classes part xs h i x e = body_passed classes part i (body x) (each_passed (λ index x. check_body classes part index (body x)) xs h i x e)

bodies_pass : {X : Type 0} (body : X → List Action) (classes : ℕ) (part : Part) (xs : List X) → EachPlace xs (λ i x. are_valid_actions classes (body x) ≡ true) → check_each (λ index x. check_body classes part index (body x)) 0 xs ≡ Ok tt
bodies_pass body classes part xs h = each_passes (λ index x. check_body classes part index (body x)) xs (λ i x e. body_passes classes part i (body x) (h i x e))

-- ---- the checks of a whole plan
-- each of the four groups of checks passed
record Passed (plan : Plan) : Type 0 where
  counts : check_counts plan ≡ Ok tt
  lengths : check_lengths plan ≡ Ok tt
  entries : check_entries plan ≡ Ok tt
  bodies : check_bodies plan ≡ Ok tt

all_passed : (plan built : Plan) → build plan ≡ Ok built → Passed plan
all_passed plan built h =
    let p = both_passed (check_counts plan) _ built h in
    let q = both_passed (check_lengths plan) _ built p.1 in
    let r = both_passed (check_entries plan) _ built q.1 in
    let s = both_passed (check_bodies plan) _ built r.1 in
    record { counts = p.0; lengths = q.0; entries = r.0; bodies = s.0 }

all_pass : (plan : Plan) → Passed plan → build plan ≡ Ok plan
all_pass plan p =
    both_pass (check_counts plan) _ plan p.counts (both_pass (check_lengths plan) _ plan p.lengths (both_pass (check_entries plan) _ plan p.entries (both_pass (check_bodies plan) _ plan p.bodies refl)))

-- a plan for which `build` succeeds is well-formed
pub well_formed : (plan built : Plan) → build plan ≡ Ok built → IsWellFormed plan
well_formed plan built h =
    let p = all_passed plan built h in
    let few_pools = both_passed (ensure (nat_le (length plan.pools) MAX_POOLS) _) _ tt p.counts in
    let few = both_passed (ensure (nat_le (length plan.classes) MAX_CLASSES) _) _ tt few_pools.1 in
    let lengths = both_passed (check_each (λ index class. check_length part.Class index class.body) 0 plan.classes) _ tt p.lengths in
    let pool_entries = both_passed (check_each (check_entry (λ pool. pool.name) has_valid_sizes part.Pool BAD_NUMBER plan.pools) 0 plan.pools) _ tt p.entries in
    let entries = both_passed (check_each (check_entry (λ class. class.name) (λ class. nat_lt class.pool (length plan.pools)) part.Class NO_SUCH_POOL plan.classes) 0 plan.classes) _ tt pool_entries.1 in
    let bodies = both_passed (check_each (λ index class. check_body (length plan.classes) part.Class index class.body) 0 plan.classes) _ tt p.bodies in
    let pools = entries_passed (λ pool. pool.name) has_valid_sizes part.Pool BAD_NUMBER plan.pools pool_entries.0 in
    let classes = entries_passed (λ class. class.name) (λ class. nat_lt class.pool (length plan.pools)) part.Class NO_SUCH_POOL plan.classes entries.0 in
    let clients = entries_passed (λ client. client.name) (λ client. is_within 1 MAX_SIZE client.count) part.Client BAD_NUMBER plan.clients entries.1 in
    let class_lengths = lengths_passed (λ class. class.body) part.Class plan.classes lengths.0 in
    let client_lengths = lengths_passed (λ client. client.body) part.Client plan.clients lengths.1 in
    let class_bodies = bodies_passed (λ class. class.body) (length plan.classes) part.Class plan.classes bodies.0 in
    let client_bodies = bodies_passed (λ client. client.body) (length plan.classes) part.Client plan.clients bodies.1 in
    record {
      few_pools = leb-true _ _ (test_passed _ _ few_pools.0);
      few_classes = leb-true _ _ (test_passed _ _ few.0);
      few_clients = leb-true _ _ (test_passed _ _ few.1);
      pool_names = pools.distinct;
      class_names = classes.distinct;
      client_names = clients.distinct;
      pools = list_all_from is_valid_pool plan.pools (λ i pool e. and_from _ _ (pools.names i pool e) (pools.tests i pool e));
      classes = list_all_from (is_valid_class plan) plan.classes (λ i class e. and_from _ _ (and_from _ _ (classes.names i class e) (classes.tests i class e)) (and_from _ _ (class_lengths i class e) (class_bodies i class e)));
      clients = list_all_from (is_valid_client plan) plan.clients (λ i client e. and_from _ _ (and_from _ _ (clients.names i client e) (clients.tests i client e)) (and_from _ _ (client_lengths i client e) (client_bodies i client e)));
    }

-- `build` succeeds for a well-formed plan
pub builds : (plan : Plan) → IsWellFormed plan → build plan ≡ Ok plan
builds plan w =
    let pools : AreValid (λ pool. pool.name) has_valid_sizes plan.pools = record {
      distinct = w.pool_names;
      names = λ i pool e. (and_parts _ _ (list_all_get is_valid_pool plan.pools i pool w.pools e)).0;
      tests = λ i pool e. (and_parts _ _ (list_all_get is_valid_pool plan.pools i pool w.pools e)).1;
    } in
    let class_parts = λ (i : ℕ) (class : Class) (e : slice_get plan.classes i ≡ Some class). and_parts _ _ (list_all_get (is_valid_class plan) plan.classes i class w.classes e) in
    let classes : AreValid (λ class. class.name) (λ class. nat_lt class.pool (length plan.pools)) plan.classes = record {
      distinct = w.class_names;
      names = λ i class e. (and_parts _ _ (class_parts i class e).0).0;
      tests = λ i class e. (and_parts _ _ (class_parts i class e).0).1;
    } in
    let client_parts = λ (i : ℕ) (client : Client) (e : slice_get plan.clients i ≡ Some client). and_parts _ _ (list_all_get (is_valid_client plan) plan.clients i client w.clients e) in
    let clients : AreValid (λ client. client.name) (λ client. is_within 1 MAX_SIZE client.count) plan.clients = record {
      distinct = w.client_names;
      names = λ i client e. (and_parts _ _ (client_parts i client e).0).0;
      tests = λ i client e. (and_parts _ _ (client_parts i client e).0).1;
    } in
    all_pass plan (record {
      counts = both_pass _ _ tt (test_passes _ _ (le-leb _ _ w.few_pools)) (both_pass _ _ tt (test_passes _ _ (le-leb _ _ w.few_classes)) (test_passes _ _ (le-leb _ _ w.few_clients)));
      lengths = both_pass _ _ tt
          (lengths_pass (λ class. class.body) part.Class plan.classes (λ i class e. (and_parts _ _ (class_parts i class e).1).0))
          (lengths_pass (λ client. client.body) part.Client plan.clients (λ i client e. (and_parts _ _ (client_parts i client e).1).0));
      entries = both_pass _ _ tt
          (entries_pass (λ pool. pool.name) has_valid_sizes part.Pool BAD_NUMBER plan.pools pools)
          (both_pass _ _ tt
          (entries_pass (λ class. class.name) (λ class. nat_lt class.pool (length plan.pools)) part.Class NO_SUCH_POOL plan.classes classes)
          (entries_pass (λ client. client.name) (λ client. is_within 1 MAX_SIZE client.count) part.Client BAD_NUMBER plan.clients clients));
      bodies = both_pass _ _ tt
          (bodies_pass (λ class. class.body) (length plan.classes) part.Class plan.classes (λ i class e. (and_parts _ _ (class_parts i class e).1).1))
          (bodies_pass (λ client. client.body) (length plan.classes) part.Client plan.clients (λ i client e. (and_parts _ _ (client_parts i client e).1).1));
    })

-- `build` succeeds exactly when the plan is well-formed
pub built_exactly : (plan : Plan) → (build plan ≡ Ok plan) ↔ IsWellFormed plan
built_exactly plan = (well_formed plan plan, builds plan)

-- a result that equals that of `build` is Ok exactly when the plan is well-formed
pub answered_exactly : (plan : Plan) (answer : Result Plan PlanFault) → answer ≡ build plan → IsOk answer ↔ IsWellFormed plan
answered_exactly plan (Ok built) h = (λ _. well_formed plan built (sym h), λ _. refl)
answered_exactly plan (Err fault) h = (λ ok. cc, λ w. let e : build plan ≡ Ok plan = builds plan w in cc)
