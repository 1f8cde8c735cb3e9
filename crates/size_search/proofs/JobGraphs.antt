-- The edges of the graphs of a plan's classes and pools.
use Rattle.std.proofs.Common.{◌≡◌, ℕ, ◌+◌, ◌-◌, ◌<◌, ◌≤◌, Bool, true, false, not, ◌||◌, ◌&&◌, cond, eqb, List, [], ◌∷◌, ◌++◌, length, drop, map, filter, flat_map, get_or, slice_get, Option, Some, None, ⊎_elim, refl, sym, ap, subst, ◌∙◌, append_assoc, arith, zero-add}
use Rattle.std.specs.List.{enumerate_from}
use Rattle.std.proofs.lemmas.Bool.{cases_lt, and_parts, and_from, eqb-true, eq-eqb}
use Rattle.std.proofs.lemmas.List.{length-map, length-append, get_or-map, get_or_append_left, get_or-append-add, get_or_past, at_drop_more, at_drop_all, append-nil}
use Rattle.std.proofs.lemmas.Option.{get_or_from_slice_get, slice_get-get_or}
use Rattle.support.specs.In.{In, here, there}
use Rattle.support.proofs.Members.{not_In_nil, In-cons_cases, In-map, In-map_from, In-filter, In-filter_from, In-flat_map, In-flat_map_from, In-slice_get, In-enumerate_from}
use Rattle.job_bodies.specs.declared.action.Action.{Action}
use Rattle.job_bodies.specs.declared.action.Action.TheVariants.{Work, Submit, Get}
use Rattle.job_bodies.specs.Plan.{Pool, Class, Client, Plan, no_pool, no_class, no_client, pool_at, class_at, client_at, submits, class_of_submit, submitted_class}
use Rattle.job_bodies.specs.WellFormed.{IsWellFormed}
use Rattle.job_bodies.specs.ValidBody.{IsValidBody}
use Rattle.job_bodies.proofs.Bodies.{HasValidBodies, ordered}
use Rattle.size_search.specs.Graph.{successors, IsReached, at_start, by_edge, AreNodes, IsClosed}
use Rattle.size_search.specs.Marks.{MarksReached}
use Rattle.size_search.proofs.Following.{node_inside}
use Rattle.size_search.specs.Submitted.{IsSubmitted, begins, follows, repeated_bodies}
use Rattle.size_search.specs.ByClients.{client_bodies, MarksSubmitted, MarksRepeated}
use Rattle.size_search.specs.Waiting.{GetsClass}
use Rattle.size_search.specs.JobGraphs.{submits_of, gets_of, submits_of_client, client_submits, submit_graph, pool_node, class_waits, marked_gets, pool_waits, class_nodes, pool_nodes, wait_graph}
use Rattle.size_search.proofs.Opened.{place_in}
use Rattle.size_search.proofs.Holding.{at_number}
use Rattle.size_search.proofs.Shapes.{get_or-changed}
use Rattle.size_search.proofs.Numbered.{length-numbered, numbered_at}

-- ---- the submits of a body

pub In-submits : {k : ℕ} {body : List Action} → In (Submit k) body → In k (submits_of body)
In-submits here = here
In-submits (there {y = Work u} at) = In-submits at
In-submits (there {y = Submit j} at) = there (In-submits at)
In-submits (there {y = Get t} at) = In-submits at

pub In-submits_from : (k : ℕ) (body : List Action) → In k (submits_of body) → In (Submit k) body
In-submits_from k [] at = absurd (not_In_nil at)
In-submits_from k (Work u ∷ rest) at = there (In-submits_from k rest at)
In-submits_from k (Submit j ∷ rest) at =
    ⊎_elim
    (λ (same : k ≡ j). subst (λ (i : ℕ). In (Submit k) (Submit i ∷ rest)) same here)
    (λ later. there (In-submits_from k rest later))
    (In-cons_cases at)
In-submits_from k (Get t ∷ rest) at = there (In-submits_from k rest at)

-- a submitted class is a class of the plan
pub submitted_inside : (plan : Plan) (body : List Action) (k : ℕ) → IsValidBody plan body → In (Submit k) body → k < length plan.classes
submitted_inside plan body k valid at = let place = place_in at in valid.submit place.0 k place.1

-- ---- the gets of a body

In-gets : (body : List Action) {t : ℕ} {rest : List Action} → In (Get t) rest → In (submitted_class body t) (gets_of body rest)
In-gets body here = here
In-gets body (there {y = Work u} at) = In-gets body at
In-gets body (there {y = Submit k} at) = In-gets body at
In-gets body (there {y = Get s} at) = there (In-gets body at)

pub got_in : (body : List Action) (j : ℕ) → GetsClass body j → In j (gets_of body body)
got_in body j gets = subst (λ (k : ℕ). In k (gets_of body body)) gets.of_class (In-gets body gets.at)

In-gets_from : (body : List Action) (j : ℕ) (rest : List Action) → In j (gets_of body rest) → (t : ℕ) × In (Get t) rest × (submitted_class body t ≡ j)
In-gets_from body j [] at = absurd (not_In_nil at)
In-gets_from body j (Work u ∷ rest) at = let found = In-gets_from body j rest at in (found.0, there found.1, found.2)
In-gets_from body j (Submit k ∷ rest) at = let found = In-gets_from body j rest at in (found.0, there found.1, found.2)
In-gets_from body j (Get t ∷ rest) at =
    ⊎_elim
    (λ (same : j ≡ submitted_class body t). (t, here, sym same))
    (λ later. let found = In-gets_from body j rest later in (found.0, there found.1, found.2))
    (In-cons_cases at)

pub got_from : (body : List Action) (j : ℕ) → In j (gets_of body body) → GetsClass body j
got_from body j at = let found = In-gets_from body j body at in record { submit = found.0; at = found.1; of_class = found.2 }

submit_of : (x : Option Action) → submits x ≡ true → x ≡ Some (Submit (class_of_submit x))
submit_of (Some (Submit k)) passes = refl
submit_of (Some (Work u)) passes = absurd cc
submit_of (Some (Get t)) passes = absurd cc
submit_of None passes = absurd cc

-- a body submits the classes that it gets
pub submits_what_it_gets : (plan : Plan) (body : List Action) (j : ℕ) → IsValidBody plan body → GetsClass body j → In (Submit j) body
submits_what_it_gets plan body j valid gets =
    let place = place_in gets.at in
    let is : slice_get body gets.submit ≡ Some (Submit (submitted_class body gets.submit)) = submit_of (slice_get body gets.submit) (valid.of_submit place.0 gets.submit place.1) in
    subst (λ (k : ℕ). In (Submit k) body) gets.of_class (In-slice_get body gets.submit (Submit (submitted_class body gets.submit)) is)

pub got_inside : (plan : Plan) (body : List Action) (j : ℕ) → IsValidBody plan body → GetsClass body j → j < length plan.classes
got_inside plan body j valid gets = submitted_inside plan body j valid (submits_what_it_gets plan body j valid gets)

-- a class with a get is a class of the plan
pub getter_inside : (plan : Plan) (k j : ℕ) → GetsClass (class_at plan k).body j → k < length plan.classes
getter_inside plan k j gets =
    ⊎_elim
    (λ (inside : k < length plan.classes). inside)
    (λ (past : length plan.classes ≤ k).
    let none : (class_at plan k).body ≡ [] = ap (λ (class : Class). class.body) (get_or_past plan.classes k no_class past) in
    absurd (not_In_nil (subst (In (Get gets.submit)) none gets.at)))
    (cases_lt k (length plan.classes))

-- ---- the graph of submits

pub submit_successors : (plan : Plan) (k : ℕ) → successors (submit_graph plan) k ≡ submits_of (class_at plan k).body
submit_successors plan k = get_or-changed (λ (class : Class). submits_of class.body) plan.classes k no_class

pub submit_closed : (plan : Plan) → HasValidBodies plan → IsClosed (submit_graph plan)
submit_closed plan ordered k j at =
    omega (arith, submitted_inside plan (class_at plan k).body j (ordered.classes k) (In-submits_from j (class_at plan k).body (subst (In j) (submit_successors plan k) at)), length-map plan.classes (λ (class : Class). submits_of class.body))

-- these nodes are the classes that the bodies submit
pub record AreSubmits (bodies : List (List Action)) (first : List ℕ) : Type 0 where
  pub into : (k : ℕ) (body : List Action) → In body bodies → In (Submit k) body → In k first
  pub from : (k : ℕ) → In k first → (body : List Action) × In body bodies × In (Submit k) body

pub reached_where_submitted : (plan : Plan) (bodies : List (List Action)) (first : List ℕ) → AreSubmits bodies first → {k : ℕ} → IsSubmitted plan bodies k → IsReached (submit_graph plan) first k
reached_where_submitted plan bodies first are (begins {k = k} {body = body} from at) = at_start (are.into k body from at)
reached_where_submitted plan bodies first are (follows {j = j} {k = k} known at) =
    by_edge (reached_where_submitted plan bodies first are known) (subst (In k) (sym (submit_successors plan j)) (In-submits at))

pub submitted_where_reached : (plan : Plan) (bodies : List (List Action)) (first : List ℕ) → AreSubmits bodies first → {k : ℕ} → IsReached (submit_graph plan) first k → IsSubmitted plan bodies k
submitted_where_reached plan bodies first are (at_start {node = k} at) = let found = are.from k at in begins found.1 found.2
submitted_where_reached plan bodies first are (by_edge {node = j} {next = k} known at) =
    follows (submitted_where_reached plan bodies first are known) (In-submits_from k (class_at plan j).body (subst (In k) (submit_successors plan j) at))

-- the successors of a class are the submits of its body
pub are_of_class : (plan : Plan) (k : ℕ) → AreSubmits ((class_at plan k).body ∷ []) (successors (submit_graph plan) k)
are_of_class plan k =
    let body = (class_at plan k).body in
    record {
      into = λ j any from at.
          ⊎_elim
          (λ (same : any ≡ body). subst (In j) (sym (submit_successors plan k)) (In-submits (subst (In (Submit j)) same at)))
          (λ none. absurd (not_In_nil none))
          (In-cons_cases from);
      from = λ j at. (body, here, In-submits_from j body (subst (In j) (submit_successors plan k) at));
    }

-- ---- the submits of clients

cond_true : {X : Type 0} (b : Bool) (xs : List X) → b ≡ true → cond b xs [] ≡ xs
cond_true true xs is = refl
cond_true false xs is = absurd cc

or_not_false : (b : Bool) → (b || not false) ≡ true
or_not_false true = refl
or_not_false false = refl

or_not_true : (b : Bool) → b ≡ true → (b || not true) ≡ true
or_not_true true is = refl
or_not_true false is = absurd cc

In-cond_from : {X : Type 0} (b : Bool) (x : X) (xs : List X) → In x (cond b xs []) → (b ≡ true) × In x xs
In-cond_from true x xs at = (refl, at)
In-cond_from false x xs at = absurd (not_In_nil at)

or_not_true_from : (b : Bool) → (b || not true) ≡ true → b ≡ true
or_not_true_from true is = refl
or_not_true_from false is = absurd cc

pub are_of_clients : (plan : Plan) → AreSubmits (client_bodies plan) (client_submits plan false)
are_of_clients plan = record {
  into = λ k body from at.
      let client = In-map_from (λ (any : Client). any.body) plan.clients from in
      let among : In k (submits_of client.0.body) = In-submits (subst (In (Submit k)) (sym client.2) at) in
      In-flat_map (submits_of_client false) client.1 (subst (In k) (sym (cond_true (client.0.repeat || not false) (submits_of client.0.body) (or_not_false client.0.repeat))) among);
  from = λ k at.
      let client = In-flat_map_from (submits_of_client false) plan.clients at in
      let among = In-cond_from (client.0.repeat || not false) k (submits_of client.0.body) client.2 in
      (client.0.body, In-map (λ (any : Client). any.body) client.1, In-submits_from k client.0.body among.1);
}

pub are_of_repeating_clients : (plan : Plan) → AreSubmits (repeated_bodies plan) (client_submits plan true)
are_of_repeating_clients plan =
    let repeat_of = λ (any : Client). any.repeat in
    record {
      into = λ k body from at.
          let client = In-map_from (λ (any : Client). any.body) (filter repeat_of plan.clients) from in
          let kept = In-filter_from repeat_of plan.clients client.1 in
          let among : In k (submits_of client.0.body) = In-submits (subst (In (Submit k)) (sym client.2) at) in
          In-flat_map (submits_of_client true) kept.0 (subst (In k) (sym (cond_true (client.0.repeat || not true) (submits_of client.0.body) (or_not_true client.0.repeat kept.1))) among);
      from = λ k at.
          let client = In-flat_map_from (submits_of_client true) plan.clients at in
          let among = In-cond_from (client.0.repeat || not true) k (submits_of client.0.body) client.2 in
          (client.0.body, In-map (λ (any : Client). any.body) (In-filter repeat_of client.1 (or_not_true_from client.0.repeat among.0)), In-submits_from k client.0.body among.1);
    }

client_valid : (plan : Plan) (client : Client) → IsWellFormed plan → In client plan.clients → IsValidBody plan client.body
client_valid plan client well at =
    let place = place_in at in
    let is : client_at plan place.0 ≡ client = get_or_from_slice_get plan.clients place.0 client no_client place.1 in
    subst (λ (any : Client). IsValidBody plan any.body) is ((ordered plan well).clients place.0)

-- the submits of clients are classes of the plan
pub client_submits_inside : (plan : Plan) (bodies : List (List Action)) (first : List ℕ) → ((body : List Action) → In body bodies → IsValidBody plan body) → AreSubmits bodies first → AreNodes (submit_graph plan) first
client_submits_inside plan bodies first valid are k at =
    let found = are.from k at in
    omega (arith, submitted_inside plan found.0 k (valid found.0 found.1) found.2, length-map plan.classes (λ (class : Class). submits_of class.body))

clients_valid : (plan : Plan) → IsWellFormed plan → AreNodes (submit_graph plan) (client_submits plan false)
clients_valid plan well =
    client_submits_inside plan (client_bodies plan) (client_submits plan false)
    (λ body from. let client = In-map_from (λ (any : Client). any.body) plan.clients from in subst (IsValidBody plan) client.2 (client_valid plan client.0 well client.1))
    (are_of_clients plan)

repeating_valid : (plan : Plan) → IsWellFormed plan → AreNodes (submit_graph plan) (client_submits plan true)
repeating_valid plan well =
    let repeat_of = λ (any : Client). any.repeat in
    client_submits_inside plan (repeated_bodies plan) (client_submits plan true)
    (λ body from.
    let client = In-map_from (λ (any : Client). any.body) (filter repeat_of plan.clients) from in
    subst (IsValidBody plan) client.2 (client_valid plan client.0 well (In-filter_from repeat_of plan.clients client.1).0))
    (are_of_repeating_clients plan)

pub submits_valid : (plan : Plan) (repeating : Bool) → IsWellFormed plan → AreNodes (submit_graph plan) (client_submits plan repeating)
submits_valid plan true = repeating_valid plan
submits_valid plan false = clients_valid plan

pub marks_submitted : (plan : Plan) (marks : List Bool) → MarksReached (submit_graph plan) (client_submits plan false) marks → MarksSubmitted plan marks
marks_submitted plan marks reached = record {
  as_many = reached.as_many ∙ length-map plan.classes (λ (class : Class). submits_of class.body);
  submitted = λ k.
      let known = reached.reached k in (
        λ marked. submitted_where_reached plan (client_bodies plan) (client_submits plan false) (are_of_clients plan) (known.0 marked),
        λ submitted. known.1 (reached_where_submitted plan (client_bodies plan) (client_submits plan false) (are_of_clients plan) submitted),
      );
}

pub marks_repeated : (plan : Plan) (marks : List Bool) → MarksReached (submit_graph plan) (client_submits plan true) marks → MarksRepeated plan marks
marks_repeated plan marks reached = record {
  as_many = reached.as_many ∙ length-map plan.classes (λ (class : Class). submits_of class.body);
  submitted = λ k.
      let known = reached.reached k in (
        λ marked. submitted_where_reached plan (repeated_bodies plan) (client_submits plan true) (are_of_repeating_clients plan) (known.0 marked),
        λ submitted. known.1 (reached_where_submitted plan (repeated_bodies plan) (client_submits plan true) (are_of_repeating_clients plan) submitted),
      );
}

-- ---- the graph of waits

length-classes : (plan : Plan) → length (class_nodes plan) ≡ length plan.classes
length-classes plan = length-map plan.classes (class_waits plan)

length-pools : (plan : Plan) (marks : List Bool) → length (pool_nodes plan marks) ≡ length plan.pools
length-pools plan marks = length-numbered (λ (entry : ℕ × Pool). pool_waits plan marks entry.0 entry.1) 0 plan.pools

pub length-waits : (plan : Plan) (marks : List Bool) → length (wait_graph plan marks) ≡ length plan.classes + length plan.pools
length-waits plan marks = omega (arith, length-append (class_nodes plan) (pool_nodes plan marks), length-classes plan, length-pools plan marks)

pub class_successors : (plan : Plan) (marks : List Bool) (k : ℕ) → k < length plan.classes → successors (wait_graph plan marks) k ≡ class_waits plan (class_at plan k)
class_successors plan marks k inside =
    get_or_append_left (class_nodes plan) (pool_nodes plan marks) [] k (omega (arith, inside, length-classes plan)) ∙ get_or-map (class_waits plan) plan.classes k no_class [] inside

pub pool_successors : (plan : Plan) (marks : List Bool) (p : ℕ) → p < length plan.pools → successors (wait_graph plan marks) (pool_node plan p) ≡ pool_waits plan marks p (pool_at plan p)
pool_successors plan marks p inside =
    let number : length plan.classes + p ≡ length (class_nodes plan) + p = omega (arith, length-classes plan) in
    let waits = λ (entry : ℕ × Pool). pool_waits plan marks entry.0 entry.1 in
    ap (successors (wait_graph plan marks)) number
    ∙ (get_or-append-add (class_nodes plan) (pool_nodes plan marks) p []
    ∙ (numbered_at waits 0 plan.pools p no_pool [] inside ∙ ap (λ (q : ℕ). pool_waits plan marks q (pool_at plan p)) (zero-add p)))

-- a marked class of pool p that gets class j, if the core threads of p may time out
pub record IsWaitOfPool (plan : Plan) (marks : List Bool) (p j : ℕ) : Type 0 where
  pub class : ℕ
  pub of_pool : (class_at plan class).pool ≡ p
  pub marked : get_or marks class false ≡ true
  pub may_lose : (pool_at plan p).core_timeout ≡ true
  pub gets : GetsClass (class_at plan class).body j

pub pool_waits_from : (plan : Plan) (marks : List Bool) (p j : ℕ) → In j (pool_waits plan marks p (pool_at plan p)) → IsWaitOfPool plan marks p j
pool_waits_from plan marks p j at =
    let all = In-cond_from (pool_at plan p).core_timeout j (flat_map (marked_gets marks p) (enumerate_from 0 plan.classes)) at in
    let found = In-flat_map_from (marked_gets marks p) (enumerate_from 0 plan.classes) all.1 in
    let k = found.0.0 in
    let class = found.0.1 in
    let passes = In-cond_from (eqb class.pool p && get_or marks k false) j (gets_of class.body class.body) found.2 in
    let parts = and_parts (eqb class.pool p) (get_or marks k false) passes.0 in
    let is : class_at plan k ≡ class = get_or_from_slice_get plan.classes k class no_class (at_number plan.classes found.0 found.1) in
    record {
      class = k;
      of_pool = ap (λ (any : Class). any.pool) is ∙ eqb-true class.pool p parts.0;
      marked = parts.1;
      may_lose = all.0;
      gets = subst (λ (any : Class). GetsClass any.body j) (sym is) (got_from class.body j passes.1);
    }

pub In-pool_waits : (plan : Plan) (marks : List Bool) (p j : ℕ) → IsWaitOfPool plan marks p j → In j (pool_waits plan marks p (pool_at plan p))
In-pool_waits plan marks p j wait =
    let k = wait.class in
    let class = class_at plan k in
    let gets = gets_of class.body class.body in
    let passes = and_from (eqb class.pool p) (get_or marks k false) (eq-eqb class.pool p wait.of_pool) wait.marked in
    let entry = In-enumerate_from 0 plan.classes k class k (slice_get-get_or plan.classes k no_class (getter_inside plan k j wait.gets)) (zero-add k) in
    let all = In-flat_map (marked_gets marks p) entry (subst (In j) (sym (cond_true (eqb class.pool p && get_or marks k false) gets passes)) (got_in class.body j wait.gets)) in
    subst (In j) (sym (cond_true (pool_at plan p).core_timeout (flat_map (marked_gets marks p) (enumerate_from 0 plan.classes)) wait.may_lose)) all

-- a node is a class, a pool, or no node
pub data NodeIs (plan : Plan) (x : ℕ) : Type 0 where
  is_class : x < length plan.classes → NodeIs plan x
  is_pool : (p : ℕ) → x ≡ pool_node plan p → p < length plan.pools → NodeIs plan x
  is_none : length plan.classes + length plan.pools ≤ x → NodeIs plan x

pub node_is : (plan : Plan) (x : ℕ) → NodeIs plan x
node_is plan x =
    ⊎_elim
    (λ (inside : x < length plan.classes). is_class inside)
    (λ (past : length plan.classes ≤ x).
    ⊎_elim
    (λ (inside : x < length plan.classes + length plan.pools). is_pool (x - length plan.classes) (omega (arith, past)) (omega (arith, past, inside)))
    (λ (far : length plan.classes + length plan.pools ≤ x). is_none far)
    (cases_lt x (length plan.classes + length plan.pools)))
    (cases_lt x (length plan.classes))

pub wait_closed : (plan : Plan) (marks : List Bool) → HasValidBodies plan → IsClosed (wait_graph plan marks)
wait_closed plan marks ordered x y at = of_node (node_is plan x)
  where
    long : length (wait_graph plan marks) ≡ length plan.classes + length plan.pools
    long = length-waits plan marks

    of_node : NodeIs plan x → y < length (wait_graph plan marks)
    of_node (is_class inside) =
        ⊎_elim
        (λ (same : y ≡ pool_node plan (class_at plan x).pool). omega (arith, same, long, ordered.pools x inside))
        (λ later. omega (arith, long, got_inside plan (class_at plan x).body y (ordered.classes x) (got_from (class_at plan x).body y later)))
        (In-cons_cases (subst (In y) (class_successors plan marks x inside) at))
    of_node (is_pool p is inside) =
        let wait = pool_waits_from plan marks p y (subst (In y) (ap (successors (wait_graph plan marks)) is ∙ pool_successors plan marks p inside) at) in
        omega (arith, long, got_inside plan (class_at plan wait.class).body y (ordered.classes wait.class) wait.gets)
    of_node (is_none far) = absurd (omega (arith, far, long, node_inside (wait_graph plan marks) x y at))

-- ---- loops

-- the nodes of the actions from position i on begin with those of the action at position i
pub turn_at : (F : List Action → List ℕ) (front : List ℕ) (body : List Action) (i : ℕ) → i < length body → front ++ F (drop i body) ≡ front ++ F (get_or body i (Work 0) ∷ drop (i + 1) body)
turn_at F front body i inside = at_drop_more (λ (rest : List Action). front ++ F rest) body i (Work 0) inside

-- an action that is no submit submits nothing
pub no_submit : (x : Action) (rest : List Action) → ((k : ℕ) → x ≡ Submit k → ⊥) → submits_of (x ∷ rest) ≡ submits_of rest
no_submit (Work u) rest none = refl
no_submit (Submit k) rest none = absurd (none k refl)
no_submit (Get t) rest none = refl

-- an action that is no get gets nothing
pub no_get : (body : List Action) (x : Action) (rest : List Action) → ((t : ℕ) → x ≡ Get t → ⊥) → gets_of body (x ∷ rest) ≡ gets_of body rest
no_get body (Work u) rest none = refl
no_get body (Submit k) rest none = refl
no_get body (Get t) rest none = absurd (none t refl)

-- after a loop appended what is made from element i, the list lacks what is made from the later elements
pub flat_more : {X : Type 0} (f : ℕ × X → List ℕ) (xs : List X) (i : ℕ) (d : X) (front all : List ℕ) → i < length xs → front ++ flat_map f (enumerate_from i (drop i xs)) ≡ all → (front ++ f (i, get_or xs i d)) ++ flat_map f (enumerate_from (i + 1) (drop (i + 1) xs)) ≡ all
flat_more {X} f xs i d front all inside is =
    append_assoc front (f (i, get_or xs i d)) (flat_map f (enumerate_from (i + 1) (drop (i + 1) xs)))
    ∙ (sym (at_drop_more (λ (ys : List X). front ++ flat_map f (enumerate_from i ys)) xs i d inside) ∙ is)

pub flat_all : {X : Type 0} (f : ℕ × X → List ℕ) (xs : List X) (i : ℕ) (front all : List ℕ) → length xs ≤ i → front ++ flat_map f (enumerate_from i (drop i xs)) ≡ all → front ≡ all
flat_all {X} f xs i front all past is = sym (append-nil front) ∙ (sym (at_drop_all (λ (ys : List X). front ++ flat_map f (enumerate_from i ys)) xs i past) ∙ is)

pub made_more : {X Y : Type 0} (f : ℕ × X → Y) (xs : List X) (i : ℕ) (d : X) (front all : List Y) → i < length xs → front ++ map f (enumerate_from i (drop i xs)) ≡ all → (front ++ f (i, get_or xs i d) ∷ []) ++ map f (enumerate_from (i + 1) (drop (i + 1) xs)) ≡ all
made_more {X} f xs i d front all inside is =
    append_assoc front (f (i, get_or xs i d) ∷ []) (map f (enumerate_from (i + 1) (drop (i + 1) xs)))
    ∙ (sym (at_drop_more (λ (ys : List X). front ++ map f (enumerate_from i ys)) xs i d inside) ∙ is)

pub made_all : {X Y : Type 0} (f : ℕ × X → Y) (xs : List X) (i : ℕ) (front all : List Y) → length xs ≤ i → front ++ map f (enumerate_from i (drop i xs)) ≡ all → front ≡ all
made_all {X} f xs i front all past is = sym (append-nil front) ∙ (sym (at_drop_all (λ (ys : List X). front ++ map f (enumerate_from i ys)) xs i past) ∙ is)
