-- The nodes that were found are exactly the reached nodes once the successors of all of them were added.
use Rattle.std.proofs.Common.{◌≡◌, ℕ, ◌+◌, ◌<◌, ◌≤◌, Bool, true, false, not, get_or, count_by, ◌⊎◌, inl, inr, ⊎_elim, List, [], ◌∷◌, ◌++◌, length, take, sym, ap, subst, ◌∙◌, arith}
use Rattle.std.proofs.lemmas.Bool.{cases_lt}
use Rattle.std.proofs.lemmas.List.{length_push, nil_from_length, get_or_past}
use Rattle.support.specs.In.{In, here}
use Rattle.support.proofs.Members.{not_In_nil, In-append_left, In-append_right, In-push_cases}
use Rattle.size_search.specs.declared.node_set.NodeSet.{NodeSet}
use Rattle.size_search.specs.Graph.{successors, IsReached, at_start, by_edge, IsOnCircle}
use Rattle.size_search.specs.Marks.{MarksReached, Has, Covers, Grows, IsReaching, unfound}
use Rattle.size_search.proofs.Growth.{grows_more}

-- a node that is reached from the successors of a reached node is reached
pub reached_further : (graph : List (List ℕ)) (first : List ℕ) {node next : ℕ} → IsReached graph first node → IsReached graph (successors graph node) next → IsReached graph first next
reached_further graph first known (at_start at) = by_edge known at
reached_further graph first known (by_edge before at) = by_edge (reached_further graph first known before) at

-- only nodes have successors
pub node_inside : (graph : List (List ℕ)) (node next : ℕ) → In next (successors graph node) → node < length graph
node_inside graph node next at =
    ⊎_elim
    (λ (inside : node < length graph). inside)
    (λ (past : length graph ≤ node). absurd (not_In_nil (subst (In next) (get_or_past graph node [] past) at)))
    (cases_lt node (length graph))

-- a number past the nodes is on no circle
pub no_circle_past : (graph : List (List ℕ)) (node : ℕ) → length graph ≤ node → IsOnCircle graph node → ⊥
no_circle_past graph node past circle = reached_from_none (subst (λ (first : List ℕ). IsReached graph first node) (get_or_past graph node [] past) circle)
  where
    reached_from_none : {k : ℕ} → IsReached graph [] k → ⊥
    reached_from_none (at_start at) = not_In_nil at
    reached_from_none (by_edge known at) = reached_from_none known

covers_more : (a b : NodeSet) (nodes : List ℕ) → ((k : ℕ) → Has a k → Has b k) → Covers a nodes → Covers b nodes
covers_more a b nodes kept covers k at = kept k (covers k at)

-- `IsReaching` holds after some of the first nodes were added
pub starts : (graph : List (List ℕ)) (first nodes : List ℕ) (old new : NodeSet) → ((k : ℕ) → In k nodes → In k first) → Grows old new → ((k : ℕ) → Has new k → Has old k ⊎ In k nodes) → IsReaching graph first old → IsReaching graph first new
starts graph first nodes old new from grows only reaching = record {
  as_many = grows.as_many ∙ reaching.as_many;
  reached = λ k has. ⊎_elim (λ before. reaching.reached k before) (λ at. at_start (from k at)) (only k has);
  waiting = λ k at. ⊎_elim (λ before. grows.kept k (reaching.waiting k before)) (λ has. has) (grows.waiting k at);
  followed = λ k has. ⊎_elim (λ before. ⊎_elim (λ at. inl (grows.still k at)) (λ covers. inr (covers_more old new (successors graph k) grows.kept covers)) (reaching.followed k before)) (λ at. inl at) (grows.fresh k has);
  few = omega (arith, grows.fewer, reaching.few);
}

-- `IsReaching` holds after the successors of one pending node were added
pub follows_one : (graph : List (List ℕ)) (first : List ℕ) (old mid new : NodeSet) (number : ℕ) → mid.is_found.items ≡ old.is_found.items → old.pending.items ≡ mid.pending.items ++ number ∷ []
    → Grows mid new → Covers new (successors graph number) → ((k : ℕ) → Has new k → Has mid k ⊎ In k (successors graph number)) → IsReaching graph first old → IsReaching graph first new
follows_one graph first old mid new number same pending grows covers only reaching = record {
  as_many = grows.as_many ∙ (ap length same ∙ reaching.as_many);
  reached = λ k has. ⊎_elim (λ before. reaching.reached k (was k before)) (λ at. by_edge (reaching.reached number this) at) (only k has);
  waiting = λ k at. ⊎_elim (λ before. grows.kept k (is k (reaching.waiting k (subst (In k) (sym pending) (In-append_left (number ∷ []) before))))) (λ has. has) (grows.waiting k at);
  followed = λ k has. ⊎_elim (λ before. of_old k (reaching.followed k (was k before))) (λ at. inl at) (grows.fresh k has);
  few = omega (arith, grows.fewer, reaching.few, ap length pending, length_push mid.pending.items number, marks);
}
  where
    was : (k : ℕ) → Has mid k → Has old k
    was k has = subst (λ (all : List Bool). get_or all k false ≡ true) same has

    is : (k : ℕ) → Has old k → Has mid k
    is k has = subst (λ (all : List Bool). get_or all k false ≡ true) (sym same) has

    marks : unfound mid ≡ unfound old
    marks = ap (count_by not) same

    this : Has old number
    this = reaching.waiting number (subst (In number) (sym pending) (In-append_right mid.pending.items here))

    of_old : (k : ℕ) → (In k old.pending.items ⊎ Covers old (successors graph k)) → In k new.pending.items ⊎ Covers new (successors graph k)
    of_old k (inr known) = inr (covers_more old new (successors graph k) (λ j has. grows.kept j (is j has)) known)
    of_old k (inl at) =
        ⊎_elim
        (λ before. inl (grows.still k before))
        (λ (last : k ≡ number). inr (subst (λ (j : ℕ). Covers new (successors graph j)) (sym last) covers))
        (In-push_cases mid.pending.items number (subst (In k) pending at))

-- ---- loops

-- the set after the first i of some nodes were added
pub record AreAdded (start set : NodeSet) (nodes : List ℕ) (i : ℕ) : Type 0 where
  pub grows : Grows start set
  pub covers : Covers set (take i nodes)
  pub only : (k : ℕ) → Has set k → Has start k ⊎ In k nodes

-- `AreAdded` holds after one more node was added
pub added_further : (start old new : NodeSet) (nodes : List ℕ) (i node : ℕ) → take (i + 1) nodes ≡ take i nodes ++ node ∷ [] → In node nodes → Grows old new → Has new node → ((k : ℕ) → Has new k → Has old k ⊎ (k ≡ node)) → AreAdded start old nodes i
    → AreAdded start new nodes (i + 1)
added_further start old new nodes i node next at grows found only before = record {
  grows = grows_more start old new before.grows grows;
  covers = λ k among.
      ⊎_elim
      (λ earlier. grows.kept k (before.covers k earlier))
      (λ (this : k ≡ node). subst (Has new) (sym this) found)
      (In-push_cases (take i nodes) node (subst (In k) next among));
  only = λ k has. ⊎_elim (λ earlier. before.only k earlier) (λ (this : k ≡ node). inr (subst (λ (j : ℕ). In j nodes) (sym this) at)) (only k has);
}

-- ---- after the loop

-- the set after some rounds: no node is pending, or each round has decreased the number of pending nodes plus the number of nodes not
-- found by at least 1
pub record IsFollowed (graph : List (List ℕ)) (start set : NodeSet) (rounds : ℕ) : Type 0 where
  pub reaching : (first : List ℕ) → IsReaching graph first start → IsReaching graph first set
  pub kept : (k : ℕ) → Has start k → Has set k
  pub as_many : length set.is_found.items ≡ length start.is_found.items
  pub fewer : (set.pending.items ≡ []) ⊎ (unfound set + length set.pending.items + rounds ≤ unfound start + length start.pending.items)

-- `IsFollowed` holds after one more round
pub followed_further : (graph : List (List ℕ)) (start set new : NodeSet) (rounds : ℕ) → IsFollowed graph start set rounds → ((first : List ℕ) → IsReaching graph first set → IsReaching graph first new)
    → ((k : ℕ) → Has set k → Has new k) → length new.is_found.items ≡ length set.is_found.items
    → (new.pending.items ≡ []) ⊎ (unfound new + length new.pending.items + 1 ≤ unfound set + length set.pending.items) → (set.pending.items ≡ [] → new.pending.items ≡ []) → IsFollowed graph start new (rounds + 1)
followed_further graph start set new rounds earlier reaching kept as_many fewer idle = record {
  reaching = λ first begun. reaching first (earlier.reaching first begun);
  kept = λ k has. kept k (earlier.kept k has);
  as_many = as_many ∙ earlier.as_many;
  fewer = ⊎_elim (λ none. inl none) (λ less. ⊎_elim (λ none. inl (idle none)) (λ before. inr (omega (arith, less, before))) earlier.fewer) fewer;
}

found_where_followed : (graph : List (List ℕ)) (first : List ℕ) (set : NodeSet) → IsReaching graph first set → set.pending.items ≡ [] → Covers set first → {k : ℕ} → IsReached graph first k → Has set k
found_where_followed graph first set reaching none covers (at_start {node = k} at) = covers k at
found_where_followed graph first set reaching none covers (by_edge {node = j} {next = k} known at) =
    ⊎_elim
    (λ left. absurd (not_In_nil (subst (In j) none left)))
    (λ (known_too : Covers set (successors graph j)). known_too k at)
    (reaching.followed j (found_where_followed graph first set reaching none covers known))

nothing_left : (graph : List (List ℕ)) (first : List ℕ) (start set : NodeSet) → IsReaching graph first start → IsFollowed graph start set (length graph) → set.pending.items ≡ []
nothing_left graph first start set reaching followed =
    ⊎_elim
    (λ (none : set.pending.items ≡ []). none)
    (λ few. nil_from_length set.pending.items (omega (arith, few, reaching.few)))
    followed.fewer

pub followed_to_the_end : (graph : List (List ℕ)) (start set : NodeSet) (first : List ℕ) → IsFollowed graph start set (length graph) → IsReaching graph first start → Covers start first → MarksReached graph first set.is_found.items
followed_to_the_end graph start set first followed reaching covers =
    let all = followed.reaching first reaching in
    record {
      as_many = all.as_many;
      reached = λ k. (all.reached k, found_where_followed graph first set all (nothing_left graph first start set reaching followed) (covers_more start set first followed.kept covers));
    }
