-- The growth of the set of nodes.
use Rattle.std.proofs.Common.{◌≡◌, ℕ, ◌+◌, ◌<◌, Bool, true, false, not, cond, ◌⊎◌, inl, inr, ⊎_elim, List, [], ◌∷◌, ◌++◌, length, get_or, set, count_by, refl, sym, ap, subst, ◌∙◌, arith}
use Rattle.std.proofs.lemmas.Bool.{cases_eq}
use Rattle.std.proofs.lemmas.List.{length-set, get_or-set_same, get_or-set_other, length_push}
use Rattle.std.proofs.lemmas.List.Sums.{sum_by-set}
use Rattle.support.specs.In.{In, here}
use Rattle.support.proofs.Members.{In-append_left, In-append_right, In-push_cases}
use Rattle.size_search.specs.declared.node_set.NodeSet.{NodeSet}
use Rattle.size_search.specs.Marks.{Has, Grows}

-- ---- one more node is marked as found

has_after : (marks : List Bool) (k j : ℕ) → k < length marks → get_or marks j false ≡ true → get_or (set marks k true) j false ≡ true
has_after marks k j inside has =
    ⊎_elim
    (λ (same : j ≡ k). subst (λ (i : ℕ). get_or (set marks k true) i false ≡ true) (sym same) (get_or-set_same marks k true false inside))
    (λ (other : j ≡ k → ⊥). get_or-set_other marks k j true false other ∙ has)
    (cases_eq j k)

has_before : (marks : List Bool) (k j : ℕ) → get_or (set marks k true) j false ≡ true → (get_or marks j false ≡ true) ⊎ (j ≡ k)
has_before marks k j has =
    ⊎_elim
    (λ (same : j ≡ k). inr same)
    (λ (other : j ≡ k → ⊥). inl (sym (get_or-set_other marks k j true false other) ∙ has))
    (cases_eq j k)

unfound-set : (marks : List Bool) (k : ℕ) → k < length marks → get_or marks k false ≡ false → count_by not (set marks k true) + 1 ≡ count_by not marks
unfound-set marks k inside none =
    let counts : Bool → ℕ = λ (mark : Bool). cond (not mark) 1 0 in
    let one : counts (get_or marks k false) ≡ 1 = ap counts none in
    let zero : counts true ≡ 0 = refl in
    omega (arith, sum_by-set counts marks k true false inside, one, zero)

-- ---- the nodes that were found

pub grows_refl : (r : NodeSet) → Grows r r
grows_refl r = record {
  as_many = refl;
  kept = λ k has. has;
  still = λ k at. at;
  fresh = λ k has. inl has;
  waiting = λ k at. inl at;
  fewer = refl;
}

pub grows_more : (a b c : NodeSet) → Grows a b → Grows b c → Grows a c
grows_more a b c first second = record {
  as_many = second.as_many ∙ first.as_many;
  kept = λ k has. second.kept k (first.kept k has);
  still = λ k at. second.still k (first.still k at);
  fresh = λ k has. ⊎_elim (λ before. ⊎_elim (λ old. inl old) (λ at. inr (second.still k at)) (first.fresh k before)) (λ at. inr at) (second.fresh k has);
  waiting = λ k at. ⊎_elim (λ before. ⊎_elim (λ old. inl old) (λ has. inr (second.kept k has)) (first.waiting k before)) (λ has. inr has) (second.waiting k at);
  fewer = second.fewer ∙ first.fewer;
}

pub grows_added : (old new : NodeSet) (k : ℕ) → k < length old.is_found.items → get_or old.is_found.items k false ≡ false → new.is_found.items ≡ set old.is_found.items k true
    → new.pending.items ≡ old.pending.items ++ k ∷ [] → Grows old new
grows_added old new k inside none marks pending = record {
  as_many = ap length marks ∙ length-set old.is_found.items k true;
  kept = λ j has. subst (λ (all : List Bool). get_or all j false ≡ true) (sym marks) (has_after old.is_found.items k j inside has);
  still = λ j at. subst (In j) (sym pending) (In-append_left (k ∷ []) at);
  fresh = λ j has. ⊎_elim (λ before. inl before) (λ (same : j ≡ k). inr (added j same)) (has_before old.is_found.items k j (subst (λ (all : List Bool). get_or all j false ≡ true) marks has));
  waiting = λ j at. ⊎_elim (λ before. inl before) (λ (same : j ≡ k). inr (subst (Has new) (sym same) found)) (In-push_cases old.pending.items k (subst (In j) pending at));
  fewer = omega (arith, ap (count_by not) marks, unfound-set old.is_found.items k inside none, ap length pending, length_push old.pending.items k);
}
  where
    found : Has new k
    found = subst (λ (all : List Bool). get_or all k false ≡ true) (sym marks) (get_or-set_same old.is_found.items k true false inside)

    added : (j : ℕ) → j ≡ k → In j new.pending.items
    added j same = subst (In j) (sym pending) (In-append_right old.pending.items (subst (λ (i : ℕ). In j (i ∷ [])) same here))

pub only_added : (old new : NodeSet) (k : ℕ) → new.is_found.items ≡ set old.is_found.items k true → (j : ℕ) → Has new j → Has old j ⊎ (j ≡ k)
only_added old new k marks j has = has_before old.is_found.items k j (subst (λ (all : List Bool). get_or all j false ≡ true) marks has)

pub added_is_found : (old new : NodeSet) (k : ℕ) → k < length old.is_found.items → new.is_found.items ≡ set old.is_found.items k true → Has new k
added_is_found old new k inside marks = subst (λ (all : List Bool). get_or all k false ≡ true) (sym marks) (get_or-set_same old.is_found.items k true false inside)
