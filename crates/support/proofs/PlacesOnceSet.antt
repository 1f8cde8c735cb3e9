-- The table of slots of an id map after one slot was replaced.
use Rattle.std.proofs.Common.{◌≡◌, ℕ, ◌+◌, ◌<◌, ◌==◌, ◌⊎◌, true, false, cond, if◌then◌else◌, List, length, set, is_some, Option, Some, None, inl, inr, ⊎_elim, refl, sym, ap, ◌∙◌, arith}
use Rattle.std.proofs.lemmas.Bool.{cases_lt, cases_eq, eq-eqb, eqb-true, ne_eqb}
use Rattle.std.proofs.lemmas.List.{get_or-set_same, get_or-set_other, get_or_past, set_past}
use Rattle.std.proofs.lemmas.List.Sums.{sum_by-set}
use Rattle.support.specs.declared.entry.Entry.{Entry}
use Rattle.support.specs.Entry.{has_number, is_free_for, value_in, with_value_in, value_or, entry_at, taken}
use Rattle.support.specs.Numbered.{place_of}

-- ---- the entries after slot p was replaced
pub entry_once_set : {V : Type 0} (slots : List (Option (Entry V))) (p q : ℕ) (o : Option (Entry V)) → ((p ≡ q) × (entry_at (set slots p o) q ≡ o)) ⊎ (entry_at (set slots p o) q ≡ entry_at slots q)
entry_once_set slots p q o = ⊎_elim
    (λ same. ⊎_elim
    (λ inside. inl (same, ap (λ k. entry_at (set slots p o) k) (sym same) ∙ get_or-set_same slots p o None inside))
    (λ past. inr (ap (λ xs. entry_at xs q) (set_past slots p o past)))
    (cases_lt p (length slots)))
    (λ other. inr (get_or-set_other slots p q o None (λ e. other (sym e))))
    (cases_eq p q)

-- if the new entry of a slot has the same number as the old one, each slot has an entry for the same number as before
pub has_once_stored : {V : Type 0} (slots : List (Option (Entry V))) (p : ℕ) (o : Option (Entry V)) → ((n : ℕ) → has_number n o ≡ has_number n (entry_at slots p)) → (n q : ℕ) → has_number n (entry_at (set slots p o) q) ≡ has_number n (entry_at slots q)
has_once_stored slots p o same n q = ⊎_elim
    (λ here. ap (has_number n) here.1 ∙ same n ∙ ap (λ k. has_number n (entry_at slots k)) here.0)
    (λ other. ap (has_number n) other)
    (entry_once_set slots p q o)

pub has_written : {V : Type 0} (o : Option (Entry V)) (w : V) (n : ℕ) → has_number n (with_value_in o w) ≡ has_number n o
has_written None w n = refl
has_written (Some entry) w n = refl

pub is_some_written : {V : Type 0} (o : Option (Entry V)) (w : V) → is_some (with_value_in o w) ≡ is_some o
is_some_written None w = refl
is_some_written (Some entry) w = refl

pub is_some_value : {V : Type 0} (o : Option (Entry V)) → is_some (value_in o) ≡ is_some o
is_some_value None = refl
is_some_value (Some entry) = refl

-- the number of occupied slots after slot p was replaced
pub taken_once_set : {V : Type 0} (slots : List (Option (Entry V))) (p : ℕ) (o : Option (Entry V)) → p < length slots → taken (set slots p o) + cond (is_some (entry_at slots p)) 1 0 ≡ taken slots + cond (is_some o) 1 0
taken_once_set slots p o inside = sum_by-set (λ x. cond (is_some x) 1 0) slots p o None inside

pub taken_once_stored : {V : Type 0} (slots : List (Option (Entry V))) (p : ℕ) (o : Option (Entry V)) → is_some o ≡ is_some (entry_at slots p) → taken (set slots p o) ≡ taken slots
taken_once_stored slots p o same = ⊎_elim
    (λ inside.
    let counts = taken_once_set slots p o inside in
    let one : cond {A = ℕ} (is_some o) 1 0 ≡ cond (is_some (entry_at slots p)) 1 0 = ap (λ b. cond b 1 0) same in
    omega (arith, counts, one))
    (λ past. ap taken (set_past slots p o past))
    (cases_lt p (length slots))

pub has_is_some : {V : Type 0} (o : Option (Entry V)) (n : ℕ) → has_number n o ≡ true → is_some o ≡ true
has_is_some None n has = absurd cc
has_is_some (Some entry) n has = refl

pub is_inside : {V : Type 0} (slots : List (Option (Entry V))) (p n : ℕ) → has_number n (entry_at slots p) ≡ true → p < length slots
is_inside slots p n has = ⊎_elim
    (λ inside. inside)
    (λ past. let none : false ≡ true = ap (has_number n) (sym (get_or_past slots p None past)) ∙ has in absurd cc)
    (cases_lt p (length slots))

-- ---- the values after the slot of a number was replaced, if the overflow map changes at most for that number
pub values_once_set : {V : Type 0} (slots : List (Option (Entry V))) (n : ℕ) (o : Option (Entry V)) (old new : ℕ → Option V) (r : Option V) → place_of n < length slots
    → ((q : ℕ) → value_or q o (new q) ≡ (if n == q then r else value_or q (entry_at slots (place_of n)) (old q)))
    → ((q : ℕ) → (n ≡ q → ⊥) → new q ≡ old q)
    → (q : ℕ) → value_or q (entry_at (set slots (place_of n) o) (place_of q)) (new q) ≡ (if n == q then r else value_or q (entry_at slots (place_of q)) (old q))
values_once_set slots n o old new r inside here overflow q = ⊎_elim
    (λ same.
    let is : entry_at (set slots (place_of n) o) (place_of q) ≡ o = ap (λ k. entry_at (set slots (place_of n) o) k) (sym same) ∙ get_or-set_same slots (place_of n) o None inside in
    ap (λ x. value_or q x (new q)) is ∙ here q ∙ ap (λ k. if n == q then r else value_or q (entry_at slots k) (old q)) same)
    (λ other.
    let apart : n ≡ q → ⊥ = λ e. other (ap place_of e) in
    let is : entry_at (set slots (place_of n) o) (place_of q) ≡ entry_at slots (place_of q) = get_or-set_other slots (place_of n) (place_of q) o None (λ e. other (sym e)) in
    ap (λ x. value_or q x (new q)) is ∙ ap (value_or q (entry_at slots (place_of q))) (overflow q apart) ∙ sym (ap (λ b. if b then r else value_or q (entry_at slots (place_of q)) (old q)) (ne_eqb n q apart)))
    (cases_eq (place_of n) (place_of q))

if_same : {A : Type 0} (n m q : ℕ) (x y z : A) → m ≡ n → (if m == q then x else z) ≡ (if n == q then x else (if m == q then y else z))
if_same n m q x y z same = elim (n == q) as (λ b. (n == q) ≡ b → (if m == q then x else z) ≡ (if b then x else (if m == q then y else z))) [ true ↦ λ e. ap (λ k. if k == q then x else z) same ∙ ap (λ b. if b then x else z) e | false ↦ λ e. let off : (m == q) ≡ false = ap (λ k. k == q) same ∙ e in ap (λ b. if b then x else z) off ∙ sym (ap (λ b. if b then y else z) off) ] refl

pub written_here : {V : Type 0} (o : Option (Entry V)) (n q : ℕ) (w : V) (other : Option V) → has_number n o ≡ true → value_or q (with_value_in o w) other ≡ (if n == q then Some w else value_or q o other)
written_here None n q w other has = absurd cc
written_here (Some entry) n q w other has = if_same n entry.number q (Some w) (Some entry.value) other (eqb-true entry.number n has)

-- ---- a number is stored in a slot that is free or already has the number
pub inserted_here : {V : Type 0} (o : Option (Entry V)) (n q : ℕ) (v : V) (old new : Option V) → is_free_for n o ≡ true → ((n ≡ q → ⊥) → new ≡ old)
    → (if n == q then Some v else new) ≡ (if n == q then Some v else value_or q o old)
inserted_here None n q v old new free overflow = ⊎_elim
    (λ e. let on : (n == q) ≡ true = eq-eqb n q e in ap (λ b. if b then Some v else new) on ∙ sym (ap (λ b. if b then Some v else old) on))
    (λ apart. ap (λ x. if n == q then Some v else x) (overflow apart))
    (cases_eq n q)
inserted_here (Some entry) n q v old new free overflow = ⊎_elim
    (λ e. let on : (n == q) ≡ true = eq-eqb n q e in ap (λ b. if b then Some v else new) on ∙ sym (ap (λ b. if b then Some v else value_or q (Some entry) old) on))
    (λ apart.
    let off : (entry.number == q) ≡ false = ap (λ k. k == q) (eqb-true entry.number n free) ∙ ne_eqb n q apart in
    let skipped : value_or q (Some entry) old ≡ old = ap (λ b. if b then Some entry.value else old) off in
    ap (λ x. if n == q then Some v else x) (overflow apart ∙ sym skipped))
    (cases_eq n q)
