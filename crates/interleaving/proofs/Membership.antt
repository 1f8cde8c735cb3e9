-- Membership in a set of numbers.
use Rattle.std.proofs.Common.{◌≡◌, ◌≢◌, ℕ, zero, suc, ◌-◌, ◌<◌, ◌≤◌, nat_lt, ◌==◌, ◌||◌, not, Bool, true, false, List, [], ◌∷◌, ◌++◌, length, take, get_or, Some, Result, Ok, Err, MatchResult, ⊎_elim, refl, sym, ap, ap₂, ◌∙◌, arith, eq-eqb}
use Rattle.std.specs.Result.{is_ok}
use Rattle.std.specs.List.{IsAllAdjacentAnswer}
use Rattle.std.specs.Ordering.{nat_cmp, is_le, is_some_and}
use Rattle.std.proofs.lemmas.List.Sorted.{non_decreasing_from_is_sorted}
use Rattle.std.specs.List.Sorted.{IsNonDecreasing}
use Rattle.std.proofs.lemmas.Bool.{cases_lt, lt-ltb, le-ltb, false_from_ne_true, eqb-true}
use Rattle.std.proofs.lemmas.List.{get_or-take, length-take-le}
use Rattle.std.proofs.lemmas.List.Folds.{list_any_at, list_any-append}
use Rattle.pool_machine.specs.Waiting.{is_member}

-- the number at an index is a member
pub member_at : (members : List ℕ) (i j : ℕ) → i < length members → get_or members i 0 ≡ j → is_member members j ≡ true
member_at members i j inside e = list_any_at (λ member. member == j) members i 0 inside (eq-eqb (get_or members i 0) j e)

-- a number that is at no index is not a member
pub no_member : (members : List ℕ) (j : ℕ) → ((i : ℕ) → i < length members → get_or members i 0 ≢ j) → is_member members j ≡ false
no_member [] j none = refl
no_member (member ∷ members) j none =
    let first : (member == j) ≡ false = false_from_ne_true (member == j) (λ same. none 0 (omega arith) (eqb-true member j same)) in
    ap₂ (λ a b. a || b) first (no_member members j (λ i inside. none (suc i) (omega arith)))

-- the result of a binary search decides membership
pub member_found : (members : List ℕ) (j : ℕ) (r : Result ℕ ℕ)
    → MatchResult r (λ i. (i < length members) × (get_or members i 0 ≡ j)) (λ i. (i ≤ length members) × ((k : ℕ) → k < i → get_or members k 0 < j) × ((k : ℕ) → i ≤ k → k < length members → j < get_or members k 0)) → is_ok r ≡ is_member members j
member_found members j (Ok i) found = sym (member_at members i j found.0 found.1)
member_found members j (Err i) gap = sym (no_member members j (λ k inside same. apart k inside same))
  where
    apart : (k : ℕ) → k < length members → get_or members k 0 ≢ j
    apart k inside same = ⊎_elim (λ (low : k < i). let below = gap.1 k low in omega (arith, below, same)) (λ (high : i ≤ k). let above = gap.2 k high inside in omega (arith, above, same)) (cases_lt k i)

-- in a sorted list, equal numbers are adjacent
module _ (members : List ℕ) (rises : IsNonDecreasing members) (i : ℕ) (inside : suc i < length members) where
  before : (k : ℕ) → k < suc i → get_or (take (suc i) members) k 0 ≡ get_or members k 0
  before k low = get_or-take (suc i) members k 0 low

  pub first_of_its_like : get_or members i 0 < get_or members (suc i) 0 → is_member (take (suc i) members) (get_or members (suc i) 0) ≡ false
  first_of_its_like below = no_member (take (suc i) members) (get_or members (suc i) 0) (λ k low same.
      let within : k < suc i = omega (arith, low, length-take-le (suc i) members (omega arith)) in
      let order = rises k i 0 (omega arith) (omega arith) in
      omega (arith, before k within, order, below, same))

  pub one_of_its_like : get_or members (suc i) 0 ≤ get_or members i 0 → is_member (take (suc i) members) (get_or members (suc i) 0) ≡ true
  one_of_its_like above =
      let order = rises i (suc i) 0 (omega arith) inside in
      member_at (take (suc i) members) i (get_or members (suc i) 0) (omega (arith, length-take-le (suc i) members (omega arith))) (before i (omega arith) ∙ omega (arith, order, above))

pub first_test : (members : List ℕ) → IsNonDecreasing members → (place : ℕ) → place < length members → place ≢ 0 → nat_lt (get_or members (place - 1) 0) (get_or members place 0) ≡ not (is_member (take place members) (get_or members place 0))
first_test members rises zero inside some = absurd (some refl)
first_test members rises (suc i) inside some =
    let last : suc i - 1 ≡ i = omega arith in
    ap (λ k. nat_lt (get_or members k 0) (get_or members (suc i) 0)) last ∙ ⊎_elim
    (λ (below : get_or members i 0 < get_or members (suc i) 0). lt-ltb (get_or members i 0) (get_or members (suc i) 0) below ∙ sym (ap not (first_of_its_like members rises i inside below)))
    (λ (above : get_or members (suc i) 0 ≤ get_or members i 0). le-ltb (get_or members i 0) (get_or members (suc i) 0) above ∙ sym (ap not (one_of_its_like members rises i inside above)))
    (cases_lt (get_or members i 0) (get_or members (suc i) 0))

-- ---- one more member

or_false : (b : Bool) → (b || false) ≡ b
or_false true = refl
or_false false = refl

or_true : (b : Bool) → (b || true) ≡ true
or_true true = refl
or_true false = refl

member_pushed : (members : List ℕ) (m j : ℕ) → is_member (members ++ m ∷ []) j ≡ (is_member members j || (m == j || false))
member_pushed members m j = list_any-append (λ member. member == j) members (m ∷ [])

pub itself_pushed : (members : List ℕ) (m : ℕ) → is_member (members ++ m ∷ []) m ≡ true
itself_pushed members m = member_pushed members m m ∙ ap (λ b. is_member members m || (b || false)) (eq-eqb m m refl) ∙ or_true (is_member members m)

pub others_pushed : (members : List ℕ) (m j : ℕ) → m ≢ j → is_member (members ++ m ∷ []) j ≡ is_member members j
others_pushed members m j other = member_pushed members m j ∙ ap (λ b. is_member members j || (b || false)) (false_from_ne_true (m == j) (λ same. other (eqb-true m j same))) ∙ or_false (is_member members j)

-- ---- sorted numbers

pub rise_if : (members : List ℕ) (answer : Bool) → IsAllAdjacentAnswer (λ x y b. is_some_and is_le (Some (nat_cmp x y)) ≡ b) members answer → answer ≡ true → IsNonDecreasing members
rise_if members true e sorted = non_decreasing_from_is_sorted members true e
rise_if members false e sorted = absurd cc
