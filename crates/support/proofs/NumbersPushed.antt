-- The loop of `push_numbers`: the list of numbers after each slot.
use Rattle.std.proofs.Common.{◌≡◌, ℕ, ◌+◌, ◌<◌, ◌≤◌, ◌==◌, ◌&&◌, if◌then◌else◌, ◌||◌, nat_lt, nat_eq, Bool, true, false, List, [], ◌∷◌, ◌++◌, length, get_or, take, is_some, Option, Some, None, ⊎_elim, refl, sym, ap, subst, ◌∙◌, arith}
use Rattle.std.specs.List.{IsDistinct}
use Rattle.std.specs.Map.{lookup}
use Rattle.std.specs.Set.{is_member}
use Rattle.std.proofs.lemmas.Bool.{cases_lt, cases_eq, and_right, lt-ltb, le-ltb, eq-eqb, ne_eqb}
use Rattle.std.proofs.lemmas.Cmp.{nat_eq_equiv}
use Rattle.std.proofs.lemmas.List.{get_or_default, length_push}
use Rattle.std.proofs.lemmas.List.Folds.{list_any-append}
use Rattle.std.proofs.lemmas.List.Sums.{count_by_more_no, count_by_more_yes}
use Rattle.std.proofs.lemmas.Map.Keys.{IsDistinct-push}
use Rattle.support.specs.declared.entry.Entry.{Entry}
use Rattle.support.specs.Entry.{has_number, value_or, entry_at, taken}
use Rattle.support.specs.Numbered.{place_of, AreInPlace, value_at, count_of}

-- the list has the numbers of the overflow map and those in the first i slots
pub record ArePushed {V : Type 0} (slots : List (Option (Entry V))) (overflow numbers : List ℕ) (i : ℕ) : Type 0 where
  pub all : (n : ℕ) → is_member nat_eq numbers n ≡ (is_member nat_eq overflow n || (nat_lt (place_of n) i && has_number n (entry_at slots (place_of n))))
  pub once : IsDistinct nat_eq numbers
  pub len : length numbers ≡ length overflow + taken (take i slots)

lt_more : (p i : ℕ) → (p ≡ i → ⊥) → nat_lt p (i + 1) ≡ nat_lt p i
lt_more p i apart = ⊎_elim
    (λ low. lt-ltb p (i + 1) (omega arith) ∙ sym (lt-ltb p i low))
    (λ high. let above : i + 1 ≤ p = ⊎_elim (λ e. absurd (apart e)) (λ other. omega (arith, high, other)) (cases_eq p i) in le-ltb p (i + 1) above ∙ sym (le-ltb p i high))
    (cases_lt p i)

-- if number n is not in slot i, it is in the first i + 1 slots exactly when it is in the first i
same_below : {V : Type 0} (slots : List (Option (Entry V))) (i n : ℕ) → has_number n (entry_at slots i) ≡ false
    → (nat_lt (place_of n) (i + 1) && has_number n (entry_at slots (place_of n))) ≡ (nat_lt (place_of n) i && has_number n (entry_at slots (place_of n)))
same_below slots i n off = ⊎_elim
    (λ here.
    let none : has_number n (entry_at slots (place_of n)) ≡ false = ap (λ k. has_number n (entry_at slots k)) here ∙ off in
    and_right (nat_lt (place_of n) (i + 1)) (has_number n (entry_at slots (place_of n))) none ∙ sym (and_right (nat_lt (place_of n) i) (has_number n (entry_at slots (place_of n))) none))
    (λ apart. ap (λ b. b && has_number n (entry_at slots (place_of n))) (lt_more (place_of n) i apart))
    (cases_eq (place_of n) i)

pub pushed_none : {V : Type 0} (slots : List (Option (Entry V))) (overflow numbers : List ℕ) (i : ℕ) → i < length slots → entry_at slots i ≡ None → ArePushed slots overflow numbers i → ArePushed slots overflow numbers (i + 1)
pushed_none slots overflow numbers i inside none pushed = record {
  all = λ n. pushed.all n ∙ ap (λ b. is_member nat_eq overflow n || b) (sym (same_below slots i n (ap (has_number n) none)));
  once = pushed.once;
  len = pushed.len ∙ ap (λ k. length overflow + k) (sym (count_by_more_no is_some slots i None inside (ap is_some none)));
}

or_true : (b : Bool) → (b || true) ≡ true
or_true true = refl
or_true false = refl

or_false : (b : Bool) → (b || false) ≡ b
or_false true = refl
or_false false = refl

pub pushed_some : {V : Type 0} (slots : List (Option (Entry V))) (overflow numbers : List ℕ) (i : ℕ) (entry : Entry V) → AreInPlace slots → ((n : ℕ) → has_number n (entry_at slots (place_of n)) ≡ true → is_member nat_eq overflow n ≡ false)
    → i < length slots → entry_at slots i ≡ Some entry → ArePushed slots overflow numbers i → ArePushed slots overflow (numbers ++ entry.number ∷ []) (i + 1)
pushed_some slots overflow numbers i entry placed absent inside some pushed =
    let m = entry.number in
    let has : has_number m (entry_at slots i) ≡ true = ap (has_number m) some ∙ eq-eqb m m refl in
    let here : place_of m ≡ i = placed i m has in
    let in_slot : has_number m (entry_at slots (place_of m)) ≡ true = ap (λ k. has_number m (entry_at slots k)) here ∙ has in
    let not_below : nat_lt (place_of m) i ≡ false = le-ltb (place_of m) i (omega (arith, here)) in
    let fresh : is_member nat_eq numbers m ≡ false = pushed.all m ∙ ap (λ b. b || (nat_lt (place_of m) i && has_number m (entry_at slots (place_of m)))) (absent m in_slot) ∙ ap (λ b. b && has_number m (entry_at slots (place_of m))) not_below in
    record {
      all = λ n. list_any-append (nat_eq n) numbers (m ∷ []) ∙ ⊎_elim
          (λ same.
          let on : (nat_eq n m || false) ≡ true = or_false (nat_eq n m) ∙ eq-eqb n m same in
          let at : has_number n (entry_at slots (place_of n)) ≡ true = subst (λ k. has_number k (entry_at slots (place_of k)) ≡ true) (sym same) in_slot in
          let low : nat_lt (place_of n) (i + 1) ≡ true = lt-ltb (place_of n) (i + 1) (let p : place_of n ≡ i = ap place_of same ∙ here in omega (arith, p)) in
          let both : (nat_lt (place_of n) (i + 1) && has_number n (entry_at slots (place_of n))) ≡ true = ap (λ b. b && has_number n (entry_at slots (place_of n))) low ∙ at in
          ap (λ b. is_member nat_eq numbers n || b) on ∙ or_true (is_member nat_eq numbers n) ∙ sym (or_true (is_member nat_eq overflow n)) ∙ ap (λ b. is_member nat_eq overflow n || b) (sym both))
          (λ apart.
          let off : (nat_eq n m || false) ≡ false = or_false (nat_eq n m) ∙ ne_eqb n m apart in
          let not_at : has_number n (entry_at slots i) ≡ false = ap (has_number n) some ∙ ne_eqb m n (λ e. apart (sym e)) in
          ap (λ b. is_member nat_eq numbers n || b) off ∙ or_false (is_member nat_eq numbers n) ∙ pushed.all n ∙ ap (λ b. is_member nat_eq overflow n || b) (sym (same_below slots i n not_at)))
          (cases_eq n m);
      once = IsDistinct-push nat_eq_equiv numbers m pushed.once fresh;
      len =
          let more = length_push numbers m in
          let counts = count_by_more_yes is_some slots i None inside (ap is_some some) in
          let before = pushed.len in
          omega (arith, more, counts, before);
    }

pub nat_eq_flips : (n m : ℕ) → nat_eq n m ≡ nat_eq m n
nat_eq_flips n m = ⊎_elim (λ e. eq-eqb n m e ∙ sym (eq-eqb m n (sym e))) (λ apart. ne_eqb n m apart ∙ sym (ne_eqb m n (λ e. apart (sym e)))) (cases_eq n m)

-- a number has a value exactly when it is in the overflow map or in its slot
value_there : {V : Type 0} (o : Option (Entry V)) (n : ℕ) (other : Option V) → is_some (value_or n o other) ≡ (is_some other || has_number n o)
value_there None n other = sym (or_false (is_some other))
value_there (Some entry) n other = elim (entry.number == n) as (λ b. is_some (if b then Some entry.value else other) ≡ (is_some other || b)) [ true ↦ sym (or_true (is_some other)) | false ↦ sym (or_false (is_some other)) ]

pub is_some_at : {V : Type 0} (slots : List (Option (Entry V))) (overflow : List (ℕ × V)) (n : ℕ) → is_some (value_at (record { slots = slots; overflow = overflow }) n) ≡ (is_some (lookup (nat_eq n) overflow) || has_number n (entry_at slots (place_of n)))
unfolding value_at
is_some_at slots overflow n = value_there (entry_at slots (place_of n)) n (lookup (nat_eq n) overflow)

-- the slot that a loop over the slots reads at index i is slot i
pub read_at : {V : Type 0} (read slots : List (Option (Entry V))) (i : ℕ) (o : Option (Entry V)) → read ≡ slots → o ≡ get_or read i o → i < length read → (i < length slots) × (entry_at slots i ≡ o)
read_at read slots i o same is inside = subst (λ all. (i < length all) × (entry_at all i ≡ o)) same (inside, get_or_default read i None o inside ∙ sym is)

pub count_is : {V : Type 0} (slots : List (Option (Entry V))) (overflow : List (ℕ × V)) → count_of (record { slots = slots; overflow = overflow }) ≡ taken slots + length overflow
unfolding count_of
count_is slots overflow = refl
