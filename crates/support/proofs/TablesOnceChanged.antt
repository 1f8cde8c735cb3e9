-- An id map after one of its operations.
use Rattle.std.proofs.Common.{◌≡◌, ℕ, ◌+◌, ◌<◌, ◌==◌, ◌&&◌, nat_lt, Bool, true, false, cond, if◌then◌else◌, List, [], ◌∷◌, length, set, is_some, IsSome, Option, Some, None, nat_eq, ⊎_elim, refl, sym, ap, subst, ◌∙◌, arith}
use Rattle.std.specs.Map.{lookup, set_value}
use Rattle.std.proofs.lemmas.Bool.{cases_eq, cases_lt, lt-ltb, eq-eqb, eqb-true, ne_eqb}
use Rattle.std.proofs.lemmas.List.{get_or_past}
use Rattle.std.proofs.lemmas.Cmp.{nat_eq_equiv}
use Rattle.std.proofs.lemmas.Map.{lookup-set_value, length-set_value}
use Rattle.support.specs.declared.entry.Entry.{Entry}
use Rattle.support.specs.Entry.{has_number, is_free_for, value_in, with_value_in, value_or, entry_at, taken, HasSameEntries}
use Rattle.support.specs.Numbered.{Numbered, place_of, value_at, count_of, IsTable, IsWritten}
use Rattle.support.proofs.PlacesOnceSet.{entry_once_set, has_once_stored, has_written, is_some_written, taken_once_set, taken_once_stored, is_inside, values_once_set, written_here, inserted_here}

-- ---- the slot of a number gets another value
pub table_stored : {V : Type 0} (slots : List (Option (Entry V))) (overflow : List (ℕ × V)) (p : ℕ) (o : Option (Entry V)) → IsTable slots overflow → ((n : ℕ) → has_number n o ≡ has_number n (entry_at slots p)) → IsTable (set slots p o) overflow
table_stored slots overflow p o table same = record {
  in_place = λ q n has. table.in_place q n (sym (has_once_stored slots p o same n q) ∙ has);
  once = λ n has. table.once n (sym (has_once_stored slots p o same n (place_of n)) ∙ has);
}

pub table_written : {V : Type 0} (slots : List (Option (Entry V))) (overflow : List (ℕ × V)) (p : ℕ) (o : Option (Entry V)) → IsTable slots overflow → o ≡ entry_at slots p → (w : V) → IsTable (set slots p (with_value_in o w)) overflow
table_written slots overflow p o table is w = table_stored slots overflow p (with_value_in o w) table (λ n. has_written o w n ∙ ap (has_number n) is)

pub table_kept : {V : Type 0} (slots : List (Option (Entry V))) (overflow : List (ℕ × V)) (p : ℕ) (o : Option (Entry V)) → IsTable slots overflow → o ≡ entry_at slots p → IsTable (set slots p o) overflow
table_kept slots overflow p o table is = table_stored slots overflow p o table (λ n. ap (has_number n) is)

pub written_in_place : {V : Type 0} (slots : List (Option (Entry V))) (overflow : List (ℕ × V)) (n : ℕ) (w : V) → has_number n (entry_at slots (place_of n)) ≡ true
    → IsWritten (record { slots = slots; overflow = overflow }) n w (record { slots = set slots (place_of n) (with_value_in (entry_at slots (place_of n)) w); overflow = overflow })
unfolding value_at count_of
written_in_place slots overflow n w has =
    let o = entry_at slots (place_of n) in
    record {
      values = values_once_set slots n (with_value_in o w) (λ q. lookup (nat_eq q) overflow) (λ q. lookup (nat_eq q) overflow) (Some w) (is_inside slots (place_of n) n has)
          (λ q. written_here o n q w (lookup (nat_eq q) overflow) has) (λ q apart. refl);
      count = ap (λ k. k + length overflow) (taken_once_stored slots (place_of n) (with_value_in o w) (is_some_written o w));
    }

-- the map after the value in the slot of a number was replaced by w, for any expressions that are equal to the slot's index and entry
pub written_there : {V : Type 0} (slots : List (Option (Entry V))) (overflow : List (ℕ × V)) (n p : ℕ) (o : Option (Entry V)) (w : V) → has_number n (entry_at slots (place_of n)) ≡ true → p ≡ place_of n → o ≡ entry_at slots p
    → IsWritten (record { slots = slots; overflow = overflow }) n w (record { slots = set slots p (with_value_in o w); overflow = overflow })
written_there slots overflow n p o w has here is =
    let entry : o ≡ entry_at slots (place_of n) = is ∙ ap (entry_at slots) here in
    let same : set slots p (with_value_in o w) ≡ set slots (place_of n) (with_value_in (entry_at slots (place_of n)) w) = ap (λ k. set slots k (with_value_in o w)) here ∙ ap (λ e. set slots (place_of n) (with_value_in e w)) entry in
    subst (λ xs. IsWritten (record { slots = slots; overflow = overflow }) n w (record { slots = xs; overflow = overflow })) (sym same) (written_in_place slots overflow n w has)

-- ---- a number in the overflow map gets another value
none_written : {V : Type 0} (n m : ℕ) (overflow : List (ℕ × V)) (w : V) → lookup (nat_eq m) overflow ≡ None → lookup (nat_eq m) (set_value (nat_eq n) overflow w) ≡ None
none_written n m [] w none = refl
none_written n m (e ∷ es) w none = grind (arith, none, none_written n m es w)

pub table_written_aside : {V : Type 0} (slots : List (Option (Entry V))) (overflow : List (ℕ × V)) (n : ℕ) (w : V) → IsTable slots overflow → IsTable slots (set_value (nat_eq n) overflow w)
table_written_aside slots overflow n w table = record {
  in_place = table.in_place;
  once = λ m has. none_written n m overflow w (table.once m has);
}

value_or_other : {V : Type 0} (o : Option (Entry V)) (n : ℕ) (other : Option V) → has_number n o ≡ false → value_or n o other ≡ other
value_or_other None n other off = refl
value_or_other (Some entry) n other off = ap (λ b. if b then Some entry.value else other) off

-- the value of each number after w was written for number n in the overflow map
found_aside : {V : Type 0} (o : Option (Entry V)) (n q : ℕ) (w : V) (old new : Option V) → (n ≡ q → has_number q o ≡ false) → new ≡ (if n == q then Some w else old) → value_or q o new ≡ (if n == q then Some w else value_or q o old)
found_aside o n q w old new off is = ⊎_elim
    (λ e.
    let on : (n == q) ≡ true = eq-eqb n q e in
    value_or_other o q new (off e) ∙ is ∙ ap (λ b. if b then Some w else old) on ∙ sym (ap (λ b. if b then Some w else value_or q o old) on))
    (λ apart.
    let away : (n == q) ≡ false = ne_eqb n q apart in
    ap (value_or q o) (is ∙ ap (λ b. if b then Some w else old) away) ∙ sym (ap (λ b. if b then Some w else value_or q o old) away))
    (cases_eq n q)

pub written_aside : {V : Type 0} (slots : List (Option (Entry V))) (overflow : List (ℕ × V)) (n : ℕ) (w : V) → has_number n (entry_at slots (place_of n)) ≡ false → IsSome (value_at (record { slots = slots; overflow = overflow }) n)
    → IsWritten (record { slots = slots; overflow = overflow }) n w (record { slots = slots; overflow = set_value (nat_eq n) overflow w })
unfolding value_at count_of
written_aside slots overflow n w off there =
    let o = entry_at slots (place_of n) in
    let is_there : IsSome (lookup (nat_eq n) overflow) = subst (λ x. IsSome x) (value_or_other o n (lookup (nat_eq n) overflow) off) there in
    let looked = λ (q : ℕ). lookup-set_value nat_eq_equiv (nat_eq n) (λ x y h. ap (λ k. nat_eq k y) (eqb-true n x h)) q w overflow is_there in
    record {
      values = λ q. found_aside (entry_at slots (place_of q)) n q w (lookup (nat_eq q) overflow) (lookup (nat_eq q) (set_value (nat_eq n) overflow w)) (λ e. subst (λ k. has_number k (entry_at slots (place_of k)) ≡ false) e off) (looked q);
      count = ap (λ k. taken slots + k) (length-set_value (nat_eq n) overflow w);
    }

-- ---- a number is stored in its slot
pub table_laid : {V : Type 0} (slots laid : List (Option (Entry V))) (overflow : List (ℕ × V)) → IsTable slots overflow → HasSameEntries slots laid → IsTable laid overflow
table_laid slots laid overflow table same = record {
  in_place = λ p n has. table.in_place p n (sym (ap (has_number n) (same.each p)) ∙ has);
  once = λ n has. table.once n (sym (ap (has_number n) (same.each (place_of n))) ∙ has);
}

none_or : {A : Type 0} (b : Bool) → ◌≡◌ {A = Option A} (if b then None else None) None
none_or true = refl
none_or false = refl

pub table_inserted : {V : Type 0} (slots : List (Option (Entry V))) (overflow left : List (ℕ × V)) (n : ℕ) (v : V) → IsTable slots overflow → ((q : ℕ) → lookup (nat_eq q) left ≡ (if n == q then None else lookup (nat_eq q) overflow))
    → IsTable (set slots (place_of n) (Some (record { number = n; value = v }))) left
table_inserted {V} slots overflow left n v table away =
    let o : Option (Entry V) = Some (record { number = n; value = v }) in
    record {
      in_place = λ p m has. ⊎_elim
          (λ here. let is : n ≡ m = eqb-true n m (sym (ap (has_number m) here.1) ∙ has) in ap place_of (sym is) ∙ here.0)
          (λ other. table.in_place p m (sym (ap (has_number m) other) ∙ has))
          (entry_once_set slots (place_of n) p o);
      once = λ m has. ⊎_elim
          (λ here.
          let on : (n == m) ≡ true = sym (ap (has_number m) here.1) ∙ has in
          away m ∙ ap (λ b. if b then None else lookup (nat_eq m) overflow) on)
          (λ other.
          let none : lookup (nat_eq m) overflow ≡ None = table.once m (sym (ap (has_number m) other) ∙ has) in
          away m ∙ ap (λ x. if n == m then None else x) none ∙ none_or (n == m))
          (entry_once_set slots (place_of n) (place_of m) o);
    }

abbrev one_more : Bool → ℕ
one_more found = if found then 0 else 1

-- storing n in its slot, which is free or already has n, increases the count by one exactly when n had no value before
counted_here : {V : Type 0} (o : Option (Entry V)) (n taken_before taken_after long left : ℕ) (other : Option V) → is_free_for n o ≡ true → (has_number n o ≡ true → other ≡ None)
    → taken_after + cond (is_some o) 1 0 ≡ taken_before + 1 → left + (if is_some other then 1 else 0) ≡ long
    → taken_after + left ≡ taken_before + long + (if is_some (value_or n o other) then 0 else 1)
counted_here None n before after long left None free once counts lengths = omega (arith, counts, lengths)
counted_here None n before after long left (Some x) free once counts lengths = omega (arith, counts, lengths)
counted_here (Some entry) n before after long left (Some x) free once counts lengths = let none = once free in absurd cc
counted_here {V} (Some entry) n before after long left None free once counts lengths =
    let found : is_some {T = V} (if entry.number == n then Some entry.value else None) ≡ true = ap (λ b. is_some {T = V} (if b then Some entry.value else None)) free in
    let one : one_more (is_some {T = V} (if entry.number == n then Some entry.value else None)) ≡ 0 = ap one_more found in
    omega (arith, counts, lengths, one)

-- in the new map number n has value v, and the count grew by one exactly when n had no value before
pub record IsPut {V : Type 0} (old : Numbered V) (n : ℕ) (v : V) (new : Numbered V) : Type 0 where
  pub values : (q : ℕ) → value_at new q ≡ (if n == q then Some v else value_at old q)
  pub count : count_of new ≡ count_of old + (if is_some (value_at old n) then 0 else 1)

pub inserted_in_place : {V : Type 0} (slots laid : List (Option (Entry V))) (overflow left : List (ℕ × V)) (n : ℕ) (v : V) → IsTable slots overflow → HasSameEntries slots laid
    → place_of n < length laid → is_free_for n (entry_at laid (place_of n)) ≡ true
    → ((q : ℕ) → lookup (nat_eq q) left ≡ (if n == q then None else lookup (nat_eq q) overflow)) → length left + (if is_some (lookup (nat_eq n) overflow) then 1 else 0) ≡ length overflow
    → IsPut (record { slots = slots; overflow = overflow }) n v (record { slots = set laid (place_of n) (Some (record { number = n; value = v })); overflow = left })
unfolding value_at count_of
inserted_in_place {V} slots laid overflow left n v table same inside free away long =
    let o : Option (Entry V) = Some (record { number = n; value = v }) in
    let e = entry_at laid (place_of n) in
    let looked = λ (q : ℕ). lookup (nat_eq q) overflow in
    let unchanged : (q : ℕ) → (n ≡ q → ⊥) → lookup (nat_eq q) left ≡ looked q = λ q apart. away q ∙ ap (λ b. if b then None else looked q) (ne_eqb n q apart) in
    let values = values_once_set laid n o looked (λ q. lookup (nat_eq q) left) (Some v) inside (λ q. inserted_here e n q v (looked q) (lookup (nat_eq q) left) free (unchanged q)) unchanged in
    let counts = counted_here e n (taken laid) (taken (set laid (place_of n) o)) (length overflow) (length left) (looked n) free (λ has. (table_laid slots laid overflow table same).once n has) (taken_once_set laid (place_of n) o inside) long in
    record {
      values = λ q. values q ∙ ap (λ x. if n == q then Some v else value_or q x (looked q)) (same.each (place_of q));
      count = counts ∙ ap (λ k. k + length overflow + one_more (is_some (value_or n e (looked n)))) same.count ∙ ap (λ x. taken slots + length overflow + one_more (is_some (value_or n x (looked n)))) (same.each (place_of n));
    }

-- ---- a number whose slot another number occupies is stored in the overflow map
pub table_aside : {V : Type 0} (slots : List (Option (Entry V))) (overflow more : List (ℕ × V)) (n : ℕ) (v : V) → IsTable slots overflow → has_number n (entry_at slots (place_of n)) ≡ false
    → ((q : ℕ) → lookup (nat_eq q) more ≡ (if n == q then Some v else lookup (nat_eq q) overflow)) → IsTable slots more
table_aside slots overflow more n v table off is = record {
  in_place = table.in_place;
  once = λ m has.
      let apart : n ≡ m → ⊥ = λ e. let on : has_number n (entry_at slots (place_of n)) ≡ true = subst (λ k. has_number k (entry_at slots (place_of k)) ≡ true) (sym e) has in let both : false ≡ true = sym off ∙ on in cc in
      is m ∙ ap (λ b. if b then Some v else lookup (nat_eq m) overflow) (ne_eqb n m apart) ∙ table.once m has;
}

not_free : {V : Type 0} (o : Option (Entry V)) (n : ℕ) → is_free_for n o ≡ false → has_number n o ≡ false
not_free None n barred = absurd cc
not_free (Some entry) n barred = barred

-- if a number cannot be stored in its slot, it is not in its slot
pub not_there : {V : Type 0} (slots : List (Option (Entry V))) (n : ℕ) → (nat_lt (place_of n) (length slots) && is_free_for n (entry_at slots (place_of n))) ≡ false → has_number n (entry_at slots (place_of n)) ≡ false
not_there slots n barred = ⊎_elim
    (λ inside. not_free (entry_at slots (place_of n)) n (sym (ap (λ b. b && is_free_for n (entry_at slots (place_of n))) (lt-ltb (place_of n) (length slots) inside)) ∙ barred))
    (λ past. ap (has_number n) (get_or_past slots (place_of n) None past))
    (cases_lt (place_of n) (length slots))

pub inserted_aside : {V : Type 0} (slots laid : List (Option (Entry V))) (overflow more : List (ℕ × V)) (n : ℕ) (v : V) → HasSameEntries slots laid → has_number n (entry_at laid (place_of n)) ≡ false
    → ((q : ℕ) → lookup (nat_eq q) more ≡ (if n == q then Some v else lookup (nat_eq q) overflow)) → length more ≡ length overflow + (if is_some (lookup (nat_eq n) overflow) then 0 else 1)
    → IsPut (record { slots = slots; overflow = overflow }) n v (record { slots = laid; overflow = more })
unfolding value_at count_of
inserted_aside slots laid overflow more n v same off is long =
    let looked = λ (q : ℕ). lookup (nat_eq q) overflow in
    let off_before : has_number n (entry_at slots (place_of n)) ≡ false = sym (ap (has_number n) (same.each (place_of n))) ∙ off in
    let found : one_more (is_some (value_or n (entry_at slots (place_of n)) (looked n))) ≡ one_more (is_some (looked n)) = ap (λ x. one_more (is_some x)) (value_or_other (entry_at slots (place_of n)) n (looked n) off_before) in
    let counts = same.count in
    record {
      values = λ q. ap (λ x. value_or q x (lookup (nat_eq q) more)) (same.each (place_of q)) ∙ found_aside (entry_at slots (place_of q)) n q v (looked q) (lookup (nat_eq q) more) (λ e. subst (λ k. has_number k (entry_at slots (place_of k)) ≡ false) e off_before) (is q);
      count = omega (arith, found, counts, long);
    }

-- ---- the result of a look-up
found_here : {V : Type 0} (o : Option (Entry V)) (n : ℕ) (other : Option V) → has_number n o ≡ true → value_or n o other ≡ value_in o
found_here None n other has = absurd cc
found_here (Some entry) n other has = ap (λ b. if b then Some entry.value else other) has

pub found_in_place : {V : Type 0} (slots : List (Option (Entry V))) (overflow : List (ℕ × V)) (n : ℕ) → has_number n (entry_at slots (place_of n)) ≡ true → value_at (record { slots = slots; overflow = overflow }) n ≡ value_in (entry_at slots (place_of n))
unfolding value_at
found_in_place slots overflow n has = found_here (entry_at slots (place_of n)) n (lookup (nat_eq n) overflow) has

pub found_away : {V : Type 0} (slots : List (Option (Entry V))) (overflow : List (ℕ × V)) (n : ℕ) → has_number n (entry_at slots (place_of n)) ≡ false → value_at (record { slots = slots; overflow = overflow }) n ≡ lookup (nat_eq n) overflow
unfolding value_at
found_away slots overflow n off = value_or_other (entry_at slots (place_of n)) n (lookup (nat_eq n) overflow) off
