-- The invariant of a map whose numbers are below a bound, after one number changes.
use Rattle.std.proofs.Common.{◌≡◌, ℕ, ◌+◌, ◌<◌, ◌≤◌, ◌==◌, Bool, true, false, cond, List, [], ◌∷◌, ◌++◌, length, set, count_by, is_some, IsSome, Option, Some, None, ⊎_elim, refl, sym, ap, ◌∙◌, arith}
use Rattle.std.proofs.lemmas.Bool.{cases_lt, cases_Bool, eqb-true}
use Rattle.std.proofs.lemmas.List.{get_or_past, set_past}
use Rattle.std.proofs.lemmas.List.Sums.{sum_by-append, sum_by-cons}
use Rattle.support.proofs.Sums.{count_by-set}
use Rattle.interleaving.specs.declared.job_table.JobEntry.{JobEntry}
use Rattle.interleaving.specs.JobEntry.{place_at}

none_from_at : (end n : ℕ) (o : Option JobEntry) → ((place : JobEntry) → o ≡ Some place → n < end) → end ≤ n → o ≡ None
none_from_at end n None below past = refl
none_from_at end n (Some place) below past = let low = below place refl in absurd (omega (arith, low, past))

-- the map has no value at or above the bound
pub none_from : (at : ℕ → Option JobEntry) (end : ℕ) → ((n : ℕ) (place : JobEntry) → at n ≡ Some place → n < end) → (n : ℕ) → end ≤ n → at n ≡ None
none_from at end below n past = none_from_at end n (at n) (below n) past

-- a change at a number below the bound preserves the bound
pub still_below : (at after : ℕ → Option JobEntry) (end n : ℕ) (w : Option JobEntry) → ((k : ℕ) (place : JobEntry) → at k ≡ Some place → k < end) → n < end → ((q : ℕ) → after q ≡ cond (n == q) w (at q)) → (q : ℕ) (place : JobEntry) → after q ≡ Some place → q < end
still_below at after end n w below low e q place found = ⊎_elim
    (λ same. let here : n ≡ q = eqb-true n q same in omega (arith, low, here))
    (λ other. below q place (sym (e q ∙ ap (λ b. cond b w (at q)) other) ∙ found))
    (cases_Bool (n == q))

pub some_is : (o : Option JobEntry) → IsSome o → is_some o ≡ true
some_is None some = absurd cc
some_is (Some place) some = refl

pub is_inside : (items : List (Option JobEntry)) (n : ℕ) → is_some (place_at items n) ≡ true → n < length items
is_inside items n some = ⊎_elim
    (λ inside. inside)
    (λ past. let none : is_some {T = JobEntry} None ≡ true = ap is_some (sym (get_or_past items n None past)) ∙ some in absurd cc)
    (cases_lt n (length items))

abbrev one_if : Bool → ℕ
one_if b = cond b 1 0

-- the number of occupied entries after a change of an occupied entry
pub count-set_some : (items : List (Option JobEntry)) (n : ℕ) (w : Option JobEntry) → is_some (place_at items n) ≡ true → count_by is_some (set items n w) + 1 ≡ count_by is_some items + one_if (is_some w)
count-set_some items n w some =
    let counts = count_by-set is_some items n w None (is_inside items n some) in
    let one : one_if (is_some (place_at items n)) ≡ 1 = ap one_if some in
    omega (arith, counts, one)

pub count-set_none : (items : List (Option JobEntry)) (n : ℕ) → is_some (place_at items n) ≡ false → count_by is_some (set items n None) ≡ count_by is_some items
count-set_none items n none = ⊎_elim
    (λ inside.
    let counts = count_by-set is_some items n None None inside in
    let no : one_if (is_some (place_at items n)) ≡ 0 = ap one_if none in
    omega (arith, counts, no))
    (λ past. ap (count_by is_some) (set_past items n None past))
    (cases_lt n (length items))

pub count-pushed : (items : List (Option JobEntry)) (place : JobEntry) → count_by is_some (items ++ Some place ∷ []) ≡ count_by is_some items + 1
count-pushed items place =
    let whole = sum_by-append (λ o. cond (is_some o) 1 0) items (Some place ∷ []) in
    let last = sum_by-cons (λ o. cond (is_some o) 1 0) (Some place) [] in
    omega (arith, whole, last)
