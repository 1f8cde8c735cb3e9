-- Lemmas about the places of a list at which a test passes.
use Rattle.std.proofs.Common.{◌≡◌, ℕ, zero, suc, ◌+◌, ◌<◌, ◌≤◌, Bool, true, false, cond, not, eqb, ◌⊎◌, inl, inr, ⊎_elim, List, [], ◌∷◌, ◌++◌, map, filter, length, get_or, set, take, drop, count_by, AllPairs, refl, sym, ap, ap₂, subst, ◌∙◌, arith, zero-add}
use Rattle.std.specs.List.{list_all}
use Rattle.std.proofs.lemmas.Bool.{cases_Bool, false_from_ne_true, ne_eqb, eq-eqb}
use Rattle.std.proofs.lemmas.List.{length-append, get_or_append_left, get_or_at, get_or-append-add}
use Rattle.std.proofs.lemmas.List.Elements.{filter-append}
use Rattle.std.proofs.lemmas.List.Sums.{sum_by-cons}
use Rattle.support.specs.In.{In, here, there}
use Rattle.support.specs.Places.{cons_if, places_from, places_where}
use Rattle.support.proofs.Members.{not_In_nil, In-get_or, Contains-from_In, filter_all, list_all_at_In, list_all_from_In}

pub one_more : (n p : ℕ) → n + suc p ≡ n + 1 + p
one_more n p = omega arith

-- ---- numbers with one prepended if a condition is true
pub cons_if-append : (b : Bool) (n : ℕ) (ns ms : List ℕ) → cons_if b n (ns ++ ms) ≡ cons_if b n ns ++ ms
cons_if-append true n ns ms = refl
cons_if-append false n ns ms = refl

pub length-cons_if : (b : Bool) (n : ℕ) (ns : List ℕ) → length (cons_if b n ns) ≡ cond b 1 0 + length ns
length-cons_if true n ns = omega arith
length-cons_if false n ns = omega arith

pub In-cons_if : (b : Bool) (n : ℕ) (ns : List ℕ) {j : ℕ} → In j ns → In j (cons_if b n ns)
In-cons_if true n ns i = there i
In-cons_if false n ns i = i

pub In-cons_if_cases : (b : Bool) (n : ℕ) (ns : List ℕ) {j : ℕ} → In j (cons_if b n ns) → ((b ≡ true) × (j ≡ n)) ⊎ In j ns
In-cons_if_cases true n ns here = inl (refl, refl)
In-cons_if_cases true n ns (there i) = inr i
In-cons_if_cases false n ns i = inr i

-- ---- tests that agree at every place pass at the same places
pub places_from-agree_at : {X Y : Type 0} (p : X → Bool) (q : Y → Bool) (n : ℕ) (xs : List X) (ys : List Y) (d : X) (e : Y) → length xs ≡ length ys → ((i : ℕ) → i < length xs → p (get_or xs i d) ≡ q (get_or ys i e))
    → places_from p n xs ≡ places_from q n ys
places_from-agree_at p q n [] [] d e long same = refl
places_from-agree_at p q n [] (y ∷ ys) d e long same = absurd (omega arith)
places_from-agree_at p q n (x ∷ xs) [] d e long same = absurd (omega arith)
places_from-agree_at p q n (x ∷ xs) (y ∷ ys) d e long same =
    ap₂ (λ b ns. cons_if b n ns) (same 0 (omega arith)) (places_from-agree_at p q (n + 1) xs ys d e (omega arith) (λ i inside. same (suc i) (omega arith)))

pub places_from-agree : {X : Type 0} (p q : X → Bool) (n : ℕ) (xs : List X) → ((x : X) → p x ≡ q x) → places_from p n xs ≡ places_from q n xs
places_from-agree p q n [] same = refl
places_from-agree p q n (x ∷ xs) same = ap₂ (λ b ns. cons_if b n ns) (same x) (places_from-agree p q (n + 1) xs same)

pub places_from-map : {X Y : Type 0} (test : Y → Bool) (f : X → Y) (n : ℕ) (xs : List X) → places_from test n (map f xs) ≡ places_from (λ x. test (f x)) n xs
places_from-map test f n [] = refl
places_from-map test f n (x ∷ xs) = ap (cons_if (test (f x)) n) (places_from-map test f (n + 1) xs)

-- ---- the places of joined lists
pub places_from-append : {X : Type 0} (test : X → Bool) (n : ℕ) (xs ys : List X) → places_from test n (xs ++ ys) ≡ places_from test n xs ++ places_from test (n + length xs) ys
places_from-append test n [] ys = let e : n ≡ n + 0 = omega arith in ap (λ k. places_from test k ys) e
places_from-append test n (x ∷ xs) ys =
    let e : n + 1 + length xs ≡ n + length (x ∷ xs) = omega arith in
    ap (cons_if (test x) n) (places_from-append test (n + 1) xs ys ∙ ap (λ k. places_from test (n + 1) xs ++ places_from test k ys) e)
    ∙ cons_if-append (test x) n (places_from test (n + 1) xs) (places_from test (n + length (x ∷ xs)) ys)

pub places_from_push : {X : Type 0} (test : X → Bool) (n : ℕ) (xs : List X) (x : X) → places_from test n (xs ++ x ∷ []) ≡ places_from test n xs ++ cons_if (test x) (n + length xs) []
places_from_push test n xs x = places_from-append test n xs (x ∷ [])

pub length-places_from : {X : Type 0} (test : X → Bool) (n : ℕ) (xs : List X) → length (places_from test n xs) ≡ count_by test xs
length-places_from test n [] = refl
length-places_from test n (x ∷ xs) = length-cons_if (test x) n (places_from test (n + 1) xs) ∙ ap (λ k. cond (test x) 1 0 + k) (length-places_from test (n + 1) xs) ∙ sym (sum_by-cons (λ y. cond (test y) 1 0) x xs)

pub length-places : {X : Type 0} (test : X → Bool) (xs : List X) → length (places_where test xs) ≡ count_by test xs
length-places test xs = length-places_from test 0 xs

-- ---- each place is that of an element that passes
pub record IsPlace {X : Type 0} (test : X → Bool) (n : ℕ) (xs : List X) (j : ℕ) : Type 0 where
  pub index : ℕ
  pub from : j ≡ n + index
  pub inside : index < length xs
  pub passes : (d : X) → test (get_or xs index d) ≡ true

later_place : {X : Type 0} (test : X → Bool) (n : ℕ) (x : X) (xs : List X) (j : ℕ) → IsPlace test (n + 1) xs j → IsPlace test n (x ∷ xs) j
later_place test n x xs j place = record { index = suc place.index; from = omega arith; inside = omega arith; passes = place.passes }

pub place_at_In : {X : Type 0} (test : X → Bool) (n : ℕ) (xs : List X) (j : ℕ) → In j (places_from test n xs) → IsPlace test n xs j
place_at_In test n [] j i = absurd (not_In_nil i)
place_at_In test n (x ∷ xs) j i =
    ⊎_elim (λ first. record { index = 0; from = let e : j ≡ n = first.1 in omega arith; inside = omega arith; passes = λ d. first.0 }) (λ later. later_place test n x xs j (place_at_In test (n + 1) xs j later))
    (In-cons_if_cases (test x) n (places_from test (n + 1) xs) i)

pub In-places_from : {X : Type 0} (test : X → Bool) (n : ℕ) (xs : List X) (i : ℕ) (d : X) → i < length xs → test (get_or xs i d) ≡ true → In (n + i) (places_from test n xs)
In-places_from test n [] i d inside passes = absurd (omega arith)
In-places_from test n (x ∷ xs) zero d inside passes =
    let e : n ≡ n + 0 = omega arith in
    subst (λ b. In (n + 0) (cons_if b n (places_from test (n + 1) xs))) (sym passes) (subst (λ k. In k (n ∷ places_from test (n + 1) xs)) e here)
In-places_from test n (x ∷ xs) (suc i) d inside passes =
    In-cons_if (test x) n (places_from test (n + 1) xs) (subst (λ k. In k (places_from test (n + 1) xs)) (sym (one_more n i)) (In-places_from test (n + 1) xs i d (omega arith) passes))

-- if the first element has place n, all places are at least n and below n plus the length of the list
pub places_from-below : {X : Type 0} (test : X → Bool) (n : ℕ) (xs : List X) {j : ℕ} → In j (places_from test n xs) → (n ≤ j) × (j < n + length xs)
places_from-below test n xs {j} i = let place = place_at_In test n xs j i in (omega (arith, place.from), omega (arith, place.from, place.inside))

-- the places are in ascending order, so each occurs once
ascends : (b : Bool) (n : ℕ) (ns : List ℕ) → ((k : ℕ) → In k ns → n < k) → AllPairs ◌<◌ ns → AllPairs ◌<◌ (cons_if b n ns)
ascends true n ns above pairs zero zero d less inside = absurd (omega arith)
ascends true n ns above pairs zero (suc j) d less inside = above (get_or ns j d) (In-get_or ns j d (omega arith))
ascends true n ns above pairs (suc i) zero d less inside = absurd (omega arith)
ascends true n ns above pairs (suc i) (suc j) d less inside = pairs i j d (omega arith) (omega arith)
ascends false n ns above pairs i j d less inside = pairs i j d less inside

pub places_from-ascend : {X : Type 0} (test : X → Bool) (n : ℕ) (xs : List X) → AllPairs ◌<◌ (places_from test n xs)
places_from-ascend test n [] i j d less inside = absurd (omega arith)
places_from-ascend test n (x ∷ xs) i j d less inside =
    ascends (test x) n (places_from test (n + 1) xs) (λ k i. let low = (places_from-below test (n + 1) xs i).0 in omega arith) (places_from-ascend test (n + 1) xs) i j d less inside

-- if each element fails the test, there is no place
pub places_from_none : {X : Type 0} (test : X → Bool) (n : ℕ) (xs : List X) → ((i : ℕ) (d : X) → i < length xs → test (get_or xs i d) ≡ false) → places_from test n xs ≡ []
places_from_none test n [] none = refl
places_from_none test n (x ∷ xs) none = ap₂ (λ b ns. cons_if b n ns) (none 0 x (omega arith)) (places_from_none test (n + 1) xs (λ i d inside. none (suc i) d (omega arith)))

-- ---- the places after the element at i is replaced
pub places_from-set_same : {X : Type 0} (test : X → Bool) (n : ℕ) (xs : List X) (i : ℕ) (y d : X) → test y ≡ test (get_or xs i d) → places_from test n (set xs i y) ≡ places_from test n xs
places_from-set_same test n [] i y d same = refl
places_from-set_same test n (x ∷ xs) zero y d same = ap (λ b. cons_if b n (places_from test (n + 1) xs)) same
places_from-set_same test n (x ∷ xs) (suc i) y d same = ap (cons_if (test x) n) (places_from-set_same test (n + 1) xs i y d same)

-- the places of a list are those before i, i if the element there passes, and those after i
pub places_from_split : {X : Type 0} (test : X → Bool) (n : ℕ) (xs : List X) (i : ℕ) (d : X) → i < length xs
    → places_from test n xs ≡ places_from test n (take i xs) ++ cons_if (test (get_or xs i d)) (n + i) (places_from test (n + i + 1) (drop (suc i) xs))
places_from_split test n [] i d inside = absurd (omega arith)
places_from_split test n (x ∷ xs) zero d inside = let e : n ≡ n + 0 = omega arith in ap (λ k. cons_if (test x) k (places_from test (k + 1) xs)) e
places_from_split test n (x ∷ xs) (suc i) d inside =
    ap (cons_if (test x) n) (places_from_split test (n + 1) xs i d (omega arith) ∙ ap (λ k. places_from test (n + 1) (take i xs) ++ cons_if (test (get_or xs i d)) k (places_from test (k + 1) (drop (suc i) xs))) (sym (one_more n i)))
    ∙ cons_if-append (test x) n (places_from test (n + 1) (take i xs)) (cons_if (test (get_or xs i d)) (n + suc i) (places_from test (n + suc i + 1) (drop (suc i) xs)))

pub places_from-set : {X : Type 0} (test : X → Bool) (n : ℕ) (xs : List X) (i : ℕ) (y : X) → i < length xs
    → places_from test n (set xs i y) ≡ places_from test n (take i xs) ++ cons_if (test y) (n + i) (places_from test (n + i + 1) (drop (suc i) xs))
places_from-set test n [] i y inside = absurd (omega arith)
places_from-set test n (x ∷ xs) zero y inside = let e : n ≡ n + 0 = omega arith in ap (λ k. cons_if (test y) k (places_from test (k + 1) xs)) e
places_from-set test n (x ∷ xs) (suc i) y inside =
    ap (cons_if (test x) n) (places_from-set test (n + 1) xs i y (omega arith) ∙ ap (λ k. places_from test (n + 1) (take i xs) ++ cons_if (test y) k (places_from test (k + 1) (drop (suc i) xs))) (sym (one_more n i)))
    ∙ cons_if-append (test x) n (places_from test (n + 1) (take i xs)) (cons_if (test y) (n + suc i) (places_from test (n + suc i + 1) (drop (suc i) xs)))

filter-cons_if_kept : (keep : ℕ → Bool) (b : Bool) (n : ℕ) (ns : List ℕ) → keep n ≡ true → filter keep (cons_if b n ns) ≡ cons_if b n (filter keep ns)
filter-cons_if_kept keep true n ns kept = ap (λ b. cond b (n ∷ filter keep ns) (filter keep ns)) kept
filter-cons_if_kept keep false n ns kept = refl

filter-cons_if_dropped : (keep : ℕ → Bool) (b : Bool) (n : ℕ) (ns : List ℕ) → keep n ≡ false → filter keep (cons_if b n ns) ≡ filter keep ns
filter-cons_if_dropped keep true n ns dropped = ap (λ b. cond b (n ∷ filter keep ns) (filter keep ns)) dropped
filter-cons_if_dropped keep false n ns dropped = refl

-- whether k is not m
abbrev pub is_other : ℕ → ℕ → Bool
is_other m k = not (eqb k m)

-- replacing an element by one that fails removes its place
pub places_from-set_fails : {X : Type 0} (test : X → Bool) (n : ℕ) (xs : List X) (i : ℕ) (y : X) → i < length xs → test y ≡ false → places_from test n (set xs i y) ≡ filter (is_other (n + i)) (places_from test n xs)
places_from-set_fails test n [] i y inside fails = absurd (omega arith)
places_from-set_fails test n (x ∷ xs) zero y inside fails =
    let behind = places_from test (n + 1) xs in
    let all_kept : filter (is_other (n + 0)) behind ≡ behind =
    filter_all (is_other (n + 0)) behind (λ k i. let low = (places_from-below test (n + 1) xs i).0 in ap not (ne_eqb k (n + 0) (λ (e : k ≡ n + 0). omega arith))) in
    ap (λ b. cons_if b n behind) fails ∙ sym (filter-cons_if_dropped (is_other (n + 0)) (test x) n behind (ap not (eq-eqb n (n + 0) (omega arith))) ∙ all_kept)
places_from-set_fails test n (x ∷ xs) (suc i) y inside fails =
    let behind = places_from test (n + 1) xs in
    ap (cons_if (test x) n) (places_from-set_fails test (n + 1) xs i y (omega arith) fails ∙ ap (λ m. filter (is_other m) behind) (sym (one_more n i)))
    ∙ sym (filter-cons_if_kept (is_other (n + suc i)) (test x) n behind (ap not (ne_eqb n (n + suc i) (λ (e : n ≡ n + suc i). omega arith))))

below_middle : (before : List ℕ) (m : ℕ) (behind : List ℕ) (k : ℕ) → AllPairs ◌<◌ (before ++ m ∷ behind) → In k before → k < m
below_middle before m behind k pairs i =
    let found = Contains-from_In i in
    let less = pairs found.0 (length before) k found.1 (omega (arith, length-append before (m ∷ behind))) in
    omega (arith, less, get_or_append_left before (m ∷ behind) k found.0 found.1, found.2, get_or_at before m behind k (length before) refl)

above_middle : (before : List ℕ) (m : ℕ) (behind : List ℕ) (k : ℕ) → AllPairs ◌<◌ (before ++ m ∷ behind) → In k behind → m < k
above_middle before m behind k pairs i =
    let found = Contains-from_In i in
    let less = pairs (length before) (length before + suc found.0) k (omega arith) (omega (arith, found.1, length-append before (m ∷ behind))) in
    omega (arith, less, get_or-append-add before (m ∷ behind) (suc found.0) k, found.2, get_or_at before m behind k (length before) refl)

-- replacing an element by one that fails removes its place, and keeps the places before and after it
pub places_from-set_removes : {X : Type 0} (test : X → Bool) (n : ℕ) (xs : List X) (i : ℕ) (y : X) (before behind : List ℕ) → i < length xs → test y ≡ false → places_from test n xs ≡ before ++ (n + i) ∷ behind
    → places_from test n (set xs i y) ≡ before ++ behind
places_from-set_removes test n xs i y before behind inside fails e =
    let keep = is_other (n + i) in
    let pairs = subst (AllPairs ◌<◌) e (places_from-ascend test n xs) in
    let prefix : filter keep before ≡ before = filter_all keep before (λ k at. let low = below_middle before (n + i) behind k pairs at in ap not (ne_eqb k (n + i) (λ (same : k ≡ n + i). omega arith))) in
    let back : filter keep behind ≡ behind = filter_all keep behind (λ k at. let high = above_middle before (n + i) behind k pairs at in ap not (ne_eqb k (n + i) (λ (same : k ≡ n + i). omega arith))) in
    let gone : filter keep ((n + i) ∷ behind) ≡ filter keep behind = filter-cons_if_dropped keep true (n + i) behind (ap not (eq-eqb (n + i) (n + i) refl)) in
    places_from-set_fails test n xs i y inside fails ∙ ap (filter keep) e ∙ filter-append keep before ((n + i) ∷ behind) ∙ ap₂ (λ ks ms. ks ++ ms) prefix (gone ∙ back)

-- if no element at or after index i passes, replacing the element at i by one that passes appends its place
pub places_from-set_last : {X : Type 0} (test : X → Bool) (n : ℕ) (xs : List X) (i : ℕ) (y : X) → i < length xs → test y ≡ true → ((k : ℕ) (d : X) → i ≤ k → k < length xs → test (get_or xs k d) ≡ false)
    → places_from test n (set xs i y) ≡ places_from test n xs ++ (n + i) ∷ []
places_from-set_last test n [] i y inside passes none = absurd (omega arith)
places_from-set_last test n (x ∷ xs) zero y inside passes none =
    let rest : places_from test (n + 1) xs ≡ [] = places_from_none test (n + 1) xs (λ k d lt. none (suc k) d (omega arith) (omega arith)) in
    let e : n ≡ n + 0 = omega arith in
    ap₂ (λ b ns. cons_if b n ns) passes rest ∙ ap (λ k. k ∷ []) e ∙ ap₂ (λ b ns. cons_if b n ns ++ (n + 0) ∷ []) (sym (none 0 x (omega arith) (omega arith))) (sym rest)
places_from-set_last test n (x ∷ xs) (suc i) y inside passes none =
    ap (cons_if (test x) n) (places_from-set_last test (n + 1) xs i y (omega arith) passes (λ k d le lt. none (suc k) d (omega arith) (omega arith)) ∙ ap (λ k. places_from test (n + 1) xs ++ k ∷ []) (sym (one_more n i)))
    ∙ cons_if-append (test x) n (places_from test (n + 1) xs) ((n + suc i) ∷ [])

-- ---- the first place: the element there passes, and `rest` has the other places
pub record IsFirstPlace {X : Type 0} (test : X → Bool) (n : ℕ) (xs : List X) (j : ℕ) (rest : List ℕ) : Type 0 where
  pub index : ℕ
  pub from : j ≡ n + index
  pub inside : index < length xs
  pub passes : (d : X) → test (get_or xs index d) ≡ true
  pub without : (y : X) → test y ≡ false → places_from test n (set xs index y) ≡ rest

pub first_place : {X : Type 0} (test : X → Bool) (n : ℕ) (xs : List X) (j : ℕ) (rest : List ℕ) → places_from test n xs ≡ j ∷ rest → IsFirstPlace test n xs j rest
first_place test n [] j rest e = absurd cc
first_place test n (x ∷ xs) j rest e =
    let behind = places_from test (n + 1) xs in
    ⊎_elim
    (λ passes.
    let starts : n ∷ behind ≡ j ∷ rest = ap (λ b. cons_if b n behind) (sym passes) ∙ e in
    let number : n ≡ j = cc starts in
    let overflow : behind ≡ rest = cc starts in
    record { index = 0; from = omega arith; inside = omega arith; passes = λ d. passes; without = λ y fails. ap (λ b. cons_if b n behind) fails ∙ overflow })
    (λ fails.
    let later = first_place test (n + 1) xs j rest (ap (λ b. cons_if b n behind) (sym fails) ∙ e) in
    record {
      index = suc later.index;
      from = omega (arith, later.from);
      inside = omega (arith, later.inside);
      passes = later.passes;
      without = λ y gone. ap (λ b. cons_if b n (places_from test (n + 1) (set xs later.index y))) fails ∙ later.without y gone;
    })
    (cases_Bool (test x))

-- ---- a property that holds for all places holds for the place of each element that passes
pub list_all_at_place : {X : Type 0} (good : ℕ → Bool) (test : X → Bool) (n : ℕ) (xs : List X) (i : ℕ) (d : X) → list_all good (places_from test n xs) ≡ true → i < length xs → test (get_or xs i d) ≡ true → good (n + i) ≡ true
list_all_at_place good test n xs i d each inside passes = list_all_at_In good each (In-places_from test n xs i d inside passes)

pub list_all_from_places : {X : Type 0} (good : ℕ → Bool) (test : X → Bool) (n : ℕ) (xs : List X) (d : X) → ((i : ℕ) → i < length xs → test (get_or xs i d) ≡ true → good (n + i) ≡ true) → list_all good (places_from test n xs) ≡ true
list_all_from_places good test n xs d each =
    list_all_from_In good (places_from test n xs) (λ j i. let place = place_at_In test n xs j i in ap good place.from ∙ each place.index place.inside (place.passes d))

-- ---- if more elements pass p than q, some element passes p and fails q
pub record PassesWithout {X : Type 0} (p q : X → Bool) (xs : List X) : Type 0 where
  pub index : ℕ
  pub inside : index < length xs
  pub passes : (d : X) → p (get_or xs index d) ≡ true
  pub fails : (d : X) → q (get_or xs index d) ≡ false

here_or_later : (b c : Bool) (k m : ℕ) → cond c 1 0 + k < cond b 1 0 + m → ((b ≡ true) × (c ≡ false)) ⊎ (k < m)
here_or_later true true k m more = inr (omega arith)
here_or_later true false k m more = inl (refl, refl)
here_or_later false true k m more = inr (omega arith)
here_or_later false false k m more = inr (omega arith)

pub passes_without : {X : Type 0} (p q : X → Bool) (xs : List X) → count_by q xs < count_by p xs → PassesWithout p q xs
passes_without p q [] more = absurd (omega arith)
passes_without p q (x ∷ xs) more =
    let of_p = sum_by-cons (λ y. cond (p y) 1 0) x xs in
    let of_q = sum_by-cons (λ y. cond (q y) 1 0) x xs in
    ⊎_elim (λ first. record { index = 0; inside = omega arith; passes = λ d. first.0; fails = λ d. first.1 })
    (λ later. let found = passes_without p q xs later in record { index = suc found.index; inside = omega (arith, found.inside); passes = found.passes; fails = found.fails })
    (here_or_later (p x) (q x) (count_by q xs) (count_by p xs) (omega (arith, of_p, of_q)))

-- ---- the places counted from 0
pub places_where-agree : {X : Type 0} (p q : X → Bool) (xs : List X) → ((x : X) → p x ≡ q x) → places_where p xs ≡ places_where q xs
places_where-agree p q xs same = places_from-agree p q 0 xs same

pub places_where-agree_at : {X Y : Type 0} (p : X → Bool) (q : Y → Bool) (xs : List X) (ys : List Y) (d : X) (e : Y) → length xs ≡ length ys → ((i : ℕ) → i < length xs → p (get_or xs i d) ≡ q (get_or ys i e))
    → places_where p xs ≡ places_where q ys
places_where-agree_at p q xs ys d e long same = places_from-agree_at p q 0 xs ys d e long same

pub places_where-map : {X Y : Type 0} (test : Y → Bool) (f : X → Y) (xs : List X) → places_where test (map f xs) ≡ places_where (λ x. test (f x)) xs
places_where-map test f xs = places_from-map test f 0 xs

pub places_where_push : {X : Type 0} (test : X → Bool) (xs : List X) (x : X) → places_where test (xs ++ x ∷ []) ≡ places_where test xs ++ cons_if (test x) (length xs) []
places_where_push test xs x = places_from_push test 0 xs x ∙ ap (λ k. places_where test xs ++ cons_if (test x) k []) (zero-add (length xs))

pub places_where-set_same : {X : Type 0} (test : X → Bool) (xs : List X) (i : ℕ) (y d : X) → test y ≡ test (get_or xs i d) → places_where test (set xs i y) ≡ places_where test xs
places_where-set_same test xs i y d same = places_from-set_same test 0 xs i y d same

pub places_where-set_fails : {X : Type 0} (test : X → Bool) (xs : List X) (i : ℕ) (y : X) → i < length xs → test y ≡ false → places_where test (set xs i y) ≡ filter (is_other i) (places_where test xs)
places_where-set_fails test xs i y inside fails = places_from-set_fails test 0 xs i y inside fails ∙ ap (λ m. filter (is_other m) (places_where test xs)) (zero-add i)

pub places_where-set_removes : {X : Type 0} (test : X → Bool) (xs : List X) (i : ℕ) (y : X) (before behind : List ℕ) → i < length xs → test y ≡ false → places_where test xs ≡ before ++ i ∷ behind
    → places_where test (set xs i y) ≡ before ++ behind
places_where-set_removes test xs i y before behind inside fails e = places_from-set_removes test 0 xs i y before behind inside fails (e ∙ ap (λ k. before ++ k ∷ behind) (sym (zero-add i)))

pub places_where-set_last : {X : Type 0} (test : X → Bool) (xs : List X) (i : ℕ) (y : X) → i < length xs → test y ≡ true → ((k : ℕ) (d : X) → i ≤ k → k < length xs → test (get_or xs k d) ≡ false)
    → places_where test (set xs i y) ≡ places_where test xs ++ i ∷ []
places_where-set_last test xs i y inside passes none = places_from-set_last test 0 xs i y inside passes none ∙ ap (λ k. places_where test xs ++ k ∷ []) (zero-add i)

pub passes_at_In : {X : Type 0} (test : X → Bool) (xs : List X) (j : ℕ) → In j (places_where test xs) → (j < length xs) × ((d : X) → test (get_or xs j d) ≡ true)
passes_at_In test xs j i =
    let place = place_at_In test 0 xs j i in
    let number : place.index ≡ j = omega (arith, place.from) in
    subst (λ k. (k < length xs) × ((d : _) → test (get_or xs k d) ≡ true)) number (place.inside, place.passes)

pub In-places_where : {X : Type 0} (test : X → Bool) (xs : List X) (i : ℕ) (d : X) → i < length xs → test (get_or xs i d) ≡ true → In i (places_where test xs)
In-places_where test xs i d inside passes = subst (λ k. In k (places_where test xs)) (zero-add i) (In-places_from test 0 xs i d inside passes)

pub places_where-below : {X : Type 0} (test : X → Bool) (xs : List X) {j : ℕ} → In j (places_where test xs) → j < length xs
places_where-below test xs {j} i = (passes_at_In test xs j i).0

pub places_where_none : {X : Type 0} (test : X → Bool) (xs : List X) → ((i : ℕ) (d : X) → i < length xs → test (get_or xs i d) ≡ false) → places_where test xs ≡ []
places_where_none test xs none = places_from_none test 0 xs none

pub fails_everywhere : {X : Type 0} (test : X → Bool) (xs : List X) → places_where test xs ≡ [] → (i : ℕ) (d : X) → i < length xs → test (get_or xs i d) ≡ false
fails_everywhere test xs e i d inside = false_from_ne_true (test (get_or xs i d)) (λ passes. not_In_nil (subst (In i) e (In-places_where test xs i d inside passes)))

-- j is the first place, and `rest` has the other places
pub record IsFirst {X : Type 0} (test : X → Bool) (xs : List X) (j : ℕ) (rest : List ℕ) : Type 0 where
  pub inside : j < length xs
  pub passes : (d : X) → test (get_or xs j d) ≡ true
  pub without : (y : X) → test y ≡ false → places_where test (set xs j y) ≡ rest

pub first_where : {X : Type 0} (test : X → Bool) (xs : List X) (j : ℕ) (rest : List ℕ) → places_where test xs ≡ j ∷ rest → IsFirst test xs j rest
first_where test xs j rest e =
    let first = first_place test 0 xs j rest e in
    let number : first.index ≡ j = omega (arith, first.from) in
    subst (λ k. IsFirst test xs k rest) number (record { inside = first.inside; passes = first.passes; without = first.without })

pub list_all_at_where : {X : Type 0} (good : ℕ → Bool) (test : X → Bool) (xs : List X) (i : ℕ) (d : X) → list_all good (places_where test xs) ≡ true → i < length xs → test (get_or xs i d) ≡ true → good i ≡ true
list_all_at_where good test xs i d each inside passes = list_all_at_In good each (In-places_where test xs i d inside passes)

pub list_all_from_where : {X : Type 0} (good : ℕ → Bool) (test : X → Bool) (xs : List X) (d : X) → ((i : ℕ) → i < length xs → test (get_or xs i d) ≡ true → good i ≡ true) → list_all good (places_where test xs) ≡ true
list_all_from_where good test xs d each = list_all_from_In good (places_where test xs) (λ j i. let place = passes_at_In test xs j i in each j place.0 (place.1 d))
