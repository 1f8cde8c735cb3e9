-- Lemmas about the last place of a list at which a test passes.
use Rattle.std.proofs.Common.{◌≡◌, ℕ, suc, ◌+◌, ◌<◌, ◌≤◌, Bool, true, false, List, [], ◌∷◌, ◌++◌, length, get_or, take, drop, Some, None, ⊎_elim, refl, sym, ap, ap₂, subst, ◌∙◌, arith, zero-add, get_or-drop, length-drop, append-nil}
use Rattle.std.proofs.lemmas.Bool.{false_from_ne_true}
use Rattle.std.proofs.lemmas.Option.{same_Some}
use Rattle.support.specs.In.{In, here, there}
use Rattle.support.specs.Places.{cons_if, places_from, places_where, last_of}
use Rattle.support.proofs.PassingPlaces.{IsPlace, place_at_In, places_from_none, places_from_split, places_from-below, places_where_push, fails_everywhere}
use Rattle.support.proofs.Members.{In-cons_cases}

-- ---- the last number of a list
pub last_of-append : (ns : List ℕ) (m : ℕ) (ms : List ℕ) → last_of (ns ++ m ∷ ms) ≡ last_of (m ∷ ms)
last_of-append [] m ms = refl
last_of-append (n ∷ []) m ms = refl
last_of-append (n ∷ k ∷ ns) m ms = last_of-append (k ∷ ns) m ms

pub last_of_push : (ns : List ℕ) (n : ℕ) → last_of (ns ++ n ∷ []) ≡ Some n
last_of_push ns n = last_of-append ns n []

pub In-last_of : (ns : List ℕ) (n : ℕ) → last_of ns ≡ Some n → In n ns
In-last_of [] n e = absurd cc
In-last_of (m ∷ []) n e = subst (λ k. In n (k ∷ [])) (sym (same_Some m n e)) here
In-last_of (m ∷ k ∷ ns) n e = there (In-last_of (k ∷ ns) n e)

pub none_from_last_of : (ns : List ℕ) → last_of ns ≡ None → ns ≡ []
none_from_last_of [] e = refl
none_from_last_of (n ∷ []) e = absurd cc
none_from_last_of (n ∷ m ∷ ns) e = let rest = none_from_last_of (m ∷ ns) e in absurd cc

pub last_place : {X : Type 0} (test : X → Bool) (n : ℕ) (xs : List X) (j : ℕ) → last_of (places_from test n xs) ≡ Some j → IsPlace test n xs j
last_place test n xs j e = place_at_In test n xs j (In-last_of (places_from test n xs) j e)

-- ---- the last place of a list at which the test passes
pub record IsLast {X : Type 0} (test : X → Bool) (xs : List X) (m : ℕ) : Type 0 where
  pub inside : m < length xs
  pub passes : (d : X) → test (get_or xs m d) ≡ true
  pub none_later : (k : ℕ) (d : X) → m < k → k < length xs → test (get_or xs k d) ≡ false

pub last_from : {X : Type 0} (test : X → Bool) (n : ℕ) (xs : List X) (m : ℕ) → IsLast test xs m → last_of (places_from test n xs) ≡ Some (n + m)
last_from test n [] m last = absurd (omega (arith, last.inside))
last_from test n (x ∷ xs) m last =
    let before = places_from test n (take m (x ∷ xs)) in
    let behind = places_from test (n + m + 1) (drop (suc m) (x ∷ xs)) in
    let none : behind ≡ [] =
    places_from_none test (n + m + 1) (drop (suc m) (x ∷ xs))
    (λ i d inside. ap test (get_or-drop (suc m) (x ∷ xs) i d) ∙ last.none_later (suc m + i) d (omega arith) (omega (arith, inside, length-drop (suc m) (x ∷ xs)))) in
    let parts = places_from_split test n (x ∷ xs) m x last.inside in
    ap last_of (parts ∙ ap₂ (λ b ns. before ++ cons_if b (n + m) ns) (last.passes x) none) ∙ last_of_push before (n + m)

-- no place at which the test passes is above the last one
pub last_of-greatest : {X : Type 0} (test : X → Bool) (n : ℕ) (xs : List X) (m k : ℕ) (d : X) → last_of (places_from test n xs) ≡ Some (n + m) → k < length xs → test (get_or xs k d) ≡ true → k ≤ m
last_of-greatest test n xs m k d e inside passes =
    let before = places_from test n (take k xs) in
    let behind = places_from test (n + k + 1) (drop (suc k) xs) in
    let parts : places_from test n xs ≡ before ++ (n + k) ∷ behind = places_from_split test n xs k d inside ∙ ap (λ b. before ++ cons_if b (n + k) behind) passes in
    let last : last_of ((n + k) ∷ behind) ≡ Some (n + m) = sym (last_of-append before (n + k) behind) ∙ sym (ap last_of parts) ∙ e in
    at_or_behind (In-last_of ((n + k) ∷ behind) (n + m) last)
  where
    at_or_behind : In (n + m) ((n + k) ∷ places_from test (n + k + 1) (drop (suc k) xs)) → k ≤ m
    at_or_behind i = ⊎_elim (λ (same : n + m ≡ n + k). omega arith) (λ later. let low = (places_from-below test (n + k + 1) (drop (suc k) xs) later).0 in omega arith) (In-cons_cases i)

pub last_is : {X : Type 0} (test : X → Bool) (n : ℕ) (xs : List X) (m : ℕ) → last_of (places_from test n xs) ≡ Some (n + m) → IsLast test xs m
last_is test n xs m e =
    let place = last_place test n xs (n + m) e in
    let number : place.index ≡ m = omega (arith, place.from) in
    record {
      inside = omega (arith, place.inside);
      passes = λ d. ap (λ k. test (get_or xs k d)) (sym number) ∙ place.passes d;
      none_later = λ k d later inside. false_from_ne_true (test (get_or xs k d)) (λ passes. let low = last_of-greatest test n xs m k d e inside passes in omega arith);
    }

-- the last of the places counted from 0 is the last place at which the test passes
pub last_where_is : {X : Type 0} (test : X → Bool) (xs : List X) (m : ℕ) → last_of (places_where test xs) ≡ Some m → IsLast test xs m
last_where_is test xs m e = last_is test 0 xs m (e ∙ ap Some (sym (zero-add m)))

pub last_where_from : {X : Type 0} (test : X → Bool) (xs : List X) (m : ℕ) → IsLast test xs m → last_of (places_where test xs) ≡ Some m
last_where_from test xs m last = last_from test 0 xs m last ∙ ap Some (zero-add m)

-- if there is no last place, each element fails the test
pub none_where : {X : Type 0} (test : X → Bool) (xs : List X) → last_of (places_where test xs) ≡ None → (i : ℕ) (d : X) → i < length xs → test (get_or xs i d) ≡ false
none_where test xs e i d inside = fails_everywhere test xs (none_from_last_of (places_where test xs) e) i d inside

pub last_where_none : {X : Type 0} (test : X → Bool) (xs : List X) → ((i : ℕ) (d : X) → i < length xs → test (get_or xs i d) ≡ false) → last_of (places_where test xs) ≡ None
last_where_none test xs none = ap last_of (places_from_none test 0 xs none)

-- if an appended element passes the test, its place is the last one
pub last_where_push : {X : Type 0} (test : X → Bool) (xs : List X) (y : X) → test y ≡ true → last_of (places_where test (xs ++ y ∷ [])) ≡ Some (length xs)
last_where_push test xs y passes = ap last_of (places_where_push test xs y ∙ ap (λ b. places_where test xs ++ cons_if b (length xs) []) passes) ∙ last_of_push (places_where test xs) (length xs)

pub last_where_push_fails : {X : Type 0} (test : X → Bool) (xs : List X) (y : X) → test y ≡ false → last_of (places_where test (xs ++ y ∷ [])) ≡ last_of (places_where test xs)
last_where_push_fails test xs y fails = ap last_of (places_where_push test xs y ∙ ap (λ b. places_where test xs ++ cons_if b (length xs) []) fails ∙ append-nil (places_where test xs))
