-- Lemmas about membership in lists built by `++`, `map`, `flat_map` and `filter`, and about membership by index.
use Rattle.std.proofs.Common.{◌≡◌, ℕ, zero, suc, ◌+◌, ◌<◌, Bool, true, false, cond, ◌⊎◌, inl, inr, ⊎_elim, List, [], ◌∷◌, ◌++◌, map, filter, length, get_or, set, slice_get, Some, All, Contains, flat_map, refl, sym, ap, ap₂, subst, ◌∙◌, arith}
use Rattle.std.specs.List.{enumerate_from, list_all, list_any}
use Rattle.std.proofs.lemmas.Bool.{false_from_ne_true, and_parts, and_from, or_cases, or_left, or_right}
use Rattle.std.proofs.lemmas.Option.{same_Some}
use Rattle.std.proofs.lemmas.List.Elements.{All-contains}
use Rattle.support.specs.In.{In, here, there}

pub not_In_nil : {X : Type 0} {x : X} → In x [] → ⊥
not_In_nil i = elim i [ ]

pub In-cons_cases : {X : Type 0} {x y : X} {xs : List X} → In x (y ∷ xs) → (x ≡ y) ⊎ In x xs
In-cons_cases here = inl refl
In-cons_cases (there i) = inr i

-- ---- members of joined lists
pub In-append_left : {X : Type 0} {x : X} {xs : List X} (ys : List X) → In x xs → In x (xs ++ ys)
In-append_left ys here = here
In-append_left ys (there i) = there (In-append_left ys i)

pub In-append_right : {X : Type 0} {x : X} (xs : List X) {ys : List X} → In x ys → In x (xs ++ ys)
In-append_right [] i = i
In-append_right (y ∷ xs) i = there (In-append_right xs i)

pub In-append_cases : {X : Type 0} {x : X} (xs ys : List X) → In x (xs ++ ys) → In x xs ⊎ In x ys
In-append_cases [] ys i = inr i
In-append_cases (y ∷ xs) ys here = inl here
In-append_cases (y ∷ xs) ys (there i) = ⊎_elim (λ l. inl (there l)) (λ r. inr r) (In-append_cases xs ys i)

pub In-push_cases : {X : Type 0} {x : X} (xs : List X) (y : X) → In x (xs ++ y ∷ []) → In x xs ⊎ (x ≡ y)
In-push_cases [] y here = inr refl
In-push_cases [] y (there i) = absurd (not_In_nil i)
In-push_cases (z ∷ xs) y here = inl here
In-push_cases (z ∷ xs) y (there i) = ⊎_elim (λ l. inl (there l)) (λ r. inr r) (In-push_cases xs y i)

pub In-set_cases : {X : Type 0} {x : X} (xs : List X) (i : ℕ) (y : X) → In x (set xs i y) → (x ≡ y) ⊎ In x xs
In-set_cases [] i y at = inr at
In-set_cases (z ∷ xs) zero y here = inl refl
In-set_cases (z ∷ xs) zero y (there at) = inr (there at)
In-set_cases (z ∷ xs) (suc i) y here = inr here
In-set_cases (z ∷ xs) (suc i) y (there at) = ⊎_elim (λ new. inl new) (λ old. inr (there old)) (In-set_cases xs i y at)

-- ---- members of `map` and `flat_map`
pub In-map : {X Y : Type 0} (f : X → Y) {x : X} {xs : List X} → In x xs → In (f x) (map f xs)
In-map f here = here
In-map f (there i) = there (In-map f i)

pub In-map_from : {X Y : Type 0} (f : X → Y) {y : Y} (xs : List X) → In y (map f xs) → (x : X) × In x xs × (f x ≡ y)
In-map_from f [] i = absurd (not_In_nil i)
In-map_from f (x ∷ xs) here = (x, here, refl)
In-map_from f (x ∷ xs) (there i) = let found = In-map_from f xs i in (found.0, there found.1, found.2)

pub In-flat_map : {X Y : Type 0} (f : X → List Y) {x : X} {xs : List X} {y : Y} → In x xs → In y (f x) → In y (flat_map f xs)
In-flat_map f (here {xs = xs}) i = In-append_left (flat_map f xs) i
In-flat_map f (there {y = z} h) i = In-append_right (f z) (In-flat_map f h i)

pub In-flat_map_from : {X Y : Type 0} (f : X → List Y) {y : Y} (xs : List X) → In y (flat_map f xs) → (x : X) × In x xs × In y (f x)
In-flat_map_from f [] i = absurd (not_In_nil i)
In-flat_map_from f (x ∷ xs) i = ⊎_elim (λ l. (x, here, l)) (λ r. let found = In-flat_map_from f xs r in (found.0, there found.1, found.2)) (In-append_cases (f x) (flat_map f xs) i)

-- a member of a list is still a member if y is prepended to the list
In-kept_behind : {X : Type 0} (b : Bool) {x : X} (y : X) {xs : List X} → In x xs → In x (cond b (y ∷ xs) xs)
In-kept_behind true y i = there i
In-kept_behind false y i = i

pub In-filter : {X : Type 0} (test : X → Bool) {x : X} {xs : List X} → In x xs → test x ≡ true → In x (filter test xs)
In-filter test {x} (here {xs = xs}) passes = subst (λ b. In x (cond b (x ∷ filter test xs) (filter test xs))) (sym passes) here
In-filter test (there {y = y} i) passes = In-kept_behind (test y) y (In-filter test i passes)

In-cond_cases : {X : Type 0} (b : Bool) {x y : X} (xs : List X) → In x (cond b (y ∷ xs) xs) → ((b ≡ true) × (x ≡ y)) ⊎ In x xs
In-cond_cases true xs here = inl (refl, refl)
In-cond_cases true xs (there i) = inr i
In-cond_cases false xs i = inr i

pub In-filter_from : {X : Type 0} (test : X → Bool) {x : X} (xs : List X) → In x (filter test xs) → In x xs × (test x ≡ true)
In-filter_from test [] i = absurd (not_In_nil i)
In-filter_from test {x} (y ∷ xs) i =
    ⊎_elim (λ first. (subst (λ z. In x (z ∷ xs)) first.1 here, ap test first.1 ∙ first.0)) (λ later. let found = In-filter_from test xs later in (there found.0, found.1)) (In-cond_cases (test y) (filter test xs) i)

-- if the filtered list is empty, each element fails the test
pub test_of_none : {X : Type 0} (test : X → Bool) (xs : List X) (x : X) → filter test xs ≡ [] → In x xs → test x ≡ false
test_of_none test xs x none i = false_from_ne_true (test x) (λ passes. not_In_nil (subst (In x) none (In-filter test i passes)))

-- the filtered list is the list itself if each element passes the test
pub filter_all : {X : Type 0} (test : X → Bool) (xs : List X) → ((x : X) → In x xs → test x ≡ true) → filter test xs ≡ xs
filter_all test [] each = refl
filter_all test (x ∷ xs) each = ap₂ (λ b ys. cond b (x ∷ ys) ys) (each x here) (filter_all test xs (λ y i. each y (there i)))

-- ---- members by index
pub In-slice_get : {X : Type 0} (xs : List X) (i : ℕ) (x : X) → slice_get xs i ≡ Some x → In x xs
In-slice_get [] i x e = absurd cc
In-slice_get (y ∷ xs) zero x e = subst (λ z. In x (z ∷ xs)) (sym (same_Some y x e)) here
In-slice_get (y ∷ xs) (suc i) x e = there (In-slice_get xs i x e)

pub In-get_or : {X : Type 0} (xs : List X) (i : ℕ) (d : X) → i < length xs → In (get_or xs i d) xs
In-get_or [] i d inside = absurd (omega arith)
In-get_or (x ∷ xs) zero d inside = here
In-get_or (x ∷ xs) (suc i) d inside = there (In-get_or xs i d (omega arith))

pub In-enumerate_from : {X : Type 0} (n : ℕ) (xs : List X) (i : ℕ) (x : X) (j : ℕ) → slice_get xs i ≡ Some x → n + i ≡ j → In (j, x) (enumerate_from n xs)
In-enumerate_from n [] i x j e at = absurd cc
In-enumerate_from {X} n (y ∷ xs) zero x j e at =
    let number : n ≡ j = omega arith in
    let entry : ◌≡◌ {A = ℕ × X} (j, x) (n, y) = ap₂ (λ a b. (a, b)) (sym number) (sym (same_Some y x e)) in
    subst (λ (z : ℕ × X). In (j, x) (z ∷ enumerate_from (n + 1) xs)) entry here
In-enumerate_from n (y ∷ xs) (suc i) x j e at = there (In-enumerate_from (n + 1) xs i x j e (omega arith))

-- a member of a list by `In` is a member by `Contains` of std
pub Contains-from_In : {X : Type 0} {x : X} {xs : List X} → In x xs → Contains xs x
Contains-from_In here = (0, omega arith, refl)
Contains-from_In (there i) = let found = Contains-from_In i in (suc found.0, omega (arith, found.1), found.2)

pub In-from_Contains : {X : Type 0} (xs : List X) (x : X) → Contains xs x → In x xs
In-from_Contains xs x found = subst (λ y. In y xs) found.2 (In-get_or xs found.0 x found.1)

-- ---- a property that holds for all elements holds for each member
pub All-at_In : {X : Type 0} (P : X → Type 0) {x : X} {xs : List X} → All P xs → In x xs → P x
All-at_In P {x} {xs} each i = All-contains P xs x each (Contains-from_In i)

pub list_all_at_In : {X : Type 0} (test : X → Bool) {x : X} {xs : List X} → list_all test xs ≡ true → In x xs → test x ≡ true
list_all_at_In test {x} each (here {xs = xs}) = (and_parts (test x) (list_all test xs) each).0
list_all_at_In test each (there {y = y} {xs = xs} i) = list_all_at_In test (and_parts (test y) (list_all test xs) each).1 i

pub list_all_from_In : {X : Type 0} (test : X → Bool) (xs : List X) → ((x : X) → In x xs → test x ≡ true) → list_all test xs ≡ true
list_all_from_In test [] each = refl
list_all_from_In test (x ∷ xs) each = and_from (test x) (list_all test xs) (each x here) (list_all_from_In test xs (λ y i. each y (there i)))

pub list_any_at_In : {X : Type 0} (test : X → Bool) {x : X} {xs : List X} → In x xs → test x ≡ true → list_any test xs ≡ true
list_any_at_In test {x} (here {xs = xs}) passes = or_left (test x) (list_any test xs) passes
list_any_at_In test (there {y = y} {xs = xs} i) passes = or_right (test y) (list_any test xs) (list_any_at_In test i passes)

pub In-from_list_any : {X : Type 0} (test : X → Bool) (xs : List X) → list_any test xs ≡ true → (x : X) × In x xs × (test x ≡ true)
In-from_list_any test [] some = absurd cc
In-from_list_any test (x ∷ xs) some = ⊎_elim (λ passes. (x, here, passes)) (λ later. let found = In-from_list_any test xs later in (found.0, there found.1, found.2)) (or_cases (test x) (list_any test xs) some)
