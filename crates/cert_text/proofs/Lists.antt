-- Lemmas about lists: the number of elements in specifications and in memory, and tests and properties of all elements.
use Rattle.std.proofs.Common.{◌≡◌, ℕ, zero, suc, ◌+◌, Bool, true, List, [], ◌∷◌, ◌++◌, length, map, refl, sym, ap, subst, ◌∙◌, arith, zero-add}
use Rattle.std.specs.List.{list_all, enumerate_from}
use Rattle.std.proofs.lemmas.Bool.{and_parts, and_from}
use Rattle.job_bodies.proofs.Passing.{EachPlace, list_all_enumerated_from}
use Rattle.serde_json.specs.Data.{Data}
use Rattle.serde_json.specs.View.{items_of, members_view}
use Rattle.serde_json.proofs.Views.{Entry}
use Rattle.cert_text.specs.Values.{elements, count_members}

pub elements-items_of : (values : List Data) → elements (items_of values) ≡ values
elements-items_of [] = refl
elements-items_of (value ∷ values) = ap (λ (rest : List Data). value ∷ rest) (elements-items_of values)

pub count_members-members_view : (entries : List Entry) → count_members (members_view entries) ≡ length entries
count_members-members_view [] = refl
count_members-members_view (entry ∷ entries) = ap (λ (n : ℕ). suc n) (count_members-members_view entries)

-- if `list_all` holds for a test, each element of the list passes it
pub list_all_place : {X : Type 0} (test : X → Bool) (xs : List X) → list_all test xs ≡ true → EachPlace xs (λ i x. test x ≡ true)
list_all_place test [] h i x here = cc
list_all_place test (y ∷ xs) h zero x here =
    let same : y ≡ x = cc in
    ap test (sym same) ∙ (and_parts (test y) _ h).0
list_all_place test (y ∷ xs) h (suc i) x here = list_all_place test xs (and_parts (test y) _ h).1 i x here

-- a list whose elements all pass a test still has this property after an element that passes is appended
pub list_all_push : {X : Type 0} (test : X → Bool) (xs : List X) (x : X) → list_all test xs ≡ true → test x ≡ true → list_all test (xs ++ x ∷ []) ≡ true
list_all_push test [] x all here = and_from (test x) true here refl
list_all_push test (y ∷ xs) x all here =
    let parts = and_parts (test y) _ all in
    and_from (test y) _ parts.0 (list_all_push test xs x parts.1 here)

-- a property that holds for each element with its index still holds after an element with this property is appended
pub each_place_push : {X : Type 0} (P : ℕ → X → Type 0) (xs : List X) (x : X) → EachPlace xs P → P (length xs) x → EachPlace (xs ++ x ∷ []) P
each_place_push P [] x each here zero z at = let same : x ≡ z = cc in subst (P 0) same here
each_place_push P [] x each here (suc i) z at = absurd cc
each_place_push P (y ∷ xs) x each here zero z at = each 0 z at
each_place_push P (y ∷ xs) x each here (suc i) z at = each_place_push (λ k w. P (suc k) w) xs x (λ k w there. each (suc k) w there) here i z at

list_all_enumerated_place_from : {X : Type 0} (test : ℕ × X → Bool) (n : ℕ) (xs : List X) → list_all test (enumerate_from n xs) ≡ true → EachPlace xs (λ i x. test (n + i, x) ≡ true)
list_all_enumerated_place_from test n [] h i x here = cc
list_all_enumerated_place_from test n (y ∷ xs) h zero x here =
    let same : y ≡ x = cc in
    let place : n + 0 ≡ n = omega arith in
    rw (place, ← same) (and_parts (test (n, y)) _ h).0
list_all_enumerated_place_from test n (y ∷ xs) h (suc i) x here =
    let place : n + suc i ≡ n + 1 + i = omega arith in
    rw place (list_all_enumerated_place_from test (n + 1) xs (and_parts (test (n, y)) _ h).1 i x here)

-- if `list_all` holds for a test of pairs of an index and an element, each element of the list passes it with its index
pub list_all_enumerated_place : {X : Type 0} (test : ℕ × X → Bool) (xs : List X) → list_all test (enumerate_from 0 xs) ≡ true → EachPlace xs (λ i x. test (i, x) ≡ true)
list_all_enumerated_place test xs h i x here = subst (λ (k : ℕ). test (k, x) ≡ true) (zero-add i) (list_all_enumerated_place_from test 0 xs h i x here)

-- if each element of the list, together with its index, passes a test of pairs, `list_all` holds for the test
pub list_all_enumerated_all : {X : Type 0} (test : ℕ × X → Bool) (xs : List X) → EachPlace xs (λ i x. test (i, x) ≡ true) → list_all test (enumerate_from 0 xs) ≡ true
list_all_enumerated_all test xs each = list_all_enumerated_from test 0 xs (λ i x here. subst (λ (k : ℕ). test (k, x) ≡ true) (sym (zero-add i)) (each i x here))

pub map_twice : {X Y Z : Type 0} (f : Y → Z) (g : X → Y) (xs : List X) → map (λ x. f (g x)) xs ≡ map f (map g xs)
map_twice f g [] = refl
map_twice f g (x ∷ xs) = ap (λ (zs : List _). f (g x) ∷ zs) (map_twice f g xs)
