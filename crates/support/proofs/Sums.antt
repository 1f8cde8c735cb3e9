-- Lemmas about sums and counts over lists, with and without indices.
use Rattle.std.proofs.Common.{◌≡◌, ℕ, suc, ◌+◌, ◌<◌, ◌≤◌, Bool, true, false, cond, ⊎_elim, List, [], ◌∷◌, length, get_or, set, map, sum_by, count_by, flat_map, refl, sym, ap, subst, ◌∙◌, arith, le_of_eq}
use Rattle.std.specs.List.{enumerate_from}
use Rattle.std.proofs.lemmas.Bool.{cases_eq}
use Rattle.std.proofs.lemmas.List.Sums.{sum_by-cons, sum_by-append, sum_by-set, sum_by-le-sum_by}
use Rattle.support.proofs.PassingPlaces.{one_more, length-places, places_from_none, places_where-agree, places_where-agree_at}

pub sum_by-map : {X Y : Type 0} (f : Y → ℕ) (g : X → Y) (xs : List X) → sum_by f (map g xs) ≡ sum_by (λ x. f (g x)) xs
sum_by-map f g [] = refl
sum_by-map f g (x ∷ xs) = omega (arith, sum_by-cons f (g x) (map g xs), sum_by-cons (λ y. f (g y)) x xs, sum_by-map f g xs)

-- ---- counts
-- the count after one element is replaced, from the contributions of the old and the new element
pub count_by-set : {X : Type 0} (test : X → Bool) (xs : List X) (i : ℕ) (y d : X) → i < length xs → count_by test (set xs i y) + cond (test (get_or xs i d)) 1 0 ≡ count_by test xs + cond (test y) 1 0
count_by-set test xs i y d inside = sum_by-set (λ x. cond (test x) 1 0) xs i y d inside

-- tests that agree at every index give the same count
pub count_by-agree_at : {X Y : Type 0} (p : X → Bool) (q : Y → Bool) (xs : List X) (ys : List Y) (d : X) (e : Y) → length xs ≡ length ys → ((i : ℕ) → i < length xs → p (get_or xs i d) ≡ q (get_or ys i e)) → count_by p xs ≡ count_by q ys
count_by-agree_at p q xs ys d e long same = sym (length-places p xs) ∙ ap length (places_where-agree_at p q xs ys d e long same) ∙ length-places q ys

pub count_by-agree : {X : Type 0} (p q : X → Bool) (xs : List X) → ((x : X) → p x ≡ q x) → count_by p xs ≡ count_by q xs
count_by-agree p q xs same = sym (length-places p xs) ∙ ap length (places_where-agree p q xs same) ∙ length-places q xs

pub count_by-map : {X Y : Type 0} (test : Y → Bool) (f : X → Y) (xs : List X) → count_by test (map f xs) ≡ count_by (λ x. test (f x)) xs
count_by-map test f xs = sum_by-map (λ y. cond (test y) 1 0) f xs

-- if each element fails the test, the count is 0
pub count_by_none : {X : Type 0} (test : X → Bool) (xs : List X) → ((i : ℕ) (d : X) → i < length xs → test (get_or xs i d) ≡ false) → count_by test xs ≡ 0
count_by_none test xs none = sym (length-places test xs) ∙ ap length (places_from_none test 0 xs none)

weighs_one : (b : Bool) (w : ℕ) → (b ≡ true → 1 ≤ w) → cond b 1 0 ≤ w
weighs_one true w enough = enough refl
weighs_one false w enough = omega arith

-- if each element that passes the test has at least weight 1, the count is at most the sum of the weights
pub count_by-le-sum_by : {X : Type 0} (test : X → Bool) (f : X → ℕ) (xs : List X) (d : X) → ((i : ℕ) → i < length xs → test (get_or xs i d) ≡ true → 1 ≤ f (get_or xs i d)) → count_by test xs ≤ sum_by f xs
count_by-le-sum_by test f [] d enough = omega arith
count_by-le-sum_by test f (x ∷ xs) d enough =
    let first = weighs_one (test x) (f x) (enough 0 (omega arith)) in
    let rest = count_by-le-sum_by test f xs d (λ i inside. enough (suc i) (omega arith)) in
    omega (arith, sum_by-cons (λ y. cond (test y) 1 0) x xs, sum_by-cons f x xs)

-- if each element that passes p passes q, the count of p is at most the count of q
pub count_by-le : {X : Type 0} (p q : X → Bool) (xs : List X) (d : X) → ((i : ℕ) → i < length xs → p (get_or xs i d) ≡ true → q (get_or xs i d) ≡ true) → count_by p xs ≤ count_by q xs
count_by-le p q xs d passes = count_by-le-sum_by p (λ x. cond (q x) 1 0) xs d (λ i inside passed. le_of_eq (ap (λ b. cond b 1 0) (sym (passes i inside passed))))

-- ---- sums
pub sum_by-agree : {X : Type 0} (f g : X → ℕ) (xs : List X) → ((x : X) → f x ≡ g x) → sum_by f xs ≡ sum_by g xs
sum_by-agree f g [] same = refl
sum_by-agree f g (x ∷ xs) same = omega (arith, sum_by-cons f x xs, sum_by-cons g x xs, same x, sum_by-agree f g xs same)

pub sum_by-add : {X : Type 0} (f g : X → ℕ) (xs : List X) → sum_by (λ x. f x + g x) xs ≡ sum_by f xs + sum_by g xs
sum_by-add f g [] = omega arith
sum_by-add f g (x ∷ xs) = omega (arith, sum_by-cons f x xs, sum_by-cons g x xs, sum_by-cons (λ y. f y + g y) x xs, sum_by-add f g xs)

pub sum_by-flat_map : {X Y : Type 0} (f : Y → ℕ) (g : X → List Y) (xs : List X) → sum_by f (flat_map g xs) ≡ sum_by (λ x. sum_by f (g x)) xs
sum_by-flat_map f g [] = refl
sum_by-flat_map f g (x ∷ xs) = omega (arith, sum_by-append f (g x) (flat_map g xs), sum_by-cons (λ y. sum_by f (g y)) x xs, sum_by-flat_map f g xs)

-- ---- sums over elements with their indices
-- the sum grows by at least `extra` if the term at place p does and no other term decreases
pub sum_by-le-at : {X : Type 0} (f g : ℕ × X → ℕ) (n : ℕ) (xs : List X) (p extra : ℕ) → n ≤ p → p < n + length xs → ((e : ℕ × X) → f e ≤ g e) → ((x : X) → f (p, x) + extra ≤ g (p, x))
    → sum_by f (enumerate_from n xs) + extra ≤ sum_by g (enumerate_from n xs)
sum_by-le-at f g n [] p extra low high each at = absurd (omega arith)
sum_by-le-at f g n (x ∷ xs) p extra low high each at =
    let of_f = sum_by-cons f (n, x) (enumerate_from (n + 1) xs) in
    let of_g = sum_by-cons g (n, x) (enumerate_from (n + 1) xs) in
    ⊎_elim
    (λ (same : n ≡ p).
    let first : f (n, x) + extra ≤ g (n, x) = subst (λ k. f (k, x) + extra ≤ g (k, x)) (sym same) (at x) in
    omega (arith, of_f, of_g, sum_by-le-sum_by f g (enumerate_from (n + 1) xs) each))
    (λ (other : n ≡ p → ⊥). omega (arith, of_f, of_g, each (n, x), sum_by-le-at f g (n + 1) xs p extra (omega arith) (omega arith) each at))
    (cases_eq n p)

-- if each term of f is at most that of g, the sum of f is at most that of g
pub sum_by-le-within : {X : Type 0} (f g : ℕ × X → ℕ) (n : ℕ) (xs : List X) → ((p : ℕ) (d : X) → p < length xs → f (n + p, get_or xs p d) ≤ g (n + p, get_or xs p d))
    → sum_by f (enumerate_from n xs) ≤ sum_by g (enumerate_from n xs)
sum_by-le-within f g n [] each = omega arith
sum_by-le-within f g n (x ∷ xs) each =
    let start : n + 0 ≡ n = omega arith in
    let first : f (n, x) ≤ g (n, x) = subst (λ k. f (k, x) ≤ g (k, x)) start (each 0 x (omega arith)) in
    let rest = sum_by-le-within f g (n + 1) xs (λ p d inside. subst (λ k. f (k, get_or xs p d) ≤ g (k, get_or xs p d)) (one_more n p) (each (suc p) d (omega arith))) in
    omega (arith, sum_by-cons f (n, x) (enumerate_from (n + 1) xs), sum_by-cons g (n, x) (enumerate_from (n + 1) xs))
