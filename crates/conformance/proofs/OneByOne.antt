-- The numbers of a family, in order.
use Rattle.std.proofs.Common.{◌≡◌, ℕ, zero, suc, ◌+◌, ◌<◌, Bool, true, false, cond, List, [], ◌∷◌, ◌++◌, filter, slice_get, Some, refl, sym, ap, ◌∙◌, append-nil, arith}
use Rattle.std.specs.List.{range_with_len}
use Rattle.std.proofs.lemmas.List.{map-id}
use Rattle.std.proofs.lemmas.List.FromFn.{filter_of_map_range_with_len_more}

-- ---- one more number
pub kept_more : (p : ℕ → Bool) (n : ℕ) → filter p (range_with_len 0 (n + 1)) ≡ filter p (range_with_len 0 n) ++ cond (p n) (n ∷ []) []
kept_more p n =
    ap (filter p) (sym (map-id (range_with_len 0 (n + 1))))
    ∙ (filter_of_map_range_with_len_more p (λ (x : ℕ). x) 0 n n (omega arith) ∙ ap (λ (xs : List ℕ). filter p xs ++ cond (p n) (n ∷ []) []) (map-id (range_with_len 0 n)))

by_test : (b : Bool) (n : ℕ) (xs : List ℕ) (path_match : Bool) → b ≡ path_match → xs ++ cond b (n ∷ []) [] ≡ xs ++ cond path_match (n ∷ []) []
by_test b n xs path_match same = ap (λ (one : Bool). xs ++ cond one (n ∷ []) []) same

pub kept_one : (p : ℕ → Bool) (n : ℕ) → p n ≡ true → filter p (range_with_len 0 (n + 1)) ≡ filter p (range_with_len 0 n) ++ n ∷ []
kept_one p n passes = kept_more p n ∙ by_test (p n) n (filter p (range_with_len 0 n)) true passes

pub kept_none : (p : ℕ → Bool) (n : ℕ) → p n ≡ false → filter p (range_with_len 0 (n + 1)) ≡ filter p (range_with_len 0 n)
kept_none p n fails = kept_more p n ∙ (by_test (p n) n (filter p (range_with_len 0 n)) false fails ∙ append-nil (filter p (range_with_len 0 n)))

-- ---- the first number
at_front : (b : Bool) (n : ℕ) (xs : List ℕ) → b ≡ true → slice_get (cond b (n ∷ xs) xs) 0 ≡ Some n
at_front true n xs passes = refl
at_front false n xs passes = cc

after : (b : Bool) (n : ℕ) (xs : List ℕ) → b ≡ false → slice_get (cond b (n ∷ xs) xs) 0 ≡ slice_get xs 0
after true n xs fails = cc
after false n xs fails = refl

none_of_both : (b : Bool) (n : ℕ) (xs : List ℕ) → cond b (n ∷ xs) xs ≡ [] → (b ≡ false) × (xs ≡ [])
none_of_both true n xs none = cc
none_of_both false n xs none = (refl, none)

first_from : (p : ℕ → Bool) (a n j : ℕ) → j < n → filter p (range_with_len a j) ≡ [] → p (a + j) ≡ true → slice_get (filter p (range_with_len a n)) 0 ≡ Some (a + j)
first_from p a zero j less none passes = absurd (omega arith)
first_from p a (suc n) zero less none passes =
    let same : a ≡ a + 0 = omega arith in
    at_front (p a) a (filter p (range_with_len (a + 1) n)) (ap p same ∙ passes) ∙ ap (λ (k : ℕ). Some k) same
first_from p a (suc n) (suc j) less none passes =
    let same : a + 1 + j ≡ a + suc j = omega arith in
    let parts = none_of_both (p a) a (filter p (range_with_len (a + 1) j)) none in
    after (p a) a (filter p (range_with_len (a + 1) n)) parts.0 ∙ (first_from p (a + 1) n j (omega arith) parts.1 (ap p same ∙ passes) ∙ ap (λ (k : ℕ). Some k) same)

-- The first number that passes the test is the first element of the filtered range.
pub first_kept : (p : ℕ → Bool) (n j : ℕ) → j < n → filter p (range_with_len 0 j) ≡ [] → p j ≡ true → Some j ≡ slice_get (filter p (range_with_len 0 n)) 0
first_kept p n j less none passes =
    let same : 0 + j ≡ j = omega arith in
    sym (first_from p 0 n j less none (ap p same ∙ passes) ∙ ap (λ (k : ℕ). Some k) same)
