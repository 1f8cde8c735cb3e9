-- Texts that are appended element by element.
use Rattle.std.proofs.Common.{◌≡◌, ◌<◌, ◌+◌, ℕ, zero, suc, List, [], ◌∷◌, ◌++◌, length, get_or, take, refl, sym, ap, ◌∙◌, append_assoc, add-one, zero-add, arith}
use Rattle.std.specs.List.{flat_map, enumerate_from}
use Rattle.std.proofs.lemmas.List.{append-nil}

-- the text of the first i + 1 elements is that of the first i elements, followed by that of the element at index i
text_more : {X : Type 0} (text_at : ℕ → X → List ℕ) (n : ℕ) (xs : List X) (i : ℕ) (d : X) → i < length xs
    → flat_map (λ entry. text_at entry.0 entry.1) (enumerate_from n (take (suc i) xs)) ≡ flat_map (λ entry. text_at entry.0 entry.1) (enumerate_from n (take i xs)) ++ text_at (n + i) (get_or xs i d)
text_more text_at n [] i d inside = absurd (omega (arith, inside))
text_more text_at n (x ∷ xs) zero d inside =
    let place : n + 0 ≡ n = omega arith in
    append-nil (text_at n x) ∙ rw place refl
text_more text_at n (x ∷ xs) (suc i) d inside =
    let place : n + suc i ≡ n + 1 + i = omega arith in
    ap (λ (t : List ℕ). text_at n x ++ t) (text_more text_at (n + 1) xs i d (omega arith)) ∙ rw place (sym (append_assoc (text_at n x) _ _))

-- if `old` is `first` followed by the text of the first i elements, and `new` is `old` followed by the text of the element at index i, then
-- `new` is `first` followed by the text of the first i + 1 elements
pub appended_more : {X : Type 0} (text_at : ℕ → X → List ℕ) (xs : List X) (i : ℕ) (d : X) (first old new : List ℕ) → i < length xs → new ≡ old ++ text_at i (get_or xs i d)
    → old ≡ first ++ flat_map (λ entry. text_at entry.0 entry.1) (enumerate_from 0 (take i xs)) → new ≡ first ++ flat_map (λ entry. text_at entry.0 entry.1) (enumerate_from 0 (take (i + 1) xs))
appended_more text_at xs i d first old new inside more prior =
    rw add-one
    (more
    ∙ (ap (λ (t : List ℕ). t ++ text_at i (get_or xs i d)) prior
    ∙ (append_assoc first _ _ ∙ sym (ap (λ (t : List ℕ). first ++ t) (text_more text_at 0 xs i d inside ∙ rw zero-add refl)))))
