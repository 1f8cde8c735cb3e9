-- Lemmas about the slots of a body after each action.
use Rattle.std.proofs.Common.{◌≡◌, ℕ, zero, suc, ◌+◌, ◌<◌, List, [], ◌∷◌, ◌++◌, length, take, slice_get, Option, None, Some, refl, ap, ◌∙◌, arith, add-one}
use Rattle.std.proofs.lemmas.List.{length-take}
use Rattle.plan_text.specs.ParsedActions.{parse_action}
use Rattle.plan_text.specs.Slots.{filled_by, filled_from, filled}

filled_from_last : (slot : List ℕ) (i : ℕ) (before : Option ℕ) (texts : List (List ℕ)) (text : List ℕ)
    → filled_from slot i before (texts ++ text ∷ []) ≡ filled_by slot (i + length texts) (filled_from slot i before texts) (parse_action text)
filled_from_last slot i before [] text =
    let same : i ≡ i + 0 = omega arith in
    ap (λ (n : ℕ). filled_by slot n before (parse_action text)) same
filled_from_last slot i before (first ∷ texts) text =
    let same : i + 1 + length texts ≡ i + suc (length texts) = omega arith in
    let last = filled_by slot i before (parse_action first) in
    filled_from_last slot (i + 1) last texts text ∙ ap (λ (n : ℕ). filled_by slot n (filled_from slot (i + 1) last texts) (parse_action text)) same

take_next : (texts : List (List ℕ)) (i : ℕ) (text : List ℕ) → slice_get texts i ≡ Some text → (take (suc i) texts ≡ take i texts ++ text ∷ []) × (i < length texts)
take_next [] i text e = absurd cc
take_next (first ∷ texts) zero text e = let same : first ≡ text = cc in (rw same refl, omega arith)
take_next (first ∷ texts) (suc i) text e =
    let rest = take_next texts i text e in
    (ap (λ (ts : List (List ℕ)). first ∷ ts) rest.0, omega (arith, rest.1))

-- the state of a slot after the first i + 1 actions is its state after the first i, changed by the action at i
pub filled_more : (slot : List ℕ) (texts : List (List ℕ)) (i : ℕ) (text : List ℕ) → slice_get texts i ≡ Some text → filled (take (i + 1) texts) slot ≡ filled_by slot i (filled (take i texts) slot) (parse_action text)
filled_more slot texts i text here =
    let next = take_next texts i text here in
    let grown : take (i + 1) texts ≡ take i texts ++ text ∷ [] = rw add-one next.0 in
    let place : 0 + length (take i texts) ≡ i = omega (arith, length-take i texts, next.1) in
    ap (λ (ts : List (List ℕ)). filled ts slot) grown ∙ filled_from_last slot 0 None (take i texts) text ∙ ap (λ (n : ℕ). filled_by slot n (filled (take i texts) slot) (parse_action text)) place

-- two functions with equal values are equal
pub same_functions : {A B : Type 0} (f g : A → B) → ((x : A) → f x ≡ g x) → f ≡ g
same_functions f g same = λ i x. same x i
