-- The elements of a list, as a loop reads them.
use Rattle.std.proofs.Common.{◌≡◌, ◌<◌, ℕ, suc, ◌+◌, List, [], ◌∷◌, ◌++◌, length, take, map, get_or, refl, sym, ap, subst, ◌∙◌, arith}
use Rattle.std.proofs.lemmas.Option.{slice_get_read}
use Rattle.std.proofs.lemmas.List.{take_more, map-append, append_assoc, append-nil}
use Rattle.std.proofs.lemmas.Grind.{flat_map-append}
use Rattle.std.specs.Prelude.{flat_map}
use Rattle.support.specs.In.{In, here}
use Rattle.support.proofs.Members.{In-slice_get, In-append_right}
use Rattle.conformance.specs.declared.walk_state.WalkState.{WalkState}
use Rattle.conformance.specs.WalkStates.{choices}

pub read_in : {X : Type 0} (xs : List X) (i : ℕ) (x : X) → i < length xs → x ≡ get_or xs i x → In x xs
read_in xs i x lt e = In-slice_get xs i x (slice_get_read xs (length xs) i x refl lt e)

-- The elements up to and including this one.
pub take_read : {X : Type 0} (xs : List X) (i : ℕ) (x : X) → i < length xs → x ≡ get_or xs i x → take (i + 1) xs ≡ take i xs ++ x ∷ []
take_read xs i x lt e = take_more xs i x lt ∙ ap (λ y. take i xs ++ y ∷ []) (sym e)

pub choices_push : (states : List WalkState) (classes : List ℕ) (state : WalkState) → choices (states ++ state ∷ []) classes ≡ choices states classes ++ map (λ class. (state, class)) classes
choices_push states classes state =
    let pairs : WalkState → List (WalkState × ℕ) = λ s. map (λ class. (s, class)) classes in
    flat_map-append pairs states (state ∷ []) ∙ ap (λ ys. flat_map pairs states ++ ys) (append-nil (pairs state))

-- The next item of a list that a loop consumes.
pub read_next : {X : Type 0} (all read rest left : List X) (x : X) → all ≡ read ++ rest → rest ≡ x ∷ left → all ≡ read ++ x ∷ left
read_next all read rest left x front steps = front ∙ ap (λ ys. read ++ ys) steps

pub next_in : {X : Type 0} (all read left : List X) (x : X) → all ≡ read ++ x ∷ left → In x all
next_in all read left x front = subst (λ xs. In x xs) (sym front) (In-append_right read here)

pub read_all : {X : Type 0} (all read rest : List X) → all ≡ read ++ rest → rest ≡ [] → all ≡ read
read_all all read rest front none = front ∙ (ap (λ ys. read ++ ys) none ∙ append-nil read)

pub pairs_read : (state : WalkState) (choices : List (WalkState × ℕ)) (classes : List ℕ) (i d : ℕ) → i < length classes
    → choices ++ map (λ k. (state, k)) (take (i + 1) classes) ≡ (choices ++ map (λ k. (state, k)) (take i classes)) ++ (state, get_or classes i d) ∷ []
pairs_read state choices classes i d lt =
    let pair : ℕ → WalkState × ℕ = λ k. (state, k) in
    ap (λ ks. choices ++ map pair ks) (take_more classes i d lt) ∙ (ap (λ ys. choices ++ ys) (map-append pair (take i classes) (get_or classes i d ∷ [])) ∙ sym (append_assoc choices (map pair (take i classes)) ((state, get_or classes i d) ∷ [])))

pub same_by_each : {X : Type 0} (xs ys : List X) → length xs ≡ length ys → ((k : ℕ) (d : X) → k < length xs → get_or xs k d ≡ get_or ys k d) → xs ≡ ys
same_by_each [] [] long each = refl
same_by_each [] (y ∷ ys) long each = absurd (omega (arith, long))
same_by_each (x ∷ xs) [] long each = absurd (omega (arith, long))
same_by_each (x ∷ xs) (y ∷ ys) long each =
    ap (λ z. z ∷ xs) (each 0 x (omega arith)) ∙ ap (λ zs. y ∷ zs) (same_by_each xs ys (omega (arith, long)) (λ k d lt. each (suc k) d (omega (arith, lt))))
