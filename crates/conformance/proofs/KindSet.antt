-- Writing one element of a list.
use Rattle.std.proofs.Common.{◌≡◌, ◌≢◌, ℕ, zero, suc, ◌<◌, ◌==◌, Bool, true, false, if◌then◌else◌, List, [], ◌∷◌, length, slice_get, slice_set, Some, None, refl, ap, sym, subst, ◌∙◌, arith}
use Rattle.std.specs.Option.{option_map}
use Rattle.std.proofs.lemmas.Bool.{eqb-true}
use Rattle.std.proofs.lemmas.Option.{slice_get_within}

set_same : {X : Type 0} (xs : List X) (i : ℕ) (y : X) → i < length xs → slice_get (slice_set xs i y) i ≡ Some y
set_same [] i y h = absurd (omega arith)
set_same (x ∷ xs) zero y h = refl
set_same (x ∷ xs) (suc i) y h = set_same xs i y (omega arith)

set_other : {X : Type 0} (xs : List X) (i k : ℕ) (y : X) → k ≢ i → slice_get (slice_set xs i y) k ≡ slice_get xs k
set_other [] zero k y h = refl
set_other [] (suc i) k y h = refl
set_other (x ∷ xs) zero zero y h = absurd (h refl)
set_other (x ∷ xs) zero (suc k) y h = refl
set_other (x ∷ xs) (suc i) zero y h = refl
set_other (x ∷ xs) (suc i) (suc k) y h = set_other xs i k y (λ is. h (ap suc is))

other_number : (i k : ℕ) → (i == k) ≡ false → k ≢ i
other_number i k h = λ is. grind (arith, is, h)

by_place : {X : Type 0} (f : X → X) (xs : List X) (i k : ℕ) (old new : X) (same : Bool) → (i == k) ≡ same → slice_get xs i ≡ Some old → new ≡ f old
    → slice_get (slice_set xs i new) k ≡ (if same then option_map f (slice_get xs k) else slice_get xs k)
by_place f xs i k old new true is there changed =
    let here : i ≡ k = eqb-true i k is in
    subst (λ (n : ℕ). slice_get (slice_set xs i new) n ≡ option_map f (slice_get xs n)) here (set_same xs i new (slice_get_within xs i old there) ∙ (ap Some changed ∙ sym (ap (option_map f) there)))
by_place f xs i k old new false is there changed = set_other xs i k new (other_number i k is)

pub set_changed : {X : Type 0} (f : X → X) (xs : List X) (i k : ℕ) (old new : X) → slice_get xs i ≡ Some old → new ≡ f old
    → slice_get (slice_set xs i new) k ≡ (if i == k then option_map f (slice_get xs k) else slice_get xs k)
set_changed f xs i k old new there changed = by_place f xs i k old new _ refl there changed

nothing_there : {X : Type 0} (f : X → X) (xs : List X) (i k : ℕ) (same : Bool) → (i == k) ≡ same → slice_get xs i ≡ None → slice_get xs k ≡ (if same then option_map f (slice_get xs k) else slice_get xs k)
nothing_there f xs i k true is none =
    let here : i ≡ k = eqb-true i k is in
    subst (λ (n : ℕ). slice_get xs n ≡ option_map f (slice_get xs n)) here (none ∙ sym (ap (option_map f) none))
nothing_there f xs i k false is none = refl

pub none_changed : {X : Type 0} (f : X → X) (xs : List X) (i k : ℕ) → slice_get xs i ≡ None → slice_get xs k ≡ (if i == k then option_map f (slice_get xs k) else slice_get xs k)
none_changed f xs i k none = nothing_there f xs i k _ refl none
