-- Lemmas about texts that are split at each byte with a given value, and about joining the parts again.
use Rattle.std.proofs.Common.{◌≡◌, ℕ, zero, suc, ◌+◌, ◌-◌, ◌<◌, Bool, true, false, not, ◌==◌, ◌&&◌, nat_lt, List, [], ◌∷◌, ◌++◌, length, get_or, map, flat_map, refl, sym, ap, ◌∙◌, arith, append_assoc, append-nil, length-append, get_or-append-add}
use Rattle.std.specs.List.{list_all, slice_split, onto_first, join_with_byte}
use Rattle.std.proofs.lemmas.Bool.{and_parts, and_from, eq-eqb, ltb-true}
use Rattle.std.proofs.lemmas.Bool.Decides.{nat_tests}
use Rattle.std.proofs.lemmas.List.Splits.{slice_split-cons_yes, slice_split-cons_no}

-- whether the text does not contain the byte c
abbrev pub has_no : ℕ → List ℕ → Bool
has_no c text = list_all (λ b. not (b == c)) text

-- the parts of the text between its bytes c
abbrev pub cut_at : ℕ → List ℕ → List (List ℕ)
cut_at c text = slice_split (λ b. b == c) text

pub not_this : (b c : ℕ) → not (b == c) ≡ true → (b == c) ≡ false
not_this b c h = grind (arith, nat_tests)

pub has_no-append : (c : ℕ) (prefix rest : List ℕ) → has_no c prefix ≡ true → has_no c rest ≡ true → has_no c (prefix ++ rest) ≡ true
has_no-append c [] rest prefixes rests = rests
has_no-append c (b ∷ prefix) rest prefixes rests =
    let parts = and_parts (not (b == c)) (has_no c prefix) prefixes in
    and_from _ _ parts.0 (has_no-append c prefix rest parts.1 rests)

-- a text without the byte is its only part
pub cut_nowhere : (c : ℕ) (text : List ℕ) → has_no c text ≡ true → cut_at c text ≡ text ∷ []
cut_nowhere c [] none = refl
cut_nowhere c (b ∷ text) none =
    let parts = and_parts (not (b == c)) _ none in
    slice_split-cons_no (λ b. b == c) b text (not_this b c parts.0) ∙ ap (onto_first b) (cut_nowhere c text parts.1)

-- the first part of a text is the prefix before its first byte c
pub cut_first : (c : ℕ) (prefix rest : List ℕ) → has_no c prefix ≡ true → cut_at c (prefix ++ c ∷ rest) ≡ prefix ∷ cut_at c rest
cut_first c [] rest none = slice_split-cons_yes (λ b. b == c) c rest (eq-eqb c c refl)
cut_first c (b ∷ prefix) rest none =
    let parts = and_parts (not (b == c)) _ none in
    slice_split-cons_no (λ b. b == c) b (prefix ++ c ∷ rest) (not_this b c parts.0) ∙ ap (onto_first b) (cut_first c prefix rest parts.1)

-- joining parts without the byte c with c, and splitting the result at c, gives the same parts
pub cut_joined : (c : ℕ) (piece : List ℕ) (pieces : List (List ℕ)) → list_all (has_no c) (piece ∷ pieces) ≡ true → cut_at c (join_with_byte c (piece ∷ pieces)) ≡ piece ∷ pieces
cut_joined c piece [] none = cut_nowhere c piece (and_parts (has_no c piece) true none).0
cut_joined c piece (next ∷ pieces) none =
    let parts = and_parts (has_no c piece) (list_all (has_no c) (next ∷ pieces)) none in
    cut_first c piece (join_with_byte c (next ∷ pieces)) parts.0 ∙ ap (λ (rest : List (List ℕ)). piece ∷ rest) (cut_joined c next pieces parts.1)

-- parts joined with the byte c, with a c before the first, are the parts with a c before each
pub joined_after : (c : ℕ) (piece : List ℕ) (pieces : List (List ℕ)) → c ∷ join_with_byte c (piece ∷ pieces) ≡ flat_map (λ x. c ∷ x) (piece ∷ pieces)
joined_after c piece [] = ap (λ (x : List ℕ). c ∷ x) (sym (append-nil piece))
joined_after c piece (next ∷ pieces) = ap (λ (rest : List ℕ). c ∷ (piece ++ rest)) (joined_after c next pieces)

-- parts joined with the byte c, with a c after the last, are the parts with a c after each
pub joined_before : (c : ℕ) (piece : List ℕ) (pieces : List (List ℕ)) → join_with_byte c (piece ∷ pieces) ++ c ∷ [] ≡ flat_map (λ x. x ++ c ∷ []) (piece ∷ pieces)
joined_before c piece [] = sym (append-nil (piece ++ c ∷ []))
joined_before c piece (next ∷ pieces) =
    append_assoc piece (c ∷ join_with_byte c (next ∷ pieces)) (c ∷ [])
    ∙ (ap (λ (rest : List ℕ). piece ++ c ∷ rest) (joined_before c next pieces)
    ∙ sym (append_assoc piece (c ∷ []) (flat_map (λ x. x ++ c ∷ []) (next ∷ pieces))))

-- joining the texts of mapped elements is joining the texts of their images
pub flat_map-map : {X Y : Type 0} (f : Y → List ℕ) (g : X → Y) (xs : List X) → flat_map f (map g xs) ≡ flat_map (λ x. f (g x)) xs
flat_map-map f g [] = refl
flat_map-map f g (x ∷ xs) = ap (λ (rest : List ℕ). f (g x) ++ rest) (flat_map-map f g xs)

-- ---- the last byte of a text
-- if a text does not contain the byte c, no byte of the text is c
pub not_at : (c : ℕ) (text : List ℕ) (i : ℕ) → has_no c text ≡ true → i < length text → (get_or text i 0 == c) ≡ false
not_at c [] i none within = absurd (omega arith)
not_at c (b ∷ text) zero none within = not_this b c (and_parts (not (b == c)) _ none).0
not_at c (b ∷ text) (suc i) none within = not_at c text i (and_parts (not (b == c)) _ none).1 (omega arith)

-- whether the text is not empty and does not contain the byte c
abbrev pub is_piece : ℕ → List ℕ → Bool
is_piece c text = nat_lt 0 (length text) && has_no c text

-- the text is not empty and does not end with the byte c
abbrev pub EndsOtherwise : ℕ → List ℕ → Type 0
EndsOtherwise c text = (0 < length text) × ((get_or text (length text - 1) 0 == c) ≡ false)

-- if parts that are not empty and do not contain the byte c are joined with c, the result does not end with c
pub joined_ends : (c : ℕ) (piece : List ℕ) (pieces : List (List ℕ)) → list_all (is_piece c) (piece ∷ pieces) ≡ true → EndsOtherwise c (join_with_byte c (piece ∷ pieces))
joined_ends c piece [] good =
    let parts = and_parts (nat_lt 0 (length piece)) (has_no c piece) (and_parts (is_piece c piece) true good).0 in
    let some : 0 < length piece = ltb-true _ _ parts.0 in
    (some, not_at c piece (length piece - 1) parts.1 (omega arith))
joined_ends c piece (next ∷ pieces) good =
    let rest : List ℕ = join_with_byte c (next ∷ pieces) in
    let ends = joined_ends c next pieces (and_parts (is_piece c piece) (list_all (is_piece c) (next ∷ pieces)) good).1 in
    let long : length (piece ++ c ∷ rest) ≡ length piece + (1 + length rest) = length-append piece (c ∷ rest) ∙ ap (λ n. length piece + n) (omega arith) in
    let place : length (piece ++ c ∷ rest) - 1 ≡ length piece + suc (length rest - 1) = omega (arith, long, ends.0) in
    let last : get_or (piece ++ c ∷ rest) (length (piece ++ c ∷ rest) - 1) 0 ≡ get_or rest (length rest - 1) 0 =
    ap (λ i. get_or (piece ++ c ∷ rest) i 0) place ∙ get_or-append-add piece (c ∷ rest) (suc (length rest - 1)) 0 in
    (omega (arith, long), ap (λ b. b == c) last ∙ ends.1)
