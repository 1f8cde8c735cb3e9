-- Lemmas about walks over the rows of the elements of a list.
use Rattle.std.proofs.Common.{◌≡◌, ◌≤◌, ◌<◌, ◌+◌, ℕ, zero, suc, Bool, true, false, List, [], ◌∷◌, ◌++◌, map, take, length, slice_get, Some, refl, sym, ap, subst, ◌∙◌, append_assoc, add-one, zero-add, arith}
use Rattle.std.specs.Prelude.{cond, filter, if◌then◌else◌}
use Rattle.std.specs.List.{flat_map, enumerate_from}
use Rattle.std.proofs.lemmas.List.{append-nil, take_all}
use Rattle.weights.specs.declared.row.Row.{Row}
use Rattle.weights.specs.Visits.{Visits}

-- a walk over no rows leaves the visitor unchanged
pub visits_none : {S : Type 0} (has_seen : S → List Row → Type 0) (old : S) → Visits has_seen old old []
visits_none has_seen old = record { extends = λ before seen. subst (has_seen old) (sym (append-nil before)) seen }

-- two walks in order are one walk over the rows of the first walk and then those of the second
pub visits_then : {S : Type 0} (has_seen : S → List Row → Type 0) (old now new : S) (xs ys : List Row) → Visits has_seen old now xs → Visits has_seen now new ys → Visits has_seen old new (xs ++ ys)
visits_then has_seen old now new xs ys first second =
    record { extends = λ before seen. subst (has_seen new) (append_assoc before xs ys) (second.extends (before ++ xs) (first.extends before seen)) }

-- a walk over a list of rows is a walk over an equal list
pub visits_same : {S : Type 0} (has_seen : S → List Row → Type 0) (old new : S) (xs ys : List Row) → xs ≡ ys → Visits has_seen old new xs → Visits has_seen old new ys
visits_same has_seen old new xs ys same taken = subst (λ (rows : List Row). Visits has_seen old new rows) same taken

-- the rows of all elements, each with its index, if the index of the first element is n
abbrev pub all_rows : {X : Type 0} → (ℕ → X → List Row) → ℕ → List X → List Row
all_rows rows_at n xs = flat_map (λ entry. rows_at entry.0 entry.1) (enumerate_from n xs)

-- the walk has visited the rows of the first i elements
pub record HasVisited {S X : Type 0} (has_seen : S → List Row → Type 0) (old now : S) (rows_at : ℕ → X → List Row) (xs : List X) (i : ℕ) : Type 0 where
  pub prior : Visits has_seen old now (all_rows rows_at 0 (take i xs))

-- the rows of the first i + 1 elements are those of the first i followed by those of the element at i
rows_more : {X : Type 0} (rows_at : ℕ → X → List Row) (n : ℕ) (xs : List X) (i : ℕ) (x : X) → slice_get xs i ≡ Some x → all_rows rows_at n (take (suc i) xs) ≡ all_rows rows_at n (take i xs) ++ rows_at (n + i) x
rows_more rows_at n [] i x here = absurd cc
rows_more rows_at n (y ∷ xs) zero x here =
    let same : y ≡ x = cc in
    let place : n + 0 ≡ n = omega arith in
    append-nil (rows_at n y) ∙ rw (place, ← same) refl
rows_more rows_at n (y ∷ xs) (suc i) x here =
    let place : n + suc i ≡ n + 1 + i = omega arith in
    ap (λ (rows : List Row). rows_at n y ++ rows) (rows_more rows_at (n + 1) xs i x here) ∙ rw place (sym (append_assoc (rows_at n y) _ _))

pub walk_begins : {S X : Type 0} (has_seen : S → List Row → Type 0) (old : S) (rows_at : ℕ → X → List Row) (xs : List X) → HasVisited has_seen old old rows_at xs 0
walk_begins has_seen old rows_at xs = record { prior = visits_none has_seen old }

pub walk_continues : {S X : Type 0} (has_seen : S → List Row → Type 0) (old now new : S) (rows_at : ℕ → X → List Row) (xs : List X) (i : ℕ) (x : X) → slice_get xs i ≡ Some x → Visits has_seen now new (rows_at i x)
    → HasVisited has_seen old now rows_at xs i → HasVisited has_seen old new rows_at xs (i + 1)
walk_continues has_seen old now new rows_at xs i x here taken walked =
    let both = visits_then has_seen old now new _ _ walked.prior taken in
    let more : all_rows rows_at 0 (take i xs) ++ rows_at i x ≡ all_rows rows_at 0 (take (i + 1) xs) =
    rw add-one (sym (rows_more rows_at 0 xs i x here ∙ rw zero-add refl)) in
    record { prior = visits_same has_seen old new _ _ more both }

pub walk_ends : {S X : Type 0} (has_seen : S → List Row → Type 0) (old new : S) (rows_at : ℕ → X → List Row) (xs : List X) (i : ℕ) → length xs ≤ i → HasVisited has_seen old new rows_at xs i → Visits has_seen old new (all_rows rows_at 0 xs)
walk_ends has_seen old new rows_at xs i past walked =
    visits_same has_seen old new _ _ (ap (λ (ys : List _). all_rows rows_at 0 ys) (take_all i xs past)) walked.prior

-- if each element has one row, the rows of a list are its elements mapped to their rows
pub one_each : {X : Type 0} (f : X → Row) (xs : List X) → flat_map (λ x. f x ∷ []) xs ≡ map f xs
one_each f [] = refl
one_each f (x ∷ xs) = ap (λ (rows : List Row). f x ∷ rows) (one_each f xs)

-- without the rows of the elements that fail a test, the rows of a list are those of the elements that pass
pub of_passing : {X : Type 0} (test : X → Bool) (f : X → List Row) (xs : List X) → flat_map (λ x. if test x then f x else []) xs ≡ flat_map f (filter test xs)
of_passing test f [] = refl
of_passing test f (x ∷ xs) =
    let rest = flat_map (λ y. if test y then f y else []) xs in
    elim (test x) as (λ b. (if b then f x else []) ++ rest ≡ flat_map f (cond b (x ∷ filter test xs) (filter test xs))) [
      | true ↦ ap (λ (rows : List Row). f x ++ rows) (of_passing test f xs)
      | false ↦ of_passing test f xs
    ]

-- if each element has one row, which does not depend on the index, the rows of a list are its elements mapped to their rows
pub one_each_placeless : {X : Type 0} (f : X → Row) (n : ℕ) (xs : List X) → all_rows (λ _ x. f x ∷ []) n xs ≡ map f xs
one_each_placeless f n [] = refl
one_each_placeless f n (x ∷ xs) = ap (λ (rows : List Row). f x ∷ rows) (one_each_placeless f (n + 1) xs)
