-- Lemmas about the first failing row of a list, as a visitor finds it.
use Rattle.std.proofs.Common.{◌≡◌, Bool, true, false, List, [], ◌∷◌, ◌++◌, refl, sym, ap, subst, ◌∙◌, append_assoc}
use Rattle.std.specs.Prelude.{Option, Some, None, is_some, if◌then◌else◌}
use Rattle.weights.specs.declared.row.Row.{Row}
use Rattle.weights.specs.Row.{fails, first_failing}

-- the first option if it has a row, and otherwise the second
abbrev pub or_else : Option Row → Option Row → Option Row
or_else None second = second
or_else (Some x) second = Some x

-- the first failing row of joined lists is that of the first list, or that of the second if the first has none
pub first_failing-append : (xs ys : List Row) → first_failing (xs ++ ys) ≡ or_else (first_failing xs) (first_failing ys)
first_failing-append [] ys = refl
first_failing-append (x ∷ xs) ys =
    elim (fails x) as (λ b. (if b then Some x else first_failing (xs ++ ys)) ≡ or_else (if b then Some x else first_failing xs) (first_failing ys)) [
      | true ↦ refl
      | false ↦ first_failing-append xs ys
    ]

-- a row that does not fail, appended to a list, does not change the first failing row
pub passing_row_extends : (rows : List Row) (x : Row) → fails x ≡ false → first_failing (rows ++ x ∷ []) ≡ first_failing rows
passing_row_extends rows x holds = first_failing-append rows (x ∷ []) ∙ rw holds (or_else_none (first_failing rows))
  where
    or_else_none : (first : Option Row) → or_else first None ≡ first
    or_else_none None = refl
    or_else_none (Some x) = refl

-- if a list has a failing row, appending a row does not change the first failing row
pub found_before : (rows : List Row) (x y : Row) → first_failing rows ≡ Some y → first_failing (rows ++ x ∷ []) ≡ Some y
found_before rows x y found = first_failing-append rows (x ∷ []) ∙ rw found refl

-- a visitor that has found a failing row keeps it after the next row
pub found_already : (rows : List Row) (x : Row) (first : Option Row) → is_some first ≡ true → first ≡ first_failing rows → first ≡ first_failing (rows ++ x ∷ [])
found_already rows x None some e = absurd cc
found_already rows x (Some y) some e = sym (found_before rows x y (sym e))

-- a visitor that has found no failing row keeps the next row if that one fails
pub found_now : (rows : List Row) (x : Row) (first : Option Row) → is_some first ≡ false → fails x ≡ true → first ≡ first_failing rows → Some x ≡ first_failing (rows ++ x ∷ [])
found_now rows x None none wrong e = sym (first_failing-append rows (x ∷ []) ∙ rw (← e, wrong) refl)
found_now rows x (Some y) none wrong e = absurd cc
