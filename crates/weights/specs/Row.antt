-- Rows: the conditions of a certificate. Each row is a rule at one place of the plan.
use Rattle.std.specs.Prelude.{◌≤◌, ℕ, Bool, nat_lt, if◌then◌else◌, List, [], ◌∷◌, Option, Some, None}
use Rattle.support.specs.In.{In}
use Rattle.weights.specs.declared.row.Rule.{Rule}
use Rattle.weights.specs.declared.row.Place.{Place}
use Rattle.weights.specs.declared.row.Row.{Row}

-- the row for this rule at this place: the condition that `left` is at most `right`
abbrev pub row : Rule → Place → ℕ → ℕ → Row
row rule place left right = record { rule = rule; place = place; left = left; right = right }

-- whether the row fails: left is greater than right
abbrev pub fails : Row → Bool
fails x = nat_lt x.right x.left

-- the first row of the list that fails; None if none fails
abbrev pub first_failing : List Row → Option Row
first_failing [] = None
first_failing (x ∷ xs) = if fails x then Some x else first_failing xs

-- no row of the list fails
abbrev pub AllHold : List Row → Type 0
AllHold rows = (x : Row) → In x rows → x.left ≤ x.right
