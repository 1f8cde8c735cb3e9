-- The slots of a body. The state of a slot is the position of the submit that filled it, or None if the slot is empty.
use Rattle.std.specs.Prelude.{ℕ, ◌+◌, if◌then◌else◌, List, [], ◌∷◌, Option, None, Some}
use Rattle.std.specs.Map.{lookup}
use Rattle.std.specs.Str.{bytes_eq}
use Rattle.plan_text.specs.ParsedActions.{ParsedAction, submit_as, get, parse_action}

-- the position of the submit that filled the slot; None if the slot is empty
abbrev pub position_in : List (List ℕ × ℕ) → List ℕ → Option ℕ
position_in slots slot = lookup (bytes_eq slot) slots

-- the state of a slot after the action at position i of a body, given its state before; the action is None if its text is
-- malformed
abbrev pub filled_by : List ℕ → ℕ → Option ℕ → Option ParsedAction → Option ℕ
filled_by slot i before (Some (submit_as class name)) = if bytes_eq name slot then Some i else before
filled_by slot i before (Some (get name)) = if bytes_eq name slot then None else before
filled_by slot i before _ = before

-- the state of a slot after some consecutive actions of a body, given its state before. The actions have these texts, and the
-- first of them is at position i.
abbrev pub filled_from : List ℕ → ℕ → Option ℕ → List (List ℕ) → Option ℕ
filled_from slot i before [] = before
filled_from slot i before (text ∷ texts) = filled_from slot (i + 1) (filled_by slot i before (parse_action text)) texts

-- the state of the slot after the first actions of a body, which have these texts
abbrev pub filled : List (List ℕ) → List ℕ → Option ℕ
filled texts slot = filled_from slot 0 None texts
