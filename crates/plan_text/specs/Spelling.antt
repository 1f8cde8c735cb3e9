-- The texts of the actions of a body. A class is written as its name. The slot of a submit is named after the position of the
-- submit.
use Rattle.std.specs.Prelude.{ℕ, if◌then◌else◌, List, [], ◌++◌, map, codes, slice_index_or, decimal}
use Rattle.std.specs.List.{enumerate_from}
use Rattle.job_bodies.specs.declared.action.Action.{Action}
use Rattle.job_bodies.specs.declared.action.Action.TheVariants.{Work, Submit, Get}
use Rattle.job_bodies.specs.Plan.{has_get_of}

-- the name at this index of the list, or an empty name if there is none
abbrev pub name_at : List (List ℕ) → ℕ → List ℕ
name_at names place = slice_index_or names place []

-- the name of the slot that the submit at this position fills
abbrev pub slot_name : ℕ → List ℕ
slot_name position = codes "s" ++ decimal position

-- the end of the text of the submit at this position: ` as SLOT` if a get of the body names the submit, and otherwise nothing
abbrev pub slot_part : List Action → ℕ → List ℕ
slot_part body position = if has_get_of body position then codes " as " ++ slot_name position else []

-- the text of the action at this position of the body
unfoldable pub action_text : List (List ℕ) → List Action → ℕ → Action → List ℕ
action_text classes body position (Work units) = codes "work " ++ decimal units
action_text classes body position (Submit class) = codes "submit " ++ name_at classes class ++ slot_part body position
action_text classes body position (Get submit) = codes "get " ++ slot_name submit

-- the texts of the actions of a body
unfoldable pub body_texts : List (List ℕ) → List Action → List (List ℕ)
body_texts classes body = map (λ entry. action_text classes body entry.0 entry.1) (enumerate_from 0 body)
