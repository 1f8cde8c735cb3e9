-- The law that each event line has exactly one spelling.
use Rattle.std.specs.Prelude.{◌≡◌, ◌⊎◌, ◌↔◌, ℕ, IsTrue, List, [], ◌∷◌, ◌++◌, Ok}
use Rattle.std.specs.List.{list_all}
use Rattle.job_bodies.specs.Plan.{Plan}
use Rattle.job_bodies.specs.WellFormed.{IsWellFormed}
use Rattle.interleaving.specs.EventLine.{Line, event_lines}
use Rattle.interleaving.specs.LineText.{lines_text, is_valid_line}

-- the text is the canonical text of these lines, with or without the newline after the last line
abbrev pub Writes : Plan → List ℕ → List Line → Type 0
Writes plan text lines = (text ≡ lines_text plan lines) ⊎ (text ++ 10 ∷ [] ≡ lines_text plan lines)

-- a text parses as these lines exactly when the lines are valid and the text is their canonical text
abbrev pub EventLinesAreCanonical : Type 0
EventLinesAreCanonical = (plan : Plan) (text : List ℕ) (lines : List Line) → IsWellFormed plan
    → event_lines plan text ≡ Ok lines ↔ IsTrue (list_all (is_valid_line plan) lines) × Writes plan text lines
