-- The lines of the submits to a pool, in plan order. A line says whether a future is open at the submit.
use Rattle.std.specs.Prelude.{ℕ, ◌==◌, Bool, if◌then◌else◌, List, [], ◌∷◌, ◌++◌, flat_map, codes, decimal}
use Rattle.std.specs.List.{enumerate_from}
use Rattle.job_bodies.specs.declared.action.Action.{Action}
use Rattle.job_bodies.specs.declared.action.Action.TheVariants.{Submit}
use Rattle.job_bodies.specs.Plan.{Class, Client, Plan, class_at}
use Rattle.diagnostics.specs.OpenFutures.{has_open_future}

abbrev pub open_text : Bool → List ℕ
open_text is_open = if is_open then codes ": a future is open here" else []

-- the line of a submit of class k at position i of the body; `kind` and `name` are those of the class or client kind with this
-- body
abbrev pub submit_line : Plan → List ℕ → List ℕ → List Action → ℕ → ℕ → List ℕ
submit_line plan kind name body i k =
    (codes "  " ++ (kind ++ (codes " " ++ (name ++ (codes " action " ++ decimal i))))) ++ (codes " submits " ++ ((class_at plan k).name ++ (open_text (has_open_future body i) ++ 10 ∷ [])))

-- the line of the action at position i; empty unless the action submits a job to pool p
abbrev pub action_line : Plan → ℕ → List ℕ → List ℕ → List Action → ℕ × Action → List ℕ
action_line plan p kind name body (i, Submit k) = if (class_at plan k).pool == p then submit_line plan kind name body i k else []
action_line plan p kind name body (i, _) = []

abbrev pub body_lines : Plan → ℕ → List ℕ → List ℕ → List Action → List ℕ
body_lines plan p kind name body = flat_map (action_line plan p kind name body) (enumerate_from 0 body)

abbrev pub class_lines : Plan → ℕ → Class → List ℕ
class_lines plan p class = body_lines plan p (codes "class") class.name class.body

abbrev pub client_lines : Plan → ℕ → Client → List ℕ
client_lines plan p client = body_lines plan p (codes "client") client.name client.body

-- a line for each submit to pool p: those of the classes, and then those of the client kinds
abbrev pub submits_text : Plan → ℕ → List ℕ
submits_text plan p = flat_map (class_lines plan p) plan.classes ++ flat_map (client_lines plan p) plan.clients
