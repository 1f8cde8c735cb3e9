-- The rows that a visitor collects, and the failing conditions of a bound.
use Rattle.std.specs.Prelude.{◌≡◌, ℕ, List, [], Option, Some, None, OnOk, filter}
use Rattle.job_bodies.specs.Plan.{Plan}
use Rattle.weights.specs.declared.bound.Bound.{Bound}
use Rattle.weights.specs.declared.row.Row.{Row}
use Rattle.weights.specs.Bound.{bound_rows}
use Rattle.weights.specs.Row.{fails}
use Rattle.soundness.specs.declared.note.Note.{Note}
use Rattle.soundness.specs.Conditions.{bound_section, in_section}
use Rattle.refusal_notes.specs.declared.failing_rows.FailingRows.{FailingRows}

-- the visitor has exactly the failing rows of the rows `seen`, in the same order; nothing is claimed if memory ran out
abbrev pub Keeps : FailingRows → List Row → Type 0
Keeps found seen = OnOk found.outcome (found.rows.items ≡ filter fails seen)

-- the failing conditions of the bound of pool p; none if there is no bound
abbrev pub failing_of_bound : Plan → ℕ → Option Bound → List Note
failing_of_bound plan p None = []
failing_of_bound plan p (Some bound) = in_section (bound_section p bound) (filter fails (bound_rows plan p bound))
