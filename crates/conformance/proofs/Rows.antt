-- Rows after a submit.
use Rattle.std.proofs.Common.{◌≡◌, ℕ, zero, suc, ◌+◌, Bool, false, ◌&&◌, List, get_or, ap, add-one}
use Rattle.std.specs.Prelude.{slice_get}
use Rattle.job_bodies.specs.declared.action.Action.{Action}
use Rattle.conformance.specs.Path.{is_submit_of}

-- An entry of the row after a submit of the class.
abbrev pub shifted : List Bool → List Action → ℕ → ℕ → Bool
shifted row body class zero = false
shifted row body class (suc index) = get_or row index false && is_submit_of class (slice_get body index)

pub shifted_next : (row : List Bool) (body : List Action) (class index : ℕ) → shifted row body class (index + 1) ≡ (get_or row index false && is_submit_of class (slice_get body index))
shifted_next row body class index = ap (shifted row body class) (add-one index)
