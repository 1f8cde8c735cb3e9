-- The validity of the gets of a body.
use Rattle.std.specs.Prelude.{◌≡◌, ℕ, Bool, true, List, Option, Some, slice_get, IsTrue}
use Rattle.job_bodies.specs.declared.action.Action.{Action}
use Rattle.job_bodies.specs.declared.action.Action.TheVariants.{Get}
use Rattle.job_bodies.specs.WellFormed.{is_valid_get}

-- Each get names an earlier submit of the body, and no two gets name the same submit.
abbrev pub HasValidGets : List Action → Type 0
HasValidGets body = (position submit : ℕ) → slice_get body position ≡ Some (Get submit) → IsTrue (is_valid_get body position submit)

-- The action at this index is a valid get, or is no get.
abbrev pub is_valid_at : List Action → ℕ → Option Action → Bool
is_valid_at body position (Some (Get submit)) = is_valid_get body position submit
is_valid_at body position _ = true
