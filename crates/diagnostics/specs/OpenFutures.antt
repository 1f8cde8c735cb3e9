-- The futures that are open at a position of a body. A future is open there if its job was submitted before the position, and
-- its get comes after the position.
use Rattle.std.specs.Prelude.{ℕ, Bool, false, ◌&&◌, nat_lt, List}
use Rattle.std.specs.List.{list_any, enumerate_from}
use Rattle.job_bodies.specs.declared.action.Action.{Action}
use Rattle.job_bodies.specs.declared.action.Action.TheVariants.{Get}

-- the action at position g is a get, g is after position i, and the submit that the get names is before i
abbrev pub is_get_around : ℕ → ℕ → Action → Bool
is_get_around i g (Get t) = nat_lt t i && nat_lt i g
is_get_around i g _ = false

-- a future is open at position i of the body
abbrev pub has_open_future : List Action → ℕ → Bool
has_open_future body i = list_any (λ (entry : ℕ × Action). is_get_around i entry.0 entry.1) (enumerate_from 0 body)
