-- Membership in a list.
use Rattle.std.specs.Prelude.{List, ◌∷◌}

-- x is an element of the list
pub data In {X : Type 0} (x : X) : List X → Type 0 where
  here : {xs : List X} → In x (x ∷ xs)
  there : {y : X} {xs : List X} → In x xs → In x (y ∷ xs)
