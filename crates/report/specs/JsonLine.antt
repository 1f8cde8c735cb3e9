-- A value as JSON on one line.
use Rattle.std.specs.Prelude.{◌≡◌, ℕ, List, [], ◌∷◌, ◌++◌}
use Rattle.json.specs.Lex.{tokens}
use Rattle.json.specs.Print.{print}
use Rattle.serde_json.specs.Data.{Data}
use Rattle.serde_json.specs.Written.{IsInOrder}
use Rattle.diagnostics.specs.Lines.{HasNoNewline}

-- the text is the JSON text of the value, followed by a newline. It has each item and member once and in order, no space between
-- tokens, the shortest escapes, and no other newline
pub record IsLineOf (value : Data) (text : List ℕ) : Type 0 where
  pub json : List ℕ
  pub in_order : IsInOrder json value
  pub compact : json ≡ print (tokens json)
  pub one_line : HasNoNewline json
  pub is : text ≡ json ++ 10 ∷ []
