-- The result of a function that reads an input, compared with `read`, the result that the specification defines.
use Rattle.std.specs.Prelude.{◌≡◌, Result, Ok, Err}
use Rattle.support.specs.declared.read_error.ReadError.{ReadError}
use Rattle.support.specs.declared.read_error.ReadError.TheVariants.{Memory, Fault}

-- `read` is the fault of this error; nothing is claimed if memory ran out
abbrev pub Fails : {Y F : Type 0} → ReadError F → Result Y F → Type 0
Fails Memory read = Unit {0}
Fails (Fault fault) read = read ≡ Err fault

-- the function returned the value or the fault of `read`. `view` maps a value of the function to a value of the specification.
-- Nothing is claimed if memory ran out.
abbrev pub Gives : {X Y F : Type 0} → (X → Y) → Result X (ReadError F) → Result Y F → Type 0
Gives view (Ok x) read = read ≡ Ok (view x)
Gives view (Err error) read = Fails error read
