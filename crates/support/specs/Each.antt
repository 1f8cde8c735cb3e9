-- The result of a loop that reads the elements of a list in order. `reads i x result` means that reading the element x with
-- index i can return `result`.
use Rattle.std.specs.Prelude.{ℕ, ◌+◌, ◌⊎◌, List, [], ◌∷◌, Vec, Result, Ok, Err}
use Rattle.std.specs.declared.alloc.Global.{Global}
use Rattle.support.specs.declared.read_error.ReadError.{ReadError}
use Rattle.support.specs.declared.read_error.ReadError.TheVariants.{Memory, Fault}

-- reading the elements in order can return the values in the second list, one for each element; the index of the first element
-- is i
abbrev pub AllReturned : {X Y F : Type 0} → (ℕ → X → Result Y (ReadError F) → Type 0) → ℕ → List X → List Y → Type 0
AllReturned reads i [] [] = Unit {0}
AllReturned reads i [] (y ∷ ys) = ⊥
AllReturned reads i (x ∷ xs) [] = ⊥
AllReturned reads i (x ∷ xs) (y ∷ ys) = reads i x (Ok y) × AllReturned reads (i + 1) xs ys

-- reading one of the elements can return this fault, and reading each element before it can return a value; the index of the
-- first element is i
abbrev pub OneFailed : {X Y F : Type 0} → (ℕ → X → Result Y (ReadError F) → Type 0) → ℕ → List X → F → Type 0
OneFailed reads i [] fault = ⊥
OneFailed {Y = Y} reads i (x ∷ xs) fault = reads i x (Err (Fault fault)) ⊎ ((y : Y) × reads i x (Ok y) × OneFailed reads (i + 1) xs fault)

-- the result has the values of all elements, or the first fault; nothing is claimed if memory ran out
abbrev pub EachReturned : {X Y F : Type 0} → (ℕ → X → Result Y (ReadError F) → Type 0) → List X → Result (Vec Y Global) (ReadError F) → Type 0
EachReturned reads xs (Ok ys) = AllReturned reads 0 xs ys.items
EachReturned reads xs (Err Memory) = Unit {0}
EachReturned reads xs (Err (Fault fault)) = OneFailed reads 0 xs fault

-- `result` is a possible result of reading each element of xs in order
pub record IsReadOfEach {X Y F : Type 0} (reads : ℕ → X → Result Y (ReadError F) → Type 0) (xs : List X) (result : Result (Vec Y Global) (ReadError F)) : Type 0 where
  pub outcome : EachReturned reads xs result
