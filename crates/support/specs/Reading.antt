-- A reading returns a value or a fault. It consists of steps that run in order. The first fault ends the reading.
use Rattle.std.specs.Prelude.{ℕ, ◌+◌, Bool, if◌then◌else◌, List, [], ◌∷◌, Option, None, Some, Result, Ok, Err}

-- two steps in order. The second step gets the value of the first. If the first step has a fault, this fault is the result.
infixl 10 ◌>>=◌
abbrev pub ◌>>=◌ : {A B F : Type 0} → Result A F → (A → Result B F) → Result B F
(Ok x) >>= f = f x
(Err e) >>= f = Err e

-- Ok if the condition is true, and otherwise this fault
abbrev pub ensure : {F : Type 0} → Bool → F → Result (Unit {0}) F
ensure b fault = if b then Ok tt else Err fault

-- the value of the option, or this fault if the option is None
abbrev pub ok_or : {A F : Type 0} → Option A → F → Result A F
ok_or (Some x) fault = Ok x
ok_or None fault = Err fault

-- the check of each element in order: Ok, or the first fault. `check` gets an element and its index. The index of the first
-- element is i.
abbrev pub check_each : {X F : Type 0} → (ℕ → X → Result (Unit {0}) F) → ℕ → List X → Result (Unit {0}) F
check_each check i [] = Ok tt
check_each check i (x ∷ xs) = check i x >>= λ _. check_each check (i + 1) xs

-- the values that `read` returns for the elements in order, or the first fault. `read` gets an element and its index. The index
-- of the first element is i.
abbrev pub read_each : {X Y F : Type 0} → (ℕ → X → Result Y F) → ℕ → List X → Result (List Y) F
read_each read i [] = Ok []
read_each read i (x ∷ xs) = read i x >>= λ y. read_each read (i + 1) xs >>= λ ys. Ok (y ∷ ys)
