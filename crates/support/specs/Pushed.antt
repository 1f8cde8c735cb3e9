-- The bytes that a call appends to a text.
use Rattle.std.specs.Prelude.{◌≡◌, ◌++◌, ℕ, List, Result, String, OnOk, string_bytes}

-- if the call succeeds, the new text is the old text followed by these bytes
abbrev pub Pushes : {X E Z : Type 0} → Result X E → String Z → String Z → List ℕ → Type 0
Pushes result old new bytes = OnOk result (string_bytes new ≡ string_bytes old ++ bytes)
