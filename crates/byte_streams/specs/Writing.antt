-- The bytes that a sink has accepted when the writing of a whole answer failed.
use Rattle.std.specs.Prelude.{ℕ, ◌<◌, List, length, take, Option}
use Rattle.std.specs.Io.KnownBytes.{Appends}

-- the sink has accepted a prefix of `bytes`, but not all of them. Its bytes are `old` before the writing and `new` after it, or
-- None if they are not known.
abbrev pub AppendsFront : Option (List ℕ) → Option (List ℕ) → List ℕ → Type 0
AppendsFront old new bytes = (count : ℕ) × (count < length bytes) × Appends old new (take count bytes)
