-- The bytes that a source loses when an input is read up to a limit, and the failed calls of the source.
use Rattle.std.specs.Prelude.{ℕ, ◌≤◌, List, length, codes, Option, Result, Ok, Err}
use Rattle.std.specs.Io.KnownBytes.{Consumes}
use Rattle.byte_streams.specs.declared.reading.InputError.{InputError}
use Rattle.byte_streams.specs.declared.reading.InputError.TheVariants.{Memory, Fault}

-- the source loses at most `limit` bytes, from the start of its remaining bytes. Its remaining bytes are `old` before the
-- reading and `new` after it, or None if they are not known.
abbrev pub ConsumesAtMost : Option (List ℕ) → Option (List ℕ) → ℕ → Type 0
ConsumesAtMost old new limit = (front : List ℕ) × Consumes old new front × (length front ≤ limit)

-- the number of failed calls of the source, given the result of reading an input: 1 for the error `Fault`, and otherwise 0
abbrev pub fault_count : {T : Type 0} → Result T InputError → ℕ
fault_count (Ok _) = 0
fault_count (Err Memory) = 0
fault_count (Err Fault) = 1

-- the text of an error
abbrev pub error_text : InputError → List ℕ
error_text Memory = codes "out of memory"
error_text Fault = codes "the input could not be read"
