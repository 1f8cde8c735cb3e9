use Rattle.std.proofs.Common.{◌≡◌, ◌<◌, ℕ, map, slice_get, string_bytes}
use Rattle.learning.specs.LearningState.{names_of}
use Rattle.learning.proofs.label_rounds.are_named.Given as goal

abbrev pub invariant-loop-number : goal.invariant-loop-number
invariant-loop-number l = (n : ℕ) → n < l.number → slice_get (names_of l.entries) n ≡ slice_get (map string_bytes l.names) n
