-- The text so far, followed by the remaining numbers, is the whole text.
use Rattle.std.proofs.Common.{◌≡◌, ◌++◌, ◌∷◌, length}
use Rattle.std.specs.Prelude.{string_bytes, flat_map, decimal}
use Rattle.report.proofs.json_replay.push_numbers.Given as goal

abbrev pub invariant-loop-number : goal.invariant-loop-number
invariant-loop-number l = string_bytes l.text ++ flat_map (λ n. 32 ∷ decimal n) l.numbers ≡ string_bytes l.fn.text ++ flat_map (λ n. 32 ∷ decimal n) l.fn.numbers

abbrev pub decreases-loop-number : goal.decreases-loop-number
decreases-loop-number l = length l.numbers
