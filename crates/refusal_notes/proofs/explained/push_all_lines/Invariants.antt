-- The lines of the ranks and of the pools before this one were appended.
use Rattle.std.specs.Prelude.{string_bytes}
use Rattle.refusal_notes.proofs.Explaining.{LinesTo}
use Rattle.refusal_notes.proofs.explained.push_all_lines.Given as goal

abbrev pub invariant-loop-number : goal.invariant-loop-number
invariant-loop-number l = LinesTo l.plan l.cert (string_bytes l.fn.text) (string_bytes l.text) l.count l.number
