-- The notes of the rows before this one were appended.
use Rattle.std.proofs.Common.{◌≡◌, ◌++◌, take}
use Rattle.soundness.specs.Conditions.{in_section}
use Rattle.refusal_notes.proofs.failing_rows.push_section_notes.Given as goal

abbrev pub invariant-loop-row : goal.invariant-loop-row
invariant-loop-row l = l.notes.items ≡ l.initial.notes.items ++ in_section l.section (take l.row-index l.rows)
