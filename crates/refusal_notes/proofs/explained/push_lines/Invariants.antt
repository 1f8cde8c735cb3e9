-- The text is the old text followed by the lines of the notes before this one, and `head` is the head of `section`.
use Rattle.std.proofs.Common.{◌≡◌, ◌++◌, take}
use Rattle.std.specs.Prelude.{string_bytes}
use Rattle.refusal_notes.specs.Line.{head}
use Rattle.refusal_notes.specs.Explanation.{lines}
use Rattle.refusal_notes.proofs.explained.push_lines.Given as goal

abbrev pub invariant-loop-note : goal.invariant-loop-note
invariant-loop-note l = record {
  collected : string_bytes l.text ≡ string_bytes l.fn.text ++ lines l.plan (take l.note-index l.notes);
  begins : string_bytes l.head ≡ head l.plan l.section;
}
