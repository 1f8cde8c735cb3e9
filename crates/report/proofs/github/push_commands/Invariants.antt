-- The text so far, followed by the lines of the remaining annotations, is the text at the start followed by the lines of all.
use Rattle.std.proofs.Common.{◌≡◌, ◌++◌, length}
use Rattle.std.specs.Prelude.{string_bytes}
use Rattle.report.specs.Annotations.{remarks_in}
use Rattle.report.specs.Github.{github_text}
use Rattle.report.proofs.github.push_commands.Given as goal

abbrev pub invariant-loop-annotation : goal.invariant-loop-annotation
invariant-loop-annotation l = string_bytes l.text ++ github_text l.file (remarks_in l.annotations) ≡ string_bytes l.fn.text ++ github_text l.file (remarks_in l.fn.annotations)

abbrev pub decreases-loop-annotation : goal.decreases-loop-annotation
decreases-loop-annotation l = length l.annotations
