-- Well-formed lines among others.
use Rattle.std.proofs.Common.{◌≤◌, List, [], ◌∷◌, length, Option, Some, None, arith}
use Rattle.recordings.specs.RecordingLine.{RecordedLine}
use Rattle.conformance.specs.Lines.{with_form}

pub with_form_few : (lines : List (Option RecordedLine)) → length (with_form lines) ≤ length lines
with_form_few [] = omega arith
with_form_few (None ∷ lines) = omega (arith, with_form_few lines)
with_form_few (Some line ∷ lines) = omega (arith, with_form_few lines)
