use Rattle.std.proofs.Common.{◌≡◌, ◌-◌}
use Rattle.std.specs.Prelude.{slice_get}
use Rattle.recordings.specs.WholeLines.{whole_lines}
use Rattle.sizing_cli.proofs.line_ends.line_at.Given as goal

abbrev pub invariant-loop-first : goal.invariant-loop-first
invariant-loop-first l = slice_get (whole_lines l.recording) (l.line - 1) ≡ slice_get (whole_lines l.rest) l.before

abbrev pub decreases-loop-first : goal.decreases-loop-first
decreases-loop-first l = l.before
