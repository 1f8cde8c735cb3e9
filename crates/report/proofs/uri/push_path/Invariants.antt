-- The text so far and the rest of the name are the text at the start and the whole name.
use Rattle.std.proofs.Common.{◌≡◌, ◌++◌, length}
use Rattle.std.specs.Prelude.{string_bytes}
use Rattle.report.specs.Uri.{path_text}
use Rattle.report.proofs.uri.push_path.Given as goal

abbrev pub invariant-loop-byte : goal.invariant-loop-byte
invariant-loop-byte l = string_bytes l.text ++ path_text l.name ≡ string_bytes l.fn.text ++ path_text l.fn.name

abbrev pub decreases-loop-byte : goal.decreases-loop-byte
decreases-loop-byte l = length l.name
