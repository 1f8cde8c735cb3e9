-- The page has the characters so far.
use Rattle.std.proofs.Common.{◌≡◌, ◌++◌}
use Rattle.std.specs.Prelude.{string_bytes}
use Rattle.std.specs.List.{flat_map}
use Rattle.report.specs.Html.{script_char}
use Rattle.report.proofs.html.push_script_text.Given as goal

abbrev pub invariant-loop-c : goal.invariant-loop-c
invariant-loop-c l = string_bytes l.page ≡ string_bytes l.fn.page ++ flat_map script_char l.yielded
