-- The text has the lines before this one.
use Rattle.std.proofs.Common.{◌≡◌, ◌++◌, map, take}
use Rattle.std.specs.Prelude.{flat_map, string_bytes}
use Rattle.report.specs.Story.{line_text}
use Rattle.report.specs.StorySeen.{line_seen}
use Rattle.report.proofs.story_lines.push_each.Given as goal

abbrev pub invariant-loop-index : goal.invariant-loop-index
invariant-loop-index l = string_bytes l.text ≡ string_bytes l.fn.text ++ flat_map line_text (map line_seen (take l.index l.lines))
