-- The text so far, followed by what is left of the escape, is the text at the start followed by the whole escape.
use Rattle.std.proofs.Common.{◌≡◌, ◌++◌, string_bytes}
use Rattle.std.specs.Char.Escape.{escape_default}
use Rattle.std.specs.Char.Iter.{escape_rest}
use Rattle.std.specs.Str.{encode_utf8_all}
use Rattle.diagnostics.proofs.control_characters.push_escape.Given as goal

abbrev pub invariant-loop-part : goal.invariant-loop-part
invariant-loop-part l = string_bytes l.line ++ encode_utf8_all (escape_rest l.part-iterator) ≡ string_bytes l.fn.line ++ encode_utf8_all (escape_default l.fn.letter)
