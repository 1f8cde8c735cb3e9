-- The characters so far are appended, each as it is written in a message.
use Rattle.std.proofs.Common.{◌≡◌, ◌++◌, length, take, flat_map, string_bytes}
use Rattle.std.specs.Str.{chars, encode_utf8_all}
use Rattle.diagnostics.specs.Lines.{plain}
use Rattle.diagnostics.proofs.control_characters.push_text.Given as goal

abbrev pub invariant-loop-letter : goal.invariant-loop-letter
invariant-loop-letter l = string_bytes l.line ≡ string_bytes l.fn.line ++ encode_utf8_all (flat_map plain (take (length l.yielded) (chars l.text)))
