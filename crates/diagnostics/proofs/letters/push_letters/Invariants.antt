-- The letters and digits of the characters so far are appended.
use Rattle.std.proofs.Common.{◌≡◌, ◌++◌, length, take, flat_map, string_bytes}
use Rattle.std.specs.Str.{chars, encode_utf8_all}
use Rattle.diagnostics.specs.Letters.{kept}
use Rattle.diagnostics.proofs.letters.push_letters.Given as goal

abbrev pub invariant-loop-letter : goal.invariant-loop-letter
invariant-loop-letter l = string_bytes l.letters ≡ string_bytes l.fn.letters ++ encode_utf8_all (flat_map kept (take (length l.yielded) (chars l.text)))
