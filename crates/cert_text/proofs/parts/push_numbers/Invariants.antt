use Rattle.std.proofs.Common.{◌++◌}
use Rattle.std.specs.Prelude.{string_bytes}
use Rattle.serde_json.specs.Written.{compact_text}
use Rattle.cert_text.specs.CertText.{number_data, numbers_data}
use Rattle.cert_text.proofs.Pushing.{Grows}
use Rattle.cert_text.proofs.parts.push_numbers.Given as goal

abbrev pub invariant-loop-number : goal.invariant-loop-number
invariant-loop-number l = Grows number_data l.numbers l.number-index l.later (string_bytes l.text) (string_bytes l.fn.text ++ compact_text (numbers_data l.numbers))
