use Rattle.std.proofs.Common.{◌++◌, map}
use Rattle.std.specs.Prelude.{string_bytes}
use Rattle.serde_json.specs.Written.{compact_text}
use Rattle.cert_text.specs.CertText.{numbers_data, list_data}
use Rattle.cert_text.proofs.Pushing.{Grows}
use Rattle.cert_text.proofs.parts.push_rows.Given as goal

abbrev pub invariant-loop-row : goal.invariant-loop-row
invariant-loop-row l = Grows (λ row. numbers_data row.items) l.rows l.row-index l.later (string_bytes l.text) (string_bytes l.fn.text ++ compact_text (list_data (map (λ row. numbers_data row.items) l.rows)))
