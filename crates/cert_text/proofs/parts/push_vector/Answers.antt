use Rattle.std.proofs.Common.{rules, ◌≡◌, ◌++◌, arith}
use Rattle.std.specs.Prelude.{string_bytes}
use Rattle.serde_json.specs.Written.{compact_text}
use Rattle.cert_text.specs.CertText.{numbers_data, rows_data}
use Rattle.cert_text.proofs.Pushing.{vector_pushed}
use Rattle.cert_text.proofs.parts.push_vector.Goals as goal

pub returns : goal.returns
returns c =
    let v = c.args.vector.now in
    let classes : string_bytes c.push_rows.new.text ≡ string_bytes c.push_str.new.self ++ compact_text (rows_data v.classes) = search rules in
    let clients : string_bytes c.push_rows-2.new.text ≡ string_bytes c.push_str-2.new.self ++ compact_text (rows_data v.clients) = search rules in
    let workers : string_bytes c.push_numbers.new.text ≡ string_bytes c.push_str-3.new.self ++ compact_text (numbers_data v.workers) = search rules in
    vector_pushed c.push.result v _ _ _ _ _ _ _ _ _ c.in_ok-push_str.ensures.bytes classes c.in_ok-push_str-2.ensures.bytes clients c.in_ok-push_str-3.ensures.bytes workers (c.push.ensures.ascii (omega arith)) c.push.ensures.bytes
