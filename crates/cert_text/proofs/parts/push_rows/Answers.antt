use Rattle.std.proofs.Common.{◌≡◌, ◌++◌, ℕ, List, Vec, Global, OnOk, subst, arith}
use Rattle.std.specs.Prelude.{string_bytes}
use Rattle.serde_json.specs.Data.{Data}
use Rattle.serde_json.specs.Written.{compact_text}
use Rattle.cert_text.specs.CertText.{numbers_data, list_data}
use Rattle.cert_text.proofs.Lists.{map_twice}
use Rattle.cert_text.proofs.Pushing.{list_pushed}
use Rattle.cert_text.proofs.parts.push_rows.Goals as goal

abbrev items : Vec ℕ Global → List ℕ
items row = row.items

abbrev row_data : Vec ℕ Global → Data
row_data row = numbers_data row.items

pub returns : goal.returns
returns c =
    subst (λ (ds : List Data). OnOk c.push-2.result (string_bytes c.push-2.new.self ≡ string_bytes c.args.text.now ++ compact_text (list_data ds))) (map_twice numbers_data items c.args.rows.now)
    (list_pushed c.push-2.result row_data c.args.rows.now _ _ _ _ _ _ c.loop-row-test.false c.loop-row.invariant (c.push-2.ensures.ascii (omega arith)) c.push-2.ensures.bytes)
