use Rattle.std.proofs.Common.{◌≡◌, ◌++◌, ◌∷◌, [], List, ℕ, Vec, Global, map}
use Rattle.std.proofs.lemmas.List.{map_push}
use Rattle.std.proofs.lemmas.Result.{err_from_is_err_and}
use Rattle.serde_json.specs.View.{view}
use Rattle.support.proofs.Loops.{at_index_seen, reads_more, reads_stop}
use Rattle.cert_text.proofs.vectors.client_rows_in.Goals as goal

abbrev items : Vec ℕ Global → List ℕ
items row = row.items

pub loop-client-preserved : goal.loop-client-preserved
loop-client-preserved c =
    let here = at_index_seen view c.args.values.now c.loop-client.client c.index-values-client.result c.loop-client-test.true c.index-values-client.is in
    let pushed : map items c.push.new.self.items ≡ map items c.loop-client.rows.items ++ c.in_ok-row.row.items ∷ [] = rw c.in_ok-push.ensures.items (map_push items c.loop-client.rows.items c.in_ok-row.row) in
    let given = rw c.client_points.ensures at c.in_ok-row.ensures in
    rw pushed (reads_more _ _ _ _ _ _ here given c.loop-client.invariant)

pub returns-in_err-row : goal.returns-in_err-row
returns-in_err-row c =
    let here = at_index_seen view c.args.values.now c.loop-client.client c.index-values-client.result c.loop-client-test.true c.index-values-client.is in
    let p = err_from_is_err_and c.from_residual-in_err-row.result c.from_residual-in_err-row.ensures.1 in
    let given = rw c.client_points.ensures at c.in_err-row.ensures in
    rw (p.1, p.2) (reads_stop _ _ _ _ _ _ here given c.loop-client.invariant)
