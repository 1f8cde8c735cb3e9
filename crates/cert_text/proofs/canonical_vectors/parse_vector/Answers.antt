use Rattle.std.proofs.Common.{length, ℕ, List, Vec, Global, map, codes, ap, ◌∙◌}
use Rattle.std.proofs.lemmas.Bool.{and_from}
use Rattle.serde_json.proofs.OnLiterals.{serde_json_on_literals}
use Rattle.cert_text.specs.CertText.{numbers_data, rows_data, vector_data}
use Rattle.weights.specs.Vector.{Vector}
use Rattle.cert_text.proofs.Fits.{rows_shape}
use Rattle.cert_text.proofs.Prefixes.{triple_read}
use Rattle.cert_text.proofs.canonical_vectors.parse_vector.Goals as goal

abbrev items : Vec ℕ Global → List ℕ
items row = row.items

pub returns-clause-text : goal.returns-clause-text
unfolding vector_data serde_json_on_literals
returns-clause-text c =
    triple_read (codes "classes") (codes "clients") (codes "workers")
    (rows_data (map items c.in_ok-classes.classes.items)) (rows_data (map items c.in_ok-clients.clients.items)) (numbers_data c.in_ok-workers.workers.items) _ _ _ _ _ _ _ _
    c.in_ok-rest.ensures c.in_ok-classes.ensures.text c.in_ok-rest-2.ensures c.in_ok-clients.ensures.text c.in_ok-rest-3.ensures c.in_ok-workers.ensures.text c.in_ok-rest-4.ensures

pub returns-clause-fits : goal.returns-clause-fits
returns-clause-fits c =
    let v : Vector = record { workers = c.in_ok-workers.workers.items; classes = map items c.in_ok-classes.classes.items; clients = map items c.in_ok-clients.clients.items } in
    let workers = c.in_ok-workers.ensures.count ∙ ap length c.pools.ensures.value in
    and_from _ _ (rows_shape c.args.plan.now v workers c.in_ok-classes.ensures.rows c.in_ok-clients.ensures.rows)
    (and_from _ _ (and_from _ _ c.in_ok-workers.ensures.small c.in_ok-classes.ensures.small) c.in_ok-clients.ensures.small)
