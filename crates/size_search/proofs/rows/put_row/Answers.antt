use Rattle.std.proofs.Common.{ℕ, List, map, set, ap, ◌∙◌, Vec, Global}
use Rattle.std.proofs.lemmas.List.{map-set}
use Rattle.weights.specs.Vector.{Vector}
use Rattle.size_search.proofs.RowSteps.{vector_of}
use Rattle.size_search.proofs.rows.put_row.Goals as goal

pub returns : goal.returns
returns c =
    let seen = λ (row : Vec ℕ Global). row.items in
    ap (λ (rows : List (List ℕ)). vector_of c.jobs.inside.workers.items rows (map seen c.jobs.inside.clients.items)) (map-set seen c.jobs.inside.classes.items c.args.number c.args.row)
    ∙ ap (λ (v : Vector). vector_of v.workers (set v.classes c.args.number c.args.row.items) v.clients) c.jobs.view_is
