use Rattle.std.proofs.Common.{◌≡◌, ℕ, List, map, ap, ap₂, ◌∙◌, Vec, Global}
use Rattle.weights.specs.Vector.{Vector}
use Rattle.size_search.specs.Steady.{copied_row}
use Rattle.size_search.proofs.RowSteps.{vector_of, copied_vector}
use Rattle.size_search.proofs.certificate.copied.Goals as goal

pub returns : goal.returns
returns c =
    let seen = λ (row : Vec ℕ Global). row.items in
    let copy = copied_row c.args.is_zero in
    let v = c.vector.inside in
    let workers : c.in_ok-workers.workers.items ≡ copy v.workers.items = c.in_ok-workers.ensures ∙ ap copy c.deref.ensures.value in
    let copies = λ (rows : List (Vec ℕ Global)). map copy (map seen rows) in
    let classes : map seen c.in_ok-classes.classes.items ≡ copies v.classes.items = c.in_ok-classes.ensures ∙ ap copies c.deref-2.ensures.value in
    let clients : map seen c.in_ok-clients.clients.items ≡ copies v.clients.items = c.in_ok-clients.ensures ∙ ap copies c.deref-3.ensures.value in
    ap (λ (ws : List ℕ). vector_of ws (map seen c.in_ok-classes.classes.items) (map seen c.in_ok-clients.clients.items)) workers
    ∙ (ap₂ (vector_of (copy v.workers.items)) classes clients
    ∙ (ap (λ (any : Vector). vector_of (copy any.workers) (map copy any.classes) (map copy any.clients)) c.vector.view_is
    ∙ copied_vector c.args.vector.now c.args.is_zero))
