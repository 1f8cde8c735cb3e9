use Rattle.std.proofs.Common.{rules, ◌≡◌, ◌+◌, ℕ, List, [], ◌∷◌, ◌++◌, get_or, ap, ap₂, ◌∙◌}
use Rattle.size_search.specs.Steady.{weights_from, weight_at}
use Rattle.size_search.proofs.Computations.{first-weight}
use Rattle.size_search.proofs.body.class_row.Goals as goal

pub returns : goal.returns
returns c =
    let plan = c.args.plan.now in
    let v = c.args.vector.now in
    let body = c.args.body.now in
    let made : c.in_ok-row.row.items ≡ weights_from plan v 1 body (c.most-last.result + 1) body = c.in_ok-row.ensures in
    let first : c.number_at-queued.result ≡ get_or c.in_ok-row.row.items 0 0 = c.number_at-queued.ensures ∙ ap (λ (items : List ℕ). get_or items 0 0) c.deref.ensures.value in
    let all : c.push.new.self.items ≡ c.number_at-queued.result ∷ (c.in_ok-row.row.items ++ (c.most-last.result + 1) ∷ []) = search rules in
    let queued : c.number_at-queued.result ≡ weight_at plan v 1 body (c.most-last.result + 1) body = first ∙ (ap (λ (items : List ℕ). get_or items 0 0) made ∙ first-weight plan v 1 body (c.most-last.result + 1) body) in
    all
    ∙ (ap₂ (λ (n : ℕ) (items : List ℕ). n ∷ (items ++ (c.most-last.result + 1) ∷ [])) queued made
    ∙ ap (λ (n : ℕ). weight_at plan v 1 body (n + 1) body ∷ (weights_from plan v 1 body (n + 1) body ++ (n + 1) ∷ [])) c.most-last.ensures.value)
