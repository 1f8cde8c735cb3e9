use Rattle.std.proofs.Common.{◌≡◌, ℕ, List, [], ◌∷◌, ◌++◌, ◌+◌, get_or, drop, sym, ap, ◌∙◌, append_assoc, rules}
use Rattle.job_bodies.specs.declared.action.Action.{Action}
use Rattle.job_bodies.specs.declared.action.Action.TheVariants.{Work, Submit}
use Rattle.size_search.specs.JobGraphs.{submits_of}
use Rattle.size_search.proofs.JobGraphs.{turn_at, no_submit}
use Rattle.size_search.proofs.job_graphs.push_submits.Goals as goal
use Rattle.size_search.proofs.job_graphs.push_submits.Goals.{in-Submit+in_ok-push, in_default}

pub loop-action-preserved : goal.loop-action-preserved
loop-action-preserved c =
    let body = c.args.body.now in
    let i = c.loop-action.action-index in
    let x = get_or body i (Work 0) in
    let rest = drop (i + 1) body in
    let front = c.loop-action.nodes.items in
    let turn = sym (turn_at submits_of front body i c.loop-action-test.true) ∙ c.loop-action.invariant in
    elim c.match-action.branch [
      | in-Submit+in_ok-push w ↦
          let is : x ≡ Submit w.in-Submit.class = search rules in
          let items : c.match-action.nodes.items ≡ front ++ w.in-Submit.class ∷ [] = search rules in
          ap (λ (nodes : List ℕ). nodes ++ submits_of rest) items
          ∙ (append_assoc front (w.in-Submit.class ∷ []) (submits_of rest) ∙ (ap (λ (y : Action). front ++ submits_of (y ∷ rest)) (sym is) ∙ turn))
      | in_default w ↦
          let items : c.match-action.nodes.items ≡ front = search rules in
          ap (λ (nodes : List ℕ). nodes ++ submits_of rest) items
          ∙ (ap (λ (nodes : List ℕ). front ++ nodes) (sym (no_submit x rest (λ k (same : x ≡ Submit k). w.in_default.not-Submit k (search rules)))) ∙ turn)
    ]
