use Rattle.std.proofs.Common.{◌≡◌, ℕ, List, [], ◌∷◌, ◌++◌, ◌+◌, get_or, drop, sym, ap, ◌∙◌, append_assoc, rules}
use Rattle.job_bodies.specs.declared.action.Action.{Action}
use Rattle.job_bodies.specs.declared.action.Action.TheVariants.{Work, Get}
use Rattle.job_bodies.specs.Plan.{submitted_class}
use Rattle.size_search.specs.JobGraphs.{gets_of}
use Rattle.size_search.proofs.JobGraphs.{turn_at, no_get}
use Rattle.size_search.proofs.job_graphs.push_gets.Goals as goal
use Rattle.size_search.proofs.job_graphs.push_gets.Goals.{in-Get+in_ok-push, in_default}

pub loop-action-preserved : goal.loop-action-preserved
loop-action-preserved c =
    let body = c.args.body.now in
    let i = c.loop-action.action-index in
    let x = get_or body i (Work 0) in
    let rest = drop (i + 1) body in
    let front = c.loop-action.nodes.items in
    let turn = sym (turn_at (gets_of body) front body i c.loop-action-test.true) ∙ c.loop-action.invariant in
    elim c.match-action.branch [
      | in-Get+in_ok-push w ↦
          let is : x ≡ Get w.in-Get.submit = search rules in
          let items : c.match-action.nodes.items ≡ front ++ submitted_class body w.in-Get.submit ∷ [] = search rules in
          ap (λ (nodes : List ℕ). nodes ++ gets_of body rest) items
          ∙ (append_assoc front (submitted_class body w.in-Get.submit ∷ []) (gets_of body rest) ∙ (ap (λ (y : Action). front ++ gets_of body (y ∷ rest)) (sym is) ∙ turn))
      | in_default w ↦
          let items : c.match-action.nodes.items ≡ front = search rules in
          ap (λ (nodes : List ℕ). nodes ++ gets_of body rest) items
          ∙ (ap (λ (nodes : List ℕ). front ++ nodes) (sym (no_get body x rest (λ t (same : x ≡ Get t). w.in_default.not-Get t (search rules)))) ∙ turn)
    ]
