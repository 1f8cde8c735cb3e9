use Rattle.std.proofs.Common.{◌≡◌, ap, ◌∙◌}
use Rattle.std.specs.Map.{lookup}
use Rattle.interleaving.specs.SubmitMap.{SubmitMapView, same_pair, place_of, entry_at, number_or, number_at}
use Rattle.interleaving.specs.declared.submit_map.SubmitMap.TheInside.{Inside}
use Rattle.interleaving.proofs.submit_map.SubmitMap.reserve.Goals as goal
use Rattle.interleaving.proofs.submit_map.SubmitMap.reserve.Goals.{then-is_empty+in_ok-allocate_table, else-is_empty}

pub returns-clause-numbers : goal.returns-clause-numbers
returns-clause-numbers c q =
    let r = c.self.inside in
    let laid_out = c.if-is_empty.self-inside in
    let p = place_of q in
    let at = λ (s : Inside). number_or q (entry_at s.table.items p) (lookup (same_pair q) s.others.entries) in
    let stays : at laid_out ≡ at r = elim c.if-is_empty.branch [
      | then-is_empty+in_ok-allocate_table w ↦ ap at w.self-inside-is ∙ ap (λ e. number_or q e (lookup (same_pair q) r.others.entries)) (w.allocate_table.ensures p)
      | else-is_empty w ↦ ap at w.self-inside-is
    ] in
    ap (number_or q (entry_at laid_out.table.items p)) (c.reserve.ensures.entries.2 q) ∙ stays ∙ ap (λ (l : SubmitMapView). number_at l q) c.self.view_is
