use Rattle.std.proofs.Common.{◌+◌, ◌<◌, ◌∷◌, ◌++◌, length, nat_eq, refl, sym, ap, ◌∙◌, arith}
use Rattle.std.specs.HashMap.{get}
use Rattle.interleaving.specs.JobRing.{items_below, Row}
use Rattle.interleaving.proofs.PlacesByNumber.{none_from, still_below}
use Rattle.interleaving.proofs.JobRings.{first_lowered, gaps_lowered, first_and_rest}
use Rattle.interleaving.proofs.job_ring.JobRing.shorten.Goals as goal

pub returns-clause-items : goal.returns-clause-items
returns-clause-items c =
    let r = c.self.inside in
    let at = get nat_eq r.older in
    let after = get nat_eq c.insert.new.self in
    let rest = c.pop_front.new.self.items in
    let long : 0 < length r.recent.items = omega (arith, c.in-Some-Some.ensures.variant.0 refl) in
    let first = first_and_rest r.recent.items rest c.in-Some-Some.field-0.now c.in-Some-Some.ensures.lookup long c.pop_front.ensures.rest in
    let updated = c.in_ok-insert.ensures.updates.0 in
    let lower = still_below at after (r.base + 1) r.base _ (λ k place found. let low = c.self.invariant.are_lower k place found in omega (arith, low)) (omega arith) updated in
    gaps_lowered after (r.base + 1) c.skip_gaps.result c.skip_gaps.new.recent.items (none_from after (r.base + 1) lower)
    ∙ ap (λ xs. items_below after (r.base + 1) ++ xs) (sym c.skip_gaps.ensures.items)
    ∙ first_lowered at r.base rest after _ updated
    ∙ ap (λ xs. items_below at r.base ++ xs) (sym (first ∙ ap (λ x. x ∷ rest) c.in-Some-Some.field-0-is))
    ∙ ap (λ (s : Row). s.items) c.self.view_is
