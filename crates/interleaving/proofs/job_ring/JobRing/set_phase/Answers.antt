use Rattle.std.proofs.Common.{IsSome, set, ◌-◌, ◌++◌, nat_eq, sym, ap, subst, ◌∙◌}
use Rattle.std.specs.HashMap.{get}
use Rattle.interleaving.specs.JobEntry.{place_at, place_in_phase}
use Rattle.interleaving.specs.JobRing.{items_below, Row, row_items}
use Rattle.interleaving.proofs.JobRings.{at_lower, at_recent, lower_set, recent_set}
use Rattle.interleaving.proofs.job_ring.JobRing.set_phase.Goals as goal

pub put_phase-requires : goal.put_phase-requires
put_phase-requires c =
    let r = c.self.inside in
    subst IsSome (ap (λ (s : Row). place_at s.items c.args.number) (sym c.self.view_is) ∙ at_lower (get nat_eq r.older) r.base r.recent.items c.args.number c.if-number-self.true) c.requires

pub returns-then-number-self-clause-items : goal.returns-then-number-self-clause-items
returns-then-number-self-clause-items c =
    let r = c.self.inside in
    let n = c.args.number in
    let at = get nat_eq r.older in
    lower_set at r.base r.recent.items (get nat_eq c.put_phase.new.older) n (place_in_phase c.args.phase (at n)) c.if-number-self.true c.put_phase.ensures.0
    ∙ ap (λ o. set (row_items r.older r.base r.recent.items) n (place_in_phase c.args.phase o)) (sym (at_lower at r.base r.recent.items n c.if-number-self.true))
    ∙ ap (λ (s : Row). set s.items n (place_in_phase c.args.phase (place_at s.items n))) c.self.view_is

pub returns-else-number-self-clause-items : goal.returns-else-number-self-clause-items
returns-else-number-self-clause-items c =
    let r = c.self.inside in
    let n = c.args.number in
    let at = get nat_eq r.older in
    ap (λ xs. items_below at r.base ++ xs) c.set_phase_at.ensures.items
    ∙ recent_set at r.base r.recent.items n (place_in_phase c.args.phase (place_at r.recent.items (n - r.base))) c.if-number-self.false
    ∙ ap (λ o. set (row_items r.older r.base r.recent.items) n (place_in_phase c.args.phase o)) (sym (at_recent at r.base r.recent.items n c.if-number-self.false))
    ∙ ap (λ (s : Row). set s.items n (place_in_phase c.args.phase (place_at s.items n))) c.self.view_is
