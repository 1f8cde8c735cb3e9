use Rattle.std.proofs.Common.{◌≡◌, ◌++◌, None, is_some, set, rules, nat_eq, sym, ap, ◌∙◌}
use Rattle.std.specs.HashMap.{get}
use Rattle.interleaving.specs.JobEntry.{place_at}
use Rattle.interleaving.specs.JobRing.{items_below, Row}
use Rattle.interleaving.proofs.PlacesByNumber.{none_from}
use Rattle.interleaving.proofs.JobRings.{at_lower, at_recent, lower_set, recent_set, gaps_lowered}
use Rattle.interleaving.proofs.job_ring.JobRing.free.Goals as goal

pub returns-then-number-self-clause-value : goal.returns-then-number-self-clause-value
returns-then-number-self-clause-value c =
    let r = c.self.inside in
    let at = get nat_eq r.older in
    let was : c.is_some.result ≡ is_some (at c.args.number) = search rules in
    was ∙ ap is_some (sym (at_lower at r.base r.recent.items c.args.number c.if-number-self.true) ∙ ap (λ (s : Row). place_at s.items c.args.number) c.self.view_is)

pub returns-then-number-self-clause-items : goal.returns-then-number-self-clause-items
returns-then-number-self-clause-items c =
    let r = c.self.inside in
    lower_set (get nat_eq r.older) r.base r.recent.items (get nat_eq c.remove.new.self) c.args.number None c.if-number-self.true c.remove.ensures.updates.0 ∙ ap (λ (s : Row). set s.items c.args.number None) c.self.view_is

pub returns-clause-value : goal.returns-clause-value
returns-clause-value c =
    let r = c.self.inside in
    c.clear-was_kept.ensures.value ∙ ap is_some (sym (at_recent (get nat_eq r.older) r.base r.recent.items c.args.number c.if-number-self.false) ∙ ap (λ (s : Row). place_at s.items c.args.number) c.self.view_is)

pub returns-clause-items : goal.returns-clause-items
returns-clause-items c =
    let r = c.self.inside in
    let at = get nat_eq r.older in
    gaps_lowered at r.base c.skip_gaps.result c.skip_gaps.new.recent.items (none_from at r.base c.self.invariant.are_lower)
    ∙ ap (λ xs. items_below at r.base ++ xs) (sym c.skip_gaps.ensures.items ∙ c.clear-was_kept.ensures.items)
    ∙ recent_set at r.base r.recent.items c.args.number None c.if-number-self.false
    ∙ ap (λ (s : Row). set s.items c.args.number None) c.self.view_is
