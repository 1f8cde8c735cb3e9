use Rattle.std.proofs.Common.{◌≡◌, ◌-◌, true, Some, is_some, IsSome, set, nat_eq, sym, ap, subst, ◌∙◌, arith}
use Rattle.std.specs.HashMap.{get}
use Rattle.interleaving.specs.JobEntry.{place_at}
use Rattle.interleaving.specs.JobRing.{Row}
use Rattle.interleaving.proofs.PlacesByNumber.{some_is, is_inside}
use Rattle.interleaving.proofs.JobRings.{at_lower, at_recent, lower_set, recent_set}
use Rattle.interleaving.proofs.job_ring.JobRing.set.Goals as goal

pub put-requires : goal.put-requires
put-requires c =
    let r = c.self.inside in
    subst IsSome (ap (λ (s : Row). place_at s.items c.args.number) (sym c.self.view_is) ∙ at_lower (get nat_eq r.older) r.base r.recent.items c.args.number c.if-number-self.true) c.requires

pub index_mut-requires : goal.index_mut-requires
index_mut-requires c =
    let r = c.self.inside in
    let n = c.args.number in
    let some : is_some (place_at r.recent.items (n - r.base)) ≡ true =
    ap is_some (sym (at_recent (get nat_eq r.older) r.base r.recent.items n c.if-number-self.false) ∙ ap (λ (s : Row). place_at s.items n) c.self.view_is) ∙ some_is (place_at c.args.self.now.items n) c.requires in
    let inside = is_inside r.recent.items (n - r.base) some in
    omega (arith, inside)

pub returns-then-number-self-clause-items : goal.returns-then-number-self-clause-items
returns-then-number-self-clause-items c =
    let r = c.self.inside in
    lower_set (get nat_eq r.older) r.base r.recent.items (get nat_eq c.put.new.older) c.args.number (Some c.args.place) c.if-number-self.true c.put.ensures.0 ∙ ap (λ (s : Row). set s.items c.args.number (Some c.args.place)) c.self.view_is

pub returns-else-number-self-clause-items : goal.returns-else-number-self-clause-items
returns-else-number-self-clause-items c =
    let r = c.self.inside in
    recent_set (get nat_eq r.older) r.base r.recent.items c.args.number (Some c.args.place) c.if-number-self.false ∙ ap (λ (s : Row). set s.items c.args.number (Some c.args.place)) c.self.view_is
