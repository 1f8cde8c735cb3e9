use Rattle.std.proofs.Common.{◌≡◌, ◌-◌, ◌≤◌, None, length, rules, nat_eq, ⊎_elim, refl, sym, ap, ◌∙◌, arith}
use Rattle.std.specs.HashMap.{get}
use Rattle.std.proofs.lemmas.Bool.{cases_lt}
use Rattle.std.proofs.lemmas.List.{get_or_past, get_or_read_under}
use Rattle.interleaving.specs.JobEntry.{place_at}
use Rattle.interleaving.specs.JobRing.{Row}
use Rattle.interleaving.proofs.JobRings.{at_lower, at_recent}
use Rattle.interleaving.proofs.job_ring.JobRing.get.Goals as goal

pub returns-then-number-self : goal.returns-then-number-self
returns-then-number-self c =
    let r = c.self.inside in
    c.get_older.ensures ∙ sym (at_lower (get nat_eq r.older) r.base r.recent.items c.args.number c.if-number-self.true) ∙ ap (λ (s : Row). place_at s.items c.args.number) c.self.view_is

pub returns-in_err-get : goal.returns-in_err-get
returns-in_err-get c =
    let r = c.self.inside in
    let none : c.from_residual.result ≡ None = search rules in
    let past : length r.recent.items ≤ c.args.number - r.base = ⊎_elim (λ low. absurd (let some = c.in_err-get.ensures.variant.1 (omega (arith, low)) in cc)) (λ past. past) (cases_lt (c.args.number - r.base) (length r.recent.items)) in
    none
    ∙ sym (get_or_past r.recent.items (c.args.number - r.base) None past)
    ∙ sym (at_recent (get nat_eq r.older) r.base r.recent.items c.args.number c.if-number-self.false)
    ∙ ap (λ (s : Row). place_at s.items c.args.number) c.self.view_is

pub returns : goal.returns
returns c =
    let r = c.self.inside in
    get_or_read_under r.recent.items (c.args.number - r.base) r.recent.len _ None c.in_ok-get.ensures.lookup (c.in_ok-get.ensures.variant.0 refl) (omega arith)
    ∙ sym (at_recent (get nat_eq r.older) r.base r.recent.items c.args.number c.if-number-self.false)
    ∙ ap (λ (s : Row). place_at s.items c.args.number) c.self.view_is
