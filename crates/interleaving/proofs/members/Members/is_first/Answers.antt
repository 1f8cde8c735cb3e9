use Rattle.std.proofs.Common.{ℕ, ◌-◌, List, nat_lt, get_or, ap, subst, ◌∙◌, arith}
use Rattle.std.specs.List.Sorted.{IsNonDecreasing}
use Rattle.interleaving.proofs.Membership.{first_test}
use Rattle.interleaving.proofs.members.Members.is_first.Goals as goal

pub returns-else-place-eq0 : goal.returns-else-place-eq0
returns-else-place-eq0 c =
    let members = c.args.self.now in
    let place = c.args.place in
    let rises : IsNonDecreasing members = subst IsNonDecreasing c.self.view_is (c.self.invariant c.if-self.true) in
    ap (λ (numbers : List ℕ). nat_lt (get_or numbers (place - 1) 0) (get_or numbers place 0)) c.numbers-numbers.ensures ∙ first_test members rises place c.requires (omega arith)
