use Rattle.std.proofs.Common.{List, ℕ, ap, ◌∙◌}
use Rattle.std.proofs.lemmas.List.Sorted.{searched}
use Rattle.pool_machine.specs.Waiting.{is_member}
use Rattle.interleaving.proofs.Membership.{member_found}
use Rattle.interleaving.proofs.members.Members.contains.Goals as goal

pub returns-then-self : goal.returns-then-self
returns-then-self c =
    let numbers = c.self.inside.numbers.now in
    let found = searched numbers c.args.number c.binary_search.result c.binary_search.ensures.position (λ i j order inside. c.self.invariant c.if-self.true i j 0 order inside) in
    c.is_ok.ensures.value ∙ member_found numbers c.args.number c.binary_search.result found ∙ ap (λ (members : List ℕ). is_member members c.args.number) c.self.view_is
