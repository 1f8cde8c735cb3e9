use Rattle.interleaving.proofs.Membership.{rise_if}
use Rattle.interleaving.proofs.members.Members.new.Goals as goal

pub invariant_of-result : goal.invariant_of-result
invariant_of-result c = rise_if c.args.numbers.now c.is_sorted.result c.is_sorted.ensures.cases
