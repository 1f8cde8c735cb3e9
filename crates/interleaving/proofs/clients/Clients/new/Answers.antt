use Rattle.std.proofs.Common.{◌≡◌, Some, None, sym, ap, subst, ◌∙◌}
use Rattle.interleaving.specs.Clients.{IsRising, starting}
use Rattle.interleaving.proofs.ClientsStanding.{rising_ends, starting_ends, standing-none}
use Rattle.interleaving.proofs.clients.Clients.new.Goals as goal

pub invariant_of-result : goal.invariant_of-result
invariant_of-result c = record {
  rising = subst (IsRising 0) (sym c.in_ok-ends.ensures) (rising_ends 0 c.args.kinds.now);
  inside = λ n client moved. absurd (let both : ◌≡◌ None (Some client) = sym (c.new.ensures n) ∙ moved in cc);
}

pub returns : goal.returns
returns c =
    standing-none _ 0 _ c.new.ensures ∙ ap (starting 0 0) c.in_ok-ends.ensures ∙ starting_ends 0 0 c.args.kinds.now
