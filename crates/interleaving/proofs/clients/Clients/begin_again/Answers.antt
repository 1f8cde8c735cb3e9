use Rattle.std.proofs.Common.{set, ap, ◌∙◌}
use Rattle.interleaving.specs.MovedClients.{moved_at, at_position}
use Rattle.interleaving.specs.Clients.{ClientList, client_of, starting}
use Rattle.interleaving.proofs.ClientsStanding.{begins_again, start_position}
use Rattle.interleaving.proofs.clients.Clients.begin_again.Goals as goal

pub returns : goal.returns
returns c =
    let p = c.self.inside in
    let n = c.args.number in
    begins_again (moved_at p.moved) (starting 0 0 p.ends.items) n (moved_at c.move_again.new.self) c.move_again.ensures.moves (start_position 0 0 p.ends.items n) (c.self.invariant.inside n) ∙ ap (λ (l : ClientList). set l.items n (at_position 0 (client_of l.items n))) c.self.view_is
