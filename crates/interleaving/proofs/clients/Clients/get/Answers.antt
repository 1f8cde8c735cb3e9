use Rattle.std.proofs.Common.{◌≡◌, Some, None, slice_get, rules, sym, ap, ◌∙◌}
use Rattle.interleaving.specs.MovedClients.{moved_at}
use Rattle.interleaving.specs.Clients.{ClientList, starting}
use Rattle.interleaving.proofs.ClientsStanding.{moved_found, start_seen}
use Rattle.interleaving.proofs.clients.Clients.get.Goals as goal

pub returns-in-Some : goal.returns-in-Some
returns-in-Some c =
    let p = c.self.inside in
    let client = c.in-Some.client in
    let moved : moved_at p.moved c.args.number ≡ Some client = search rules in
    sym (moved_found (moved_at p.moved) (starting 0 0 p.ends.items) c.args.number client moved (c.self.invariant.inside c.args.number client moved)) ∙ ap (λ (l : ClientList). slice_get l.items c.args.number) c.self.view_is

pub returns-in-None : goal.returns-in-None
returns-in-None c =
    let p = c.self.inside in
    let none : moved_at p.moved c.args.number ≡ None = search rules in
    c.start_of.ensures ∙ ap (λ ends. slice_get (starting 0 0 ends) c.args.number) c.deref.ensures.value ∙ sym (start_seen (moved_at p.moved) (starting 0 0 p.ends.items) c.args.number none) ∙ ap (λ (l : ClientList). slice_get l.items c.args.number) c.self.view_is
