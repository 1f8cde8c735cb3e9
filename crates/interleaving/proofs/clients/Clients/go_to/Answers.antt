use Rattle.std.proofs.Common.{◌≡◌, Some, None, is_some, false, slice_get, set, sym, ap, ◌∙◌, arith}
use Rattle.std.proofs.lemmas.Grind.{common_steps}
use Rattle.pool_machine.specs.declared.client_state.ClientState.{ClientState}
use Rattle.interleaving.specs.MovedClients.{moved_at, at_position}
use Rattle.interleaving.specs.Clients.{ClientList, client_of, starting}
use Rattle.interleaving.proofs.ClientsStanding.{all_stay, goes_on, goes_out, out_inside, none_goes, client_at_start, start_position, none_there}
use Rattle.interleaving.proofs.clients.Clients.go_to.Goals as goal

pub returns-then-move_again : goal.returns-then-move_again
returns-then-move_again c =
    let p = c.self.inside in
    let n = c.args.number in
    let i = c.args.position in
    goes_on (moved_at p.moved) (starting 0 0 p.ends.items) n (moved_at c.move_again.new.self) i c.move_again.ensures.moves (sym c.move_again.ensures.is_among ∙ c.if-move_again.true) (c.self.invariant.inside n)
    ∙ ap (λ (l : ClientList). set l.items n (at_position i (client_of l.items n))) c.self.view_is

pub move_first-requires-clause-stood : goal.move_first-requires-clause-stood
move_first-requires-clause-stood c =
    let p = c.self.inside in
    let n = c.args.number in
    let none : is_some (moved_at p.moved n) ≡ false = sym c.move_again.ensures.is_among ∙ c.if-move_again.false in
    ap is_some (all_stay (moved_at p.moved) (starting 0 0 p.ends.items) n (moved_at c.move_again.new.self) c.args.position c.move_again.ensures.moves none n) ∙ none

pub move_first-requires-clause-room : goal.move_first-requires-clause-room
move_first-requires-clause-room c =
    let p = c.self.inside in
    let n = c.args.number in
    let none : is_some (moved_at p.moved n) ≡ false = sym c.move_again.ensures.is_among ∙ c.if-move_again.false in
    let first = ap (λ (l : ClientList). (client_of l.items n).position) (sym c.self.view_is)
    ∙ ap (λ (x : ClientState). x.position) (client_at_start (moved_at p.moved) (starting 0 0 p.ends.items) n none) ∙ start_position 0 0 p.ends.items n in
    let room = c.requires first in
    let same = ap (λ (l : ClientList). l.room) c.self.view_is in
    let spare = c.move_again.ensures.room in
    omega (arith, room, same, spare)

pub invariant_of-self-in-Some : goal.invariant_of-self-in-Some
invariant_of-self-in-Some c =
    let p = c.self.inside in
    let n = c.args.number in
    let none : is_some (moved_at p.moved n) ≡ false = sym c.move_again.ensures.is_among ∙ c.if-move_again.false in
    let found : slice_get (starting 0 0 p.ends.items) n ≡ Some c.in-Some.client = ap (λ ends. slice_get (starting 0 0 ends) n) (sym c.deref.ensures.value) ∙ sym c.start_of.ensures ∙ c.in-Some.is in
    record {
      rising = c.self.invariant.rising;
      inside = out_inside (moved_at p.moved) (starting 0 0 p.ends.items) n (moved_at c.move_again.new.self) c.args.position c.move_again.ensures.moves (moved_at c.move_first.new.self) c.in-Some.client none found c.move_first.ensures c.self.invariant.inside;
    }

pub returns-in-Some : goal.returns-in-Some
returns-in-Some c =
    let p = c.self.inside in
    let n = c.args.number in
    let i = c.args.position in
    let none : is_some (moved_at p.moved n) ≡ false = sym c.move_again.ensures.is_among ∙ c.if-move_again.false in
    let found : slice_get (starting 0 0 p.ends.items) n ≡ Some c.in-Some.client = ap (λ ends. slice_get (starting 0 0 ends) n) (sym c.deref.ensures.value) ∙ sym c.start_of.ensures ∙ c.in-Some.is in
    goes_out (moved_at p.moved) (starting 0 0 p.ends.items) n (moved_at c.move_again.new.self) i c.move_again.ensures.moves (moved_at c.move_first.new.self) c.in-Some.client none found c.move_first.ensures
    ∙ ap (λ (l : ClientList). set l.items n (at_position i (client_of l.items n))) c.self.view_is

pub returns-in_default : goal.returns-in_default
returns-in_default c =
    let p = c.self.inside in
    let n = c.args.number in
    let i = c.args.position in
    let clients = starting 0 0 p.ends.items in
    let none : is_some (moved_at p.moved n) ≡ false = sym c.move_again.ensures.is_among ∙ c.if-move_again.false in
    let no_members_no_activity : c.start_of.result ≡ None = grind (arith, common_steps) in
    let past = none_there clients n (ap (λ ends. slice_get (starting 0 0 ends) n) (sym c.deref.ensures.value) ∙ sym c.start_of.ensures ∙ no_members_no_activity) in
    none_goes (moved_at p.moved) clients n (moved_at c.move_again.new.self) i c.move_again.ensures.moves _ none past ∙ ap (λ (l : ClientList). set l.items n (at_position i (client_of l.items n))) c.self.view_is
