use Rattle.plan_text.proofs.KeyNames.{name_at_place}
use Rattle.plan_text.proofs.places.Places.key.Goals as goal

pub returns-clause-named : goal.returns-clause-named
returns-clause-named c =
    rw (← c.self.view_is) (name_at_place c.self.inside.text.now c.args.list.now c.args.index c.args.key.now c.deref.result.now c.in_ok-parts.parts.now c.place_of.result c.in_ok-parts.ensures c.place_of.ensures)
