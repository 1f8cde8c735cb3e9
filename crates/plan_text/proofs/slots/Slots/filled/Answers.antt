use Rattle.std.proofs.Common.{◌∙◌}
use Rattle.plan_text.proofs.NamePlaces.{slot_in_entries}
use Rattle.plan_text.proofs.slots.Slots.filled.Goals as goal

pub returns : goal.returns
returns c = rw (← c.self.view_is) (c.copied.ensures ∙ c.get.ensures.value ∙ slot_in_entries c.args.slot.now c.self.inside.positions.entries)
