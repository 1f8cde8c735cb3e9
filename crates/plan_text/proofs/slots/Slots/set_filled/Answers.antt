use Rattle.std.proofs.Common.{cond, sym, ap, ◌∙◌, Option, ℕ, Some}
use Rattle.std.specs.Str.{bytes_eq}
use Rattle.std.proofs.lemmas.Map.Text.{hash_map_updates_str}
use Rattle.plan_text.proofs.NamePlaces.{slot_in_entries}
use Rattle.plan_text.proofs.slots.Slots.set_filled.Goals as goal

pub returns : goal.returns
returns c = λ other.
    let updated = hash_map_updates_str c.args.slot.now c.self.inside.positions c.insert.new.self _ c.in_ok-insert.ensures.updates other in
    rw (← c.self.view_is) (sym (slot_in_entries other c.insert.new.self.entries) ∙ updated ∙ ap (λ (found : Option ℕ). cond (bytes_eq c.args.slot.now other) (Some c.args.position) found) (slot_in_entries other c.self.inside.positions.entries))
