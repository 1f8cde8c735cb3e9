use Rattle.std.proofs.Common.{List, ℕ, Bor, ◌∙◌}
use Rattle.std.specs.Str.{bytes_eq}
use Rattle.plan_text.proofs.NamePlaces.{position_of_map}
use Rattle.plan_text.proofs.names.Names.place.Goals as goal

abbrev now : Bor (List ℕ) → List ℕ
now name = name.now

pub returns : goal.returns
returns c =
    rw (← c.self.view_is) (c.get_index_of.ensures.index ∙ position_of_map (bytes_eq c.args.name.now) now c.self.inside.names.keys)
