use Rattle.std.proofs.Common.{List, ℕ, Bor, not, map, sym, ap, ◌∙◌}
use Rattle.std.specs.List.{list_any}
use Rattle.std.specs.Str.{bytes_eq}
use Rattle.job_bodies.proofs.Loops.{list_any_of_map}
use Rattle.plan_text.proofs.NamePlaces.{names_after}
use Rattle.plan_text.proofs.names.Names.add.Goals as goal

abbrev now : Bor (List ℕ) → List ℕ
now name = name.now

pub returns-clause-is_new : goal.returns-clause-is_new
returns-clause-is_new c =
    rw (← c.self.view_is) (c.in_ok-is_new.ensures.added ∙ ap not (sym (list_any_of_map (bytes_eq c.args.name.now) now c.self.inside.names.keys)))

pub returns-clause-names : goal.returns-clause-names
returns-clause-names c =
    let keys = c.self.inside.names.keys in
    let there = list_any (λ (k : Bor (List ℕ)). bytes_eq c.args.name.now k.now) keys in
    rw (← c.self.view_is, c.in_ok-is_new.ensures.added) (ap (map now) c.in_ok-is_new.ensures.keys ∙ names_after c.args.name keys there)
