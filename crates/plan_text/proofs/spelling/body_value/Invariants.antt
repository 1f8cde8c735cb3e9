use Rattle.std.proofs.Common.{◌≡◌, map, take}
use Rattle.std.specs.List.{enumerate_from}
use Rattle.toml.specs.Data.{string}
use Rattle.toml.specs.View.{view}
use Rattle.plan_text.specs.Spelling as spec
use Rattle.plan_text.proofs.spelling.body_value.Given as goal

abbrev pub invariant-loop-position : goal.invariant-loop-position
invariant-loop-position l =
    map view l.texts.items ≡ take l.position (map (λ entry. string (spec.action_text (map (λ class. class.name) l.classes) l.body entry.0 entry.1)) (enumerate_from 0 l.body))
