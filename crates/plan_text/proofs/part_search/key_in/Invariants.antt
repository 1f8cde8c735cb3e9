use Rattle.std.proofs.Common.{◌≡◌, drop}
use Rattle.plan_text.specs.Places.{key_in}
use Rattle.plan_text.proofs.part_search.key_in.Given as goal

abbrev pub invariant-loop-i : goal.invariant-loop-i
invariant-loop-i l = record { rest : key_in l.text l.name (drop l.i l.parts) ≡ key_in l.text l.name l.parts }
