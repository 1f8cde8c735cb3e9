use Rattle.std.proofs.Common.{◌≡◌, drop}
use Rattle.plan_text.specs.Places.{header_in}
use Rattle.plan_text.proofs.part_search.header_in.Given as goal

abbrev pub invariant-loop-i : goal.invariant-loop-i
invariant-loop-i l = record { rest : header_in l.text l.name (drop l.i l.parts) ≡ header_in l.text l.name l.parts }
