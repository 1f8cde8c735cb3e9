use Rattle.std.proofs.Common.{◌≡◌, drop}
use Rattle.plan_text.specs.Places.{entry_in}
use Rattle.plan_text.proofs.part_search.entry_in.Given as goal

abbrev pub invariant-loop-i : goal.invariant-loop-i
invariant-loop-i l = record { rest : entry_in l.text l.list l.before (drop l.i l.parts) ≡ entry_in l.text l.list l.fn.index l.parts }
