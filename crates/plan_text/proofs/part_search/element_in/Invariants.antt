use Rattle.std.proofs.Common.{◌≡◌, drop}
use Rattle.plan_text.specs.Places.{element_in}
use Rattle.plan_text.proofs.part_search.element_in.Given as goal

abbrev pub invariant-loop-i : goal.invariant-loop-i
invariant-loop-i l = record { rest : element_in l.before (drop l.i l.values) ≡ element_in l.fn.index l.values }
