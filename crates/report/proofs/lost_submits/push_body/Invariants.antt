-- The texts so far and those of the remaining classes are all texts.
use Rattle.std.proofs.Common.{◌≡◌, ◌++◌, map}
use Rattle.std.specs.Prelude.{string_bytes}
use Rattle.report.specs.LostSubmits.{lost_class}
use Rattle.report.proofs.Rows.{rest_of}
use Rattle.report.proofs.lost_submits.push_body.Given as goal

abbrev pub invariant-loop-number : goal.invariant-loop-number
invariant-loop-number l =
    map string_bytes l.texts.items ++ rest_of (lost_class l.pool l.kind l.name l.body) l.plan.classes l.number
    ≡ map string_bytes l.fn.texts.items ++ rest_of (lost_class l.pool l.kind l.name l.body) l.plan.classes 0
