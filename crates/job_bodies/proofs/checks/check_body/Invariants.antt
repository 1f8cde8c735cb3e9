use Rattle.std.proofs.Common.{◌≡◌, drop, take}
use Rattle.support.specs.Reading.{check_each}
use Rattle.job_bodies.specs.Checks.{check_action}
use Rattle.job_bodies.specs.GetTable.{IsTableOf}
use Rattle.job_bodies.proofs.checks.check_body.Given as goal

abbrev pub invariant-loop-position : goal.invariant-loop-position
invariant-loop-position l =
    (check_each (check_action l.classes l.part l.index l.body) l.position (drop l.position l.body) ≡ check_each (check_action l.classes l.part l.index l.body) 0 l.body)
    × IsTableOf (take l.position l.body) l.got
