use Rattle.std.proofs.Common.{◌≡◌, drop, map, take}
use Rattle.support.specs.Reading.{check_each}
use Rattle.job_bodies.specs.Checks.{check_class}
use Rattle.job_bodies.proofs.build.check_classes.Given as goal

abbrev pub invariant-loop-index : goal.invariant-loop-index
invariant-loop-index l = check_each (λ index. check_class l.fn.pools (take index (map (λ class. class.name) l.classes)) index) l.index (drop l.index l.classes) ≡ check_each (λ index. check_class l.fn.pools (take index (map (λ class. class.name) l.classes)) index) 0 l.classes
