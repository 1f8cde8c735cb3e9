use Rattle.std.proofs.Common.{◌≡◌, drop, length}
use Rattle.support.specs.Reading.{check_each}
use Rattle.job_bodies.specs.declared.fault.Part.TheVariants as part
use Rattle.job_bodies.specs.Checks.{check_body}
use Rattle.job_bodies.proofs.build.check_class_bodies.Given as goal

abbrev pub invariant-loop-index : goal.invariant-loop-index
invariant-loop-index l = check_each (λ index class. check_body (length l.classes) part.Class index class.body) l.index (drop l.index l.classes) ≡ check_each (λ index class. check_body (length l.classes) part.Class index class.body) 0 l.classes
