use Rattle.std.proofs.Common.{◌≡◌, filter, []}
use Rattle.std.specs.List.{range_with_len}
use Rattle.conformance.specs.Family.{is_class_in_family}
use Rattle.conformance.proofs.family.first_class.Given as goal

abbrev pub invariant-loop-class : goal.invariant-loop-class
invariant-loop-class l = filter (is_class_in_family l.plan l.label l.pool) (range_with_len 0 l.class) ≡ []
