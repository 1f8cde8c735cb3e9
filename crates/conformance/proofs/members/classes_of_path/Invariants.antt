use Rattle.std.proofs.Common.{filter}
use Rattle.std.specs.List.{range_with_len}
use Rattle.conformance.specs.Family.{is_class_in_family}
use Rattle.conformance.specs.FamilyMatch.{class_body}
use Rattle.conformance.specs.declared.step.ActorKind.TheVariants as actor_kind
use Rattle.conformance.specs.FamilyResult.{IsCorrectMatch}
use Rattle.conformance.proofs.members.classes_of_path.Given as goal

abbrev pub invariant-loop-class : goal.invariant-loop-class
invariant-loop-class l = IsCorrectMatch l.reported actor_kind.Job (class_body l.plan) l.path_state l.path (filter (is_class_in_family l.plan l.label l.pool) (range_with_len 0 l.class))
