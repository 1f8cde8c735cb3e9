use Rattle.std.proofs.Common.{filter}
use Rattle.std.specs.List.{range_with_len}
use Rattle.conformance.specs.Family.{is_client_in_family}
use Rattle.conformance.specs.FamilyMatch.{client_body}
use Rattle.conformance.specs.declared.step.ActorKind.TheVariants as actor_kind
use Rattle.conformance.specs.FamilyResult.{IsCorrectMatch}
use Rattle.conformance.proofs.members.kinds_of_path.Given as goal

abbrev pub invariant-loop-kind : goal.invariant-loop-kind
invariant-loop-kind l = IsCorrectMatch l.reported actor_kind.Round (client_body l.plan) l.path_state l.path (filter (is_client_in_family l.plan l.label) (range_with_len 0 l.kind))
