use Rattle.std.proofs.Common.{false, arith}
use Rattle.std.proofs.lemmas.Grind.{common_steps}
use Rattle.conformance.specs.Family.{is_of_family}
use Rattle.conformance.proofs.Names.{names_by}
use Rattle.conformance.proofs.family.is_of_family.Goals as goal

pub returns-in-Some-clause-names : goal.returns-in-Some-clause-names
unfolding is_of_family
returns-in-Some-clause-names c =
    names_by c.args.label.now c.args.name.now c.is_family_end.result (grind (arith, common_steps))

pub returns-in-None-clause-names : goal.returns-in-None-clause-names
unfolding is_of_family
returns-in-None-clause-names c = names_by c.args.label.now c.args.name.now false (grind (arith, common_steps))
