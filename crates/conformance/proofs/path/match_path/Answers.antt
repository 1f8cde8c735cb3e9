use Rattle.std.proofs.Common.{subst}
use Rattle.conformance.specs.declared.path_match.PathMatch.{PathMatch}
use Rattle.conformance.specs.PathMatch.{IsMatch}
use Rattle.conformance.proofs.FewLists.{few_lists}
use Rattle.conformance.proofs.path.match_path.Goals as goal

pub returns-else-fits-clause-decided : goal.returns-else-fits-clause-decided
returns-else-fits-clause-decided c = λ all.
    let a = c.args in
    few_lists a.kind a.body.now a.path.now all (subst (λ (m : PathMatch). IsMatch a.kind a.path_state a.body.now a.path.now m) c.in-Undecided.is c.in_ok-path_match.ensures)
