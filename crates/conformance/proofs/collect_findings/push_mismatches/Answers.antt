use Rattle.std.proofs.Common.{ℕ, List, subst}
use Rattle.std.proofs.lemmas.Result.{on_ok_weaker}
use Rattle.conformance.specs.CollectedFindings as spec
use Rattle.conformance.specs.JobSet.{has_job}
use Rattle.conformance.specs.Lines.{lines_of}
use Rattle.conformance.proofs.collect_findings.push_mismatches.Goals as goal

pub returns : goal.returns
returns c =
    on_ok_weaker c.push_described.result
    (λ adds. subst (λ (text : List ℕ). spec.Adds c.args.findings.now.items (spec.AreMismatchesOf c.args.plan.now (lines_of text) (has_job c.args.classless.now) c.args.mismatches.now) c.push_described.new.findings.items) c.in_ok-first.ensures adds)
    c.push_described.ensures
