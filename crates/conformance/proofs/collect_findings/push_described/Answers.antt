use Rattle.std.proofs.Common.{◌++◌, ◌∷◌, [], List, take, sym, subst, ap, ◌∙◌, append_assoc}
use Rattle.std.proofs.lemmas.List.{take_more}
use Rattle.conformance.specs.declared.classified_actor.ClassifiedActor.{ClassifiedActor}
use Rattle.conformance.specs.declared.finding.Finding.{Finding}
use Rattle.conformance.specs.declared.finding.Finding.TheVariants as finding
use Rattle.conformance.specs.CollectedFindings as made
use Rattle.conformance.specs.JobSet.{has_job}
use Rattle.conformance.specs.Lines.{lines_of}
use Rattle.conformance.proofs.CollectedLists.{zip_push}
use Rattle.conformance.proofs.collect_findings.push_described.Goals as goal

pub loop-reported-preserved : goal.loop-reported-preserved
loop-reported-preserved c =
    let lines = lines_of c.args.first.now in
    let is_classless = has_job c.args.classless.now in
    let found = finding.PathMismatch c.in_ok-line.line c.in_ok-line.mismatch in
    let current = c.loop-reported.invariant in
    let mismatches = c.args.mismatches.now in
    let reported = c.reported-item.result in
    let front = take_more mismatches c.loop-reported.reported-index reported c.loop-reported-test.true ∙ ap (λ (x : ClassifiedActor). take c.loop-reported.reported-index mismatches ++ x ∷ []) (sym c.reported-item.is) in
    record {
      more = current.more ++ found ∷ [];
      after = c.in_ok-push.ensures.items ∙ (ap (λ (xs : List Finding). xs ++ found ∷ []) current.after ∙ append_assoc c.args.findings.now.items current.more (found ∷ []));
      so = subst (λ (xs : List ClassifiedActor). made.AreMismatchesOf c.args.plan.now lines is_classless xs (current.more ++ found ∷ [])) (sym front)
          (zip_push (made.IsMismatchFinding c.args.plan.now lines is_classless) (take c.loop-reported.reported-index mismatches) current.more reported found current.so (made.mismatches c.in_ok-line.line c.in_ok-line.mismatch c.in_ok-line.ensures));
    }
