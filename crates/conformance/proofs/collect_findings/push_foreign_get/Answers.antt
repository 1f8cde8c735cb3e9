use Rattle.std.proofs.Common.{◌≡◌, ◌∷◌, [], Option, Some, None, sym, subst}
use Rattle.std.proofs.lemmas.List.{append-nil}
use Rattle.recordings.specs.declared.foreign_get.ForeignGet.{ForeignGet}
use Rattle.recordings.specs.ForeignGets.{first_foreign_get}
use Rattle.conformance.specs.declared.finding.Finding.TheVariants as finding
use Rattle.conformance.specs.CollectedFindings as made
use Rattle.conformance.specs.Lines.{lines_of}
use Rattle.conformance.proofs.collect_findings.push_foreign_get.Goals as goal

pub returns-in_ok-push : goal.returns-in_ok-push
returns-in_ok-push c = λ so.
    let lines = lines_of c.args.recording.now in
    let found = finding.ForeignGet c.in-Some.get c.in_ok-label.label c.in_ok-job.job in
    let is : Some c.in-Some.get ≡ first_foreign_get lines = c.in-Some.ensures lines so in
    record {
      more = found ∷ [];
      after = c.in_ok-push.ensures.items;
      so = subst (λ (get : Option ForeignGet). made.AreForeign lines get (found ∷ [])) is (made.one c.in-Some.get c.in_ok-label.label c.in_ok-job.job c.in_ok-label.ensures c.in_ok-job.ensures);
    }

pub returns-in_default : goal.returns-in_default
returns-in_default c = λ so.
    let lines = lines_of c.args.recording.now in
    let is : None ≡ first_foreign_get lines = c.in_default.ensures lines so in
    record {
      more = [];
      after = sym (append-nil c.args.findings.now.items);
      so = subst (λ (get : Option ForeignGet). made.AreForeign lines get []) is made.none;
    }
