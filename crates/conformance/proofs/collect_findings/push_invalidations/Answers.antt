use Rattle.std.proofs.Common.{◌∙◌}
use Rattle.std.proofs.lemmas.Result.{on_ok_weaker}
use Rattle.conformance.specs.Lines.{lines_of}
use Rattle.conformance.proofs.CollectedLists.{events_counted}
use Rattle.conformance.proofs.collect_findings.push_invalidations.Goals as goal

pub returns : goal.returns
returns c = λ notes.
    let lines = lines_of c.args.recording.now in
    on_ok_weaker c.push_refusal.result
    (λ adds. events_counted lines c.args.refusals.now c.args.findings.now.items c.push_counted.new.findings.items c.push_refusal.new.findings.items _ _ _
    c.is_some.ensures (c.deref.ensures.value ∙ c.in_ok-invalidations.ensures lines notes) c.first_refusal_in.ensures c.in_ok-push_counted.ensures adds)
    c.push_refusal.ensures
