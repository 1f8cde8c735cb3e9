use Rattle.std.proofs.Common.{Option, sym, subst}
use Rattle.std.specs.Option.{option_to_list}
use Rattle.recordings.specs.declared.invalidation.Invalidation.{Invalidation}
use Rattle.conformance.specs.CollectedFindings.{Adds, AreInvalidationsOf}
use Rattle.conformance.specs.Lines.{lines_of}
use Rattle.conformance.proofs.CollectedLists.{no_events_added}
use Rattle.conformance.proofs.collect_findings.push_refusal.Goals as goal

pub returns-in-None : goal.returns-in-None
returns-in-None c =
    let lines = lines_of c.args.recording.now in
    let old = c.args.findings.now.items in
    subst (λ (refusal : Option Invalidation). Adds old (AreInvalidationsOf lines (option_to_list refusal)) old) (sym c.in-None.is) (no_events_added lines old)
