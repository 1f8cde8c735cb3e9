use Rattle.std.proofs.Common.{◌≡◌, ◌++◌, ◌∷◌, [], List, map, ap, sym, ◌∙◌, append_assoc}
use Rattle.std.proofs.lemmas.List.{append-nil, map-append}
use Rattle.std.specs.Vec.Iter.{drain_items}
use Rattle.conformance.specs.declared.unplanned.UnplannedLabel.{UnplannedLabel}
use Rattle.conformance.specs.declared.finding.Finding.{Finding}
use Rattle.conformance.specs.declared.finding.Finding.TheVariants as kinds
use Rattle.conformance.proofs.collect_findings.push_labels.Goals as goal

pub loop-label-preserved : goal.loop-label-preserved
loop-label-preserved c = record {
  pushed = c.in_ok-push.ensures.items
      ∙ ap (λ (found : List Finding). found ++ kinds.UnplannedLabel c.in-Some.label ∷ []) c.loop-label.invariant.pushed
      ∙ append_assoc c.args.findings.now.items (map kinds.UnplannedLabel c.loop-label.yielded) (kinds.UnplannedLabel c.in-Some.label ∷ [])
      ∙ ap (λ (new : List Finding). c.args.findings.now.items ++ new) (sym (map-append kinds.UnplannedLabel c.loop-label.yielded (c.in-Some.label ∷ [])));
  rest = append_assoc c.loop-label.yielded (c.in-Some.label ∷ []) (drain_items c.next.new.self) ∙ (ap (λ (xs : List UnplannedLabel). c.loop-label.yielded ++ xs) (sym c.in-Some.ensures.steps.0) ∙ c.loop-label.invariant.rest);
}

pub returns : goal.returns
returns c =
    let same : c.loop-label.yielded ≡ c.args.labels.now.items = sym (append-nil c.loop-label.yielded) ∙ (ap (λ (xs : List UnplannedLabel). c.loop-label.yielded ++ xs) (sym c.in-None.ensures.steps.0) ∙ c.loop-label.invariant.rest) in
    c.loop-label.invariant.pushed ∙ ap (λ (all : List UnplannedLabel). c.args.findings.now.items ++ map kinds.UnplannedLabel all) same
