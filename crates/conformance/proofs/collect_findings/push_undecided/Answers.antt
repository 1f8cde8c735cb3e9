use Rattle.std.proofs.Common.{◌≡◌, ◌++◌, ◌∷◌, [], List, map, ap, sym, ◌∙◌, append_assoc}
use Rattle.std.proofs.lemmas.List.{append-nil, map-append}
use Rattle.std.specs.Vec.Iter.{drain_items}
use Rattle.conformance.specs.declared.classified_actor.ClassifiedActor.{ClassifiedActor}
use Rattle.conformance.specs.declared.finding.Finding.{Finding}
use Rattle.conformance.specs.CollectedFindings as spec
use Rattle.conformance.proofs.collect_findings.push_undecided.Goals as goal

pub loop-reported-preserved : goal.loop-reported-preserved
loop-reported-preserved c = record {
  pushed = c.in_ok-push.ensures.items
      ∙ ap (λ (one : Finding). c.loop-reported.findings.items ++ one ∷ []) c.not_decided.ensures
      ∙ ap (λ (found : List Finding). found ++ spec.not_decided c.in-Some.reported ∷ []) c.loop-reported.invariant.pushed
      ∙ append_assoc c.args.findings.now.items (map spec.not_decided c.loop-reported.yielded) (spec.not_decided c.in-Some.reported ∷ [])
      ∙ ap (λ (new : List Finding). c.args.findings.now.items ++ new) (sym (map-append spec.not_decided c.loop-reported.yielded (c.in-Some.reported ∷ [])));
  rest = append_assoc c.loop-reported.yielded (c.in-Some.reported ∷ []) (drain_items c.next.new.self) ∙ (ap (λ (xs : List ClassifiedActor). c.loop-reported.yielded ++ xs) (sym c.in-Some.ensures.steps.0) ∙ c.loop-reported.invariant.rest);
}

pub returns : goal.returns
returns c =
    let same : c.loop-reported.yielded ≡ c.args.undecided.now.items = sym (append-nil c.loop-reported.yielded) ∙ (ap (λ (xs : List ClassifiedActor). c.loop-reported.yielded ++ xs) (sym c.in-None.ensures.steps.0) ∙ c.loop-reported.invariant.rest) in
    c.loop-reported.invariant.pushed ∙ ap (λ (all : List ClassifiedActor). c.args.findings.now.items ++ map spec.not_decided all) same
