use Rattle.std.proofs.Common.{◌≡◌, ◌++◌, ◌∷◌, [], List, map, ap, sym, ◌∙◌, append_assoc}
use Rattle.std.proofs.lemmas.List.{append-nil, map-append}
use Rattle.std.specs.Vec.Iter.{drain_items}
use Rattle.conformance.specs.declared.pool_comparison.PoolDeviation.{PoolDeviation}
use Rattle.conformance.specs.declared.finding.Finding.{Finding}
use Rattle.conformance.specs.declared.finding.Finding.TheVariants as kinds
use Rattle.conformance.proofs.collect_findings.push_pools.Goals as goal

pub loop-deviation-preserved : goal.loop-deviation-preserved
loop-deviation-preserved c = record {
  pushed = c.in_ok-push.ensures.items
      ∙ ap (λ (found : List Finding). found ++ kinds.Pool c.in-Some.deviation ∷ []) c.loop-deviation.invariant.pushed
      ∙ append_assoc c.args.findings.now.items (map kinds.Pool c.loop-deviation.yielded) (kinds.Pool c.in-Some.deviation ∷ [])
      ∙ ap (λ (new : List Finding). c.args.findings.now.items ++ new) (sym (map-append kinds.Pool c.loop-deviation.yielded (c.in-Some.deviation ∷ [])));
  rest = append_assoc c.loop-deviation.yielded (c.in-Some.deviation ∷ []) (drain_items c.next.new.self) ∙ (ap (λ (xs : List PoolDeviation). c.loop-deviation.yielded ++ xs) (sym c.in-Some.ensures.steps.0) ∙ c.loop-deviation.invariant.rest);
}

pub returns : goal.returns
returns c =
    let same : c.loop-deviation.yielded ≡ c.args.deviations.now.items = sym (append-nil c.loop-deviation.yielded) ∙ (ap (λ (xs : List PoolDeviation). c.loop-deviation.yielded ++ xs) (sym c.in-None.ensures.steps.0) ∙ c.loop-deviation.invariant.rest) in
    c.loop-deviation.invariant.pushed ∙ ap (λ (all : List PoolDeviation). c.args.findings.now.items ++ map kinds.Pool all) same
