use Rattle.std.proofs.Common.{map, ap, ◌∙◌}
use Rattle.std.proofs.lemmas.List.{take_all}
use Rattle.conformance.specs.declared.round_comparison.RoundComparison.{RoundComparison}
use Rattle.conformance.proofs.ComparisonsAfter.{first_kept, rounds_none}
use Rattle.conformance.proofs.round_comparison.RoundComparison.new.Goals as goal

pub returns : goal.returns
returns c = λ kinds.
    let comparison_state : RoundComparison = record { kinds = c.loop-client.kinds } in
    rounds_none c.args.plan.now kinds comparison_state (c.loop-client.invariant ∙ ap (map first_kept) (take_all _ _ c.loop-client-test.false ∙ c.clients-client-items.ensures.value))
