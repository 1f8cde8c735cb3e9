use Rattle.std.proofs.Common.{◌≡◌, ℕ, List, length, filter, slice_get, ap, sym, ◌∙◌, arith}
use Rattle.std.specs.List.{range_with_len}
use Rattle.conformance.specs.Family.{is_client_in_family, client_family}
use Rattle.conformance.proofs.OneByOne.{kept_none, first_kept}
use Rattle.conformance.proofs.family.first_client.Goals as goal

pub loop-client-preserved : goal.loop-client-preserved
loop-client-preserved c = kept_none (is_client_in_family c.args.plan.now c.args.label.now) c.loop-client.client (sym c.is_client_in_family.ensures ∙ c.if-is_client_in_family.false) ∙ c.loop-client.invariant

pub returns-then-is_client_in_family : goal.returns-then-is_client_in_family
unfolding client_family
returns-then-is_client_in_family c =
    first_kept (is_client_in_family c.args.plan.now c.args.label.now) (length c.args.plan.now.clients) c.loop-client.client (omega (arith, c.loop-client-test.true, ap length c.clients-client-end.ensures.value)) c.loop-client.invariant (sym c.is_client_in_family.ensures ∙ c.if-is_client_in_family.true)

pub returns : goal.returns
unfolding client_family
returns c =
    let all : length c.args.plan.now.clients ≡ c.loop-client.client = omega (arith, c.loop-client-test.false, c.loop-client.auto.client-end, ap length c.clients-client-end.ensures.value) in
    sym (ap (λ (kept : List ℕ). slice_get kept 0) (ap (λ (n : ℕ). filter (is_client_in_family c.args.plan.now c.args.label.now) (range_with_len 0 n)) all ∙ c.loop-client.invariant))
