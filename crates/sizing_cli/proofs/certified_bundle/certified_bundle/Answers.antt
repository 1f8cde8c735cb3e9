use Rattle.std.proofs.Common.{◌≡◌, List, ℕ, length, ap, subst, ◌∙◌}
use Rattle.sizing_cli.specs.Bundle.{join_texts}
use Rattle.sizing_cli.specs.CertifiedSplit.{IsCertifiedSplit}
use Rattle.sizing_cli.proofs.Certified.{certified}
use Rattle.sizing_cli.proofs.certified_bundle.certified_bundle.Goals as goal

pub returns-then-branch-clause-bundle : goal.returns-then-branch-clause-bundle
returns-then-branch-clause-bundle g c =
    let plan = c.args.plan.items in
    let cert = c.args.cert.items in
    let text : List ℕ = c.in_ok-bytes.bytes.items in
    let whole : text ≡ join_texts plan cert = c.in_ok-bytes.ensures ∙ ap (λ (second : List ℕ). join_texts plan second) c.deref.ensures.value in
    let len : c.len-plan_len.result ≡ length plan = c.len-plan_len.ensures ∙ c.args.plan.ok.0 in
    let split : IsCertifiedSplit c.len-plan_len.result c.deref-2.result.now = c.in_ok-is_certified.ensures.yes c.if-branch.true in
    let OfText : List ℕ → Type 0 = λ l. IsCertifiedSplit c.len-plan_len.result l in
    let OfLength : ℕ → Type 0 = λ n. IsCertifiedSplit n text in
    certified plan cert text whole (subst OfLength len (subst OfText c.deref-2.ensures.value split))
