use Rattle.std.proofs.Common.{◌≡◌, ◌∙◌, ◌++◌, ◌∷◌, [], List, ℕ, Ok, sym, ap, subst}
use Rattle.std.proofs.lemmas.Result.{err_from_is_err_and}
use Rattle.support.specs.Results.{Fails}
use Rattle.support.proofs.Loops.{at_index, checks_begin, checks_more, checks_stop, checks_end, images_more}
use Rattle.job_bodies.specs.Checks.{check_client}
use Rattle.plan_text.specs.Checks.{check_clients, client_head}
use Rattle.plan_text.proofs.checks.check_clients.Goals as goal

pub loop-index-init : goal.loop-index-init
loop-index-init c = record { names = c.new-names.ensures; passed = checks_begin _ _ }

pub loop-index-preserved : goal.loop-index-preserved
loop-index-preserved c =
    let x = c.index-clients-index.result in
    let here = at_index c.args.clients.now c.loop-index.index x c.loop-index-test.true c.index-clients-index.is in
    let passed = subst (λ (ns : List (List ℕ)). check_client ns c.loop-index.index (client_head x) ≡ Ok tt) c.loop-index.invariant.names c.in_ok-check_client.ensures.check in
    record {
      names = c.in_ok-check_client.ensures.names ∙ ap (λ (ns : List (List ℕ)). ns ++ x.name ∷ []) c.loop-index.invariant.names ∙ sym (images_more (λ (x : _). x.name) c.args.clients.now c.loop-index.index x here);
      passed = checks_more _ _ _ _ here passed c.loop-index.invariant.passed;
    }

pub returns-in_err-check_client : goal.returns-in_err-check_client
unfolding check_clients
returns-in_err-check_client c =
    let x = c.index-clients-index.result in
    let here = at_index c.args.clients.now c.loop-index.index x c.loop-index-test.true c.index-clients-index.is in
    let failed = subst (λ (ns : List (List ℕ)). Fails c.in_err-check_client.field-0.0 (check_client ns c.loop-index.index (client_head x))) c.loop-index.invariant.names c.in_err-check_client.ensures.check in
    let p = err_from_is_err_and c.from_residual.result c.from_residual.ensures.1 in
    rw (p.1, p.2) (checks_stop _ _ _ _ _ here failed c.loop-index.invariant.passed)

pub returns : goal.returns
unfolding check_clients
returns c = checks_end _ _ _ c.loop-index-test.false c.loop-index.invariant.passed
