use Rattle.std.proofs.Common.{◌≡◌, ◌<◌, ◌&&◌, Bool, not, List, length, Option, is_some, refl, sym, ap, ap₂, ◌∙◌, arith, rules}
use Rattle.std.specs.List.{list_all, enumerate_from}
use Rattle.std.proofs.lemmas.Bool.{and_from}
use Rattle.weights.specs.declared.row.Row.{Row}
use Rattle.weights.specs.Row.{first_failing}
use Rattle.weights.specs.Ranks.{Ranks, rank_rows}
use Rattle.cert_text.specs.Cert.{Cert, cert_fits}
use Rattle.soundness.specs.Conditions.{failing}
use Rattle.soundness.specs.Accepted.{is_nil}
use Rattle.soundness.proofs.Promised.{promises}
use Rattle.cert_check.specs.declared.answer.PoolLine.{PoolLine}
use Rattle.cert_check.specs.declared.on_threads.PoolCheck.{PoolCheck}
use Rattle.cert_check.specs.PoolConditions.{pool_holds}
use Rattle.cert_check.specs.Verdict.{pool_line}
use Rattle.cert_check.specs.OnThreads.{pool_check}
use Rattle.cert_check.proofs.Conditions.{conditions_hold}
use Rattle.cert_check.proofs.Pools.{results_more, results_all, decides_more, decides_all}
use Rattle.cert_check.proofs.on_threads.verdict_of.Goals as goal

pub loop-pool-init : goal.loop-pool-init
loop-pool-init c =
    let plan = c.args.plan.now in
    let cert = c.args.cert.now in
    let ranks : c.cert.inside.ranks ≡ cert.ranks = ap (λ (x : Cert). x.ranks) c.cert.view_is in
    let fault : c.fault.result ≡ first_failing (rank_rows plan cert.ranks) = c.fault.ensures ∙ ap (λ (r : Ranks). first_failing (rank_rows plan r)) ranks in
    let yes : c.is_none-yes.result ≡ not (is_some c.fault.result) = search rules in
    let all_hold : Bool = list_all (λ entry. pool_holds plan cert entry.0) (enumerate_from 0 plan.pools) in
    record {
      lines = rw c.in_ok-pools.ensures.items refl;
      decides = ap (λ (b : Bool). b && all_hold) (yes ∙ ap (λ (x : Option Row). not (is_some x)) fault) ∙ sym (conditions_hold plan cert);
    }

pub loop-pool-preserved : goal.loop-pool-preserved
loop-pool-preserved c =
    let plan = c.args.plan.now in
    let cert = c.args.cert.now in
    let inside : c.loop-pool.pool < length plan.pools = omega (arith, c.requires.checked.as_many) in
    let check_is : c.in-Some.check ≡ pool_check plan cert c.loop-pool.pool = rw c.in-Some.is at (c.requires.checked.each c.loop-pool.pool inside) in
    record {
      lines = rw (c.in_ok-push.ensures.items, ap (λ (x : PoolCheck). x.line) check_is)
          (results_more (pool_line plan cert) plan.pools c.loop-pool.pool c.loop-pool.pools.items _ inside c.loop-pool.invariant.lines);
      decides = rw (ap (λ (x : PoolCheck). x.holds) check_is)
          (decides_more (pool_holds plan cert) plan.pools c.loop-pool.pool c.loop-pool.yes _ inside c.loop-pool.invariant.decides);
    }

holds : (c : goal.After-loop-pool) → c.loop-pool.yes ≡ is_nil (failing c.args.plan.now c.args.cert.now)
holds c =
    let plan = c.args.plan.now in
    decides_all (pool_holds plan c.args.cert.now) plan.pools c.loop-pool.pool c.loop-pool.yes _ (omega (arith, c.requires.checked.as_many)) c.loop-pool.invariant.decides

pub returns-clause-verdict : goal.returns-clause-verdict
returns-clause-verdict c =
    let plan = c.args.plan.now in
    let cert = c.args.cert.now in
    ap₂ (λ (yes : Bool) (lines : List PoolLine). record { yes = yes; pools = lines })
    (holds c ∙ sym (ap (λ (b : Bool). b && is_nil (failing plan cert)) c.requires.fits))
    (results_all (pool_line plan cert) plan.pools c.loop-pool.pool c.loop-pool.pools.items _ (omega (arith, c.requires.checked.as_many)) c.loop-pool.invariant.lines)

pub returns-clause-promises : goal.returns-clause-promises
returns-clause-promises c = λ yes.
    let plan = c.args.plan.now in
    let cert = c.args.cert.now in
    promises plan cert c.pools.ensures.well_formed (and_from (cert_fits plan cert) (is_nil (failing plan cert)) c.requires.fits (sym (holds c) ∙ yes))
