use Rattle.std.proofs.Common.{◌≡◌, ℕ, true, length, ap, ◌∙◌, arith}
use Rattle.cert_text.specs.Cert.{PoolCert, pool_cert_fits}
use Rattle.cert_text.specs.CertText.{pool_data}
use Rattle.cert_text.proofs.Lists.{each_place_push, list_all_enumerated_all}
use Rattle.cert_text.proofs.Prefixes.{list_more, list_whole}
use Rattle.cert_text.proofs.canonical.parse_pools.Goals as goal

pub loop-place-preserved : goal.loop-place-preserved
loop-place-preserved c =
    let plan = c.args.plan.now in
    let fits : pool_cert_fits plan (length c.loop-place.pools.items) c.in_ok-pool.pool ≡ true =
    ap (λ (p : ℕ). pool_cert_fits plan p c.in_ok-pool.pool) c.loop-place.invariant.begins.as_many ∙ c.in_ok-pool.ensures.fits in
    record {
      begins = rw c.in_ok-push.ensures.items (list_more pool_data _ _ _ _ _ _ _ c.loop-place.invariant.begins c.in_ok-element.ensures c.in_ok-pool.ensures.text);
      fit = rw c.in_ok-push.ensures.items (each_place_push (λ (p : ℕ) (pool : PoolCert). pool_cert_fits plan p pool ≡ true) c.loop-place.pools.items c.in_ok-pool.pool c.loop-place.invariant.fit fits);
    }

pub returns-clause-text : goal.returns-clause-text
returns-clause-text c = list_whole pool_data _ _ _ _ _ c.loop-place.invariant.begins c.in_ok-strip_byte.ensures

pub returns-clause-count : goal.returns-clause-count
returns-clause-count c = c.loop-place.invariant.begins.as_many ∙ (omega arith ∙ ap length c.pools-count.ensures.value)

pub returns-clause-fit : goal.returns-clause-fit
returns-clause-fit c = list_all_enumerated_all (λ entry. pool_cert_fits c.args.plan.now entry.0 entry.1) _ c.loop-place.invariant.fit
