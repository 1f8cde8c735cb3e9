use Rattle.std.proofs.Common.{◌≡◌, ap, ◌∙◌}
use Rattle.cert_text.specs.Cert.{PoolCert, pool_cert_at}
use Rattle.cert_text.proofs.Fitting.{parts_fit}
use Rattle.cert_check.proofs.judge.pool_line.Goals as goal

pub bound_total-requires-clause-fits : goal.bound_total-requires-clause-fits
bound_total-requires-clause-fits c =
    let same : c.of_pool.inside.bound ≡ (pool_cert_at c.args.cert.now c.args.pool).bound = ap (λ (pool : PoolCert). pool.bound) (c.of_pool.view_is ∙ c.pool_at-of_pool.ensures) in
    rw same ((parts_fit c.args.plan.now c.args.cert.now c.requires.fits).pools c.args.pool c.requires.pool).bound

pub total-requires : goal.total-requires
total-requires c =
    let same : c.of_pool.inside.blocked ≡ (pool_cert_at c.args.cert.now c.args.pool).blocked = ap (λ (pool : PoolCert). pool.blocked) (c.of_pool.view_is ∙ c.pool_at-of_pool.ensures) in
    rw same ((parts_fit c.args.plan.now c.args.cert.now c.requires.fits).pools c.args.pool c.requires.pool).blocked
