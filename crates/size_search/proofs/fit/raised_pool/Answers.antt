use Rattle.std.proofs.Common.{◌≡◌, ap, ◌∙◌}
use Rattle.cert_text.specs.Cert.{PoolCert, pool_cert_at}
use Rattle.cert_text.proofs.Fitting.{parts_fit}
use Rattle.size_search.proofs.fit.raised_pool.Goals as goal

pub core_needed-requires-clause-fits : goal.core_needed-requires-clause-fits
core_needed-requires-clause-fits c =
    let same : c.needs.inside.blocked ≡ (pool_cert_at c.args.cert.now c.args.number).blocked = ap (λ (pool : PoolCert). pool.blocked) (c.needs.view_is ∙ c.pool_at-needs.ensures) in
    rw same ((parts_fit c.args.plan.now c.args.cert.now c.requires.fits).pools c.args.number c.requires.number).blocked

pub queue_needed-needed-requires-clause-fits : goal.queue_needed-needed-requires-clause-fits
queue_needed-needed-requires-clause-fits c =
    let same : c.needs.inside.bound ≡ (pool_cert_at c.args.cert.now c.args.number).bound = ap (λ (pool : PoolCert). pool.bound) (c.needs.view_is ∙ c.pool_at-needs.ensures) in
    rw same ((parts_fit c.args.plan.now c.args.cert.now c.requires.fits).pools c.args.number c.requires.number).bound
