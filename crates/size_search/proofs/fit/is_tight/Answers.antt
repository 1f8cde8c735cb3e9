use Rattle.std.proofs.Common.{◌≡◌, ap, ◌∙◌, arith}
use Rattle.cert_text.specs.Cert.{PoolCert, pool_cert_at}
use Rattle.cert_text.proofs.Fitting.{parts_fit}
use Rattle.size_search.proofs.Tight.{pool_exists}
use Rattle.size_search.proofs.fit.is_tight.Goals as goal

pub pool_at-needs-requires : goal.pool_at-needs-requires
pool_at-needs-requires c =
    let inside = pool_exists c.args.plan.now c.args.cert.now c.args.raised.now c.args.number c.requires.raised c.requires.number in
    omega (arith, inside, (parts_fit c.args.plan.now c.args.cert.now c.requires.fits).as_many)

pub queue_needed-requires-clause-fits : goal.queue_needed-requires-clause-fits
queue_needed-requires-clause-fits c =
    let inside = pool_exists c.args.plan.now c.args.cert.now c.args.raised.now c.args.number c.requires.raised c.requires.number in
    let same : c.needs.inside.bound ≡ (pool_cert_at c.args.cert.now c.args.number).bound = ap (λ (pool : PoolCert). pool.bound) (c.needs.view_is ∙ c.pool_at-needs.ensures) in
    rw same ((parts_fit c.args.plan.now c.args.cert.now c.requires.fits).pools c.args.number inside).bound
