-- The pools so far, followed by the remaining pools with raised sizes, are all pools of the raised plan.
use Rattle.std.proofs.Common.{◌≡◌, ◌++◌}
use Rattle.cert_text.specs.Cert.{pool_cert_at}
use Rattle.size_search.specs.Fitted.{raised_pool, raised}
use Rattle.size_search.proofs.Loops.{rest_made}
use Rattle.size_search.proofs.fit.raised_pools.Given as goal

abbrev pub invariant-loop-number : goal.invariant-loop-number
invariant-loop-number l = l.pools.items ++ rest_made (λ entry. raised_pool l.plan (pool_cert_at l.cert entry.0) entry.1) l.plan.pools l.number ≡ (raised l.plan l.cert).pools
