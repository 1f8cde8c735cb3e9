-- The pools so far, followed by the remaining pools with raised maximums, are all pools of the widened plan.
use Rattle.std.proofs.Common.{◌≡◌, ◌++◌}
use Rattle.cert_text.specs.Cert.{pool_cert_at}
use Rattle.size_search.specs.Widened.{with_max, widened}
use Rattle.size_search.proofs.Loops.{rest_made}
use Rattle.size_search.proofs.wide.widened_pools.Given as goal

abbrev pub invariant-loop-number : goal.invariant-loop-number
invariant-loop-number l = l.pools.items ++ rest_made (λ entry. with_max l.plan (pool_cert_at l.cert entry.0).blocked entry.1) l.plan.pools l.number ≡ (widened l.plan l.cert).pools
