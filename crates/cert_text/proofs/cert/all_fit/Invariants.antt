-- The loop of `all_fit`: all parts fit exactly when the remaining parts do.
use Rattle.std.proofs.Common.{◌≡◌, drop}
use Rattle.std.specs.List.{list_all, enumerate_from}
use Rattle.cert_text.specs.Cert.{pool_cert_fits}
use Rattle.cert_text.proofs.cert.all_fit.Given as goal

abbrev pub invariant-loop-number : goal.invariant-loop-number
invariant-loop-number l =
    list_all (λ entry. pool_cert_fits l.plan entry.0 entry.1) (enumerate_from l.number (drop l.number l.pools)) ≡ list_all (λ entry. pool_cert_fits l.plan entry.0 entry.1) (enumerate_from 0 l.pools)
