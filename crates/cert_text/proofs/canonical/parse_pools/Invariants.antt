use Rattle.std.proofs.Common.{◌≡◌, true}
use Rattle.job_bodies.proofs.Passing.{EachPlace}
use Rattle.cert_text.specs.Cert.{pool_cert_fits}
use Rattle.cert_text.specs.CertText.{pool_data}
use Rattle.cert_text.proofs.Prefixes.{BeginsList}
use Rattle.cert_text.proofs.canonical.parse_pools.Given as goal

abbrev pub invariant-loop-place : goal.invariant-loop-place
invariant-loop-place l = record {
  begins : BeginsList pool_data l.text l.pools.items l.place l.rest;
  fit : EachPlace l.pools.items (λ p pool. pool_cert_fits l.plan p pool ≡ true);
}
