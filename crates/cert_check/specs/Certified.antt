-- A plan and a certificate that accepts it.
use Rattle.std.specs.Prelude.{IsTrue}
use Rattle.job_bodies.specs.Plan.{Plan}
use Rattle.cert_text.specs.Cert.{Cert}
use Rattle.soundness.specs.Accepted.{accepted}
use Rattle.soundness.specs.Headline.{Promises}

pub record Certified : Type 0 where
  pub plan : Plan
  pub cert : Cert

-- the certificate accepts the plan, and so its promises hold
pub record IsCertified (plan : Plan) (cert : Cert) : Type 0 where
  pub accepts : IsTrue (accepted plan cert)
  pub promises : Promises plan cert
