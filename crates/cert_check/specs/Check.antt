-- The result of a check of the bytes of a plan and a certificate, and the meaning of `yes`.
use Rattle.std.specs.Prelude.{◌≡◌, ℕ, List, Result, Ok, Err}
use Rattle.job_bodies.specs.Plan.{Plan}
use Rattle.job_bodies.specs.declared.fault.PlanFault.{PlanFault}
use Rattle.plan_text.specs.PlanOf.{plan_of}
use Rattle.cert_text.specs.Cert.{Cert}
use Rattle.soundness.specs.Headline.{Promises}
use Rattle.cert_text.specs.declared.fault.CertFault.{CertFault}
use Rattle.cert_text.specs.CertOf.{cert_of}
use Rattle.cert_check.specs.declared.from_bytes.CheckFault.{CheckFault}
use Rattle.cert_check.specs.declared.from_bytes.CheckFault.TheVariants as fault
use Rattle.cert_check.specs.Verdict.{Verdict, verdict}

abbrev pub checked_cert : Plan → Result Cert CertFault → Result Verdict CheckFault
checked_cert plan (Err f) = Err (fault.Cert f)
checked_cert plan (Ok cert) = Ok (verdict plan cert)

abbrev pub checked_plan : List ℕ → Result Plan PlanFault → Result Verdict CheckFault
checked_plan cert_text (Err f) = Err (fault.Plan f)
checked_plan cert_text (Ok plan) = checked_cert plan (cert_of cert_text plan)

-- the first fault of the plan or, if the plan has none, of the certificate; if neither has a fault, the verdict
abbrev pub checked : List ℕ → List ℕ → Result Verdict CheckFault
checked plan_text cert_text = checked_plan cert_text (plan_of plan_text)

-- the text is a certificate for the plan, and the promises of an accepted certificate hold for the plan
pub record IsSafeWith (plan : Plan) (cert_text : List ℕ) : Type 0 where
  pub cert : Cert
  pub is_cert : cert_of cert_text plan ≡ Ok cert
  pub promises : Promises plan cert

-- the first text is a plan, and the second text is a certificate with which this plan is safe
pub record IsSafeToRun (plan_text cert_text : List ℕ) : Type 0 where
  pub plan : Plan
  pub is_plan : plan_of plan_text ≡ Ok plan
  pub with_cert : IsSafeWith plan cert_text
