-- The meaning of a yes for the texts of a plan and a certificate.
use Rattle.std.proofs.Common.{◌≡◌, ℕ, List, Ok, IsTrue}
use Rattle.support.proofs.Steps.{bind_ok}
use Rattle.job_bodies.specs.Plan.{Plan}
use Rattle.job_bodies.specs.WellFormed.{IsWellFormed}
use Rattle.plan_text.specs.Document.{document_of}
use Rattle.plan_text.specs.Entries.{entries_of}
use Rattle.plan_text.specs.PlanOf.{plan_of}
use Rattle.plan_text.proofs.Buildable.{are_within_limits, well_formed_read}
use Rattle.cert_text.specs.Cert.{Cert}
use Rattle.cert_text.specs.CertOf.{cert_of}
use Rattle.soundness.specs.Accepted.{accepted}
use Rattle.soundness.proofs.Promised.{promises}
use Rattle.cert_check.specs.Check.{IsSafeWith}

-- a plan that was read is well-formed
pub plans_read_are_well_formed : (bytes : List ℕ) (plan : Plan) → plan_of bytes ≡ Ok plan → IsWellFormed plan
unfolding plan_of
plans_read_are_well_formed bytes plan is =
    let document = bind_ok (document_of bytes) _ _ is in
    let entries = bind_ok (entries_of document.0) _ _ document.2 in
    well_formed_read entries.0 plan (are_within_limits document.0 entries.0 entries.1) entries.2

-- if a certificate accepts a plan, the plan is safe with the text of the certificate
pub safe_with : (plan : Plan) (cert : Cert) (text : List ℕ) → IsWellFormed plan → cert_of text plan ≡ Ok cert → IsTrue (accepted plan cert) → IsSafeWith plan text
safe_with plan cert text well_formed is_cert is_accepted = record { cert = cert; is_cert = is_cert; promises = promises plan cert well_formed is_accepted }
