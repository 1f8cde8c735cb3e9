-- The case in which no size of a plan has to change.
use Rattle.std.proofs.Common.{◌≡◌, ◌∙◌, false, Option, Some, None, IfSome, IsTrue, sym}
use Rattle.std.proofs.lemmas.Bool.{false≢true}
use Rattle.std.specs.Prelude.{IfNone}
use Rattle.job_bodies.specs.Plan.{Plan}
use Rattle.cert_text.specs.Cert.{Cert}
use Rattle.soundness.specs.Accepted.{accepted}
use Rattle.size_search.specs.Steady.{steady_cert}
use Rattle.size_search.specs.declared.found.SizesFound.{SizesFound}
use Rattle.size_search.specs.declared.found.SizesFound.TheVariants.{Found}
use Rattle.sizing_cli.specs.Fit.{IsAsDeclared}

-- either the search finds a certificate that accepts the plan, and the search for sizes starts from it; or the steady
-- certificate does not accept the plan
pub as_declared : (plan : Plan) (first : Option Cert) (found : SizesFound)
    → IfSome first (λ cert. IsTrue (accepted plan cert)) → IfNone first (accepted plan (steady_cert plan) ≡ false)
    → IfSome first (λ cert. IsTrue (accepted plan cert) → found ≡ Found plan cert)
    → IsTrue (accepted plan (steady_cert plan)) → IsAsDeclared plan found
as_declared plan (Some cert) found accepts none same steady = record { cert = cert; is = same accepts }
as_declared plan None found accepts none same steady = absurd (false≢true (sym none ∙ steady))
