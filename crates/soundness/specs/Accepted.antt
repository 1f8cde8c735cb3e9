-- Acceptance of a certificate.
use Rattle.std.specs.Prelude.{◌&&◌, Bool, true, false, List, [], ◌∷◌}
use Rattle.job_bodies.specs.Plan.{Plan}
use Rattle.cert_text.specs.Cert.{Cert, cert_fits}
use Rattle.soundness.specs.declared.note.Note.{Note}
use Rattle.soundness.specs.Conditions.{failing}

-- the list of conditions is empty
abbrev pub is_nil : List Note → Bool
is_nil [] = true
is_nil (x ∷ xs) = false

-- the certificate fits the plan, and no condition fails
abbrev pub accepted : Plan → Cert → Bool
accepted plan cert = cert_fits plan cert && is_nil (failing plan cert)
