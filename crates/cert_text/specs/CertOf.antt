-- The certificate of a text. The steps are its length, its JSON, its version, its shape, and the limit of its numbers.
use Rattle.std.specs.Prelude.{ℕ, nat_le, List, length, Result, Ok}
use Rattle.std.specs.Str.{is_utf8}
use Rattle.serde_json.specs.Data.{Data}
use Rattle.serde_json.specs.Read.{read}
use Rattle.support.specs.declared.number.TheConstants.{NOT_JSON, WEIGHT_TOO_LARGE, CERT_TOO_LONG}
use Rattle.support.specs.Reading.{◌>>=◌, ensure, ok_or}
use Rattle.job_bodies.specs.Plan.{Plan}
use Rattle.cert_text.specs.Cert.{Cert}
use Rattle.cert_text.specs.declared.fault.CertFault.{CertFault}
use Rattle.job_bodies.specs.declared.limits.TheConstants.{MAX_CERT_BYTES}
use Rattle.cert_text.specs.Values.{fault}
use Rattle.cert_text.specs.Version.{version_of}
use Rattle.cert_text.specs.Shape.{shape_of}
use Rattle.cert_text.specs.Sizes.{cert_has_small_numbers}

-- the bytes as a text; a fault if they are not UTF-8
abbrev pub text_of : List ℕ → Result (List ℕ) CertFault
text_of bytes = ensure (is_utf8 bytes) (fault NOT_JSON) >>= λ _. Ok bytes

-- the JSON value of the text; a fault if it is not JSON
abbrev pub json_of : List ℕ → Result Data CertFault
json_of text = ok_or (read text) (fault NOT_JSON)

-- the JSON value of the bytes; a fault if there are more bytes than a certificate may have, or if they are not UTF-8 or not JSON
unfoldable pub document_of : List ℕ → Result Data CertFault
document_of bytes =
    ensure (nat_le (length bytes) MAX_CERT_BYTES) (fault CERT_TOO_LONG) >>= λ _.
    text_of bytes >>= λ text.
    json_of text

-- the certificate for this plan that the JSON value represents, or the first fault
unfoldable pub cert_of_value : Data → Plan → Result Cert CertFault
cert_of_value value plan =
    version_of value >>= λ version.
    shape_of version plan value >>= λ cert.
    ensure (cert_has_small_numbers cert) (fault WEIGHT_TOO_LARGE) >>= λ _.
    Ok cert

-- the certificate for this plan that the bytes represent, or the first fault
unfoldable pub cert_of : List ℕ → Plan → Result Cert CertFault
cert_of bytes plan = document_of bytes >>= λ value. cert_of_value value plan
