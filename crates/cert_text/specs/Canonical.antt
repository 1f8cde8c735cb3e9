-- Certificates in canonical form, which is the form that `write_cert` writes. The text of a part is the start of a longer text,
-- and the other parts follow it.
use Rattle.std.specs.Prelude.{◌≡◌, ℕ, ◌≤◌, true, List, [], ◌++◌, length, slice_get, Option, Some, None, codes, decimal, IsTrue}
use Rattle.std.specs.List.{list_all}
use Rattle.json.specs.Word.{is_space}
use Rattle.serde_json.specs.Data.{Data}
use Rattle.serde_json.specs.Written.{compact_text}
use Rattle.job_bodies.specs.Plan.{Plan}
use Rattle.weights.specs.declared.bound.Bound.{Bound}
use Rattle.weights.specs.declared.bound.Bound.TheVariants.{Standing, Lifetime}
use Rattle.cert_text.specs.Cert.{Cert, cert_fits}
use Rattle.job_bodies.specs.declared.limits.TheConstants.{MAX_CERT_BYTES}
use Rattle.cert_text.specs.CertText.{vector_data, version_number, cert_text}

-- the text is the canonical form of the value, followed by `rest`
abbrev pub BeginsAs : List ℕ → Data → List ℕ → Type 0
BeginsAs text value rest = text ≡ compact_text value ++ rest

-- a list of `count` rows, each of the length that `points` gives for its index
abbrev pub AreRows : ℕ → (ℕ → ℕ) → List (List ℕ) → Type 0
AreRows count points rows = (length rows ≡ count) × ((place : ℕ) (row : List ℕ) → slice_get rows place ≡ Some row → length row ≡ points place)

-- a comma, and then the key and the vector of a pool's bound; nothing if there is no bound
abbrev pub bound_text : Option Bound → List ℕ
bound_text None = []
bound_text (Some (Standing v)) = codes ",\"standing\":" ++ compact_text (vector_data v)
bound_text (Some (Lifetime v)) = codes ",\"lifetime\":" ++ compact_text (vector_data v)

-- the end of the text of a certificate after its ranks: the key `version`, the version and the closing brace
abbrev pub version_text : Cert → List ℕ
version_text cert = codes ",\"version\":" ++ (decimal (version_number cert) ++ codes "}")

-- the text contains only white space
abbrev pub IsBlank : List ℕ → Type 0
IsBlank text = list_all is_space text ≡ true

-- the text is that of the certificate, followed only by white space
abbrev pub IsTextOf : List ℕ → Cert → Type 0
IsTextOf text cert = (rest : List ℕ) × IsBlank rest × (text ≡ cert_text cert ++ rest)

-- the text is not too long, and is that of a certificate that fits the plan
pub record IsCanonical (plan : Plan) (text : List ℕ) (cert : Cert) : Type 0 where
  pub is_text : IsTextOf text cert
  pub short : length text ≤ MAX_CERT_BYTES
  pub fits : IsTrue (cert_fits plan cert)
