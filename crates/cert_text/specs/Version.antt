-- The version of the text of a certificate.
use Rattle.std.specs.Prelude.{ℕ, ◌==◌, if◌then◌else◌, codes, Result, Ok, Err}
use Rattle.serde_json.specs.Data.{Data}
use Rattle.support.specs.declared.number.TheConstants.{VERSION}
use Rattle.support.specs.Reading.{◌>>=◌}
use Rattle.cert_text.specs.declared.fault.CertFault.{CertFault}
use Rattle.cert_text.specs.declared.version.Version.{Version}
use Rattle.cert_text.specs.declared.version.Version.TheVariants.{One, Two}
use Rattle.cert_text.specs.Values.{fault, number_of, value_at}

-- the version with this number; a fault if the number is not 1 or 2
abbrev pub version_numbered : ℕ → Result Version CertFault
version_numbered number = if number == 1 then Ok One else (if number == 2 then Ok Two else Err (fault VERSION))

-- the version in the JSON value of a certificate
unfoldable pub version_of : Data → Result Version CertFault
version_of value = value_at (codes "version") value >>= λ version. number_of version >>= λ number. version_numbered number
