-- The certificate that is written to a file.
use Rattle.std.specs.Prelude.{◌≡◌, ◌==◌, ◌&&◌, ◌||◌, ℕ, nat_le, Bool, true, false, codes, List, length, Option, Some, None, is_some, option_map, IfSome}
use Rattle.std.specs.Str.{bytes_eq, is_utf8}
use Rattle.clap.specs.Words.{Text}
use Rattle.serde_json.specs.Data.{Data}
use Rattle.serde_json.specs.Find.{get, as_object}
use Rattle.serde_json.specs.Read.{read}
use Rattle.cert_text.specs.Values.{count_members}
use Rattle.command_line.specs.declared.command.Command.{Command}
use Rattle.job_bodies.specs.declared.limits.TheConstants.{MAX_CERT_BYTES}
use Rattle.sizing_cli.specs.CommandResult.{WritesWithCertificate}
use Rattle.sizing_cli.specs.FileWrites.{AppendsWrites, FileWrite, file_writes}
use Rattle.sizing_cli.specs.declared.status.Status.{Status}

abbrev pub is_three : Option ℕ → Bool
is_three (Some count) = count == 3
is_three None = false

-- the value is an object with the keys of a certificate, `pools`, `ranks` and `version`, and no others
abbrev pub has_keys : Data → Bool
has_keys value =
    is_three (option_map count_members (as_object value))
    && (is_some (get (codes "pools") value) && (is_some (get (codes "ranks") value) && is_some (get (codes "version") value)))

abbrev pub has_certificate_keys : Option Data → Bool
has_certificate_keys (Some value) = has_keys value
has_certificate_keys None = false

-- the bytes are the text of a JSON object with exactly the keys of a certificate
abbrev pub is_object_text : List ℕ → Bool
is_object_text bytes = is_utf8 bytes && has_certificate_keys (read bytes)

-- the text has the keys of a certificate, and is not longer than a certificate may be
abbrev pub is_certificate : List ℕ → Bool
is_certificate text = nat_le (length text) MAX_CERT_BYTES && is_object_text text

-- whether a certificate may replace this text: the text is empty, or is itself a certificate, of this or another plan
abbrev pub is_replaceable : List ℕ → Bool
is_replaceable text = length text == 0 || is_certificate text

-- A certificate may be written to the file with this name. The name is not `-`. As far as the directories are known, none has
-- this name. As far as the content of the file is known, a certificate may replace it.
pub record IsReplaceableName (content : Text → Option (List ℕ)) (directory : Text → Option Bool) (name : Text) : Type 0 where
  pub file : bytes_eq name (codes "-") ≡ false
  pub no_directory : IfSome (directory name) (λ known. known ≡ false)
  pub text : IfSome (content name) (λ text. is_replaceable text ≡ true)

-- if a certificate file is named, a certificate may be written to it
abbrev pub IsReplaceable : (Text → Option (List ℕ)) → (Text → Option Bool) → Option Text → Type 0
IsReplaceable content directory named = IfSome named (IsReplaceableName content directory)

-- The writes to files after an answer was written to the sink. `left` is the text of the certificate that the answer is based
-- on. There is no such text if the plan is not shown to be safe, or if the text is too long to be read back. If there is a text
-- and a certificate file is named, the only write is that of the text to this file. Otherwise there is no write. `is_done` is
-- false if the write failed.
pub record WritesCertificateFile (before after : Option (List FileWrite)) (named : Option Text) (is_done : Bool) (command : Command) (file : Text) (input : List ℕ) (status : Status) (old new : Option (List ℕ)) : Type 0 where
  pub left : Option (List ℕ)
  pub leaves : WritesWithCertificate command file input status left old new
  pub kept : AppendsWrites before after (file_writes left named is_done)
  pub tried : is_done ≡ false → is_some left ≡ true
