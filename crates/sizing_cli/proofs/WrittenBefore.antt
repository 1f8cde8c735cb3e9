-- What was written before a fault.
use Rattle.std.proofs.Common.{◌≡◌, ◌∙◌, ℕ, false, ◌==◌, List, Option, Some, None, Result, ap, sym}
use Rattle.std.proofs.lemmas.Bool.{false≢true}
use Rattle.std.specs.Prelude.{IfErr, IfSome, IsErrAnd}
use Rattle.clap.specs.Words.{Text}
use Rattle.command_line.specs.declared.command.Command.{Command}
use Rattle.support.specs.declared.number.TheConstants.{WRITE_FAILED}
use Rattle.sizing_cli.proofs.Failed.{failed_with}
use Rattle.sizing_cli.specs.CliError.{IsWrittenBefore, is_of_sink}
use Rattle.sizing_cli.specs.declared.fault.CliError.{CliError}
use Rattle.sizing_cli.specs.declared.fault.CliError.TheVariants.{Words, NoCommand, InputTwice, Bundle, Unread, CertificateNeedsFile, Directory, Occupied, Unwritten, Serve}

-- nothing is promised if the sink did not fail
not_of_sink : (fault : CliError) (command : Command) (file : Text) (input : List ℕ) (old new : Option (List ℕ)) → is_of_sink fault ≡ false → IsWrittenBefore fault command file input old new
not_of_sink (Words error) command file input old new calm = tt
not_of_sink NoCommand command file input old new calm = tt
not_of_sink InputTwice command file input old new calm = tt
not_of_sink (Bundle name) command file input old new calm = tt
not_of_sink (Unread name) command file input old new calm = tt
not_of_sink CertificateNeedsFile command file input old new calm = tt
not_of_sink (Directory name) command file input old new calm = tt
not_of_sink (Occupied name) command file input old new calm = tt
not_of_sink (Unwritten name) command file input old new calm = absurd (false≢true (sym calm))
not_of_sink (Serve fault) command file input old new calm = λ is. absurd (false≢true (sym calm ∙ ap (λ n. n == WRITE_FAILED) is))

-- what holds of every value holds of a known one
of_each : {A : Type 0} (known : Option A) (P : A → Type 0) → ((value : A) → P value) → IfSome known P
of_each (Some value) P each = each value
of_each None P each = tt

-- before a fault that is not of the sink, nothing of the named input's answer was promised to be written
pub calm_before : {T : Type 0} (result : Result T CliError) (fault : CliError) (named : Option Command) (inputs : Command → Option (List ℕ)) (file : Text) (old new : Option (List ℕ))
    → IsErrAnd result (λ error. error ≡ fault) → is_of_sink fault ≡ false
    → IfErr result (λ error. IfSome named (λ command. IfSome (inputs command) (λ text. IsWrittenBefore error command file text old new)))
calm_before result fault named inputs file old new is calm =
    failed_with result fault (λ error. IfSome named (λ command. IfSome (inputs command) (λ text. IsWrittenBefore error command file text old new))) is
    (of_each named _ (λ command. of_each (inputs command) _ (λ text. not_of_sink fault command file text old new calm)))
