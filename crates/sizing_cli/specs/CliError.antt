-- The errors of a call with the arguments of a command line.
use Rattle.std.specs.Prelude.{◌≡◌, ◌≢◌, ◌⊎◌, ℕ, Bool, true, false, ◌==◌, ◌||◌, List, Option, Some, None, Result, Ok, Err, IfSome, IsTrue, codes, if◌then◌else◌, is_some}
use Rattle.clap.specs.Words.{HasKind, Text, kind_of}
use Rattle.clap.specs.declared.error.kind.ErrorKind.TheVariants.{OutOfMemory}
use Rattle.command_line.specs.Command.{certificate_of, command_of, faults_of, files_of}
use Rattle.command_line.specs.declared.command.Command.{Command}
use Rattle.support.specs.declared.number.TheConstants.{MEMORY, READ_FAILED, WRITE_FAILED}
use Rattle.sizing_cli.specs.Bundle.{bundle_of}
use Rattle.sizing_cli.specs.ServeFault.{is_known_of}
use Rattle.sizing_cli.specs.CommandResult.{WritesAnswer, WritesPrefix}
use Rattle.sizing_cli.specs.declared.status.Status.{Status}
use Rattle.sizing_cli.specs.SavedCertificate.{is_replaceable}
use Rattle.sizing_cli.specs.Texts.{IsBundleNamed, file_named, name_or_none, splits_at_first}
use Rattle.sizing_cli.specs.declared.fault.CliError.{CliError}
use Rattle.sizing_cli.specs.declared.fault.CliError.TheVariants.{Words, NoCommand, InputTwice, Bundle, Unread, CertificateNeedsFile, Directory, Occupied, Unwritten, Serve}

-- Whether the sink failed or the certificate file could not be written. Only then may something have been written to the sink.
abbrev pub is_of_sink : CliError → Bool
is_of_sink (Unwritten name) = true
is_of_sink (Serve fault) = fault.number == WRITE_FAILED
is_of_sink error = false

-- the certificate could not be written to its file
abbrev pub is_unwritten : CliError → Bool
is_unwritten (Unwritten name) = true
is_unwritten error = false

-- Whether the error is the fault with this number. The errors about a file that could not be read or written count as other
-- errors.
abbrev pub is_fault : ℕ → CliError → Bool
is_fault number (Serve fault) = fault.number == number
is_fault number error = false

-- 1 if the call ended with the fault of this number, otherwise 0
abbrev pub count_in : {T : Type 0} → ℕ → Result T CliError → ℕ
count_in number (Ok value) = 0
count_in number (Err error) = if is_fault number error then 1 else 0

-- the exit status: 2 for bad arguments and for help, 3 for any other error
abbrev pub IsCode : CliError → ℕ → Type 0
IsCode (Words error) status = ((kind_of error ≡ OutOfMemory) × (status ≡ 3)) ⊎ ((kind_of error ≢ OutOfMemory) × (status ≡ 2))
IsCode (Unread name) status = status ≡ 3
IsCode (Unwritten name) status = status ≡ 3
IsCode (Serve fault) status = status ≡ 3
IsCode error status = status ≡ 2

-- both texts are to come from standard input
abbrev pub IsTwice : Option Text × Option Text → Type 0
IsTwice (first, second) = (is_some second ≡ true) × ((file_named first ≡ None) × (file_named second ≡ None))

-- the file with this name is the file of one of the two texts
abbrev pub IsNamed : Option Text × Option Text → Text → Type 0
IsNamed (first, second) name = (file_named first ≡ Some name) ⊎ (file_named second ≡ Some name)

-- there are two texts, and one of them has this name in messages
abbrev pub IsNamedAs : Option Text × Option Text → Text → Type 0
IsNamedAs (first, second) name = (is_some second ≡ true) × ((name ≡ name_or_none (file_named first)) ⊎ (name ≡ name_or_none (file_named second)))

-- whether the fault with this number means that reading failed or that memory ran out
abbrev pub is_of_reading : ℕ → Bool
is_of_reading number = number == MEMORY || number == READ_FAILED

-- a possible fault of reading standard input
abbrev pub IsOfReading : CliError → Type 0
IsOfReading (Serve fault) = IsTrue (is_of_reading fault.number)
IsOfReading error = ⊥

-- a possible fault of reading this file
abbrev pub IsOfFile : Text → CliError → Type 0
IsOfFile file (Unread name) = name.now ≡ file
IsOfFile file (Serve fault) = fault.number ≡ MEMORY
IsOfFile file error = ⊥

-- a possible error of reading the named file, or standard input if no file is named
abbrev pub IsOfNamed : (Text → Option (List ℕ)) → Option Text → CliError → Type 0
IsOfNamed content named (Unread name) = (file_named named ≡ Some name.now) × (content name.now ≡ None)
IsOfNamed content named (Serve fault) = IsTrue (is_of_reading fault.number)
IsOfNamed content named error = ⊥

-- a possible error of reading the two named texts
abbrev pub IsOfPair : (Text → Option (List ℕ)) → Option Text → Text → CliError → Type 0
IsOfPair content first second InputTwice = IsTwice (first, Some second)
IsOfPair content first second (Unread name) = IsNamed (first, Some second) name.now × (content name.now ≡ None)
IsOfPair content first second (Serve fault) = IsTrue (is_of_reading fault.number)
IsOfPair content first second error = ⊥

-- a possible fault of a command that reads these files
abbrev pub IsOfTexts : Command → Option Text × Option Text → CliError → Type 0
IsOfTexts command files InputTwice = IsTwice files
IsOfTexts command files (Bundle name) = IsNamedAs files name.now
IsOfTexts command files (Unread name) = IsNamed files name.now
IsOfTexts command files (Serve fault) = IsTrue (is_known_of command fault.number)
IsOfTexts command files error = ⊥

-- the error is that the certificate could not be written to the named file
abbrev pub IsUnwritten : Option Text → CliError → Type 0
IsUnwritten named (Unwritten name) = named ≡ Some name.now
IsUnwritten named error = ⊥

-- If the error is `Occupied`, a certificate may not replace the content of the file that it names. If the error is `Directory`,
-- there is a directory with that name. Neither is claimed if the content or the directory is not known.
abbrev pub IsOccupied : (Text → Option (List ℕ)) → (Text → Option Bool) → CliError → Type 0
IsOccupied content directory (Directory name) = IfSome (directory name.now) (λ known. known ≡ true)
IsOccupied content directory (Occupied name) = IfSome (content name.now) (λ text. is_replaceable text ≡ false)
IsOccupied content directory error = Unit {0}

-- if the error is `Unread`, the content of the file that it names is not known
abbrev pub IsUnreadable : (Text → Option (List ℕ)) → CliError → Type 0
IsUnreadable content (Unread name) = content name.now ≡ None
IsUnreadable content error = Unit {0}

-- A possible error of the check that a certificate may replace the file `named`, whose content is `text`. Either a certificate
-- may not replace this content, or memory ran out.
abbrev pub IsOfText : Text → List ℕ → CliError → Type 0
IsOfText named text (Occupied name) = (name.now ≡ named) × (is_replaceable text ≡ false)
IsOfText named text (Serve fault) = fault.number ≡ MEMORY
IsOfText named text error = ⊥

-- A possible error of the check that a certificate may replace the file `named`. The file could not be read, a certificate may
-- not replace its content, or memory ran out. `content` is the content of the file, if it is known.
abbrev pub IsOfContent : Option (List ℕ) → Text → CliError → Type 0
IsOfContent content named (Unread name) = (name.now ≡ named) × (content ≡ None)
IsOfContent content named (Occupied name) = (name.now ≡ named) × IfSome content (λ text. is_replaceable text ≡ false)
IsOfContent content named (Serve fault) = fault.number ≡ MEMORY
IsOfContent content named error = ⊥

-- If the error is `Bundle`, the text that it names is a bundle. This is not claimed if that text is not known.
abbrev pub IsBundled : Command → (Text → Option (List ℕ)) → Option (List ℕ) → Option Text × Option Text → CliError → Type 0
IsBundled command content input files (Bundle name) = IsBundleNamed command content input files name.now
IsBundled command content input files error = Unit {0}

-- the error is `Bundle` with the name of this text, and the text is a bundle
abbrev pub IsOfBundle : Option Text → List ℕ → CliError → Type 0
IsOfBundle named text (Bundle name) = (name.now ≡ name_or_none (file_named named)) × (is_some (bundle_of text) ≡ true)
IsOfBundle named text error = ⊥

-- One of the two texts is a bundle, and the error has the name of this text. The text is not the recording of `conform`.
abbrev pub IsOfBundles : Command → Option Text → List ℕ → Text → List ℕ → CliError → Type 0
IsOfBundles command first plan second behind error =
    IsOfBundle first plan error ⊎ ((splits_at_first command ≡ false) × IsOfBundle (Some second) behind error)

-- a possible error of reading the two named texts and joining them
abbrev pub IsOfBoth : Command → (Text → Option (List ℕ)) → Option (List ℕ) → Option Text → Text → CliError → Type 0
IsOfBoth command content input first second (Bundle name) = IsNamedAs (first, Some second) name.now × IsBundleNamed command content input (first, Some second) name.now
IsOfBoth command content input first second error = IsOfPair content first second error

-- a possible error of the check that a certificate may be written to the named file
abbrev pub IsOfReplacing : Option Text → CliError → Type 0
IsOfReplacing named (Unread name) = named ≡ Some name.now
IsOfReplacing named CertificateNeedsFile = named ≡ Some (codes "-")
IsOfReplacing named (Directory name) = named ≡ Some name.now
IsOfReplacing named (Occupied name) = named ≡ Some name.now
IsOfReplacing named (Serve fault) = fault.number ≡ MEMORY
IsOfReplacing named error = ⊥

-- a possible error for these arguments
abbrev pub IsFaultOf : List Text → CliError → Type 0
IsFaultOf words (Words error) = HasKind (faults_of words) error
IsFaultOf words NoCommand = command_of words ≡ None
IsFaultOf words (Unwritten name) = certificate_of words ≡ Some name.now
IsFaultOf words (Unread name) = IsNamed (files_of words) name.now ⊎ (certificate_of words ≡ Some name.now)
IsFaultOf words CertificateNeedsFile = certificate_of words ≡ Some (codes "-")
IsFaultOf words (Directory name) = certificate_of words ≡ Some name.now
IsFaultOf words (Occupied name) = certificate_of words ≡ Some name.now
IsFaultOf words fault = IfSome (command_of words) (λ command. IsOfTexts command (files_of words) fault)

-- What was written before the error. If the sink failed, this is a prefix of an answer. If the certificate file could not be
-- written, it is a whole answer. `file` is the name of the plan's file in messages.
abbrev pub IsWrittenBefore : CliError → Command → Text → List ℕ → Option (List ℕ) → Option (List ℕ) → Type 0
IsWrittenBefore (Unwritten name) command file input old new = (status : Status) × WritesAnswer command file input status old new
IsWrittenBefore (Serve fault) command file input old new = fault.number ≡ WRITE_FAILED → WritesPrefix command file input old new
IsWrittenBefore error command file input old new = Unit {0}
