-- The command that the arguments of a command line name.
use Rattle.std.specs.Prelude.{ℕ, ◌≤◌, List, [], ◌∷◌, Bool, true, false, not, ◌&&◌, ◌||◌, Option, Some, None, is_some, codes, if◌then◌else◌, option_and_then, option_map}
use Rattle.std.specs.Option.{option_map_or}
use Rattle.std.specs.Str.{bytes_eq}
use Rattle.std.specs.Str.Parse.{digits_value, without_leading_plus}
use Rattle.clap.specs.Words.{Row, Text, fault_of, first_of, subcommand_of}
use Rattle.clap.specs.Kinds.{Kinds, or_else}
use Rattle.clap.specs.ValueTests.{accepts}
use Rattle.clap.specs.declared.builder.value_parser.ValueParser.TheVariants as parser
use Rattle.clap.specs.declared.error.kind.ErrorKind.TheVariants.{ValueValidation}
use Rattle.command_line.specs.Application.{sizing}
use Rattle.job_bodies.specs.declared.limits.TheConstants.{MAX_ROUNDS, MAX_STATES, MAX_WORKERS}
use Rattle.command_line.specs.declared.command.Cli.{Cli}
use Rattle.command_line.specs.declared.command.Command.{Command}
use Rattle.command_line.specs.declared.command.Command.TheVariants.{Sequential, OnRecording, OnThreads}
use Rattle.command_line.specs.declared.command.ReviewCommand.TheVariants.{Replay, Check, Explain}
use Rattle.command_line.specs.declared.command.RecordingCommand.{RecordingCommand}
use Rattle.command_line.specs.declared.command.RecordingCommand.TheVariants.{Conform, Learn}
use Rattle.command_line.specs.declared.command.Task.{Task}
use Rattle.command_line.specs.declared.command.Task.TheVariants.{Certify, Fit, Run, Refute, Ask}
use Rattle.command_line.specs.declared.command.SizesForm.TheVariants.{Sizes, Bundle}
use Rattle.command_line.specs.declared.command.RefuteFormat.TheVariants as refute_format
use Rattle.command_line.specs.declared.command.AskInput.{AskInput}
use Rattle.command_line.specs.declared.command.AskInput.TheVariants.{PlanAlone, WithCertificate}
use Rattle.command_line.specs.declared.command.Form.{Form}
use Rattle.command_line.specs.declared.command.Form.TheVariants.{Words, Json, Dot, Html, Github, Sarif}

-- the number that the text spells; None if it is not a whole number from `low` to `high`
abbrev pub number_in : ℕ → ℕ → Text → Option ℕ
number_in low high text = if accepts false (parser.Unsigned low high) text then Some (digits_value 10 (without_leading_plus text)) else None

-- The number that the parsed arguments have for the option with this id. None if there is no such number from `low` to `high`.
abbrev pub number_of : Text → ℕ → ℕ → List Row → Option ℕ
number_of id low high rows = option_and_then (number_in low high) (first_of id rows)

-- whether the option with this id was given, in which case `clap` stores the value `true` for it
abbrev pub is_set : Text → List Row → Bool
is_set id rows = option_map_or (λ text. bytes_eq text (codes "true")) (first_of id rows) false

abbrev pub certify_with : Option ℕ → Option Task
certify_with = option_map (λ workers. Certify workers)

abbrev pub fit_with : Bool → Task
fit_with bundle = Fit (if bundle then Bundle else Sizes)

abbrev pub run_with : Option ℕ → Option Task
run_with = option_map (λ rounds. Run rounds)

abbrev pub refute_with : Bool → Option ℕ → Option Task
refute_with bundle = option_map (λ states. Refute states (if bundle then refute_format.Bundle else refute_format.Story))

-- the texts that `ask` reads: a plan and a certificate if a second file is named, and otherwise a plan alone
abbrev pub ask_input_of : Option Text → AskInput
ask_input_of None = PlanAlone
ask_input_of (Some name) = WithCertificate

-- the output format with this name; None if there is none
abbrev pub form_named : Text → Option Form
form_named name =
    if bytes_eq name (codes "text") then Some Words
    else (if bytes_eq name (codes "json") then Some Json
    else (if bytes_eq name (codes "dot") then Some Dot
    else (if bytes_eq name (codes "html") then Some Html
    else (if bytes_eq name (codes "github") then Some Github
    else (if bytes_eq name (codes "sarif") then Some Sarif else None)))))

-- The output format that the options request. The arguments are the value of `--format`, and whether `--json` and `--dot` are
-- given. None if two of these options are given, or if no format has the name that is the value of `--format`.
abbrev pub form_of : Option Text → Bool → Bool → Option Form
form_of None false false = Some Words
form_of None true false = Some Json
form_of None false true = Some Dot
form_of None true true = None
form_of (Some name) false false = form_named name
form_of (Some name) true dot = None
form_of (Some name) false true = None

-- the output format that these parsed arguments request
abbrev pub form_in : List Row → Option Form
form_in rows = form_of (first_of (codes "format") rows) (is_set (codes "json") rows) (is_set (codes "dot") rows)

-- Whether the value of an option can be the name of a file. The empty text and `-` cannot. True if there is no value.
abbrev pub names_file : Option Text → Bool
names_file None = true
names_file (Some name) = not (bytes_eq name (codes "") || bytes_eq name (codes "-"))

-- the task `ask` with these parsed arguments and this output format
abbrev pub ask_in : List Row → Form → Task
ask_in rows form = Ask (ask_input_of (first_of (codes "SECOND") rows)) (record { strict = is_set (codes "strict") rows; form = form })

-- The task `ask` with these parsed arguments. None if they request two output formats or an unknown one, or if the value of
-- `--certificate` cannot be the name of a file.
abbrev pub ask_named : List Row → Option Task
ask_named rows = if names_file (first_of (codes "certificate") rows) then option_map (ask_in rows) (form_in rows) else None

-- The task of the subcommand with this name and these parsed arguments. None if no task has this name, or if the arguments are
-- invalid.
abbrev pub task_of : Text → List Row → Option Task
task_of name rows =
    if bytes_eq name (codes "certify") then certify_with (number_of (codes "workers") 1 MAX_WORKERS rows)
    else (if bytes_eq name (codes "fit") then Some (fit_with (is_set (codes "bundle") rows))
    else (if bytes_eq name (codes "run") then run_with (number_of (codes "rounds") 1 MAX_ROUNDS rows)
    else (if bytes_eq name (codes "refute") then refute_with (is_set (codes "bundle") rows) (number_of (codes "states") 1 MAX_STATES rows)
    else (if bytes_eq name (codes "ask") then ask_named rows else None))))

-- the command `learn`, with or without `--strict`
abbrev pub learn_with : Bool → RecordingCommand
learn_with strict = Learn strict

-- the command of the subcommand with this name and these parsed arguments; None if there is none, or if the arguments are
-- invalid
abbrev pub command_named : Text × List Row → Option Command
command_named (name, rows) =
    if bytes_eq name (codes "replay") then Some (Sequential Replay)
    else (if bytes_eq name (codes "check") then Some (Sequential Check)
    else (if bytes_eq name (codes "explain") then Some (Sequential Explain)
    else (if bytes_eq name (codes "conform") then Some (OnRecording Conform)
    else (if bytes_eq name (codes "learn") then Some (OnRecording (learn_with (is_set (codes "strict") rows))) else option_map (λ task. OnThreads task) (task_of name rows)))))

-- the command of the subcommand that was entered; None if no subcommand was entered, or if its arguments are invalid
abbrev pub command_among : Option (Text × List Row) → Option Command
command_among = option_and_then command_named

-- the command that the arguments of a command line name; None if they name none
abbrev pub command_of : List Text → Option Command
command_of words = command_among (subcommand_of sizing words)

-- the names of the first and the second file in the parsed arguments of a subcommand; no names if no subcommand was entered
abbrev pub files_in : Option (List Row) → Option Text × Option Text
files_in None = (None, None)
files_in (Some rows) = (first_of (codes "PLAN") rows, first_of (codes "SECOND") rows)

-- the names of the first and the second file of the subcommand that was entered, if one was
abbrev pub files_among : Option (Text × List Row) → Option Text × Option Text
files_among entered = files_in (option_map (λ entry. entry.1) entered)

-- The names of the two files on a command line. The first file is that of the plan, or of the whole input if there is no second
-- file. The second file is that of the second text.
abbrev pub files_of : List Text → Option Text × Option Text
files_of words = files_among (subcommand_of sizing words)

-- the names of the first and the second file in a `Cli`
abbrev pub files_of_cli : Cli → Option Text × Option Text
files_of_cli cli = (option_map (λ name. name.now) cli.first, option_map (λ name. name.now) cli.second)

-- the name of the file for a certificate in the parsed arguments of a subcommand; None if no subcommand was entered
abbrev pub certificate_in : Option (List Row) → Option Text
certificate_in None = None
certificate_in (Some rows) = first_of (codes "certificate") rows

-- the name of the certificate file of the subcommand that was entered, if one was entered
abbrev pub certificate_among : Option (Text × List Row) → Option Text
certificate_among entered = certificate_in (option_map (λ entry. entry.1) entered)

-- the name of the certificate file on a command line; None if it has none
abbrev pub certificate_of : List Text → Option Text
certificate_of words = certificate_among (subcommand_of sizing words)

-- the name of the file for a certificate in a `Cli`
abbrev pub certificate_of_cli : Cli → Option Text
certificate_of_cli cli = option_map (λ name. name.now) cli.certificate

-- Whether a subcommand was entered with options that name no command. Such options have a number out of its range, two output
-- formats, an unknown output format, or a name that is not that of a certificate file.
abbrev pub is_refused : Option (Text × List Row) → Bool
is_refused entered = is_some entered && not (is_some (command_among entered))

-- the kind of error of options that name no command (`is_refused`), or none
abbrev pub kinds_of_refusal : Option (Text × List Row) → Kinds
kinds_of_refusal entered = if is_refused entered then ValueValidation ∷ [] else []

-- The kinds of error that the arguments of a command line can have. If `clap` finds a fault, they are the kinds of the first
-- fault. Otherwise they are the kind for options that name no command (`is_refused`), or none.
abbrev pub faults_of : List Text → Kinds
faults_of words = or_else (fault_of sizing words) (if is_refused (subcommand_of sizing words) then ValueValidation ∷ [] else [])

-- each number of the task is in its range
abbrev pub IsTaskInRange : Task → Type 0
IsTaskInRange (Certify workers) = (1 ≤ workers) × (workers ≤ MAX_WORKERS)
IsTaskInRange (Fit sizes_form) = Unit {0}
IsTaskInRange (Run rounds) = (1 ≤ rounds) × (rounds ≤ MAX_ROUNDS)
IsTaskInRange (Refute states refute_format) = (1 ≤ states) × (states ≤ MAX_STATES)
IsTaskInRange (Ask given options) = Unit {0}

-- each number of the command is in its range
abbrev pub IsInRange : Command → Type 0
IsInRange (Sequential review) = Unit {0}
IsInRange (OnRecording reading) = Unit {0}
IsInRange (OnThreads task) = IsTaskInRange task
