-- The faults that end a command, and how often each occurred.
use Rattle.std.specs.Prelude.{ℕ, Bool, ◌==◌, ◌||◌, if◌then◌else◌, Result, Ok, Err}
use Rattle.byte_streams.specs.declared.reading.InputError.{InputError}
use Rattle.byte_streams.specs.declared.reading.InputError.TheVariants.{Memory, Fault}
use Rattle.cert_search.specs.declared.finding.SearchFault.{SearchFault}
use Rattle.cert_search.specs.declared.finding.SearchFault.TheVariants as search
use Rattle.command_line.specs.declared.command.Command.{Command}
use Rattle.command_line.specs.declared.command.Command.TheVariants.{Sequential, OnRecording, OnThreads}
use Rattle.command_line.specs.declared.command.Task.{Task}
use Rattle.command_line.specs.declared.command.Task.TheVariants.{Certify, Fit, Run, Refute, Ask}
use Rattle.support.specs.declared.number.TheConstants.{MEMORY, STRANGE, MIXED, GATE, READ_FAILED, WRITE_FAILED}
use Rattle.sizing_cli.specs.declared.status.Status.{Status}
use Rattle.sizing_cli.specs.declared.status.ServeFault.{ServeFault}

-- the number of the fault after a failed read of the input
abbrev pub fault_of_input : InputError → ℕ
fault_of_input Memory = MEMORY
fault_of_input Fault = READ_FAILED

-- the number of the fault after a failed search
abbrev pub fault_of_search : SearchFault → ℕ
fault_of_search search.Memory = MEMORY
fault_of_search search.Mixed = MIXED
fault_of_search search.Gate = GATE

-- 1 if the call ended with the fault of this number, otherwise 0
abbrev pub count_of : ℕ → Result Status ServeFault → ℕ
count_of number (Ok status) = 0
count_of number (Err fault) = if fault.number == number then 1 else 0

-- the faults of a command without threads
abbrev pub is_known : ℕ → Bool
is_known number = number == MEMORY || number == READ_FAILED || number == WRITE_FAILED

-- the faults of a search, or of a check on threads
abbrev pub is_of_search : ℕ → Bool
is_of_search number = number == MEMORY || number == MIXED || number == GATE

-- the faults of a run that is not too large
abbrev pub is_of_run : ℕ → Bool
is_of_run number = number == STRANGE || is_of_search number

-- the faults of a task, except those of reading the input and writing the answer
abbrev pub is_of_threads : Task → ℕ → Bool
is_of_threads (Certify workers) number = is_of_search number
is_of_threads (Fit sizes_form) number = is_of_search number
is_of_threads (Run rounds) number = is_of_run number
is_of_threads (Refute states refute_format) number = is_of_search number
is_of_threads (Ask given options) number = is_of_search number

-- the faults of a command
abbrev pub is_known_of : Command → ℕ → Bool
is_known_of (Sequential review) number = is_known number
is_known_of (OnRecording reading) number = is_known number
is_known_of (OnThreads task) number = is_known number || is_of_threads task number

-- the faults of a command, except those of reading the input and writing the answer
abbrev pub is_of_answer : Command → ℕ → Bool
is_of_answer (Sequential review) number = number == MEMORY
is_of_answer (OnRecording reading) number = number == MEMORY
is_of_answer (OnThreads task) number = is_of_threads task number
