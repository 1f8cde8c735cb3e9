-- The maximum length of the inputs of commands.
use Rattle.std.specs.Prelude.{ℕ}
use Rattle.command_line.specs.declared.command.Command.{Command}
use Rattle.command_line.specs.declared.command.Command.TheVariants.{Sequential, OnRecording, OnThreads}
use Rattle.job_bodies.specs.declared.limits.TheConstants.{MAX_INPUT_BYTES, MAX_RECORDED_BYTES}

-- the maximum length of a command's input, in bytes
abbrev pub most_bytes : Command → ℕ
most_bytes (Sequential review) = MAX_INPUT_BYTES
most_bytes (OnRecording reading) = MAX_RECORDED_BYTES
most_bytes (OnThreads task) = MAX_INPUT_BYTES
