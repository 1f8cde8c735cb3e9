-- The texts that the arguments of a command line name, and the input that they form.
use Rattle.std.specs.Prelude.{◌≡◌, ◌⊎◌, ℕ, ◌+◌, Bool, false, List, take, codes, Option, Some, None, if◌then◌else◌, option_and_then, option_map, IfSome, is_some, true}
use Rattle.std.specs.Str.{bytes_eq}
use Rattle.clap.specs.Words.{Text}
use Rattle.command_line.specs.declared.command.Command.{Command}
use Rattle.command_line.specs.declared.command.Command.TheVariants.{Sequential, OnRecording, OnThreads}
use Rattle.command_line.specs.declared.command.RecordingCommand.TheVariants.{Conform, Learn}
use Rattle.sizing_cli.specs.Bundle.{bundle_of, join_texts}
use Rattle.sizing_cli.specs.InputLength.{most_bytes}

-- The part of a text that the command reads. It ends at most one byte after the longest valid input. This byte shows that the
-- text is too long.
abbrev pub read_part : Command → List ℕ → List ℕ
read_part command = take (most_bytes command + 1)

-- the text is the whole input, or the part of the input that the command reads
abbrev pub IsReadOf : Command → List ℕ → List ℕ → Type 0
IsReadOf command text input = (text ≡ input) ⊎ (text ≡ read_part command input)

-- the name, unless it means standard input
abbrev pub not_input : Text → Option Text
not_input name = if bytes_eq name (codes "-") then None else Some name

-- the named file; None for standard input, which is meant by `-` and by no name
abbrev pub file_named : Option Text → Option Text
file_named = option_and_then not_input

-- the name that messages use for a text: the name of its file, or `<stdin>`
abbrev pub name_or_none : Option Text → Text
name_or_none None = codes "<stdin>"
name_or_none (Some name) = name

-- the name of the plan's file in messages, given the names of the first and the second file
abbrev pub plan_name : Option Text × Option Text → Text
plan_name (first, second) = name_or_none (file_named first)

-- the text of the named file, or of standard input if no file is named; None if the text is not known
abbrev pub text_of : (Text → Option (List ℕ)) → Option (List ℕ) → Option Text → Option (List ℕ)
text_of files input None = input
text_of files input (Some name) = files name

-- the text of the named file, or of standard input; None if it is not known
abbrev pub text_named : (Text → Option (List ℕ)) → Option (List ℕ) → Option Text → Option (List ℕ)
text_named files input name = text_of files input (file_named name)

-- the command's input if only one text is named: standard input, or the part of the file that the command reads
abbrev pub served_of : Command → (Text → Option (List ℕ)) → Option (List ℕ) → Option Text → Option (List ℕ)
served_of command files input None = input
served_of command files input (Some name) = option_map (read_part command) (files name)

abbrev pub both_read_parts : Command → Option (List ℕ) → Option (List ℕ) → Option (List ℕ)
both_read_parts command (Some plan) (Some second) = Some (join_texts (read_part command plan) (read_part command second))
both_read_parts command _ _ = None

-- the command's input, given the names of the first and the second file; None if it is not known
abbrev pub input_named : Command → (Text → Option (List ℕ)) → Option (List ℕ) → Option Text × Option Text → Option (List ℕ)
input_named command files input (first, None) = served_of command files input (file_named first)
input_named command files input (first, Some second) = both_read_parts command (text_named files input first) (text_named files input (Some second))

-- ---- bundles among the two named texts

-- if the text is known, the part of it that the command reads is not a bundle
abbrev pub IsAlone : Command → Option (List ℕ) → Type 0
IsAlone command known = IfSome known (λ text. bundle_of (read_part command text) ≡ None)

abbrev pub IsBundle : Command → Option (List ℕ) → Type 0
IsBundle command known = IfSome known (λ text. is_some (bundle_of (read_part command text)) ≡ true)

-- the command splits its input at the first line `%%`, not at the last one
abbrev pub splits_at_first : Command → Bool
splits_at_first (OnRecording Conform) = true
splits_at_first (OnRecording (Learn strict)) = false
splits_at_first (Sequential review) = false
splits_at_first (OnThreads task) = false

-- If two texts are named, neither is a bundle. Only the recording of `conform` may have lines `%%`.
abbrev pub AreAlone : Command → (Text → Option (List ℕ)) → Option (List ℕ) → Option Text × Option Text → Type 0
AreAlone command files input (first, None) = Unit {0}
AreAlone command files input (first, Some second) = IsAlone command (text_named files input first) × (splits_at_first command ≡ false → IsAlone command (text_named files input (Some second)))

-- One of the two named texts has this name in messages and is a bundle, if it is known. This text is not the recording of
-- `conform`.
abbrev pub IsBundleNamed : Command → (Text → Option (List ℕ)) → Option (List ℕ) → Option Text × Option Text → Text → Type 0
IsBundleNamed command files input (first, second) name =
    ((name ≡ name_or_none (file_named first)) × IsBundle command (text_named files input first)) ⊎ ((splits_at_first command ≡ false) × (name ≡ name_or_none (file_named second)) × IsBundle command (text_named files input second))
