-- The application `sizing`, in terms of the model of `clap`.
use Rattle.std.specs.Prelude.{ℕ, [], ◌∷◌, true, Some, codes, decimal}
use Rattle.clap.specs.Words.{App, Rule, Shape, Text, new_app, new_rule, with_rule, with_subcommand}
use Rattle.clap.specs.declared.builder.action.ArgAction.TheVariants.{Set, SetTrue}
use Rattle.clap.specs.declared.builder.value_parser.ValueParser.TheVariants as parser
use Rattle.job_bodies.specs.declared.limits.TheConstants.{DEFAULT_WORKERS, MAX_ROUNDS, MAX_STATES, MAX_WORKERS}

-- an argument with this id that names a file
abbrev pub file_argument : Text → Rule
file_argument id = record (new_rule id) { action = Some Set; value_names = 1 }

-- The argument that names the file of the plan. If it names the only file, this file has the whole input.
abbrev pub plan_argument : Rule
plan_argument = file_argument (codes "PLAN")

-- the argument that names the file of the second text
abbrev pub second_argument : Rule
second_argument = file_argument (codes "SECOND")

-- a subcommand that reads a plan, and has no options
abbrev pub of_plan : Text → App
of_plan name = with_rule (new_app name) plan_argument

-- a subcommand that reads a plan and a second text, and has no options
abbrev pub of_both : Text → App
of_both name = with_rule (of_plan name) second_argument

abbrev pub replay_shape : Shape
replay_shape = (of_both (codes "replay")).top

abbrev pub check_shape : Shape
check_shape = (of_both (codes "check")).top

abbrev pub explain_shape : Shape
explain_shape = (of_both (codes "explain")).top

-- the option `--ID N`, where N is a whole number from `low` to `high`
abbrev pub number_option : Text → ℕ → ℕ → Rule
number_option id low high = record (new_rule id) { long = Some id; action = Some Set; parser = Some (parser.Unsigned low high); value_names = 1 }

-- the option `--workers N`: the maximum number of threads
abbrev pub workers_option : Rule
workers_option = record (number_option (codes "workers") 1 MAX_WORKERS) { defaults = decimal DEFAULT_WORKERS ∷ [] }

abbrev pub certify_shape : Shape
certify_shape = (with_rule (of_plan (codes "certify")) workers_option).top

-- the option `--bundle`, with which the output is a bundle of two texts
abbrev pub bundle_option : Rule
bundle_option = record (new_rule (codes "bundle")) { long = Some (codes "bundle"); action = Some SetTrue }

abbrev pub fit_shape : Shape
fit_shape = (with_rule (of_plan (codes "fit")) bundle_option).top

-- the required option `--rounds N`: the number of times that each repeating client performs its body
abbrev pub rounds_option : Rule
rounds_option = record (number_option (codes "rounds") 1 MAX_ROUNDS) { required = true }

abbrev pub run_shape : Shape
run_shape = (with_rule (of_both (codes "run")) rounds_option).top

-- the option `--states N`: the maximum number of states that a search for a witness visits
abbrev pub states_option : Rule
states_option = record (number_option (codes "states") 1 MAX_STATES) { defaults = codes "100000" ∷ [] }

abbrev pub refute_shape : Shape
refute_shape = (with_rule (with_rule (of_plan (codes "refute")) states_option) bundle_option).top

-- the option `--strict` of `ask` and `learn`
abbrev pub strict_option : Rule
strict_option = record (new_rule (codes "strict")) { long = Some (codes "strict"); action = Some SetTrue }

-- the option `--certificate FILE`, which names the file to which a certificate is written
abbrev pub certificate_option : Rule
certificate_option = record (new_rule (codes "certificate")) { long = Some (codes "certificate"); action = Some Set; value_names = 1 }

-- the option `--format FORMAT`, which names the format of the answer
abbrev pub format_option : Rule
format_option = record (new_rule (codes "format")) { long = Some (codes "format"); action = Some Set; value_names = 1 }

-- the option `--json`, which means `--format json`
abbrev pub json_option : Rule
json_option = record (new_rule (codes "json")) { long = Some (codes "json"); action = Some SetTrue }

-- the option `--dot`, which means `--format dot`
abbrev pub dot_option : Rule
dot_option = record (new_rule (codes "dot")) { long = Some (codes "dot"); action = Some SetTrue }

abbrev pub ask_shape : Shape
ask_shape =
    (with_rule (with_rule (with_rule (with_rule (with_rule (of_both (codes "ask")) strict_option) format_option) json_option) dot_option)
    certificate_option).top

abbrev pub conform_shape : Shape
conform_shape = (of_both (codes "conform")).top

-- the subcommand `learn`, whose first argument names a recording instead of a plan
abbrev pub learn_shape : Shape
learn_shape = (with_rule (of_plan (codes "learn")) strict_option).top

-- adds the subcommands `replay`, `check` and `explain` to the application
abbrev pub with_review_commands : App → App
with_review_commands program = with_subcommand (with_subcommand (with_subcommand program replay_shape) check_shape) explain_shape

-- adds the subcommands `certify`, `fit`, `run`, `refute` and `ask` to the application
abbrev pub with_tasks : App → App
with_tasks program =
    with_subcommand (with_subcommand (with_subcommand (with_subcommand (with_subcommand program certify_shape) fit_shape) run_shape) refute_shape) ask_shape

-- adds the subcommands `conform` and `learn` to the application
abbrev pub with_recording_commands : App → App
with_recording_commands program = with_subcommand (with_subcommand program conform_shape) learn_shape

-- the application `sizing` before its subcommands are added; it has a version
abbrev pub program : App
program = record (new_app (codes "sizing")) { top = record (new_app (codes "sizing")).top { has_version = true } }

-- the application, with a subcommand for each command
abbrev pub sizing : App
sizing = with_recording_commands (with_tasks (with_review_commands program))
