-- The lines that report the faults and the warnings of a plan's text.
use Rattle.std.specs.Prelude.{ℕ, Bool, ◌==◌, if◌then◌else◌, List, [], ◌∷◌, ◌++◌, codes, decimal, string_bytes}
use Rattle.std.specs.List.{All, flat_map}
use Rattle.plan_text.specs.declared.place.TextPlace.{TextPlace}
use Rattle.diagnostics.specs.declared.diagnostic.Diagnostic.{Diagnostic}
use Rattle.diagnostics.specs.declared.diagnostic.Faults.{Faults}
use Rattle.diagnostics.specs.declared.warnings.Warning.{Warning}
use Rattle.diagnostics.specs.Lines.{HasNoNewline}
use Rattle.diagnostics.specs.Lints.{is_note}

-- a place in the file of this name, as `FILE:LINE:COLUMN: `
abbrev pub place_head : List ℕ → TextPlace → List ℕ
place_head file place = file ++ (codes ":" ++ (decimal place.line ++ (codes ":" ++ (decimal place.column ++ codes ": "))))

-- the end of a fault's line: the number of the fault, and a newline
abbrev pub number_end : ℕ → List ℕ
number_end number = codes " (fault " ++ (decimal number ++ (codes ")" ++ 10 ∷ []))

-- the line of a fault: its place, its message and its number
abbrev pub fault_line : List ℕ → TextPlace → List ℕ → ℕ → List ℕ
fault_line file place what number = place_head file place ++ (what ++ number_end number)

-- the line of a diagnostic
abbrev pub diagnostic_line : List ℕ → Diagnostic → List ℕ
diagnostic_line file diagnostic = fault_line file diagnostic.place (string_bytes diagnostic.what) diagnostic.fault.number

-- a line for each fault
abbrev pub diagnostic_lines : List ℕ → List Diagnostic → List ℕ
diagnostic_lines file diagnostic = flat_map (diagnostic_line file) diagnostic

-- the line with the number of faults that are left out; the noun is `fault` or `faults`
abbrev pub count_line : ℕ → List ℕ → List ℕ
count_line omitted noun = codes "... and " ++ (decimal omitted ++ (codes " more " ++ (noun ++ 10 ∷ [])))

-- the line of the faults that are left out, if there are any
abbrev pub omitted_line : ℕ → List ℕ
omitted_line omitted = if omitted == 0 then [] else (if omitted == 1 then count_line omitted (codes "fault") else count_line omitted (codes "faults"))

-- the text of all faults: the line of the first fault, a line for each other fault, and the line of those that are left out
abbrev pub faults_text : List ℕ → Faults → List ℕ
faults_text file faults = diagnostic_line file faults.first ++ (diagnostic_lines file faults.others.items ++ omitted_line faults.omitted)

-- the message has no newline
abbrev pub HasSingleLine : Diagnostic → Type 0
HasSingleLine diagnostic = HasNoNewline (string_bytes diagnostic.what)

-- no message has a newline
pub record HaveSingleLines (faults : Faults) : Type 0 where
  pub first : HasSingleLine faults.first
  pub others : All HasSingleLine faults.others.items

-- the level of a lint in its line: `note` or `warning`
abbrev pub level_text : Bool → List ℕ
level_text note = if note then codes "note: " else codes "warning: "

-- the line of a warning: its place, its level and its message
abbrev pub warning_at : List ℕ → TextPlace → Bool → List ℕ → List ℕ
warning_at file place note what = place_head file place ++ (level_text note ++ (what ++ 10 ∷ []))

abbrev pub warning_line : List ℕ → Warning → List ℕ
warning_line file warning = warning_at file warning.place (is_note warning.lint) (string_bytes warning.what)

-- a line for each warning
abbrev pub warnings_text : List ℕ → List Warning → List ℕ
warnings_text file warnings = flat_map (warning_line file) warnings

-- no message has a newline
abbrev pub WarnInSingleLines : List Warning → Type 0
WarnInSingleLines warnings = All (λ warning. HasNoNewline (string_bytes warning.what)) warnings
