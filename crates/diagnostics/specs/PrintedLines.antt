-- The number of lines that faults and warnings are printed in.
use Rattle.std.specs.Prelude.{ℕ, ◌+◌, ◌==◌, if◌then◌else◌, List, length}
use Rattle.diagnostics.specs.declared.diagnostic.Faults.{Faults}
use Rattle.diagnostics.specs.declared.warnings.Warning.{Warning}
use Rattle.diagnostics.specs.Diagnostic.{faults_text, warnings_text, HaveSingleLines, WarnInSingleLines}
use Rattle.diagnostics.specs.Lines.{HasNoNewline, IsLines}

-- a line for each fault that is reported, and one for the faults that are left out if there are any
abbrev pub line_count : Faults → ℕ
line_count faults = 1 + length faults.others.items + (if faults.omitted == 0 then 0 else 1)

-- each fault is printed on a line of its own, if neither the file's name nor a message has a newline
abbrev pub EachFaultIsALine : Type 0
EachFaultIsALine = (file : List ℕ) (faults : Faults) → HasNoNewline file → HaveSingleLines faults → IsLines (line_count faults) (faults_text file faults)

-- each warning is printed on a line of its own, if neither the file's name nor a message has a newline
abbrev pub EachWarningIsALine : Type 0
EachWarningIsALine = (file : List ℕ) (warnings : List Warning) → HasNoNewline file → WarnInSingleLines warnings → IsLines (length warnings) (warnings_text file warnings)
