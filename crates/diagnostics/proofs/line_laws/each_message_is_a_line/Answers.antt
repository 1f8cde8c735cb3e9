use Rattle.diagnostics.proofs.PrintedLines.{faults_in_lines, warnings_in_lines}
use Rattle.diagnostics.proofs.line_laws.each_message_is_a_line.Goals as goal

pub returns-clause-faults : goal.returns-clause-faults
returns-clause-faults c = faults_in_lines

pub returns-clause-warnings : goal.returns-clause-warnings
returns-clause-warnings c = warnings_in_lines
