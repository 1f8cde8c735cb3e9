-- Annotations as workflow commands of GitHub Actions.
use Rattle.std.specs.Prelude.{◌≡◌, ℕ, ◌==◌, if◌then◌else◌, List, [], ◌∷◌, ◌++◌, codes, decimal, Option, Some, None}
use Rattle.std.specs.List.{flat_map}
use Rattle.std.specs.Char.{encode_utf8}
use Rattle.std.specs.Str.{chars}
use Rattle.plan_text.specs.declared.place.TextPlace.{TextPlace}
use Rattle.report.specs.declared.annotation.Rule.{Rule}
use Rattle.report.specs.declared.annotation.Rule.TheVariants.{Fault, MoreFaults, Warning, Safe, NotSafe, NotDecided}
use Rattle.report.specs.Annotations.{Remark, rule_name}
use Rattle.job_bodies.specs.Plan.{Plan}
use Rattle.diagnostics.specs.declared.warnings.Warning.{Warning as PlanWarning}
use Rattle.diagnostics.specs.Lints.{is_note}
use Rattle.diagnostics.specs.declared.entry_places.PlanPlaces.{PlanPlaces}
use Rattle.report.specs.declared.finding.PlanFinding.{PlanFinding}
use Rattle.report.specs.Remarks.{AreRemarks}

-- the name of the command for a rule
abbrev pub command : Rule → List ℕ
command (Fault number) = codes "error"
command MoreFaults = codes "error"
command (Warning lint) = if is_note lint then codes "notice" else codes "warning"
command Safe = codes "notice"
command NotSafe = codes "error"
command NotDecided = codes "warning"

abbrev pub title : Rule → List ℕ
title Safe = codes "SAFE"
title NotSafe = codes "NOT SAFE"
title NotDecided = codes "NOT DECIDED"
title (Fault number) = rule_name (Fault number)
title MoreFaults = rule_name MoreFaults
title (Warning lint) = rule_name (Warning lint)

-- a character of a message; `%`, a carriage return and a newline are escaped
unfoldable pub message_char : ℕ → List ℕ
message_char c = if c == 37 then codes "%25" else if c == 13 then codes "%0D" else if c == 10 then codes "%0A" else encode_utf8 c

-- a character of a property's value; `:` and `,` are escaped, and so are the characters that are escaped in a message
unfoldable pub property_char : ℕ → List ℕ
property_char c = if c == 58 then codes "%3A" else if c == 44 then codes "%2C" else message_char c

abbrev pub message_text : List ℕ → List ℕ
message_text text = flat_map message_char (chars text)

abbrev pub property_text : List ℕ → List ℕ
property_text text = flat_map property_char (chars text)

-- the line and the column, if they are known
abbrev pub place_part : Option TextPlace → List ℕ
place_part None = []
place_part (Some place) = codes ",line=" ++ (decimal place.line ++ (codes ",col=" ++ decimal place.column))

-- the properties: the file, the place and the title
abbrev pub properties : List ℕ → Rule → Option TextPlace → List ℕ
properties file rule place = codes " file=" ++ (property_text file ++ (place_part place ++ (codes ",title=" ++ title rule)))

-- the command for an annotation, on a line of its own
abbrev pub command_line : List ℕ → Remark → List ℕ
command_line file remark = codes "::" ++ (command remark.rule ++ (properties file remark.rule remark.place ++ (codes "::" ++ (message_text remark.message ++ 10 ∷ []))))

-- a line for each annotation
abbrev pub github_text : List ℕ → List Remark → List ℕ
github_text file = flat_map (command_line file)

-- the text has a line for each remark about the finding
pub record ReportsFinding (file : List ℕ) (places : PlanPlaces) (plan : Plan) (finding : PlanFinding) (warnings : List PlanWarning) (text : List ℕ) : Type 0 where
  pub remarks : List Remark
  pub are_remarks : AreRemarks places plan finding warnings remarks
  pub is : text ≡ github_text file remarks
