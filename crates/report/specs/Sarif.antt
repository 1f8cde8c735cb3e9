-- Annotations as a SARIF 2.1.0 log.
use Rattle.std.specs.Prelude.{ℕ, Bool, List, [], ◌∷◌, ◌++◌, map, codes, if◌then◌else◌, Option, Some, None}
use Rattle.std.specs.List.{list_any, fold}
use Rattle.std.specs.Str.{bytes_eq}
use Rattle.serde_json.specs.Data.{Data, number, unsigned, string, array, object, item, no_items, member, no_members}
use Rattle.serde_json.specs.View.{items_of}
use Rattle.plan_text.specs.declared.place.TextPlace.{TextPlace}
use Rattle.report.specs.declared.annotation.Rule.{Rule}
use Rattle.report.specs.declared.annotation.Rule.TheVariants.{Fault, MoreFaults, Warning, Safe, NotSafe, NotDecided}
use Rattle.report.specs.declared.version.TheConstants.{VERSION}
use Rattle.report.specs.Annotations.{Remark, rule_name}
use Rattle.job_bodies.specs.Plan.{Plan}
use Rattle.diagnostics.specs.declared.warnings.Warning.{Warning as PlanWarning}
use Rattle.diagnostics.specs.Lints.{is_note}
use Rattle.diagnostics.specs.declared.entry_places.PlanPlaces.{PlanPlaces}
use Rattle.report.specs.declared.finding.PlanFinding.{PlanFinding}
use Rattle.report.specs.Remarks.{AreRemarks}
use Rattle.report.specs.JsonLine.{IsLineOf}
use Rattle.report.specs.Uri.{uri_text}

abbrev pub level_word : Rule → List ℕ
level_word (Fault n) = codes "error"
level_word MoreFaults = codes "error"
level_word (Warning lint) = if is_note lint then codes "note" else codes "warning"
level_word Safe = codes "note"
level_word NotSafe = codes "error"
level_word NotDecided = codes "warning"

-- ---- results

unfoldable pub region_data : TextPlace → Data
region_data place =
    object (member (codes "startColumn") (number (unsigned place.column))
    (member (codes "startLine") (number (unsigned place.line)) no_members))

unfoldable pub file_data : List ℕ → Data
file_data file = object (member (codes "uri") (string (uri_text file)) no_members)

unfoldable pub whole_file : Data → Data
whole_file file = object (member (codes "artifactLocation") file no_members)

unfoldable pub part_of_file : Data → TextPlace → Data
part_of_file file place = object (member (codes "artifactLocation") file (member (codes "region") (region_data place) no_members))

-- the file, and the place in it if it is known
abbrev pub physical_data : List ℕ → Option TextPlace → Data
physical_data file None = whole_file (file_data file)
physical_data file (Some place) = part_of_file (file_data file) place

unfoldable pub location_data : List ℕ → Option TextPlace → Data
location_data file place = object (member (codes "physicalLocation") (physical_data file place) no_members)

unfoldable pub message_data : List ℕ → Data
message_data text = object (member (codes "text") (string text) no_members)

unfoldable pub result_data : List ℕ → Remark → Data
result_data file remark =
    object (member (codes "level") (string (level_word remark.rule))
    (member (codes "locations") (array (item (location_data file remark.place) no_items))
    (member (codes "message") (message_data remark.message)
    (member (codes "ruleId") (string (rule_name remark.rule)) no_members))))

abbrev pub results_data : List ℕ → List Remark → Data
results_data file remarks = array (items_of (map (result_data file) remarks))

-- ---- rules

unfoldable pub rule_data : List ℕ → Data
rule_data name = object (member (codes "id") (string name) no_members)

abbrev pub has_name : List (List ℕ) → List ℕ → Bool
has_name names name = list_any (λ each. bytes_eq each name) names

-- the names, followed by `name` unless they have it
abbrev pub with_name : List (List ℕ) → List ℕ → List (List ℕ)
with_name names name = if has_name names name then names else names ++ name ∷ []

abbrev pub with_rule : List (List ℕ) → Remark → List (List ℕ)
with_rule names remark = with_name names (rule_name remark.rule)

-- the names of the rules, each once, in the order in which they occur
abbrev pub rule_names : List Remark → List (List ℕ)
rule_names = fold with_rule []

abbrev pub names_data : List (List ℕ) → Data
names_data names = array (items_of (map rule_data names))

abbrev pub rules_data : List Remark → Data
rules_data remarks = names_data (rule_names remarks)

-- ---- the log

unfoldable pub driver_data : Data → Data
driver_data rules =
    object (member (codes "name") (string (codes "sizing"))
    (member (codes "rules") rules
    (member (codes "version") (string VERSION.now) no_members)))

unfoldable pub log_data : Data → Data → Data
log_data results driver =
    object (member (codes "$schema") (string (codes "https://json.schemastore.org/sarif-2.1.0.json"))
    (member (codes "runs") (array (item (object (member (codes "results") results (member (codes "tool") (object (member (codes "driver") driver no_members)) no_members))) no_items))
    (member (codes "version") (string (codes "2.1.0")) no_members)))

-- a log with one run, which has a result for each annotation, and the rules of the results
abbrev pub sarif_data : List ℕ → List Remark → Data
sarif_data file remarks = log_data (results_data file remarks) (driver_data (rules_data remarks))

-- the text is a log with the remarks about the finding
pub record ReportsFinding (file : List ℕ) (places : PlanPlaces) (plan : Plan) (finding : PlanFinding) (warnings : List PlanWarning) (text : List ℕ) : Type 0 where
  pub remarks : List Remark
  pub are_remarks : AreRemarks places plan finding warnings remarks
  pub is_line : IsLineOf (sarif_data file remarks) text
