-- The answer of `ask` as a JSON object on one line, in format 1.
use Rattle.std.specs.Prelude.{ℕ, List, [], codes}
use Rattle.serde_json.specs.Data.{Data, null, number, unsigned, string, array, object, item, no_items, member, no_members}
use Rattle.serde_json.specs.View.{items_of}
use Rattle.job_bodies.specs.Plan.{Plan}
use Rattle.diagnostics.specs.declared.diagnostic.Faults.{Faults}
use Rattle.diagnostics.specs.declared.entry_places.PlanPlaces.{PlanPlaces}
use Rattle.diagnostics.specs.declared.warnings.Warning.{Warning}
use Rattle.report.specs.declared.finding.PlanFinding.{PlanFinding}
use Rattle.report.specs.declared.finding.PlanFinding.TheVariants.{Safe, NotSafe, NotDecided}
use Rattle.report.specs.declared.version.TheConstants.{VERSION}
use Rattle.report.specs.JsonLine.{IsLineOf}
use Rattle.report.specs.JsonFaults.{faults_data, single_fault_data}
use Rattle.report.specs.JsonPlan.{plan_data, text_only_data}
use Rattle.report.specs.JsonPools.{pools_data}
use Rattle.report.specs.JsonSizes.{sizes_data}
use Rattle.report.specs.JsonWarnings.{warnings_data}
use Rattle.report.specs.JsonWitness.{witness_data}

-- ---- the object

-- the members of an answer except its name, its file, the format and the version
pub record Parts : Type 0 where
  pub assumptions : Data
  pub faults : Data
  pub omitted : ℕ
  pub plan : Data
  pub pools : Data
  pub sizes : Data
  pub warnings : Data
  pub witness : Data

-- the object of an answer, with its keys in ascending order; `word` is the name of the answer, such as `NOT SAFE`
unfoldable pub answer_data : List ℕ → List ℕ → Parts → Data
answer_data word file parts =
    object (member (codes "answer") (string word)
    (member (codes "assumptions") parts.assumptions
    (member (codes "faults") parts.faults
    (member (codes "file") (string file)
    (member (codes "format") (number (unsigned 1))
    (member (codes "omitted") (number (unsigned parts.omitted))
    (member (codes "plan") parts.plan
    (member (codes "pools") parts.pools
    (member (codes "sizes") parts.sizes
    (member (codes "version") (string VERSION.now)
    (member (codes "warnings") parts.warnings
    (member (codes "witness") parts.witness no_members))))))))))))

-- ---- a finding

abbrev pub word_of : PlanFinding → List ℕ
word_of (Safe cert rejections) = codes "SAFE"
word_of (NotSafe witness sizes) = codes "NOT SAFE"
word_of (NotDecided sizes) = codes "NOT DECIDED"

-- the assumptions of the answer SAFE
unfoldable pub safe_assumptions : Data
safe_assumptions =
    array (item (string (codes "The service does what the plan says: these pools, these submitters, these bodies. A job may skip any submit together with its get. `sizing conform` compares a recorded test run with the plan."))
    (item (string (codes "The executors have the sizes of the plan. `PlanCheck` compares them when the service starts."))
    (item (string (codes "Each `work` of a job returns, whatever other jobs and clients do."))
    (item (string (codes "No timed get expires, no future is cancelled, and no exception leaves a body with an open future, except with permits.")) no_items))))

abbrev pub assumptions_data : PlanFinding → Data
assumptions_data (Safe cert rejections) = safe_assumptions
assumptions_data (NotSafe witness sizes) = array (items_of [])
assumptions_data (NotDecided sizes) = array (items_of [])

-- the pools of the plan; if a certificate accepts the plan, with the bounds of the certificate
abbrev pub pools_of : Plan → PlanFinding → Data
pools_of plan (Safe cert rejections) = pools_data plan cert.pools rejections.items
pools_of plan (NotSafe witness sizes) = pools_data plan [] []
pools_of plan (NotDecided sizes) = pools_data plan [] []

-- the result of the search for other sizes; null if the plan is safe
abbrev pub sizes_of : PlanPlaces → Plan → PlanFinding → Data
sizes_of places plan (Safe cert rejections) = null
sizes_of places plan (NotSafe witness sizes) = sizes_data places plan sizes
sizes_of places plan (NotDecided sizes) = sizes_data places plan sizes

abbrev pub witness_of : PlanPlaces → Plan → PlanFinding → Data
witness_of places plan (Safe cert rejections) = null
witness_of places plan (NotSafe witness sizes) = witness_data places plan witness
witness_of places plan (NotDecided sizes) = null

abbrev pub finding_parts : List ℕ → PlanPlaces → Plan → PlanFinding → List Warning → Parts
finding_parts text places plan finding warnings = record { assumptions = assumptions_data finding; faults = array (items_of []); omitted = 0; plan = plan_data text places plan; pools = pools_of plan finding; sizes = sizes_of places plan finding; warnings = warnings_data warnings; witness = witness_of places plan finding }

-- the answer with the finding about a plan; `text` is the text from which the plan was read
abbrev pub finding_data : List ℕ → List ℕ → PlanPlaces → Plan → PlanFinding → List Warning → Data
finding_data file text places plan finding warnings = answer_data (word_of finding) file (finding_parts text places plan finding warnings)

-- the line reports the finding
pub record ReportsFinding (file text : List ℕ) (places : PlanPlaces) (plan : Plan) (finding : PlanFinding) (warnings : List Warning) (line : List ℕ) : Type 0 where
  pub is_line : IsLineOf (finding_data file text places plan finding warnings) line

-- ---- faults

abbrev pub fault_parts : Data → Data → ℕ → Parts
fault_parts plan faults omitted = record { assumptions = array (items_of []); faults = faults; omitted = omitted; plan = plan; pools = array (items_of []); sizes = null; warnings = array (items_of []); witness = null }

-- the answer about a text with faults; `omitted` is the number of further faults, which are left out
abbrev pub faulty_data : List ℕ → List ℕ → Data → ℕ → Data
faulty_data file text faults omitted = answer_data (codes "FAULTS") file (fault_parts (text_only_data text) faults omitted)

-- the line reports the faults of a plan's text
pub record ReportsFaults (file text : List ℕ) (faults : Faults) (line : List ℕ) : Type 0 where
  pub is_line : IsLineOf (faulty_data file text (faults_data faults) faults.omitted) line

-- the line reports one fault without a place, in these words
pub record ReportsFault (file text : List ℕ) (number : ℕ) (words line : List ℕ) : Type 0 where
  pub is_line : IsLineOf (faulty_data file text (single_fault_data number words) 0) line
