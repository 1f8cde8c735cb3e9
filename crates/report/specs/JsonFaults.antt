-- The faults of a plan's text as JSON.
use Rattle.std.specs.Prelude.{ℕ, List, [], ◌∷◌, map, codes, string_bytes, Option, Some, None}
use Rattle.serde_json.specs.Data.{Data, null, number, unsigned, string, array, object, item, no_items, member, no_members}
use Rattle.serde_json.specs.View.{items_of}
use Rattle.plan_text.specs.declared.place.TextPlace.{TextPlace}
use Rattle.diagnostics.specs.declared.diagnostic.Diagnostic.{Diagnostic}
use Rattle.diagnostics.specs.declared.diagnostic.Faults.{Faults}
use Rattle.diagnostics.specs.declared.diagnostic.NumberRange.{NumberRange}
use Rattle.report.specs.JsonPlaces.{line_data, column_data}

-- the lowest and the highest number of the range; null if the fault is not about a range
abbrev pub range_data : Option NumberRange → Data
range_data None = null
range_data (Some range) = array (item (number (unsigned range.low)) (item (number (unsigned range.high)) no_items))

unfoldable pub fault_data : Option TextPlace → ℕ → Data → List ℕ → Data
fault_data place fault range words =
    object (member (codes "column") (column_data place)
    (member (codes "fault") (number (unsigned fault))
    (member (codes "line") (line_data place)
    (member (codes "range") range
    (member (codes "text") (string words) no_members)))))

abbrev pub diagnostic_data : Diagnostic → Data
diagnostic_data diagnostic = fault_data (Some diagnostic.place) diagnostic.fault.number (range_data diagnostic.range) (string_bytes diagnostic.what)

-- the list of the reported faults; its first element is the fault that the plan parser reports first
abbrev pub faults_data : Faults → Data
faults_data faults = array (items_of (diagnostic_data faults.first ∷ map diagnostic_data faults.others.items))

-- a list of one fault, which has no place in the plan's text
abbrev pub single_fault_data : ℕ → List ℕ → Data
single_fault_data fault words = array (items_of (fault_data None fault null words ∷ []))
