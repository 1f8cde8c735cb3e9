-- The answer of `ask` as an HTML page.
use Rattle.std.specs.Prelude.{◌≡◌, ℕ, ◌==◌, if◌then◌else◌, List, [], ◌++◌, codes}
use Rattle.std.specs.List.{flat_map}
use Rattle.std.specs.Char.{encode_utf8}
use Rattle.std.specs.Str.{chars}
use Rattle.job_bodies.specs.Plan.{Plan}
use Rattle.diagnostics.specs.declared.diagnostic.Faults.{Faults}
use Rattle.diagnostics.specs.declared.entry_places.PlanPlaces.{PlanPlaces}
use Rattle.diagnostics.specs.declared.warnings.Warning.{Warning}
use Rattle.report.specs.declared.finding.PlanFinding.{PlanFinding}
use Rattle.report.specs.declared.page_template.TheConstants.{BEFORE, AFTER}
use Rattle.report.specs.Json as json

-- ---- the page
-- a character of a JSON text, escaped for a script element. `<` becomes an escape, so that no tag begins in the text. A newline
-- is omitted
unfoldable pub script_char : ℕ → List ℕ
script_char c = if c == 60 then codes "\\u003c" else if c == 10 then [] else encode_utf8 c

-- a JSON text, escaped for a script element
abbrev pub script_text : List ℕ → List ℕ
script_text json = flat_map script_char (chars json)

-- the page: its template, in which the escaped JSON text replaces a placeholder
unfoldable pub page_of : List ℕ → List ℕ
page_of json = (BEFORE.now ++ script_text json) ++ AFTER.now

-- ---- what the page shows
-- the page is that of a JSON text for which `Answers` holds
pub record Shows (Answers : List ℕ → Type 0) (page : List ℕ) : Type 0 where
  pub line : List ℕ
  pub answers : Answers line
  pub is : page ≡ page_of line

-- the page shows the finding
abbrev pub ReportsFinding : List ℕ → List ℕ → PlanPlaces → Plan → PlanFinding → List Warning → List ℕ → Type 0
ReportsFinding file text places plan finding warnings page = Shows (json.ReportsFinding file text places plan finding warnings) page

-- the page shows the faults of a plan's text
abbrev pub ReportsFaults : List ℕ → List ℕ → Faults → List ℕ → Type 0
ReportsFaults file text faults page = Shows (json.ReportsFaults file text faults) page

-- the page shows one fault without a place, in these words
abbrev pub ReportsFault : List ℕ → List ℕ → ℕ → List ℕ → List ℕ → Type 0
ReportsFault file text number words page = Shows (json.ReportsFault file text number words) page
