-- The text of an answer.
use Rattle.std.specs.Prelude.{◌≡◌, List, ℕ, [], ◌∷◌, ◌++◌, codes, Option}
use Rattle.job_bodies.specs.Plan.{Plan}
use Rattle.cert_text.specs.Cert.{Cert}
use Rattle.counterexample.specs.declared.witness.Witness.{Witness}
use Rattle.report.specs.Description.{IsDescription}
use Rattle.size_search.specs.declared.found.SizesFound.{SizesFound}
use Rattle.size_search.specs.declared.found.SizesFound.TheVariants.{Found, NotFound}
use Rattle.report.specs.Sizes.{sizes_text}
use Rattle.report.specs.Cause.{no_sizes_text}
use Rattle.report.specs.SafeText.{safe_text}
use Rattle.report.specs.AdviceText.{advice_text, open_text}
use Rattle.report.specs.declared.finding.PlanFinding.{PlanFinding}
use Rattle.report.specs.declared.finding.PlanFinding.TheVariants.{Safe, NotSafe, NotDecided}

abbrev pub safe_head : List ℕ
safe_head = codes "SAFE" ++ 10 ∷ []

abbrev pub not_safe_head : List ℕ
not_safe_head = codes "NOT SAFE" ++ 10 ∷ []

abbrev pub not_decided_head : List ℕ
not_decided_head = codes "NOT DECIDED" ++ 10 ∷ []

-- the lines with the sizes of `fit`, with which a certificate accepts the plan
abbrev pub fit_part : Plan → Plan → List ℕ
fit_part plan fit = (codes "with these sizes a certificate accepts the plan:" ++ 10 ∷ []) ++ sizes_text plan fit

-- the lines with the sizes that were found, or with the reason why no sizes were found
abbrev pub sizes_part : Plan → SizesFound → List ℕ
sizes_part plan (Found fit cert) = fit_part plan fit
sizes_part plan (NotFound cause) = no_sizes_text plan cause

-- the text is the answer SAFE: its first line, the lines about the pools, and what the certificate guarantees
abbrev pub ReportsSafe : Plan → Cert → List (Option ℕ) → List ℕ → Type 0
ReportsSafe plan cert rejections text = text ≡ safe_head ++ safe_text plan cert rejections

-- the text is the answer NOT SAFE: its first line, the description of the witness, the sizes, and the advice
pub record ReportsNotSafe (plan : Plan) (witness : Witness) (sizes : SizesFound) (text : List ℕ) : Type 0 where
  pub story : List ℕ
  pub is_story : IsDescription plan witness story
  pub is : text ≡ ((not_safe_head ++ story) ++ sizes_part plan sizes) ++ advice_text plan sizes

-- the text is the answer NOT DECIDED: its first line, the sizes, the advice, and a line that says what was not found
abbrev pub ReportsNotDecided : Plan → SizesFound → List ℕ → Type 0
ReportsNotDecided plan sizes text = text ≡ ((not_decided_head ++ sizes_part plan sizes) ++ advice_text plan sizes) ++ open_text sizes

-- the text reports the finding
abbrev pub ReportsAnswer : Plan → PlanFinding → List ℕ → Type 0
ReportsAnswer plan (Safe cert rejections) text = ReportsSafe plan cert rejections.items text
ReportsAnswer plan (NotSafe witness sizes) text = ReportsNotSafe plan witness sizes text
ReportsAnswer plan (NotDecided sizes) text = ReportsNotDecided plan sizes text
