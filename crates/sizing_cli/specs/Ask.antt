-- The possible answers of `ask` to an input, and the text of the certificate that is returned with an answer (`left`). In all
-- definitions, `file` is the name of the plan's file in messages. They are relations, because several answers are possible.
-- They do not say which certificate, witness or sizes are found, or whether any are found. They also leave open the wording of
-- faults, and the places of a plan's entries in its text.
use Rattle.std.specs.Prelude.{◌≡◌, ◌≤◌, ◌<◌, ℕ, nat_lt, Bool, true, false, not, ◌&&◌, if◌then◌else◌, List, [], ◌∷◌, ◌++◌, length, codes, decimal, Option, Some, None, IfSome, Result, Ok, Err, option_map, IsTrue, MatchBool}
use Rattle.std.specs.List.{All}
use Rattle.clap.specs.Words.{Text}
use Rattle.job_bodies.specs.Plan.{Plan}
use Rattle.job_bodies.specs.declared.fault.PlanFault.{PlanFault}
use Rattle.plan_text.specs.PlanOf.{plan_of}
use Rattle.cert_text.specs.Cert.{Cert}
use Rattle.cert_text.specs.CertOf.{cert_of}
use Rattle.soundness.specs.Accepted.{accepted}
use Rattle.cert_text.specs.declared.fault.CertFault.{CertFault}
use Rattle.diagnostics.specs.declared.diagnostic.Faults.{Faults}
use Rattle.diagnostics.specs.declared.lint.Lint.{Lint}
use Rattle.diagnostics.specs.declared.lint.Lint.TheVariants.{StaleCertificate}
use Rattle.diagnostics.specs.declared.warnings.Warning.{Warning}
use Rattle.diagnostics.specs.Lints.{AreLints, lints_in, has_warning}
use Rattle.diagnostics.specs.AtCore.{at_core, can_be_lowered}
use Rattle.diagnostics.specs.Diagnostic.{HaveSingleLines, WarnInSingleLines, faults_text, warnings_text}
use Rattle.diagnostics.specs.Lines.{HasNoNewline}
use Rattle.diagnostics.specs.PlanPlaces.{FitPlan}
use Rattle.diagnostics.specs.WarningWords.{IsWarningOf}
use Rattle.diagnostics.specs.declared.entry_places.PlanPlaces.{PlanPlaces}
use Rattle.sizing_cli.specs.declared.lowered_plan.LoweredPlan.{LoweredPlan}
use Rattle.size_search.specs.declared.found.SizesFound.{SizesFound}
use Rattle.size_search.specs.declared.found.SizesFound.TheVariants.{Found, NotFound}
use Rattle.report.specs.declared.finding.PlanFinding.{PlanFinding}
use Rattle.report.specs.declared.finding.PlanFinding.TheVariants.{Safe, NotSafe, NotDecided}
use Rattle.report.specs.Finding.{IsFinding}
use Rattle.report.specs.Places.{needed_places}
use Rattle.report.specs.AnswerText.{ReportsAnswer}
use Rattle.report.specs.Json as json
use Rattle.report.specs.Html as page
use Rattle.report.specs.Github as github
use Rattle.report.specs.Sarif as sarif
use Rattle.report.specs.Remarks.{fault_remarks, single_fault}
use Rattle.report.specs.JsonLine.{IsLineOf}
use Rattle.report.specs.Picture.{picture_text}
use Rattle.command_line.specs.declared.command.AskInput.{AskInput}
use Rattle.command_line.specs.declared.command.AskInput.TheVariants.{PlanAlone, WithCertificate}
use Rattle.command_line.specs.declared.command.Form.{Form}
use Rattle.command_line.specs.declared.command.Form.TheVariants.{Words, Json, Dot, Html, Github, Sarif}
use Rattle.command_line.specs.declared.command.AskOptions.{AskOptions}
use Rattle.job_bodies.specs.declared.limits.TheConstants.{MAX_INPUT_BYTES}
use Rattle.sizing_cli.specs.declared.status.Status.{Status}
use Rattle.sizing_cli.specs.declared.status.Status.TheVariants.{Done, Refused, BadText, Undecided}
use Rattle.sizing_cli.specs.Answer.{Answer, no_separator, input_too_long}
use Rattle.sizing_cli.specs.Bundle.{Bundle, bundle_of}
use Rattle.sizing_cli.specs.Certify.{HasLongText}
use Rattle.sizing_cli.specs.declared.ask_answer.AskOutput.{AskOutput}
use Rattle.sizing_cli.specs.SafeInput.{IsSafePlan}

-- the text of a plan, and the name of its file in messages
pub record PlanSource : Type 0 where
  pub file : Text
  pub text : List ℕ

abbrev pub source_of : Text → List ℕ → PlanSource
source_of file text = record { file = file; text = text }

-- ---- faults

-- The text reports the faults of a plan's text in this output format. The format `Dot` cannot show faults, so the text is then
-- the same as for `Words`.
abbrev pub ReportsFaultsIn : Form → PlanSource → Faults → List ℕ → Type 0
ReportsFaultsIn Words source faults text = text ≡ faults_text source.file faults
ReportsFaultsIn Json source faults text = json.ReportsFaults source.file source.text faults text
ReportsFaultsIn Dot source faults text = text ≡ faults_text source.file faults
ReportsFaultsIn Html source faults text = page.ReportsFaults source.file source.text faults text
ReportsFaultsIn Github source faults text = text ≡ github.github_text source.file (fault_remarks faults)
ReportsFaultsIn Sarif source faults text = IsLineOf (sarif.sarif_data source.file (fault_remarks faults)) text

-- The answer reports the faults of a plan's text, of which `fault` is the first. It reports at most 100 faults, and the message
-- of each is one line. It omits faults only if it reports 100.
pub record AnswersFault (form : Form) (source : PlanSource) (fault : PlanFault) (answer : Answer) : Type 0 where
  pub faults : Faults
  pub is_first : faults.first.fault ≡ fault
  pub single_lines : HaveSingleLines faults
  pub within : length faults.others.items ≤ 99
  pub full : 0 < faults.omitted → length faults.others.items ≡ 99
  pub tells : ReportsFaultsIn form source faults answer.text
  pub status : answer.status ≡ BadText

-- the end of a message: the fault number, and a newline
abbrev pub fault_number : ℕ → List ℕ
fault_number number = codes " (fault " ++ (decimal number ++ (codes ")" ++ 10 ∷ []))

-- the text reports the fault of a certificate with this number and this message, in this output format
abbrev pub ReportsCertFaultIn : Form → PlanSource → ℕ → List ℕ → List ℕ → Type 0
ReportsCertFaultIn Words source number words text = text ≡ words ++ fault_number number
ReportsCertFaultIn Json source number words text = json.ReportsFault source.file source.text number words text
ReportsCertFaultIn Dot source number words text = text ≡ words ++ fault_number number
ReportsCertFaultIn Html source number words text = page.ReportsFault source.file source.text number words text
ReportsCertFaultIn Github source number words text = text ≡ github.github_text source.file (single_fault number words)
ReportsCertFaultIn Sarif source number words text = IsLineOf (sarif.sarif_data source.file (single_fault number words)) text

-- the answer reports a fault of a certificate, and the message of the fault is one line
pub record AnswersCertFault (form : Form) (source : PlanSource) (fault : CertFault) (answer : Answer) : Type 0 where
  pub words : List ℕ
  pub single_line : HasNoNewline words
  pub tells : ReportsCertFaultIn form source fault.number words answer.text
  pub status : answer.status ≡ BadText

-- ---- answers

-- The status of an answer with this finding. If `strict` is true, the status of a safe plan is Refused if it has a warning. A
-- note does not count as a warning here.
abbrev pub status_of : Bool → List Warning → PlanFinding → Status
status_of strict warnings (Safe cert rejections) = if strict && has_warning warnings then Refused else Done
status_of strict warnings (NotSafe witness sizes) = Refused
status_of strict warnings (NotDecided sizes) = Undecided

-- the list with the lint of a stale certificate if the flag is true, and otherwise the empty list
abbrev pub stale_if : Bool → List Lint
stale_if true = StaleCertificate ∷ []
stale_if false = []

-- whether the given certificate, if there is one, is stale, which means that it does not accept the plan
abbrev pub is_stale : Plan → Option Cert → Bool
is_stale plan None = false
is_stale plan (Some cert) = not (accepted plan cert)

-- the finding is that the plan is safe by this certificate
abbrev pub IsSafeBy : Cert → PlanFinding → Type 0
IsSafeBy cert (Safe found rejections) = found ≡ cert
IsSafeBy cert _ = ⊥

-- if the given certificate accepts the plan, the finding is that the plan is safe by this certificate
abbrev pub RestsOnGiven : Plan → Option Cert → PlanFinding → Type 0
RestsOnGiven plan given finding = IfSome given (λ cert. IsTrue (accepted plan cert) → IsSafeBy cert finding)

-- For each pool, the number of queue places that it needs with the sizes that were found. The certificate of these sizes proves
-- this number. If no sizes were found, the list is empty.
abbrev pub needed_by_sizes : SizesFound → List (Option ℕ)
needed_by_sizes (Found fit cert) = needed_places fit cert
needed_by_sizes (NotFound cause) = []

-- For each pool, the number of queue places that it needs. For a safe plan, the certificate of the finding proves this number.
-- For any other plan, see `needed_by_sizes`.
abbrev pub needed_of : Plan → PlanFinding → List (Option ℕ)
needed_of plan (Safe cert rejections) = needed_places plan cert
needed_of plan (NotSafe witness sizes) = needed_by_sizes sizes
needed_of plan (NotDecided sizes) = needed_by_sizes sizes

-- `lowered` has the lowered plan, and a certificate that accepts it. In the lowered plan, each maximum is lowered to the core
-- size of its pool, unless core threads may time out. The plan must be one that can be lowered (`can_be_lowered`).
pub record IsAcceptedAtCore (plan : Plan) (lowered : LoweredPlan) : Type 0 where
  pub can_be : can_be_lowered plan ≡ true
  pub is_at_core : lowered.plan ≡ at_core plan
  pub is_accepted : IsTrue (accepted lowered.plan lowered.cert)

-- there is a lowered plan only if the finding is that the plan is undecided
abbrev pub IsLowered : Plan → PlanFinding → Option LoweredPlan → Type 0
IsLowered plan (Safe cert rejections) lowered = lowered ≡ None
IsLowered plan (NotSafe witness sizes) lowered = lowered ≡ None
IsLowered plan (NotDecided sizes) lowered = IfSome lowered (IsAcceptedAtCore plan)

-- The lints of the plan. If there is a lowered plan, they use the numbers of queue places that its certificate proves.
-- Otherwise they use the numbers of the finding (`needed_of`).
abbrev pub AreLintsWith : Plan → PlanFinding → Option LoweredPlan → List Lint → Type 0
AreLintsWith plan finding (Some lowered) lints = AreLints plan (needed_places lowered.plan lowered.cert) true lints
AreLintsWith plan finding None lints = AreLints plan (needed_of plan finding) false lints

-- The warnings are exactly the lints of the plan, in order (`AreLintsWith`). If `stale` is true, a last warning is about the
-- stale certificate. If a warning reports a circle of submits, it is one of the plan.
pub record AreWarnings (plan : Plan) (finding : PlanFinding) (lowered : Option LoweredPlan) (stale : Bool) (warnings : List Warning) : Type 0 where
  pub lints : List Lint
  pub are_lints : AreLintsWith plan finding lowered lints
  pub warned : lints_in warnings ≡ lints ++ stale_if stale
  pub single_lines : WarnInSingleLines warnings
  pub circles : All (IsWarningOf plan) warnings

-- the text reports the warnings, under the file's name, and then the finding
pub record ReportsFinding (file : Text) (plan : Plan) (warnings : List Warning) (finding : PlanFinding) (text : List ℕ) : Type 0 where
  pub words : List ℕ
  pub tells : ReportsAnswer plan finding words
  pub text_is : text ≡ warnings_text file warnings ++ words

-- there are places of the plan's entries in its text for which `Holds` is true
pub record WithPlaces (plan : Plan) (Holds : PlanPlaces → Type 0) : Type 0 where
  pub places : PlanPlaces
  pub fit : FitPlan plan places
  pub holds : Holds places

-- the text reports the finding in this output format; for each format except `Dot`, it also reports the warnings
abbrev pub ReportsFindingIn : Form → PlanSource → Plan → List Warning → PlanFinding → List ℕ → Type 0
ReportsFindingIn Words source plan warnings finding text = ReportsFinding source.file plan warnings finding text
ReportsFindingIn Json source plan warnings finding text = WithPlaces plan (λ places. json.ReportsFinding source.file source.text places plan finding warnings text)
ReportsFindingIn Dot source plan warnings finding text = text ≡ picture_text plan finding
ReportsFindingIn Html source plan warnings finding text = WithPlaces plan (λ places. page.ReportsFinding source.file source.text places plan finding warnings text)
ReportsFindingIn Github source plan warnings finding text = WithPlaces plan (λ places. github.ReportsFinding source.file places plan finding warnings text)
ReportsFindingIn Sarif source plan warnings finding text = WithPlaces plan (λ places. sarif.ReportsFinding source.file places plan finding warnings text)

-- The answer reports the finding and the warnings. Its status follows from both (`status_of`).
pub record AnswersFinding (options : AskOptions) (source : PlanSource) (plan : Plan) (finding : PlanFinding) (lowered : Option LoweredPlan) (stale : Bool) (answer : Answer) : Type 0 where
  pub warnings : List Warning
  pub are_warnings : AreWarnings plan finding lowered stale warnings
  pub tells : ReportsFindingIn options.form source plan warnings finding answer.text
  pub status : answer.status ≡ status_of options.strict warnings finding

-- ---- the certificate that an answer leaves

-- The given text, if there is one, is read as the certificate. There is no text only if the certificate's text is too long to
-- be read back.
abbrev pub IsCertificateText : Plan → Cert → Option (List ℕ) → Type 0
IsCertificateText plan cert (Some text) = cert_of text plan ≡ Ok cert
IsCertificateText plan cert None = HasLongText cert

-- `left` is the text that is returned with a finding. For a safe plan, it is the text of the finding's certificate
-- (`IsCertificateText`). For any other finding, it is None.
abbrev pub IsFindingCertificate : Plan → PlanFinding → Option (List ℕ) → Type 0
IsFindingCertificate plan (Safe cert rejections) left = IsCertificateText plan cert left
IsFindingCertificate plan (NotSafe witness sizes) left = left ≡ None
IsFindingCertificate plan (NotDecided sizes) left = left ≡ None

-- the text of the certificate that is returned with an answer
abbrev pub certificate_of_output : AskOutput → Option (List ℕ)
certificate_of_output answer = option_map (λ text. text.items) answer.certificate

-- ---- answers to an input

-- The answer reports this finding about the plan. `stale` is true if the given certificate is stale. `left` is the text of the
-- finding's certificate.
pub record ReportsPlan (options : AskOptions) (source : PlanSource) (plan : Plan) (finding : PlanFinding) (stale : Bool) (left : Option (List ℕ)) (answer : Answer) : Type 0 where
  pub lowered : Option LoweredPlan
  pub is_lowered : IsLowered plan finding lowered
  pub answers : AnswersFinding options source plan finding lowered stale answer
  pub leaves : IsFindingCertificate plan finding left

-- The answer reports a finding that is true of the plan. If the given certificate accepts the plan, the finding is based on it.
-- `left` is the text of the finding's certificate.
pub record AnswersPlan (options : AskOptions) (source : PlanSource) (plan : Plan) (given : Option Cert) (left : Option (List ℕ)) (answer : Answer) : Type 0 where
  pub finding : PlanFinding
  pub is_finding : IsFinding plan finding
  pub rests : RestsOnGiven plan given finding
  pub reported : ReportsPlan options source plan finding (is_stale plan given) left answer

abbrev pub AnswersCert : AskOptions → PlanSource → Plan → Result Cert CertFault → Option (List ℕ) → Answer → Type 0
AnswersCert options source plan (Err f) left answer = (left ≡ None) × AnswersCertFault options.form source f answer
AnswersCert options source plan (Ok cert) left answer = AnswersPlan options source plan (Some cert) left answer

-- the answers for a plan and, if one is given, a certificate's text
abbrev pub AnswersGiven : AskOptions → PlanSource → Option (List ℕ) → Plan → Option (List ℕ) → Answer → Type 0
AnswersGiven options source None plan left answer = AnswersPlan options source plan None left answer
AnswersGiven options source (Some cert) plan left answer = AnswersCert options source plan (cert_of cert plan) left answer

-- the answers for the result of parsing the plan's text; a fault of this text is the whole answer
abbrev pub AnswersReading : AskOptions → PlanSource → Option (List ℕ) → Result Plan PlanFault → Option (List ℕ) → Answer → Type 0
AnswersReading options source cert (Err f) left answer = (left ≡ None) × AnswersFault options.form source f answer
AnswersReading options source cert (Ok plan) left answer = AnswersGiven options source cert plan left answer

abbrev pub AnswersBundle : AskOptions → Text → Option Bundle → Option (List ℕ) → Answer → Type 0
AnswersBundle options file None left answer = (left ≡ None) × (answer ≡ no_separator)
AnswersBundle options file (Some bundle) left answer = AnswersReading options (source_of file bundle.plan) (Some bundle.second) (plan_of bundle.plan) left answer

abbrev pub AnswersInput : AskInput → AskOptions → Text → List ℕ → Option (List ℕ) → Answer → Type 0
AnswersInput PlanAlone options file input left answer = AnswersReading options (source_of file input) None (plan_of input) left answer
AnswersInput WithCertificate options file input left answer = AnswersBundle options file (bundle_of input) left answer

abbrev pub IsAskAnswer : AskInput → AskOptions → Text → List ℕ → Option (List ℕ) → Answer → Type 0
IsAskAnswer given options file input left answer =
    MatchBool (nat_lt MAX_INPUT_BYTES (length input)) ((left ≡ None) × (answer ≡ input_too_long)) (AnswersInput given options file input left answer)

-- ---- what status 0 means

-- the input is a bundle, and the plan before its last line `%%` is safe
pub record IsSafeBundle (input : List ℕ) : Type 0 where
  pub bundle : Bundle
  pub is_bundle : bundle_of input ≡ Some bundle
  pub safe : IsSafePlan bundle.plan

-- the plan in the input is safe
abbrev pub IsSafeAskInput : AskInput → List ℕ → Type 0
IsSafeAskInput PlanAlone input = IsSafePlan input
IsSafeAskInput WithCertificate input = IsSafeBundle input
