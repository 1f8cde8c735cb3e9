-- The possible answers of `fit` to an input. The definition is a relation, because it does not fix which sizes are found.
use Rattle.std.specs.Prelude.{◌≡◌, ◌⊎◌, ◌<◌, ⊤, ℕ, nat_lt, ◌==◌, List, [], ◌∷◌, ◌++◌, length, codes, Result, Ok, Err, IsTrue, MatchBool}
use Rattle.job_bodies.specs.Plan.{Plan}
use Rattle.job_bodies.specs.FaultText.{fault_line}
use Rattle.job_bodies.specs.declared.fault.PlanFault.{PlanFault}
use Rattle.job_bodies.specs.declared.limits.TheConstants.{MAX_PLAN_BYTES, MAX_INPUT_BYTES}
use Rattle.plan_text.specs.PlanOf.{plan_of}
use Rattle.plan_text.specs.PlanDocument.{IsPlanText}
use Rattle.plan_text.specs.EffectivePlan.{effective_plan}
use Rattle.cert_text.specs.Cert.{Cert}
use Rattle.cert_text.specs.CertText.{cert_text}
use Rattle.soundness.specs.Accepted.{accepted}
use Rattle.size_search.specs.Steady.{steady_cert}
use Rattle.size_search.specs.declared.found.NoSizes.{NoSizes}
use Rattle.size_search.specs.declared.found.SizesFound.{SizesFound}
use Rattle.size_search.specs.declared.found.SizesFound.TheVariants.{Found, NotFound}
use Rattle.size_search.specs.Sized.{IsSized, IsFound}
use Rattle.size_search.specs.Decided.{IsDecided}
use Rattle.report.specs.Sizes.{changes, sizes_text}
use Rattle.report.specs.Cause.{no_sizes_text}
use Rattle.command_line.specs.declared.command.SizesForm.{SizesForm}
use Rattle.command_line.specs.declared.command.SizesForm.TheVariants.{Sizes, Bundle}
use Rattle.sizing_cli.specs.declared.status.Status.TheVariants.{Done, Refused}
use Rattle.sizing_cli.specs.Answer.{Answer, fault, input_too_long, yes_or_no}
use Rattle.sizing_cli.specs.Certify.{IsBundleWith, HasLongText}

-- The answer that lists the sizes of `fit`, which is the plan with the sizes that were found. Its status is a no if a size
-- differs from that of `plan`.
abbrev pub sizes_answer : Plan → Plan → Answer
sizes_answer plan fit = record { text = sizes_text plan fit; status = yes_or_no (changes plan fit == 0) }

abbrev pub no_sizes_answer : Plan → NoSizes → Answer
no_sizes_answer plan cause = record { text = no_sizes_text plan cause; status = Refused }

abbrev pub text_too_long : Answer
text_too_long = record { text = codes "no bundle: text too long" ++ 10 ∷ []; status = Refused }

-- the answer with a line for each pool, or with the reason why no sizes were found
abbrev pub lines_answer : Plan → SizesFound → Answer
lines_answer plan (Found fit cert) = sizes_answer plan fit
lines_answer plan (NotFound cause) = no_sizes_answer plan cause

-- a written text of the plan is too long to be read back
pub record HasLongPlanText (plan : Plan) : Type 0 where
  pub text : List ℕ
  pub is_text : IsPlanText plan text
  pub long : MAX_PLAN_BYTES < length text

-- The text is the bundle of a text of the fitted plan and the text of the certificate. The first of these texts is read as the
-- effective plan (`effective_plan`) of the fitted plan.
pub record IsBundleOf (fit : Plan) (cert : Cert) (text : List ℕ) : Type 0 where
  pub fit_text : List ℕ
  pub is_text : IsPlanText fit fit_text
  pub is_fit : plan_of fit_text ≡ Ok (effective_plan fit)
  pub bundle : IsBundleWith fit_text (cert_text cert ++ 10 ∷ []) text

pub record IsBundled (fit : Plan) (cert : Cert) (answer : Answer) : Type 0 where
  pub bundle : IsBundleOf fit cert answer.text
  pub status : answer.status ≡ Done

-- the answers for sizes that were found: the bundle, or a report that its plan or its certificate is too long
abbrev pub BundlesSizes : Plan → Cert → Answer → Type 0
BundlesSizes fit cert answer = ((answer ≡ text_too_long) × (HasLongPlanText fit ⊎ HasLongText cert)) ⊎ IsBundled fit cert answer

-- the answers for the result of a search for sizes
abbrev pub AnswersFound : SizesForm → Plan → SizesFound → Answer → Type 0
AnswersFound Sizes plan found answer = answer ≡ lines_answer plan found
AnswersFound Bundle plan (Found fit cert) answer = BundlesSizes fit cert answer
AnswersFound Bundle plan (NotFound cause) answer = answer ≡ no_sizes_answer plan cause

-- the sizes that were found are the declared ones, with some certificate
pub record IsAsDeclared (plan : Plan) (found : SizesFound) : Type 0 where
  pub cert : Cert
  pub is : found ≡ Found plan cert

-- if sizes were found, the plan with these sizes is its own effective plan (`effective_plan`)
abbrev pub AreEffective : SizesFound → Type 0
AreEffective (Found fit cert) = effective_plan fit ≡ fit
AreEffective (NotFound cause) = ⊤

-- The answer reports the result of a search for sizes. The result is true of the plan, and decides whether there are sizes. If
-- the steady certificate (`steady_cert`) accepts the plan, the sizes that were found are the declared ones.
pub record AnswersPlan (sizes_form : SizesForm) (plan : Plan) (answer : Answer) : Type 0 where
  pub found : SizesFound
  pub is_found : IsFound plan found
  pub is_decided : IsDecided plan found
  pub effective : AreEffective found
  pub unchanged : IsTrue (accepted plan (steady_cert plan)) → IsAsDeclared plan found
  pub answers : AnswersFound sizes_form plan found answer

abbrev pub AnswersReading : SizesForm → Result Plan PlanFault → Answer → Type 0
AnswersReading sizes_form (Err f) answer = answer ≡ fault (fault_line f)
AnswersReading sizes_form (Ok plan) answer = AnswersPlan sizes_form plan answer

-- the possible answers to an input
abbrev pub IsFitAnswer : SizesForm → List ℕ → Answer → Type 0
IsFitAnswer sizes_form input answer = MatchBool (nat_lt MAX_INPUT_BYTES (length input)) (answer ≡ input_too_long) (AnswersReading sizes_form (plan_of input) answer)

-- What status 0 means for a bundle. The bundle has a fitted plan and a certificate that `check` accepts. The sizes of the
-- fitted plan are the least for this certificate (`IsSized`).
pub record IsFittedBundle (plan : Plan) (text : List ℕ) : Type 0 where
  pub cert : Cert
  pub fit : Plan
  pub is_sized : IsSized plan cert fit
  pub effective : effective_plan fit ≡ fit
  pub bundle : IsBundleOf fit cert text
