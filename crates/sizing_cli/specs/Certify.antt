-- The possible answers of `certify` to an input. The definition is a relation, because it does not fix which certificate is
-- found.
use Rattle.std.specs.Prelude.{◌≡◌, ◌⊎◌, ◌<◌, ℕ, nat_lt, List, [], ◌∷◌, ◌++◌, length, codes, Option, Some, None, Result, Ok, Err, IsTrue, MatchBool}
use Rattle.job_bodies.specs.Plan.{Plan}
use Rattle.job_bodies.specs.FaultText.{fault_line}
use Rattle.job_bodies.specs.declared.fault.PlanFault.{PlanFault}
use Rattle.plan_text.specs.PlanOf.{plan_of}
use Rattle.cert_text.specs.Cert.{Cert}
use Rattle.job_bodies.specs.declared.limits.TheConstants.{MAX_CERT_BYTES, MAX_INPUT_BYTES}
use Rattle.cert_text.specs.CertText.{cert_text}
use Rattle.soundness.specs.Accepted.{accepted}
use Rattle.size_search.specs.declared.found.SizesFound.{SizesFound}
use Rattle.report.specs.Finding.{IsOpen}
use Rattle.cert_check.specs.Verdict.{Verdict}
use Rattle.cert_check.specs.Check.{checked, IsSafeToRun}
use Rattle.sizing_cli.specs.declared.status.Status.TheVariants.{Done, Refused}
use Rattle.sizing_cli.specs.Answer.{Answer, fault, input_too_long}
use Rattle.sizing_cli.specs.Bundle.{bundle_of, whole_lines}

abbrev pub none_found : Answer
none_found = record { text = codes "no certificate found" ++ 10 ∷ []; status = Refused }

abbrev pub text_too_long : Answer
text_too_long = record { text = codes "no certificate: text too long" ++ 10 ∷ []; status = Refused }

-- `check` accepts the texts of a plan and of a certificate for it, and the plan is safe to run
pub record IsYes (plan cert : List ℕ) : Type 0 where
  pub verdict : Verdict
  pub is_checked : checked plan cert ≡ Ok verdict
  pub yes : IsTrue verdict.yes
  pub safe : IsSafeToRun plan cert

-- The text is the bundle of a plan's text and a certificate's text, with a line `%%` between them. It splits into exactly these
-- two texts, and `check` accepts them.
pub record IsBundleWith (plan cert text : List ℕ) : Type 0 where
  pub whole : text ≡ plan ++ (codes "%%" ++ 10 ∷ cert)
  pub splits : bundle_of text ≡ Some (record { plan = plan; second = cert })
  pub is_accepted : IsYes plan cert

-- the text of a certificate, as it is written, followed by a newline
pub record IsCertLine (text : List ℕ) : Type 0 where
  pub cert : Cert
  pub is_text : text ≡ cert_text cert ++ 10 ∷ []

-- the text is a bundle (`IsBundleWith`) of the plan's text and the text of a certificate with a newline at its end
pub record IsCertifiedBundle (plan text : List ℕ) : Type 0 where
  pub cert : Cert
  pub bundle : IsBundleWith plan (cert_text cert ++ 10 ∷ []) text

pub record IsCertified (plan : List ℕ) (answer : Answer) : Type 0 where
  pub bundle : IsCertifiedBundle plan answer.text
  pub status : answer.status ≡ Done

-- the certificate's text with its newline is too long to be read back
abbrev pub HasLongText : Cert → Type 0
HasLongText cert = MAX_CERT_BYTES < length (cert_text cert ++ 10 ∷ [])

-- the text of the certificate with a newline at its end, or None if this text is too long to be read back
abbrev pub IsLineOf : Cert → Option (List ℕ) → Type 0
IsLineOf cert (Some line) = line ≡ cert_text cert ++ 10 ∷ []
IsLineOf cert None = HasLongText cert

-- the text is that of a certificate (`IsCertLine`), and the plan's text has no fault
abbrev pub IsCertLineFor : Result Plan PlanFault → List ℕ → Type 0
IsCertLineFor (Err f) text = ⊥
IsCertLineFor (Ok plan) text = IsCertLine text

-- a certificate accepts the plan, and its text is too long
pub record IsTooLong (plan : Plan) : Type 0 where
  pub cert : Cert
  pub accepts : IsTrue (accepted plan cert)
  pub long : HasLongText cert

-- No certificate was found for the plan. A search for sizes found no sizes or other sizes than the declared ones, and the
-- steady certificate (`steady_cert`) does not accept the plan.
pub record IsUncertified (plan : Plan) : Type 0 where
  pub sizes : SizesFound
  pub is_open : IsOpen plan sizes

-- The possible answers for a plan's text. The answer can be a bundle with a certificate. It can also say that the certificate's
-- text is too long (`IsTooLong`), or that no certificate was found (`IsUncertified`).
abbrev pub AnswersPlan : List ℕ → Plan → Answer → Type 0
AnswersPlan text plan answer = ((answer ≡ text_too_long) × IsTooLong plan) ⊎ (((answer ≡ none_found) × IsUncertified plan) ⊎ IsCertified text answer)

abbrev pub AnswersReading : List ℕ → Result Plan PlanFault → Answer → Type 0
AnswersReading text (Err f) answer = answer ≡ fault (fault_line f)
AnswersReading text (Ok plan) answer = AnswersPlan text plan answer

-- the possible answers to an input
abbrev pub IsCertifyAnswer : List ℕ → Answer → Type 0
IsCertifyAnswer input answer =
    MatchBool (nat_lt MAX_INPUT_BYTES (length input)) (answer ≡ input_too_long) (AnswersReading (whole_lines input) (plan_of (whole_lines input)) answer)
