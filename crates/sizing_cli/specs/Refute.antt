-- The possible answers of `refute` to an input. The definition is a relation, because it does not fix which witness is found,
-- or whether one is found.
use Rattle.std.specs.Prelude.{◌≡◌, ◌⊎◌, ◌≤◌, ◌<◌, ◌==◌, ℕ, nat_lt, if◌then◌else◌, List, [], ◌∷◌, ◌++◌, length, codes, Result, Ok, Err, IsTrue, MatchBool}
use Rattle.std.specs.Fmt.{decimal}
use Rattle.job_bodies.specs.Plan.{Plan}
use Rattle.job_bodies.specs.FaultText.{fault_line}
use Rattle.job_bodies.specs.declared.fault.PlanFault.{PlanFault}
use Rattle.plan_text.specs.PlanOf.{plan_of}
use Rattle.cert_text.specs.Cert.{Cert}
use Rattle.soundness.specs.Accepted.{accepted}
use Rattle.interleaving.specs.LineText.{lines_text}
use Rattle.counterexample.specs.declared.witness.Witness.{Witness}
use Rattle.counterexample.specs.Witness.{IsWitness}
use Rattle.counterexample.specs.EventLines.{witness_lines}
use Rattle.report.specs.Description.{IsDescription}
use Rattle.command_line.specs.declared.command.RefuteFormat.{RefuteFormat}
use Rattle.command_line.specs.declared.command.RefuteFormat.TheVariants.{Story, Bundle}
use Rattle.job_bodies.specs.declared.limits.TheConstants.{MAX_INPUT_BYTES, MAX_EVENT_BYTES}
use Rattle.sizing_cli.specs.declared.status.Status.{Status}
use Rattle.sizing_cli.specs.declared.status.Status.TheVariants.{Done, Refused, Undecided}
use Rattle.sizing_cli.specs.Answer.{Answer, fault, input_too_long}
use Rattle.sizing_cli.specs.Certify.{IsUncertified}
use Rattle.sizing_cli.specs.Bundle.{whole_lines}

-- a certificate accepts the plan
pub record HasCertificate (plan : Plan) : Type 0 where
  pub cert : Cert
  pub accepts : IsTrue (accepted plan cert)

-- The witness is one against the plan. If it names jobs, their numbers are in ascending order.
abbrev pub IsWitnessOf : Plan → Witness → Type 0
IsWitnessOf plan witness = IsWitness plan witness.events.items witness.ending

-- ---- the lines if there is no witness, with their statuses

-- the status of an answer without a bundle: Refused if a bundle was requested, and otherwise the given status
abbrev pub without_bundle : RefuteFormat → Status → Status
without_bundle Story status = status
without_bundle Bundle status = Refused

abbrev pub safe_answer : RefuteFormat → Answer
safe_answer refute_format = record { text = codes "safe: a certificate was found" ++ 10 ∷ []; status = without_bundle refute_format Done }

-- the text after the number of states
abbrev pub were_searched : ℕ → List ℕ
were_searched states = if states == 1 then codes " state was searched" else codes " states were searched"

abbrev pub not_decided : RefuteFormat → ℕ → Answer
not_decided refute_format states = record { text = codes "not decided: " ++ (decimal states ++ (were_searched states ++ 10 ∷ [])); status = without_bundle refute_format Undecided }

-- The answer is that neither a certificate nor a witness was found. The answer has the number of states that were searched,
-- which is at most `states`.
pub record IsUndecided (states : ℕ) (refute_format : RefuteFormat) (plan : Plan) (answer : Answer) : Type 0 where
  pub uncertified : IsUncertified plan
  pub searched : ℕ
  pub within : searched ≤ states
  pub reported : answer ≡ not_decided refute_format searched

abbrev pub events_too_long : Answer
events_too_long = record { text = codes "no bundle: too many events" ++ 10 ∷ []; status = Refused }

-- ---- the witness

-- the answer reports the witness: how it ends, and then its story
pub record ReportsWitness (plan : Plan) (witness : Witness) (answer : Answer) : Type 0 where
  pub reported : IsDescription plan witness answer.text
  pub status : answer.status ≡ Refused

-- the event lines of the witness
abbrev pub event_lines_of : Plan → Witness → List ℕ
event_lines_of plan witness = lines_text plan (witness_lines witness)

-- The answer is the plan's text, a line `%%`, and the event lines of the witness. The event lines are short enough to be read
-- back.
pub record BundlesWitness (text : List ℕ) (plan : Plan) (witness : Witness) (answer : Answer) : Type 0 where
  pub bundle : answer.text ≡ text ++ (codes "%%" ++ 10 ∷ event_lines_of plan witness)
  pub short : length (event_lines_of plan witness) ≤ MAX_EVENT_BYTES
  pub status : answer.status ≡ Done

abbrev pub ShowsWitness : RefuteFormat → List ℕ → Plan → Witness → Answer → Type 0
ShowsWitness Story text plan witness answer = ReportsWitness plan witness answer
ShowsWitness Bundle text plan witness answer =
    ((answer ≡ events_too_long) × (MAX_EVENT_BYTES < length (event_lines_of plan witness))) ⊎ BundlesWitness text plan witness answer

-- the plan has a witness, and the answer shows it
pub record Refutes (refute_format : RefuteFormat) (text : List ℕ) (plan : Plan) (answer : Answer) : Type 0 where
  pub witness : Witness
  pub is_witness : IsWitnessOf plan witness
  pub shows : ShowsWitness refute_format text plan witness answer

-- The text is the input's plan, a line `%%`, and the event lines of a witness against the plan. The event lines are short
-- enough to be read back.
pub record IsWitnessBundle (input text : List ℕ) : Type 0 where
  pub plan : Plan
  pub is_plan : plan_of (whole_lines input) ≡ Ok plan
  pub witness : Witness
  pub is_witness : IsWitnessOf plan witness
  pub bundle : text ≡ whole_lines input ++ (codes "%%" ++ 10 ∷ event_lines_of plan witness)
  pub short : length (event_lines_of plan witness) ≤ MAX_EVENT_BYTES

-- ---- whole inputs

-- The possible answers for a plan's text, after a search of at most `states` states. The plan is safe because some certificate
-- accepts it, or it is undecided (`IsUndecided`), or it has a witness (`Refutes`).
abbrev pub AnswersPlan : ℕ → RefuteFormat → List ℕ → Plan → Answer → Type 0
AnswersPlan states refute_format text plan answer = ((answer ≡ safe_answer refute_format) × HasCertificate plan) ⊎ (IsUndecided states refute_format plan answer ⊎ Refutes refute_format text plan answer)

abbrev pub AnswersReading : ℕ → RefuteFormat → List ℕ → Result Plan PlanFault → Answer → Type 0
AnswersReading states refute_format text (Err f) answer = answer ≡ fault (fault_line f)
AnswersReading states refute_format text (Ok plan) answer = AnswersPlan states refute_format text plan answer

-- the possible answers to an input
abbrev pub IsRefuteAnswer : ℕ → RefuteFormat → List ℕ → Answer → Type 0
IsRefuteAnswer states refute_format input answer =
    MatchBool (nat_lt MAX_INPUT_BYTES (length input)) (answer ≡ input_too_long) (AnswersReading states refute_format (whole_lines input) (plan_of (whole_lines input)) answer)
