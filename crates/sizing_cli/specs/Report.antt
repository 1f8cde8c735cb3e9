-- The answers that are determined by the input.
use Rattle.std.specs.Prelude.{ℕ, nat_lt, [], ◌∷◌, ◌++◌, codes, if◌then◌else◌, List, length, Option, Some, None, Result, Ok, Err}
use Rattle.std.specs.Fmt.{decimal}
use Rattle.job_bodies.specs.Plan.{Plan}
use Rattle.job_bodies.specs.FaultText.{fault_line}
use Rattle.job_bodies.specs.declared.fault.PlanFault.{PlanFault}
use Rattle.support.specs.Name.{head}
use Rattle.support.specs.declared.number.TheConstants.{RUN_TOO_LARGE}
use Rattle.plan_text.specs.PlanOf.{plan_of}
use Rattle.cert_text.specs.Cert.{Cert}
use Rattle.cert_text.specs.declared.fault.CertFault.{CertFault}
use Rattle.cert_text.specs.CertOf.{cert_of}
use Rattle.soundness.specs.Conditions.{failing}
use Rattle.soundness.specs.Accepted.{is_nil, accepted}
use Rattle.cert_check.specs.Verdict.{Verdict, verdict}
use Rattle.cert_check.specs.Text.{verdict_text}
use Rattle.refusal_notes.specs.Explanation.{explanation}
use Rattle.pool_machine.specs.Reach.{start}
use Rattle.locked_runner.specs.RunNumbers.{jobs, units}
use Rattle.locked_runner.specs.declared.limits.RunLimit.{RunLimit}
use Rattle.locked_runner.specs.declared.limits.RunLimit.TheVariants.{Rejections, Clients, Threads, Events}
use Rattle.locked_runner.specs.Limits.{is_too_large, limit_of}
use Rattle.interleaving.specs.EventLine.{Line, event_lines}
use Rattle.command_line.specs.declared.command.ReviewCommand.{ReviewCommand}
use Rattle.command_line.specs.declared.command.ReviewCommand.TheVariants.{Replay, Check, Explain}
use Rattle.job_bodies.specs.declared.limits.TheConstants.{MAX_INPUT_BYTES, MAX_EVENT_BYTES}
use Rattle.sizing_cli.specs.declared.status.Status.TheVariants.{Done, Refused}
use Rattle.sizing_cli.specs.Answer.{Answer, fault, no_separator, input_too_long, bad_event, yes_or_no}
use Rattle.sizing_cli.specs.Bundle.{Bundle, bundle_of}
use Rattle.sizing_cli.specs.Transcript.{transcript}

-- ---- replay

abbrev pub replay_of_lines : Plan → Result (List Line) ℕ → Answer
replay_of_lines plan (Err line) = bad_event line
replay_of_lines plan (Ok lines) = transcript plan (start plan) 0 1 lines

-- The answer of `replay` for a plan and a text of event lines. If a line is malformed, the answer has only the number of the
-- first such line.
abbrev pub replay : Plan → List ℕ → Answer
replay plan second = if nat_lt MAX_EVENT_BYTES (length second) then input_too_long else replay_of_lines plan (event_lines plan second)

-- ---- check

-- the answer with the verdict on a plan; its status is a no if the verdict is that the certificate does not accept the plan
abbrev pub verdict_answer : Plan → Verdict → Answer
verdict_answer plan verdict = record { text = verdict_text plan verdict; status = yes_or_no verdict.yes }

abbrev pub check_of_cert : Plan → Result Cert CertFault → Answer
check_of_cert plan (Err f) = fault (head f.number)
check_of_cert plan (Ok cert) = verdict_answer plan (verdict plan cert)

-- the answer of `check` for a plan and the text of a certificate
abbrev pub check : Plan → List ℕ → Answer
check plan second = check_of_cert plan (cert_of second plan)

-- ---- explain

abbrev pub explain_of_cert : Plan → Result Cert CertFault → Answer
explain_of_cert plan (Err f) = fault (head f.number)
explain_of_cert plan (Ok cert) = record { text = explanation plan (failing plan cert); status = yes_or_no (is_nil (failing plan cert)) }

-- the answer of `explain` for a plan and the text of a certificate: the conditions that the certificate fails
abbrev pub explain : Plan → List ℕ → Answer
explain plan second = explain_of_cert plan (cert_of second plan)

-- ---- run

-- the answer of `run` if the certificate does not accept the plan
abbrev pub not_run : Answer
not_run = record { text = codes "no" ++ 10 ∷ []; status = Refused }

abbrev pub limit_words : RunLimit → List ℕ
limit_words Rejections = codes "a pool that may reject jobs"
limit_words Clients = codes "more than 64 clients"
limit_words Threads = codes "more than 64 threads of all pools together"
limit_words Events = codes "more than 1000000 events"

-- the answer of `run` if a run of this plan is too large, with the limit that the run exceeds
abbrev pub too_large : Plan → Answer
too_large plan = fault (head RUN_TOO_LARGE ++ (codes ": " ++ limit_words (limit_of plan)))

-- the answer of a completed run with this number of jobs and of units of work
abbrev pub run_through : ℕ → ℕ → Answer
run_through jobs units = record { text = codes "jobs " ++ (decimal jobs ++ (codes ", units " ++ (decimal units ++ (codes ", refused 0" ++ 10 ∷ [])))); status = Done }

abbrev pub run_of_accepted : Plan → Cert → ℕ → Answer
run_of_accepted plan cert rounds = if is_too_large plan cert.ranks rounds then too_large plan else run_through (jobs plan cert.ranks rounds) (units plan cert.ranks rounds)

abbrev pub run_of_cert : Plan → ℕ → Result Cert CertFault → Answer
run_of_cert plan rounds (Err f) = fault (head f.number)
run_of_cert plan rounds (Ok cert) = if accepted plan cert then run_of_accepted plan cert rounds else not_run

-- the answer of `run` for a number of rounds, a plan and the text of a certificate
abbrev pub run : ℕ → Plan → List ℕ → Answer
run rounds plan second = run_of_cert plan rounds (cert_of second plan)

-- ---- whole inputs

-- The answer for a parsed plan and a second part. If the plan's text has a fault, the answer is this fault, and the second part
-- has no effect.
abbrev pub answer_of_plan : (Plan → List ℕ → Answer) → List ℕ → Result Plan PlanFault → Answer
answer_of_plan answers second (Err f) = fault (fault_line f)
answer_of_plan answers second (Ok plan) = answers plan second

abbrev pub answer_of_bundle : (Plan → List ℕ → Answer) → Option Bundle → Answer
answer_of_bundle answers None = no_separator
answer_of_bundle answers (Some bundle) = answer_of_plan answers bundle.second (plan_of bundle.plan)

-- the answer to an input that should be a bundle, if `answers` gives the answer for a plan and a second part
abbrev pub answer_by : (Plan → List ℕ → Answer) → List ℕ → Answer
answer_by answers input = if nat_lt MAX_INPUT_BYTES (length input) then input_too_long else answer_of_bundle answers (bundle_of input)

-- the answer of a review command for a plan and a second part
abbrev pub answer_of : ReviewCommand → Plan → List ℕ → Answer
answer_of Replay plan second = replay plan second
answer_of Check plan second = check plan second
answer_of Explain plan second = explain plan second

-- the answer of a review command to an input
abbrev pub report : ReviewCommand → List ℕ → Answer
report review input = answer_by (answer_of review) input

-- the answer of `run` to an input, with this number of rounds
abbrev pub run_report : ℕ → List ℕ → Answer
run_report rounds input = answer_by (run rounds) input
