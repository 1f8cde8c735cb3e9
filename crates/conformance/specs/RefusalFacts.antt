-- The facts from a whole recording that decide which refusals are allowed.
use Rattle.std.specs.Prelude.{◌≡◌, ℕ, List, slice_index_or}
use Rattle.job_bodies.specs.Plan.{Plan}
use Rattle.recordings.specs.LineSteps.{is_refused}
use Rattle.recordings.specs.RecordingLine.{RecordedLine}
use Rattle.conformance.specs.declared.refusal_facts.RefusalFacts.{RefusalFacts}
use Rattle.conformance.specs.declared.rejection_rule.RejectionRule.{RejectionRule}
use Rattle.conformance.specs.declared.rejection_rule.RejectionRule.TheVariants.{Never}
use Rattle.conformance.specs.Handlers.{AreRules}
use Rattle.conformance.specs.JobSet.{has_job}
use Rattle.conformance.specs.RefusedJobs.{AreFactsOf}

-- The rejection rules and the facts about the refused jobs are those of the lines.
pub record AreFactsFor (plan : Plan) (lines : List RecordedLine) (facts : RefusalFacts) : Type 0 where
  pub rules : AreRules plan lines facts.rules.items
  pub jobs : AreFactsOf plan lines facts.jobs
  pub refused : (job : ℕ) → has_job facts.jobs.refused job ≡ is_refused lines job

abbrev pub rule_at : List RejectionRule → ℕ → RejectionRule
rule_at rules pool = slice_index_or rules pool Never
