-- Inputs with a safe plan.
use Rattle.std.specs.Prelude.{◌≡◌, ℕ, List, Some, Ok}
use Rattle.job_bodies.specs.Plan.{Plan}
use Rattle.plan_text.specs.PlanOf.{plan_of}
use Rattle.cert_text.specs.Cert.{Cert}
use Rattle.soundness.specs.Headline.{Promises}
use Rattle.command_line.specs.declared.command.ReviewCommand.TheVariants.{Check}
use Rattle.cert_check.specs.Check.{IsSafeToRun}
use Rattle.sizing_cli.specs.declared.status.Status.TheVariants.{Done}
use Rattle.sizing_cli.specs.Bundle.{Bundle, bundle_of}
use Rattle.sizing_cli.specs.Report.{report}

-- the input is the text of a plan that is safe to run, a line `%%`, and the text of a certificate for it
pub record IsSafeInput (input : List ℕ) : Type 0 where
  pub bundle : Bundle
  pub is_bundle : bundle_of input ≡ Some bundle
  pub safe : IsSafeToRun bundle.plan bundle.second

-- the input is the text of a plan, and some certificate guarantees that this plan is safe
pub record IsSafePlan (input : List ℕ) : Type 0 where
  pub plan : Plan
  pub is_plan : plan_of input ≡ Ok plan
  pub cert : Cert
  pub promises : Promises plan cert

-- if `check` answers yes, the input has a safe plan
abbrev pub YesMeansSafe : Type 0
YesMeansSafe = (input : List ℕ) → (report Check input).status ≡ Done → IsSafeInput input
