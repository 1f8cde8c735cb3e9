-- A learned plan is its own effective plan.
use Rattle.std.proofs.Common.{◌≡◌, List, sym, ap, subst}
use Rattle.job_bodies.specs.Plan.{Pool, Plan}
use Rattle.plan_text.specs.EffectivePlan.{effective_plan}
use Rattle.recordings.specs.RecordingLine.{RecordedLine}
use Rattle.conformance.specs.RejectingPools.{with_rejecting_pools}
use Rattle.learning.specs.declared.inference_result.InferredPlan.{InferredPlan}
use Rattle.learning.proofs.NormalPools.{learned_pools_are_normal}
use Rattle.sizing_cli.specs.Learn.{IsSeen}

-- if a plan has the pools of a recording, and those that reject jobs there are marked as pools that may reject jobs, it is its own
-- effective plan
pub learned_is_effective : (seen : InferredPlan) (plan : Plan) (lines : List RecordedLine) → IsSeen lines seen → plan ≡ with_rejecting_pools seen.plan lines → effective_plan plan ≡ plan
learned_is_effective seen plan lines is_seen marked =
    subst (λ (p : Plan). effective_plan p ≡ p) (sym marked) (ap (λ (pools : List Pool). record (with_rejecting_pools seen.plan lines) { pools = pools }) (learned_pools_are_normal seen.plan lines is_seen.pools))
