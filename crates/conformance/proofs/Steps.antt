-- The description of a step.
use Rattle.std.proofs.Common.{◌≡◌, ◌≤◌, ◌-◌, ℕ, zero, suc, Bool, List, Option, Some, None, ap, sym, subst, ◌∙◌, string_bytes, arith}
use Rattle.job_bodies.specs.Plan.{Plan}
use Rattle.recordings.specs.declared.step.RecordedStep.{RecordedStep}
use Rattle.recordings.specs.RecordingLine.{RecordedLine}
use Rattle.recordings.specs.declared.recording_line.RecordedActor.{RecordedActor}
use Rattle.conformance.specs.declared.actor_label.ActorLabel.{ActorLabel}
use Rattle.conformance.specs.declared.describe_mismatch.JobStep.{JobStep}
use Rattle.conformance.specs.declared.describe_mismatch.JobStep.TheVariants as step
use Rattle.conformance.specs.declared.explained_prefix.ExplainedPrefix.{ExplainedPrefix}
use Rattle.conformance.specs.declared.mismatch.NamedStep.{NamedStep}
use Rattle.conformance.specs.declared.mismatch.NamedStep.TheVariants as named
use Rattle.conformance.specs.declared.mismatch.DeviatingStep.{DeviatingStep}
use Rattle.conformance.specs.declared.mismatch.DeviatingStep.TheVariants as mismatch
use Rattle.conformance.specs.Description as spec
use Rattle.conformance.specs.Verdicts.{is_planned_class}

-- ---- a step with its class
pub named_none : (lines : List RecordedLine) (did : Option JobStep) → did ≡ None → spec.IsNamed lines did None
named_none lines did is = subst (λ (d : Option JobStep). spec.IsNamed lines d None) (sym is) spec.nothing

pub named_submit : (lines : List RecordedLine) (did : Option JobStep) (one : JobStep) (job : ℕ) (label : ActorLabel) → did ≡ Some one → one ≡ step.Submits job → spec.IsLabelOfJob lines job label → spec.IsNamed lines did (Some (named.Submits label.name))
named_submit lines did one job label is one_is so =
    subst (λ (d : Option JobStep). spec.IsNamed lines d (Some (named.Submits label.name))) (sym (is ∙ ap Some one_is)) (spec.something (step.Submits job) (named.Submits label.name) (spec.submitted job label.name (string_bytes label.pool) so))

pub named_get : (lines : List RecordedLine) (did : Option JobStep) (one : JobStep) (job : ℕ) (label : ActorLabel) → did ≡ Some one → one ≡ step.Gets job → spec.IsLabelOfJob lines job label → spec.IsNamed lines did (Some (named.Gets label.name))
named_get lines did one job label is one_is so =
    subst (λ (d : Option JobStep). spec.IsNamed lines d (Some (named.Gets label.name))) (sym (is ∙ ap Some one_is)) (spec.something (step.Gets job) (named.Gets label.name) (spec.got job label.name (string_bytes label.pool) so))

-- ---- the first deviating step
pub mismatch_end : (plan : Plan) (lines : List RecordedLine) (is_classless : ℕ → Bool) (actor : RecordedActor) (path : List RecordedStep) (explained : ExplainedPrefix) (did : Option JobStep) (first : Option ℕ) (found : DeviatingStep) → did ≡ None → first ≡ spec.missing_job path explained.missing → spec.IsDeviatingEnd lines actor first found
    → spec.IsDeviatingStep plan lines is_classless actor path explained did found
mismatch_end plan lines is_classless actor path explained did first found is is_first so =
    subst (λ (d : Option JobStep). spec.IsDeviatingStep plan lines is_classless actor path explained d found) (sym is) (spec.ends found (subst (λ (job : Option ℕ). spec.IsDeviatingEnd lines actor job found) is_first so))

pub mismatch_submit : (plan : Plan) (lines : List RecordedLine) (is_classless : ℕ → Bool) (actor : RecordedActor) (path : List RecordedStep) (explained : ExplainedPrefix) (did : Option JobStep) (one : JobStep) (job : ℕ) (label : ActorLabel) (found : DeviatingStep) → did ≡ Some one → one ≡ step.Submits job → spec.IsLabelOfJob lines job label
    → found ≡ spec.deviating_submit (is_classless job) (is_planned_class plan (string_bytes label.name) (string_bytes label.pool)) job label explained.excess → spec.IsDeviatingStep plan lines is_classless actor path explained did found
mismatch_submit plan lines is_classless actor path explained did one job label found is one_is so found_is =
    subst (λ (d : Option JobStep). spec.IsDeviatingStep plan lines is_classless actor path explained d found) (sym (is ∙ ap Some one_is))
    (subst (spec.IsDeviatingStep plan lines is_classless actor path explained (Some (step.Submits job))) (sym found_is) (spec.submits job label so))

pub mismatch_get : (plan : Plan) (lines : List RecordedLine) (is_classless : ℕ → Bool) (actor : RecordedActor) (path : List RecordedStep) (explained : ExplainedPrefix) (did : Option JobStep) (one : JobStep) (job : ℕ) (label : ActorLabel) → did ≡ Some one → one ≡ step.Gets job → spec.IsLabelOfJob lines job label
    → spec.IsDeviatingStep plan lines is_classless actor path explained did (mismatch.Gets label)
mismatch_get plan lines is_classless actor path explained did one job label is one_is so =
    subst (λ (d : Option JobStep). spec.IsDeviatingStep plan lines is_classless actor path explained d (mismatch.Gets label)) (sym (is ∙ ap Some one_is)) (spec.gets job label so)

-- ---- the step before
pub after_begin_line : (lines : List RecordedLine) (path : List RecordedStep) (place : ℕ) (after : Option NamedStep) → (1 ≤ place → ⊥) → after ≡ None → spec.IsNamed lines (spec.step_before path place) after
after_begin_line lines path zero after begin is = subst (λ (b : Option NamedStep). spec.IsNamed lines None b) (sym is) spec.nothing
after_begin_line lines path (suc place) after begin is = absurd (begin (omega arith))

pub after_step : (lines : List RecordedLine) (path : List RecordedStep) (place last : ℕ) (after : Option NamedStep) → 1 ≤ place → last ≡ place - 1 → spec.IsNamed lines (spec.step_at path last) after → spec.IsNamed lines (spec.step_before path place) after
after_step lines path zero last after some is so = absurd (omega (arith, some))
after_step lines path (suc place) last after some is so =
    let same : last ≡ place = omega (arith, is) in
    subst (λ (n : ℕ). spec.IsNamed lines (spec.step_at path n) after) same so
