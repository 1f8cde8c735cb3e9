use Rattle.std.proofs.Common.{◌≡◌, IsSome, IfSome, Option, Some, None, refl, sym, ap, set, subst, ◌∙◌}
use Rattle.interleaving.specs.declared.job_view.JobView.{JobView}
use Rattle.interleaving.specs.ViewStep.{live_job, in_phase}
use Rattle.interleaving.specs.LiveJobs.{jobs_in, SubmitBoundsStay}
use Rattle.interleaving.proofs.JobsInPlaces.{jobs_set, jobs_phased, has_place}
use Rattle.interleaving.proofs.SubmitBoundsStay.{stays_phased}
use Rattle.interleaving.proofs.live_jobs.finish_in.Goals as goal

pub set_phase-requires : goal.set_phase-requires
set_phase-requires c = let there = has_place c.args.kept.now.items c.args.number c.requires.live in subst IsSome (sym there.1) refl

pub returns-in-Some-clause-jobs : goal.returns-in-Some-clause-jobs
returns-in-Some-clause-jobs c =
    let jobs = jobs_in c.args.kept.now.items in
    let n = c.args.number in
    let phased : in_phase c.in-Some.job.phase (live_job jobs n) ≡ Some c.in-Some.job = subst (λ (o : Option JobView). IfSome o (λ job. in_phase job.phase (live_job jobs n) ≡ Some job)) c.in-Some.is c.requires.phased in
    ap jobs_in c.set_phase.ensures.items ∙ jobs_phased c.args.kept.now.items n c.in-Some.job.phase ∙ ap (set jobs n) (phased ∙ sym c.in-Some.is)

pub returns-in-Some-clause-reaches : goal.returns-in-Some-clause-reaches
returns-in-Some-clause-reaches c =
    subst (SubmitBoundsStay c.args.kept.now.items) (sym c.set_phase.ensures.items) (stays_phased c.args.kept.now.items c.args.number c.in-Some.job.phase c.requires.live)

pub returns-in-None-clause-jobs : goal.returns-in-None-clause-jobs
returns-in-None-clause-jobs c =
    ap jobs_in c.free.ensures.items ∙ jobs_set c.args.kept.now.items c.args.number None ∙ ap (set (jobs_in c.args.kept.now.items) c.args.number) (sym c.in-None.is)
