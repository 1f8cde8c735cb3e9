use Rattle.std.proofs.Common.{sym, ap, ◌∙◌, Some}
use Rattle.std.specs.Prelude.{position}
use Rattle.conformance.proofs.OpenJobs.{is_job, taken, not_taken}
use Rattle.conformance.proofs.open_job.take_job.Goals as goal

pub returns-in-Some-clause-class : goal.returns-in-Some-clause-class
returns-in-Some-clause-class c =
    let at = sym (c.in-Some.ensures.value ∙ ap (position (is_job c.args.job)) c.deref.ensures.value) in
    ap (λ one. Some one.class) c.remove-one.ensures.value ∙ sym (taken c.args.job c.in-Some.index c.args.jobs.now.items c.remove-one.result at).0

pub returns-in-Some-clause-jobs : goal.returns-in-Some-clause-jobs
returns-in-Some-clause-jobs c =
    let at = sym (c.in-Some.ensures.value ∙ ap (position (is_job c.args.job)) c.deref.ensures.value) in
    c.remove-one.ensures.items ∙ sym (taken c.args.job c.in-Some.index c.args.jobs.now.items c.remove-one.result at).1

pub returns-in-None-clause-class : goal.returns-in-None-clause-class
returns-in-None-clause-class c = sym (not_taken c.args.job c.args.jobs.now.items (sym (c.in-None.ensures.value ∙ ap (position (is_job c.args.job)) c.deref.ensures.value))).0

pub returns-in-None-clause-jobs : goal.returns-in-None-clause-jobs
returns-in-None-clause-jobs c = sym (not_taken c.args.job c.args.jobs.now.items (sym (c.in-None.ensures.value ∙ ap (position (is_job c.args.job)) c.deref.ensures.value))).1
