use Rattle.std.proofs.Common.{refl, sym, ◌∙◌}
use Rattle.std.proofs.lemmas.Option.{same_Some, none-some}
use Rattle.interleaving.specs.ViewStep.{drop_if_stale}
use Rattle.interleaving.specs.LiveJobs.{jobs_in}
use Rattle.interleaving.proofs.MappedJobs.{one_mapped, none_mapped}
use Rattle.interleaving.proofs.live_jobs.free_stale.Goals as goal

pub returns-in-Some-clause-jobs : goal.returns-in-Some-clause-jobs
returns-in-Some-clause-jobs c =
    let n = c.in-Some.number in
    c.free_if_stale.ensures.jobs ∙ one_mapped (drop_if_stale c.args.actor c.args.submit) (jobs_in c.args.kept.now.items) n refl (λ k other. c.requires k (λ e. other (same_Some k n (sym e ∙ c.in-Some.is))))

pub returns-in_default-clause-jobs : goal.returns-in_default-clause-jobs
returns-in_default-clause-jobs c =
    none_mapped (drop_if_stale c.args.actor c.args.submit) (jobs_in c.args.kept.now.items) refl (λ k. c.requires k (λ e. none-some k (sym c.in_default.is ∙ e)))
