use Rattle.std.proofs.Common.{◌≡◌, None, Some, set, ap, subst, ◌∙◌, sym}
use Rattle.interleaving.specs.ViewStep.{live_job}
use Rattle.interleaving.specs.LiveJobs.{JobList, IsOnlyLiveJob, AreIndexed, jobs_in}
use Rattle.interleaving.proofs.IndexOnceChanged.{indexed_got}
use Rattle.interleaving.proofs.JobsInPlaces.{jobs_set}
use Rattle.interleaving.proofs.live_jobs.LiveJobs.remove.Goals as goal

pub invariant_of-self : goal.invariant_of-self
invariant_of-self c =
    let l = c.self.inside in
    let job = c.args.job in
    let live : live_job (jobs_in l.kept.items) c.args.number ≡ Some job = ap (λ (x : JobList). live_job x.jobs c.args.number) c.self.view_is ∙ c.requires.live in
    let alone = subst (λ (x : JobList). IsOnlyLiveJob x.jobs job.parent job.slot) (sym c.self.view_is) c.requires.alone in
    subst (λ is. AreIndexed is c.remove.new.self l.unfinished) (sym c.free.ensures.items) (indexed_got l.kept.items l.latest c.remove.new.self l.unfinished c.args.number job c.self.invariant live c.requires.done alone c.remove.ensures.found)

pub returns-clause-jobs : goal.returns-clause-jobs
returns-clause-jobs c =
    ap jobs_in c.free.ensures.items ∙ jobs_set c.self.inside.kept.items c.args.number None ∙ ap (λ (x : JobList). set x.jobs c.args.number None) c.self.view_is
