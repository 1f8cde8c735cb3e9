use Rattle.std.proofs.Common.{◌≡◌, true, ap, ◌∙◌}
use Rattle.interleaving.specs.ViewStep.{live_child, may_get_in}
use Rattle.interleaving.specs.LiveJobs.{JobList, jobs_in}
use Rattle.interleaving.proofs.LatestFound.{found_is_child}
use Rattle.interleaving.proofs.live_jobs.LiveJobs.latest.Goals as goal

pub returns : goal.returns
returns c =
    let l = c.self.inside in
    let asks : may_get_in (jobs_in l.kept.items) c.args.actor ≡ true = ap (λ (x : JobList). may_get_in x.jobs c.args.actor) c.self.view_is ∙ c.requires in
    c.get.ensures ∙ found_is_child (jobs_in l.kept.items) l.latest c.args.actor c.args.submit c.self.invariant.are_found asks ∙ ap (λ (x : JobList). live_child x.jobs c.args.actor c.args.submit) c.self.view_is
