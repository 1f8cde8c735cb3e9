use Rattle.std.proofs.Common.{◌≡◌, ◌+◌, true, rules, Some, sym, ap, subst, ◌∙◌}
use Rattle.interleaving.specs.World.{WorldValue}
use Rattle.interleaving.specs.ViewStep.{live_job, live_child, is_done, moved_live_jobs}
use Rattle.interleaving.specs.LiveJobs.{IsOnlyLiveJob}
use Rattle.interleaving.proofs.JobsOnceMoved.{alone_moved, done_moved, alone_as_child}
use Rattle.interleaving.proofs.world.World.get.Goals as goal

pub remove-requires-clause-live : goal.remove-requires-clause-live
remove-requires-clause-live c =
    let view = c.args.self.now.view in
    let n = c.in_ok-number.number in
    let job = c.in_ok-job.job in
    let jobs = ap (λ (w : WorldValue). w.view.jobs) c.self.view_is in
    let moved : c.move_actor.new.jobs.jobs ≡ moved_live_jobs c.args.actor (c.args.position + 1) view = c.move_actor.ensures.jobs view (sym jobs) in
    let there : live_job c.self.inside.jobs.jobs n ≡ Some job = search rules in
    let live : live_job view.jobs n ≡ Some job = sym (ap (λ js. live_job js n) jobs) ∙ there in
    let done : is_done job.phase ≡ true = search rules in
    ap (λ js. live_job js n) moved ∙ done_moved c.args.actor (c.args.position + 1) view n job c.requires.asks live done

pub remove-requires-clause-alone : goal.remove-requires-clause-alone
remove-requires-clause-alone c =
    let view = c.args.self.now.view in
    let n = c.in_ok-number.number in
    let job = c.in_ok-job.job in
    let jobs = ap (λ (w : WorldValue). w.view.jobs) c.self.view_is in
    let moved : c.move_actor.new.jobs.jobs ≡ moved_live_jobs c.args.actor (c.args.position + 1) view = c.move_actor.ensures.jobs view (sym jobs) in
    let there : live_job c.self.inside.jobs.jobs n ≡ Some job = search rules in
    let live : live_job view.jobs n ≡ Some job = sym (ap (λ js. live_job js n) jobs) ∙ there in
    let latest : live_child c.self.inside.jobs.jobs c.args.actor c.args.submit ≡ Some n = search rules in
    let child : live_child view.jobs c.args.actor c.args.submit ≡ Some n = sym (ap (λ js. live_child js c.args.actor c.args.submit) jobs) ∙ latest in
    let alone = alone_as_child view.jobs c.args.actor c.args.submit n job child live c.requires.alone in
    subst (λ js. IsOnlyLiveJob js job.parent job.slot) (sym moved) (alone_moved c.args.actor (c.args.position + 1) view job.parent job.slot alone)
