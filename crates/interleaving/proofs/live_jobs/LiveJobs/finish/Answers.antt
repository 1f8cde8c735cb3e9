use Rattle.std.proofs.Common.{◌≡◌, Some, None, IsSome, map, set, refl, ap₂, sym, ap, subst, ◌∙◌}
use Rattle.std.proofs.Math.ListN.{get_or-map as get_or-map_at}
use Rattle.interleaving.specs.ViewStep.{live_job, drop_if_orphan, finished_if_gettable}
use Rattle.interleaving.specs.LiveJobs.{JobList, DoneAreLatest, AreOrphaned, IsGone, jobs_in}
use Rattle.interleaving.proofs.FoundOnceFinished.{orphans_found, after_is}
use Rattle.interleaving.proofs.IndexOnceFinished.{asks_of, going_stays, phased_finished, indexed_finished}
use Rattle.interleaving.proofs.SubmitBoundsStay.{stays_then}
use Rattle.interleaving.proofs.live_jobs.LiveJobs.finish.Goals as goal

pub remove_orphans-requires-clause-orphans : goal.remove_orphans-requires-clause-orphans
remove_orphans-requires-clause-orphans c =
    let l = c.self.inside in
    let jobs = ap (λ (x : JobList). x.jobs) c.self.view_is in
    let live : live_job (jobs_in l.kept.items) c.args.number ≡ Some c.args.job = ap (λ js. live_job js c.args.number) jobs ∙ c.requires.live in
    orphans_found (jobs_in l.kept.items) l.latest c.args.number c.self.invariant.are_found (subst DoneAreLatest (sym jobs) c.requires.done) (asks_of (jobs_in l.kept.items) c.args.number c.args.job live c.requires.going)

pub finish_in-requires-clause-live : goal.finish_in-requires-clause-live
finish_in-requires-clause-live c =
    let l = c.self.inside in
    let n = c.args.number in
    let live : live_job (jobs_in l.kept.items) n ≡ Some c.args.job = ap (λ (x : JobList). live_job x.jobs n) c.self.view_is ∙ c.requires.live in
    let stays : live_job (jobs_in c.remove_orphans.new.kept.items) n ≡ Some c.args.job =
    ap (λ js. live_job js n) c.remove_orphans.ensures.jobs ∙ get_or-map_at (drop_if_orphan n) (jobs_in l.kept.items) n None ∙ ap (drop_if_orphan n) live ∙ going_stays n c.args.job c.requires.going in
    subst IsSome (sym stays) refl

pub finish_in-requires-clause-phased : goal.finish_in-requires-clause-phased
finish_in-requires-clause-phased c =
    let l = c.self.inside in
    let n = c.args.number in
    let job = c.args.job in
    let jobs = ap (λ (x : JobList). x.jobs) c.self.view_is in
    let live : live_job (jobs_in l.kept.items) n ≡ Some job = ap (λ js. live_job js n) jobs ∙ c.requires.live in
    let stays : live_job (jobs_in c.remove_orphans.new.kept.items) n ≡ Some job =
    ap (λ js. live_job js n) c.remove_orphans.ensures.jobs ∙ get_or-map_at (drop_if_orphan n) (jobs_in l.kept.items) n None ∙ ap (drop_if_orphan n) live ∙ going_stays n job c.requires.going in
    phased_finished job (live_job (jobs_in c.remove_orphans.new.kept.items) n) stays _ c.finished_if_gettable-finished.result c.finished_if_gettable-finished.ensures

pub invariant_of-self : goal.invariant_of-self
invariant_of-self c =
    let l = c.self.inside in
    let items = l.kept.items in
    let n = c.args.number in
    let job = c.args.job in
    let jobs = ap (λ (x : JobList). x.jobs) c.self.view_is in
    let live : live_job (jobs_in items) n ≡ Some job = ap (λ js. live_job js n) jobs ∙ c.requires.live in
    let fin : c.finished_if_gettable-finished.result ≡ finished_if_gettable (jobs_in items) n job = c.finished_if_gettable-finished.ensures ∙ ap (λ js. finished_if_gettable js n job) (sym jobs) in
    let middle = c.remove_orphans.new.kept.items in
    let jobs_are : jobs_in c.finish_in.new.kept.items ≡ set (map (drop_if_orphan n) (jobs_in items)) n (finished_if_gettable (jobs_in items) n job) =
    c.finish_in.ensures.jobs ∙ ap₂ (λ js x. set js n x) c.remove_orphans.ensures.jobs fin in
    let orphaned = subst (λ js. AreOrphaned n c.remove_orphans.ensures.orphaned.0 (jobs_in items) js l.latest c.remove_orphans.new.latest) c.remove_orphans.ensures.jobs c.remove_orphans.ensures.orphaned.1 in
    let gone = subst (λ x. IsGone x c.remove_orphans.new.latest c.remove_if_gone.new.latest job.parent job.slot n) fin c.remove_if_gone.ensures in
    indexed_finished items c.finish_in.new.kept.items l.latest c.remove_orphans.new.latest c.remove_if_gone.new.latest l.unfinished c.remove_orphans.ensures.orphaned.0 n job c.self.invariant live c.requires.going c.requires.other jobs_are
    (stays_then items middle c.finish_in.new.kept.items c.remove_orphans.ensures.reaches c.finish_in.ensures.reaches) orphaned gone

pub returns-clause-jobs : goal.returns-clause-jobs
returns-clause-jobs c =
    let items = c.self.inside.kept.items in
    let n = c.args.number in
    let job = c.args.job in
    let jobs = ap (λ (x : JobList). x.jobs) c.self.view_is in
    let live : live_job (jobs_in items) n ≡ Some job = ap (λ js. live_job js n) jobs ∙ c.requires.live in
    let fin : c.finished_if_gettable-finished.result ≡ finished_if_gettable (jobs_in items) n job = c.finished_if_gettable-finished.ensures ∙ ap (λ js. finished_if_gettable js n job) (sym jobs) in
    c.finish_in.ensures.jobs ∙ ap₂ (λ js x. set js n x) c.remove_orphans.ensures.jobs fin ∙ after_is (jobs_in items) n job live c.requires.other
    ∙ ap (λ js. map (drop_if_orphan n) (set js n (finished_if_gettable js n job))) jobs
