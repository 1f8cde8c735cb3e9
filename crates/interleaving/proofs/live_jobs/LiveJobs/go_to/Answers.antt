use Rattle.std.proofs.Common.{◌≡◌, true, IsSome, set, refl, sym, ap, subst, ◌∙◌}
use Rattle.pool_machine.specs.declared.parent.Parent.TheVariants.{Job}
use Rattle.interleaving.specs.declared.job_view.Phase.TheVariants.{At}
use Rattle.interleaving.specs.ViewStep.{may_get_in, with_phase}
use Rattle.interleaving.specs.JobEntry.{place_in_phase}
use Rattle.interleaving.specs.LiveJobs.{JobList, AreIndexed, jobs_in}
use Rattle.interleaving.proofs.IndexOnceChanged.{indexed_phased}
use Rattle.interleaving.proofs.JobsInPlaces.{jobs_phased, has_place, live_if_asks}
use Rattle.interleaving.proofs.live_jobs.LiveJobs.go_to.Goals as goal

pub set_phase-requires : goal.set_phase-requires
set_phase-requires c =
    let items = c.self.inside.kept.items in
    let n = c.args.number in
    let going : may_get_in (jobs_in items) (Job n) ≡ true = ap (λ (x : JobList). may_get_in x.jobs (Job n)) c.self.view_is ∙ c.requires in
    let there = has_place items n (live_if_asks (jobs_in items) n going) in
    subst IsSome (sym there.1) refl

pub invariant_of-self : goal.invariant_of-self
invariant_of-self c =
    let l = c.self.inside in
    let items = l.kept.items in
    let n = c.args.number in
    let going : may_get_in (jobs_in items) (Job n) ≡ true = ap (λ (x : JobList). may_get_in x.jobs (Job n)) c.self.view_is ∙ c.requires in
    let there = has_place items n (live_if_asks (jobs_in items) n going) in
    let new = c.set_phase.ensures.items ∙ ap (λ o. set items n (place_in_phase (At c.args.position) o)) there.1 in
    subst (λ is. AreIndexed is l.latest l.unfinished) (sym new) (indexed_phased items l.latest l.unfinished n there.0 (At c.args.position) c.self.invariant there.1 going refl)

pub returns-clause-jobs : goal.returns-clause-jobs
returns-clause-jobs c =
    ap jobs_in c.set_phase.ensures.items ∙ jobs_phased c.self.inside.kept.items c.args.number (At c.args.position) ∙ ap (λ (x : JobList). with_phase c.args.number (At c.args.position) x.jobs) c.self.view_is
