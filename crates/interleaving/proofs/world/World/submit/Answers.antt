use Rattle.std.proofs.Common.{◌≡◌, ◌+◌, ◌≤◌, length, count_by, is_some, sym, ap, subst, ◌∙◌, arith}
use Rattle.interleaving.specs.World.{WorldValue, live_jobs}
use Rattle.interleaving.specs.ViewStep.{moved_live_jobs}
use Rattle.interleaving.specs.LiveJobs.{NoOtherIsStale}
use Rattle.interleaving.proofs.JobsOnceMoved.{was_made, stale_moved, length-moved}
use Rattle.interleaving.proofs.PlacesUsedAgain.{used_again}
use Rattle.interleaving.proofs.StaleJobs.{none_but_latest}
use Rattle.interleaving.proofs.world.World.submit.Goals as goal

pub create-requires-clause-stale : goal.create-requires-clause-stale
create-requires-clause-stale c =
    let view = c.args.self.now.view in
    let a = c.args.actor in
    let t = c.args.next.position in
    let latest = c.latest_before-latest.result in
    let moved : c.move_actor.new.jobs.jobs ≡ moved_live_jobs a (t + 1) view = c.move_actor.ensures.jobs view (sym (c.in_ok-reserve_for.ensures.jobs ∙ ap (λ (w : WorldValue). w.view.jobs) c.self.view_is)) in
    subst (λ js. NoOtherIsStale js latest a t) (sym moved) (stale_moved a a t (t + 1) latest view (none_but_latest view.jobs latest a t c.requires.done c.latest_before-latest.ensures))

pub create-requires-clause-parent : goal.create-requires-clause-parent
create-requires-clause-parent c =
    let view = c.args.self.now.view in
    let a = c.args.actor in
    let t = c.args.next.position in
    let moved : c.move_actor.new.jobs.jobs ≡ moved_live_jobs a (t + 1) view = c.move_actor.ensures.jobs view (sym (c.in_ok-reserve_for.ensures.jobs ∙ ap (λ (w : WorldValue). w.view.jobs) c.self.view_is)) in
    was_made a (length view.clients) view.jobs c.move_actor.new.jobs.jobs c.requires.there (ap length moved ∙ length-moved a (t + 1) view)

pub returns-clause-places : goal.returns-clause-places
returns-clause-places c =
    let old = c.args.self.now in
    let a = c.args.actor in
    let t = c.args.next.position in
    let reserved = c.in_ok-reserve_for.ensures.jobs ∙ ap (λ (w : WorldValue). w.view.jobs) c.self.view_is in
    let moved = c.move_actor.ensures.jobs old.view (sym reserved) in
    let room = c.in_ok-reserve_for.ensures.places ∙ ap (λ (w : WorldValue). w.places) c.self.view_is in
    let all = ap (count_by is_some) reserved in
    let enough : live_jobs old.view ≤ old.places = omega (arith, c.in_ok-reserve_for.ensures.enough, all, room) in
    used_again a a t (t + 1) _ old _ c.move_actor.new.jobs moved (c.move_actor.ensures.places ∙ room) enough c.create.ensures.jobs c.create.ensures.places
