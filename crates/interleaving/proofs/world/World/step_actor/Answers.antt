use Rattle.std.proofs.Common.{◌≡◌, sym, Some, rules}
use Rattle.job_bodies.specs.declared.action.Action.TheVariants.{Submit, Get}
use Rattle.interleaving.proofs.OfPlan.{pool_of_submit, past_start, at_work}
use Rattle.interleaving.proofs.JobsAtGets.{alone_at_get, none_left}
use Rattle.interleaving.proofs.MakersOfJobs.{made_by_other}
use Rattle.interleaving.proofs.DoneJobsAreLatest.{done_are_latest}
use Rattle.interleaving.proofs.world.World.step_actor.Goals as goal

pub end-requires-clause-at_work : goal.end-requires-clause-at_work
end-requires-clause-at_work c =
    let next = c.in-Some.ensures in
    at_work c.args.plan.now c.args.self.now.view c.args.actor c.in-Some.next c.requires next.well_formed (sym next.value)

pub end-requires-clause-other : goal.end-requires-clause-other
end-requires-clause-other c = made_by_other c.args.plan.now c.args.self.now.view c.args.actor c.requires c.in-Some.ensures.well_formed

pub end-requires-clause-done : goal.end-requires-clause-done
end-requires-clause-done c = done_are_latest c.args.plan.now c.args.self.now.view c.requires

pub get-requires-clause-alone : goal.get-requires-clause-alone
get-requires-clause-alone c =
    let next = c.in-Some.ensures in
    let gets : c.in-Some.next.action ≡ Some (Get c.in-Some-Get.submit) = search rules in
    alone_at_get c.args.plan.now c.args.self.now.view c.args.actor c.in-Some.next c.in-Some-Get.submit c.requires next.well_formed (sym next.value) gets

pub get-requires-clause-begun : goal.get-requires-clause-begun
get-requires-clause-begun c =
    let next = c.in-Some.ensures in
    let gets : c.in-Some.next.action ≡ Some (Get c.in-Some-Get.submit) = search rules in
    past_start c.args.plan.now c.args.self.now.view c.args.actor c.in-Some.next c.in-Some-Get.submit next.well_formed (sym next.value) gets

pub submit-requires-clause-pool : goal.submit-requires-clause-pool
submit-requires-clause-pool c =
    let next = c.in-Some.ensures in
    let submits : c.in-Some.next.action ≡ Some (Submit c.in-Some-Submit.class) = search rules in
    pool_of_submit c.args.plan.now c.args.self.now.view c.args.actor c.in-Some.next c.in-Some-Submit.class c.requires next.well_formed (sym next.value) submits

pub submit-requires-clause-has_get : goal.submit-requires-clause-has_get
submit-requires-clause-has_get c = λ has_get.
    let next = c.in-Some.ensures in
    none_left c.args.plan.now c.args.self.now.view c.args.actor c.in-Some.next c.requires next.well_formed (sym next.value) has_get

pub submit-requires-clause-done : goal.submit-requires-clause-done
submit-requires-clause-done c = done_are_latest c.args.plan.now c.args.self.now.view c.requires
