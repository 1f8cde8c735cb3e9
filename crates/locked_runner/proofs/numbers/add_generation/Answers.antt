use Rattle.std.proofs.Common.{◌≡◌, ◌≤◌, ◌<◌, ℕ, List, length, map, take, get_or, slice_index, ap, ◌∙◌, arith}
use Rattle.std.proofs.lemmas.List.{take_all}
use Rattle.job_bodies.specs.declared.action.Action.{Action}
use Rattle.job_bodies.specs.Plan.{Class}
use Rattle.locked_runner.specs.RunNumbers.{capped, own_quantity, submitted}
use Rattle.locked_runner.proofs.Capped.{pushed, sum_of}
use Rattle.locked_runner.proofs.Generations.{add_generation, with_jobs}
use Rattle.locked_runner.proofs.numbers.add_generation.Goals as goal

pub loop-class-preserved : goal.loop-class-preserved
loop-class-preserved c =
    let i : ℕ = c.loop-class.class-index in
    let class : Class = c.class-item.result in
    let inside : i < length c.args.plan.now.classes = omega (arith, ap (λ (xs : List Class). length xs) c.classes-class-items.ensures.value) in
    let at : class ≡ get_or c.args.plan.now.classes i class = c.class-item.is ∙ ap (λ (xs : List Class). get_or xs i class) c.classes-class-items.ensures.value in
    let body : c.deref.result.now ≡ class.body = c.deref.ensures.value ∙ ap (λ (k : Class). k.body) c.class.view_is in
    let jobs : c.submitted.result ≡ capped (submitted (slice_index c.args.numbers.now) class.body) = c.submitted.ensures ∙ ap (λ (actions : List Action). capped (submitted (slice_index c.args.numbers.now) actions)) body in
    let whole : c.saturating_add.result ≡ capped (with_jobs (own_quantity c.args.measure) c.args.numbers.now class) =
    sum_of 18446744073709551615 (own_quantity c.args.measure class) (submitted (slice_index c.args.numbers.now) class.body) c.own_quantity.result c.submitted.result c.saturating_add.result c.own_quantity.ensures jobs c.saturating_add.ensures in
    pushed (λ (k : Class). capped (with_jobs (own_quantity c.args.measure) c.args.numbers.now k)) c.args.plan.now.classes i class c.loop-class.next.items c.push.new.self.items c.saturating_add.result
    inside at c.loop-class.invariant c.in_ok-push.ensures.items whole

pub returns : goal.returns
returns c = λ n are.
    let past : length c.args.plan.now.classes ≤ c.loop-class.class-index = omega (arith, ap (λ (xs : List Class). length xs) c.classes-class-items.ensures.value) in
    let all : take c.loop-class.class-index c.args.plan.now.classes ≡ c.args.plan.now.classes = take_all c.loop-class.class-index c.args.plan.now.classes past in
    add_generation c.args.plan.now (own_quantity c.args.measure) n c.args.numbers.now c.loop-class.next.items c.classes.ensures.well_formed
    (c.loop-class.invariant ∙ ap (λ (xs : List Class). map (λ class. capped (with_jobs (own_quantity c.args.measure) c.args.numbers.now class)) xs) all) are
