use Rattle.std.proofs.Common.{◌≡◌, ℕ, ◌+◌, ◌<◌, ◌≤◌, Bool, not, List, [], ◌∷◌, ◌++◌, length, take, set, get_or, Some, None, sym, ap, ap₂, subst, ◌∙◌, le_refl, arith, length-set}
use Rattle.std.proofs.lemmas.List.{get_or-replicate, length-replicate, take_all, take_more}
use Rattle.pool_machine.specs.State.{pool_of}
use Rattle.pool_machine.specs.Waiting.{is_member}
use Rattle.interleaving.specs.LiveView.{View}
use Rattle.interleaving.specs.World.{WorldValue}
use Rattle.interleaving.specs.ViewStep.{live_job}
use Rattle.interleaving.specs.declared.activities.PoolActivity.{PoolActivity}
use Rattle.interleaving.specs.PoolActivity.{no_activity, activity_at, activity_of, activity_with}
use Rattle.interleaving.proofs.MembersAtWork.{no_members_no_activity, activity_without, activities_count}
use Rattle.interleaving.proofs.OfPlan.{pool_of_live_job}
use Rattle.interleaving.proofs.world.World.activities.Goals as goal
use Rattle.interleaving.proofs.world.World.activities.Goals.{in-Some, in_default}

pub loop-place-init : goal.loop-place-init
loop-place-init c = (
  length-replicate 64 no_activity,
  λ p inside.
      let start = get_or-replicate 64 p no_activity no_activity inside in
      (start ∙ sym (no_members_no_activity c.args.plan.now c.args.self.now.view p), subst (λ (s : PoolActivity). s.at_work ≤ 0) (sym start) (le_refl 0)),
)

pub loop-place-preserved : goal.loop-place-preserved
loop-place-preserved c =
    let plan = c.args.plan.now in
    let view : View = c.args.self.now.view in
    let members : List ℕ = c.args.members.now in
    let activities : List PoolActivity = c.loop-place.activities in
    let place : ℕ = c.loop-place.place in
    let before : List ℕ = take place members in
    let m = get_or members place 0 in
    let long = ap length c.numbers-number-items.ensures in
    let more : take (place + 1) members ≡ before ++ m ∷ [] = take_more members place 0 (omega (arith, long)) in
    let number : get_or c.numbers-number-items.result.now place 0 ≡ m = ap (λ (ns : List ℕ). get_or ns place 0) c.numbers-number-items.ensures in
    let jobs : c.self.inside.jobs.jobs ≡ view.jobs = ap (λ (w : WorldValue). w.view.jobs) c.self.view_is in
    let seen : c.get.result ≡ live_job view.jobs m = c.get.ensures ∙ ap₂ live_job jobs number in
    elim c.match-get.branch [
      | in-Some w ↦
          let job = w.in-Some.job in
          let q = pool_of plan job.class in
          let live : live_job view.jobs m ≡ Some job = sym seen ∙ w.in-Some.is in
          let pool : w.pool_of-pool.result ≡ q = w.pool_of-pool.ensures in
          let in_plan = pool_of_live_job plan view m job c.requires.of_plan c.requires.well_formed live in
          let few = c.requires.well_formed.few_pools in
          let many = c.loop-place.invariant.0 in
          let activity : w.with.result ≡ activity_with (activity_at activities q) job.phase (not (is_member before m)) = w.with.ensures ∙ ap₂ (λ (k : ℕ) (b : Bool). activity_with (activity_at activities k) job.phase b) pool w.is_first.ensures in
          let after : c.match-get.activities ≡ set activities q (activity_with (activity_at activities q) job.phase (not (is_member before m))) = w.activities-is ∙ ap₂ (λ (k : ℕ) (s : PoolActivity). set activities k s) pool activity in (
            ap length after ∙ length-set activities q _ ∙ many,
            λ p inside.
                let counts = activities_count plan view before m job live activities (omega (arith, in_plan, few, many)) p place (c.loop-place.invariant.1 p inside) in (
                  ap (λ (all : List PoolActivity). activity_at all p) after ∙ counts.0 ∙ ap (λ (those : List ℕ). activity_of plan view those p) (sym more),
                  subst (λ (all : List PoolActivity). (activity_at all p).at_work ≤ place + 1) (sym after) counts.1,
                ),
          )
      | in_default w ↦
          let none : live_job view.jobs m ≡ None = sym seen ∙ w.in_default.is in (
            ap length w.activities-is ∙ c.loop-place.invariant.0,
            λ p inside.
                let was = c.loop-place.invariant.1 p inside in
                let low : (activity_at activities p).at_work ≤ place = was.1 in (
                  ap (λ (all : List PoolActivity). activity_at all p) w.activities-is ∙ was.0 ∙ sym (activity_without plan view before m p none) ∙ ap (λ (those : List ℕ). activity_of plan view those p) (sym more),
                  subst (λ (all : List PoolActivity). (activity_at all p).at_work ≤ place + 1) (sym w.activities-is) (omega (arith, low)),
                ),
          )
    ]

pub bounds-activities-pool : goal.bounds-activities-pool
bounds-activities-pool c =
    let view : View = c.args.self.now.view in
    let members : List ℕ = c.args.members.now in
    let place : ℕ = c.loop-place.place in
    let m = get_or members place 0 in
    let number : get_or c.numbers-number-items.result.now place 0 ≡ m = ap (λ (ns : List ℕ). get_or ns place 0) c.numbers-number-items.ensures in
    let jobs : c.self.inside.jobs.jobs ≡ view.jobs = ap (λ (w : WorldValue). w.view.jobs) c.self.view_is in
    let seen : c.get.result ≡ live_job view.jobs m = c.get.ensures ∙ ap₂ live_job jobs number in
    let in_plan = pool_of_live_job c.args.plan.now view m c.in-Some.job c.requires.of_plan c.requires.well_formed (sym seen ∙ c.in-Some.is) in
    let few = c.requires.well_formed.few_pools in
    let pool = c.pool_of-pool.ensures in
    omega (arith, in_plan, few, pool)

pub bounds-activities-pool-in-Some : goal.bounds-activities-pool-in-Some
bounds-activities-pool-in-Some c =
    let view : View = c.args.self.now.view in
    let members : List ℕ = c.args.members.now in
    let place : ℕ = c.loop-place.place in
    let m = get_or members place 0 in
    let number : get_or c.numbers-number-items.result.now place 0 ≡ m = ap (λ (ns : List ℕ). get_or ns place 0) c.numbers-number-items.ensures in
    let jobs : c.self.inside.jobs.jobs ≡ view.jobs = ap (λ (w : WorldValue). w.view.jobs) c.self.view_is in
    let seen : c.get.result ≡ live_job view.jobs m = c.get.ensures ∙ ap₂ live_job jobs number in
    let in_plan = pool_of_live_job c.args.plan.now view m c.in-Some.job c.requires.of_plan c.requires.well_formed (sym seen ∙ c.in-Some.is) in
    let few = c.requires.well_formed.few_pools in
    let pool = c.pool_of-pool.ensures in
    omega (arith, in_plan, few, pool)

pub with-requires : goal.with-requires
with-requires c =
    let view : View = c.args.self.now.view in
    let members : List ℕ = c.args.members.now in
    let place : ℕ = c.loop-place.place in
    let m = get_or members place 0 in
    let number : get_or c.numbers-number-items.result.now place 0 ≡ m = ap (λ (ns : List ℕ). get_or ns place 0) c.numbers-number-items.ensures in
    let jobs : c.self.inside.jobs.jobs ≡ view.jobs = ap (λ (w : WorldValue). w.view.jobs) c.self.view_is in
    let seen : c.get.result ≡ live_job view.jobs m = c.get.ensures ∙ ap₂ live_job jobs number in
    let in_plan = pool_of_live_job c.args.plan.now view m c.in-Some.job c.requires.of_plan c.requires.well_formed (sym seen ∙ c.in-Some.is) in
    let few = c.requires.well_formed.few_pools in
    let pool = c.pool_of-pool.ensures in
    let inside : c.pool_of-pool.result < 64 = omega (arith, in_plan, few, pool) in
    let low = (c.loop-place.invariant.1 c.pool_of-pool.result inside).1 in
    omega (arith, low, c.loop-place-test.true)

pub returns : goal.returns
returns c = λ p inside.
    (c.loop-place.invariant.1 p inside).0 ∙ ap (λ (those : List ℕ). activity_of c.args.plan.now c.args.self.now.view those p) (take_all c.loop-place.place c.args.members.now (let e = ap length c.numbers-number-items.ensures in let past = c.loop-place-test.false in omega (arith, e, past)))
