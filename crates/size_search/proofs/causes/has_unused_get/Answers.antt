use Rattle.std.proofs.Common.{◌≡◌, ℕ, true, false, length, get_or, ap, arith, rules, below_more}
use Rattle.job_bodies.specs.Plan.{class_at}
use Rattle.size_search.specs.Submitted.{IsSubmitted}
use Rattle.size_search.specs.ByClients.{client_bodies}
use Rattle.size_search.specs.Waiting.{GetsClass, MayLoseThreads}
use Rattle.size_search.proofs.JobGraphs.{getter_inside}
use Rattle.size_search.proofs.causes.has_unused_get.Goals as goal
use Rattle.size_search.proofs.causes.has_unused_get.Goals.{else-not-submitted-number-via-then-not-submitted-number+else-has_get_in_pool, else-not-submitted-number-via-else-not-submitted-number}

pub loop-number-preserved : goal.loop-number-preserved
loop-number-preserved c =
    let plan = c.args.plan.now in
    let number = c.loop-number.number in
    below_more
    (λ (k : ℕ). (j : ℕ) → MayLoseThreads plan k → GetsClass (class_at plan k).body j → IsSubmitted plan (client_bodies plan) k)
    number c.loop-number.invariant
    (elim c.else-not-submitted-number.branch [
      | else-not-submitted-number-via-then-not-submitted-number+else-has_get_in_pool w ↦ λ j may_lose gets. absurd (w.has_get_in_pool.ensures.none w.if-has_get_in_pool.false may_lose j gets)
      | else-not-submitted-number-via-else-not-submitted-number w ↦
          let marked : get_or c.args.submitted.now number false ≡ true = search rules in
          λ j may_lose gets. (c.requires.submitted number).0 marked
    ])

pub returns-clause-used : goal.returns-clause-used
returns-clause-used c = λ _ k j may_lose gets.
    let plan = c.args.plan.now in
    c.loop-number.invariant k (omega (arith, getter_inside plan k j gets, c.loop-number-test.false, ap length c.classes-number-end.ensures.value, c.loop-number.auto.number-end)) j may_lose gets
