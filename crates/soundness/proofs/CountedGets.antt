-- Fewer jobs of a pool than its core size may block in any reachable state. A job *may block* if it is at a counted get or
-- before one.
use Rattle.std.proofs.Common.{◌≡◌, ℕ, zero, suc, ◌+◌, ◌-◌, ◌<◌, ◌≤◌, Bool, true, false, cond, ◌&&◌, ◌||◌, inl, inr, ltb, eqb, length, get_or, slice_get, sum_by, Option, Some, None, refl, sym, ap, subst, ◌∙◌, arith, zero-add}
use Rattle.std.specs.List.{enumerate_from}
use Rattle.std.proofs.lemmas.Bool.{false≢true, cases_lt, cases_eq, cases_Bool, and_parts, and_right, or_parts, le-ltb, ltb-true, eqb-true, ne_eqb, not-false}
use Rattle.std.proofs.lemmas.List.{get_or_default}
use Rattle.support.proofs.Sums.{sum_by-add, sum_by-le-within}
use Rattle.job_bodies.specs.declared.action.Action.{Action}
use Rattle.job_bodies.specs.declared.action.Action.TheVariants as action
use Rattle.job_bodies.specs.Plan.{Plan, pool_at, class_at, least_threads, submitted_class}
use Rattle.job_bodies.proofs.Bodies.{HasValidBodies, ordered, some_threads}
use Rattle.pool_machine.specs.declared.parent.Parent.TheVariants as parent
use Rattle.pool_machine.specs.State.{Stage, State, CreatedJob, no_job, job_at, pool_of}
use Rattle.pool_machine.specs.Step.{point_of_job}
use Rattle.pool_machine.proofs.Busy.{one_if}
use Rattle.pool_machine.proofs.StateInvariant.{StateInvariant}
use Rattle.pool_machine.proofs.Reached.{kept}
use Rattle.weights.specs.declared.get_return.GetReturn.TheVariants.{DoneWeight}
use Rattle.weights.specs.Vector.{Vector, queued_weight, job_weight, done_weight, total}
use Rattle.weights.specs.Ranks.{Ranks, rank, reach, is_counted_action, is_counted}
use Rattle.soundness.specs.WeightedSum.{stage_weight}
use Rattle.soundness.specs.CountedGets.{passes_from, may_block_at, may_block_in, may_block, FewerThanCoreMayBlock}
use Rattle.soundness.proofs.NeverRises.{jobs_weight, IsBalanced}
use Rattle.soundness.proofs.WithinTotal.{actors_weight-le-total}
use Rattle.soundness.proofs.ReachedLaws.{balanced}
use Rattle.soundness.proofs.CompletedSteps.{sum_of_elements}
use Rattle.soundness.proofs.BlockedLaws.{BlockedLaws, blocked_laws}
use Rattle.soundness.proofs.RankLaws.{RankLaws, rank_laws}
use Rattle.soundness.proofs.Walks.{walk, done-le-queued, rejected_are_light, submits_cover_done}
use Rattle.soundness.proofs.Debts.{cond-le, open_weight, debt, debt_to, returned-le-owed, owed-le-debts}

-- ---- the first counted get

-- the first of the n positions from i on at which the test passes, and its distance from i
record FirstFrom (test : ℕ → Bool) (i n : ℕ) : Type 0 where
  steps : ℕ
  below : steps < n
  passes : test (i + steps) ≡ true
  before : (u : ℕ) → i ≤ u → u < i + steps → test u ≡ false

passes_later : (a b : Bool) → a ≡ false → (a || b) ≡ true → b ≡ true
passes_later true b fails some = absurd (false≢true (sym fails))
passes_later false b fails some = some

first_from : (test : ℕ → Bool) (i n : ℕ) → passes_from test i n ≡ true → FirstFrom test i n
first_from test i zero some = absurd (false≢true some)
first_from test i (suc n) some = elim (cases_Bool (test i)) [
  | inl here ↦
      let same : i + 0 ≡ i = omega arith in
      record { steps = 0; below = omega arith; passes = ap test same ∙ here; before = λ u from below. absurd (omega arith) }
  | inr fails ↦
      let rest = first_from test (i + 1) n (passes_later (test i) (passes_from test (i + 1) n) fails some) in
      let same : i + suc rest.steps ≡ i + 1 + rest.steps = omega arith in
      let limit = rest.below in
      record {
        steps = suc rest.steps;
        below = omega arith;
        passes = ap test same ∙ rest.passes;
        before = λ u from below. elim (cases_eq i u) [
          | inl first ↦ subst (λ (x : ℕ). test x ≡ false) first fails
          | inr other ↦ rest.before u (omega arith) (omega arith)
        ];
      }
]

-- if the test passes at none of the n positions from i on, it fails at each of them
pub fails_from : (test : ℕ → Bool) (i n g : ℕ) → passes_from test i n ≡ false → i ≤ g → g < i + n → test g ≡ false
fails_from test i zero g none from below = absurd (omega arith)
fails_from test i (suc n) g none from below =
    let parts = or_parts (test i) (passes_from test (i + 1) n) none in
    elim (cases_eq i g) [
      | inl same ↦ subst (λ (u : ℕ). test u ≡ false) same parts.0
      | inr other ↦ fails_from test (i + 1) n g parts.1 (omega arith) (omega arith)
    ]

-- a counted action is a get
counted_get : (plan : Plan) (ranks : Ranks) (k : ℕ) (next : Option Action) → is_counted_action plan ranks k next ≡ true → (t : ℕ) × (next ≡ Some (action.Get t))
counted_get plan ranks k None e = absurd (false≢true e)
counted_get plan ranks k (Some (action.Work u)) e = absurd (false≢true e)
counted_get plan ranks k (Some (action.Submit k')) e = absurd (false≢true e)
counted_get plan ranks k (Some (action.Get t)) e = (t, refl)

-- if a get of a job of class k is not counted, the class of the job that it gets has a reach below the rank of class k's pool
pub uncounted_reach : (plan : Plan) (ranks : Ranks) (k u t : ℕ) → slice_get (class_at plan k).body u ≡ Some (action.Get t) → is_counted plan ranks k u ≡ false → reach ranks (submitted_class (class_at plan k).body t) < rank ranks (pool_of plan k)
uncounted_reach plan ranks k u t is_get uncounted =
    let low = reach ranks (submitted_class (class_at plan k).body t) in
    let r = rank ranks (pool_of plan k) in
    ltb-true low r (not-false (ltb low r) (ap (is_counted_action plan ranks k) (sym is_get) ∙ uncounted))

-- ---- the weight of each job and the debts of its children cover its price

-- the price of a job of class k at this stage: what it owes to its creator, plus 1 if it may block in pool p
abbrev price : Plan → Ranks → Vector → ℕ → ℕ → Stage → ℕ
price plan ranks v p k stage = one_if (may_block_at plan ranks k stage && eqb (pool_of plan k) p) + cond (ltb (reach ranks k) (rank ranks p)) (open_weight plan v k stage) 0

module _ (plan : Plan) (ranks : Ranks) (v : Vector) (p : ℕ) (s : State) (ordered : HasValidBodies plan) (ranked : RankLaws plan ranks) (laws : BlockedLaws plan (is_counted plan ranks) p v) (kept : StateInvariant plan s) where
  -- the price of a running job with a reach below the pool's rank is covered: the job is not of the pool, and its weight and
  -- the debts of its children together are at least its weight at its end
  pays_low : (j i : ℕ) → j < length s.jobs → (job_at s j).stage ≡ Stage.At i → reach ranks (job_at s j).class < rank ranks p → price plan ranks v p (job_at s j).class (Stage.At i) ≤ job_weight v (job_at s j).class i + sum_by (debt_to plan ranks v (rank ranks p) j) s.jobs
  pays_low j i made at low =
      let k = (job_at s j).class in
      let body = (class_at plan k).body in
      let r = rank ranks p in
      let exists = kept.classes j no_job made in
      let actor = kept.actors (parent.Job j) body i (ap (point_of_job plan k) at) in
      let inside = actor.inside in
      let reaches = ranked.reaches k exists in
      let other : eqb (pool_of plan k) p ≡ false = ne_eqb (pool_of plan k) p (λ same. let ranked_same : rank ranks (pool_of plan k) ≡ r = ap (rank ranks) same in omega arith) in
      let free : (may_block_at plan ranks k (Stage.At i) && eqb (pool_of plan k) p) ≡ false = and_right (may_block_at plan ranks k (Stage.At i)) (eqb (pool_of plan k) p) other in
      let owes : cond (ltb (reach ranks k) r) (done_weight plan v k) 0 ≤ done_weight plan v k = cond-le (ltb (reach ranks k) r) (done_weight plan v k) (done_weight plan v k) (omega arith) in
      let vector = laws.laws in
      let along = walk DoneWeight plan v (job_weight v k) body (length body - i) i (vector.classes k) (ordered.classes k) (submits_cover_done DoneWeight plan v ranks k ordered ranked vector) (omega arith) in
      let last : job_weight v k (i + (length body - i)) ≡ job_weight v k (length body) = ap (job_weight v k) (omega arith) in
      let back = returned-le-owed plan ranks v r s j i (length body - i) body (ordered.classes k) actor.ready (λ u t from below is_get. let falls = ranked.falls k u t is_get in omega arith) in
      omega (arith, ap one_if free, owes, along, last, back, vector.ends k exists)

  -- the price of a running job with a reach of at least the pool's rank is covered: the job owes nothing, and if it may block,
  -- its weight and the debts of its children together are at least its weight at the first counted get
  pays_high : (j i : ℕ) → j < length s.jobs → (job_at s j).stage ≡ Stage.At i → rank ranks p ≤ reach ranks (job_at s j).class → price plan ranks v p (job_at s j).class (Stage.At i) ≤ job_weight v (job_at s j).class i + sum_by (debt_to plan ranks v (rank ranks p) j) s.jobs
  pays_high j i made at high =
      let k = (job_at s j).class in
      let body = (class_at plan k).body in
      let counted = is_counted plan ranks k in
      let blocks = passes_from counted i (length body - i) in
      let actor = kept.actors (parent.Job j) body i (ap (point_of_job plan k) at) in
      let inside = actor.inside in
      let owes : cond (ltb (reach ranks k) (rank ranks p)) (done_weight plan v k) 0 ≡ 0 = ap (λ b. cond b (done_weight plan v k) 0) (le-ltb (reach ranks k) (rank ranks p) high) in
      elim (cases_Bool (blocks && eqb (pool_of plan k) p)) [
        | inr free ↦ omega (arith, owes, ap one_if free)
        | inl both ↦
            let parts = and_parts blocks (eqb (pool_of plan k) p) both in
            let of_pool : pool_of plan k ≡ p = eqb-true (pool_of plan k) p parts.1 in
            let first = first_from counted i (length body - i) parts.0 in
            let within = first.below in
            let get = counted_get plan ranks k (slice_get body (i + first.steps)) first.passes in
            let weighs = laws.blocked k (i + first.steps) get.0 of_pool get.1 first.passes in
            let vector = laws.laws in
            let along = walk DoneWeight plan v (job_weight v k) body first.steps i (vector.classes k) (ordered.classes k) (submits_cover_done DoneWeight plan v ranks k ordered ranked vector) (omega arith) in
            let back = returned-le-owed plan ranks v (rank ranks p) s j i first.steps body (ordered.classes k) actor.ready
            (λ u t from below is_get. subst (λ (q : ℕ). reach ranks (submitted_class body t) < rank ranks q) of_pool (uncounted_reach plan ranks k u t is_get (first.before u from below))) in
            omega (arith, owes, ap one_if both, weighs, along, back)
      ]

  -- the price of a job at any stage is at most its weight and the debts of its children to it
  pays : (j : ℕ) (stage : Stage) → j < length s.jobs → (job_at s j).stage ≡ stage → price plan ranks v p (job_at s j).class stage ≤ stage_weight DoneWeight plan v (job_at s j).class stage + sum_by (debt_to plan ranks v (rank ranks p) j) s.jobs
  pays j Stage.Queued made is_stage =
      let k = (job_at s j).class in
      let enough = done-le-queued DoneWeight plan v ranks k ordered ranked laws.laws (kept.classes j no_job made) in
      omega (arith, cond-le (ltb (reach ranks k) (rank ranks p)) (done_weight plan v k) (queued_weight v k) enough)
  pays j (Stage.At i) made is_stage = elim (cases_lt (reach ranks (job_at s j).class) (rank ranks p)) [
    | inl low ↦ pays_low j i made is_stage low
    | inr high ↦ pays_high j i made is_stage high
  ]
  pays j Stage.Done made is_stage =
      let k = (job_at s j).class in
      omega (arith, cond-le (ltb (reach ranks k) (rank ranks p)) (done_weight plan v k) (done_weight plan v k) (omega arith))
  pays j Stage.Claimed made is_stage =
      let k = (job_at s j).class in
      omega (arith, cond-le (ltb (reach ranks k) (rank ranks p)) 0 0 (omega arith))

  -- ---- all jobs together

  -- the number of jobs of the pool that may block is at most the weight of all jobs, because each debt is part of the price of
  -- one job and is owed to at most one job
  may_block-le-weight : may_block plan ranks s p ≤ jobs_weight DoneWeight plan v s.jobs
  may_block-le-weight =
      let r = rank ranks p in
      let numbered = enumerate_from 0 s.jobs in
      let blocks = λ (job : CreatedJob). one_if (may_block_in plan ranks p job) in
      let weight = λ (job : CreatedJob). stage_weight DoneWeight plan v job.class job.stage in
      let owes = debt plan ranks v r in
      let owed_to = λ (e : ℕ × CreatedJob). sum_by (debt_to plan ranks v r e.0) s.jobs in
      let each = sum_by-le-within (λ (e : ℕ × CreatedJob). blocks e.1 + owes e.1) (λ (e : ℕ × CreatedJob). weight e.1 + owed_to e) 0 s.jobs
      (λ j d inside.
      let same : get_or s.jobs j no_job ≡ get_or s.jobs j d = get_or_default s.jobs j no_job d inside in
      subst (λ (n : ℕ). blocks (get_or s.jobs j d) + owes (get_or s.jobs j d) ≤ weight (get_or s.jobs j d) + owed_to (n, get_or s.jobs j d)) (sym (zero-add j))
      (subst (λ (job : CreatedJob). blocks job + owes job ≤ weight job + owed_to (j, job)) same (pays j (job_at s j).stage inside refl))) in
      let left = sum_by-add (λ (e : ℕ × CreatedJob). blocks e.1) (λ (e : ℕ × CreatedJob). owes e.1) numbered in
      let right = sum_by-add (λ (e : ℕ × CreatedJob). weight e.1) owed_to numbered in
      omega (arith, each, left, right, sum_of_elements blocks 0 s.jobs, sum_of_elements owes 0 s.jobs, sum_of_elements weight 0 s.jobs, owed-le-debts plan ranks v r s.jobs s.jobs)

  -- the number of jobs of the pool that may block is at most the vector's total, because this number is at most the weight of all jobs, and
  -- that is at most the total
  pub may_block-le-total : IsBalanced DoneWeight plan v s → may_block plan ranks s p ≤ total plan v
  may_block-le-total balanced = omega (arith, may_block-le-weight, actors_weight-le-total DoneWeight plan v s ordered kept balanced)

  -- the number of jobs of the pool that may block is below the number of threads that it has while a job is queued
  pub may_block-below_threads : p < length plan.pools → IsBalanced DoneWeight plan v s → may_block plan ranks s p < least_threads (pool_at plan p)
  may_block-below_threads inside balanced =
      let some = some_threads plan p ordered inside in
      let limit = laws.within in
      omega (arith, may_block-le-total balanced)

-- the law that in every reachable state the number of jobs of a pool that may block is at most the total of its blocked vector, and below
-- the number of threads that the pool has while a job is queued
pub fewer_than_core_may_block : FewerThanCoreMayBlock
fewer_than_core_may_block plan ranks p v s well_formed inside ranks_hold hold reached =
    let laws = blocked_laws plan (is_counted plan ranks) p v hold in
    let is_ordered = ordered plan well_formed in
    let ranked = rank_laws plan ranks ranks_hold in
    let invariant = kept plan s well_formed reached in
    let is_balanced = balanced DoneWeight plan v s well_formed laws.laws (rejected_are_light DoneWeight plan v ranks is_ordered ranked laws.laws) reached in
    (may_block-le-total plan ranks v p s is_ordered ranked laws invariant is_balanced, may_block-below_threads plan ranks v p s is_ordered ranked laws invariant inside is_balanced)
