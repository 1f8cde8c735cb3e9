-- The activity of the members of a set in a pool, and the condition that only members run in the pool.
use Rattle.std.proofs.Common.{◌≡◌, ◌≢◌, ℕ, zero, suc, ◌+◌, ◌<◌, ◌≤◌, ◌==◌, ◌&&◌, ◌||◌, not, Bool, true, false, cond, List, [], ◌∷◌, ◌++◌, length, count_by, get_or, set, ⊎_elim, Option, Some, None, refl, sym, ap, ap₂, subst, inl, inr, ◌∙◌, arith, eq-eqb}
use Rattle.std.specs.List.{list_all}
use Rattle.std.proofs.lemmas.Bool.{cases_Bool, cases_eq, both_ways, false_from_ne_true, eqb-true}
use Rattle.std.proofs.lemmas.List.{get_or-set_same, get_or-set_other}
use Rattle.std.proofs.lemmas.List.Sums.{sum_by-cons, count_by-le-length}
use Rattle.std.proofs.lemmas.List.Folds.{list_any-append}
use Rattle.support.specs.Places.{cons_if, places_from, places_where}
use Rattle.support.proofs.PassingPlaces.{length-places}
use Rattle.job_bodies.specs.Plan.{Plan}
use Rattle.pool_machine.specs.PoolState.{PoolView}
use Rattle.pool_machine.specs.State.{State, pool_of, is_busy_in, busy}
use Rattle.pool_machine.specs.Waiting.{is_member}
use Rattle.interleaving.specs.declared.job_view.Phase.{Phase}
use Rattle.interleaving.specs.declared.job_view.Phase.TheVariants as phase
use Rattle.interleaving.specs.declared.job_view.JobView.{JobView}
use Rattle.interleaving.specs.LiveView.{View, live_view}
use Rattle.interleaving.specs.ViewStep.{live_job, pool_in}
use Rattle.interleaving.specs.Waiting.{is_at_work, is_busy_job, waits_in_queue_of}
use Rattle.interleaving.proofs.View.{pool_at_view}
use Rattle.interleaving.proofs.Waiting.{busy_places}
use Rattle.interleaving.specs.declared.activities.PoolActivity.{PoolActivity}
use Rattle.interleaving.specs.OfPlan.{IsReachableView}
use Rattle.interleaving.specs.Stuck.{is_in_queue, is_queued_job, has_queued}
use Rattle.interleaving.specs.PoolActivity.{members_at_work, activity_of, no_activity, activity_at, activity_with, pool_queue_waits}
use Rattle.interleaving.proofs.Membership.{itself_pushed, others_pushed}

-- ---- counts

abbrev one_if : Bool → ℕ
one_if b = cond b 1 0

count-cons : {X : Type 0} (test : X → Bool) (x : X) (xs : List X) → count_by test (x ∷ xs) ≡ one_if (test x) + count_by test xs
count-cons test x xs = sum_by-cons (λ y. one_if (test y)) x xs

all_or_fewer : (b : Bool) (n long : ℕ) (rest : Bool) → rest ≡ (n == long) → n ≤ long → (b && rest) ≡ (one_if b + n == 1 + long)
all_or_fewer true n long rest e low = e ∙ one_up
  where
    one_up : (n == long) ≡ (1 + n == 1 + long)
    one_up = elim (cases_Bool (n == long)) [
      | inl same ↦ same ∙ sym (eq-eqb (1 + n) (1 + long) (let is : n ≡ long = eqb-true n long same in omega arith))
      | inr other ↦ other ∙ sym (false_from_ne_true (1 + n == 1 + long) (λ same. let is = eqb-true (1 + n) (1 + long) same in both_ways (n == long) other (eq-eqb n long (omega (arith, is)))))
    ]
all_or_fewer false n long rest e low = sym (false_from_ne_true (0 + n == 1 + long) (λ same. let is = eqb-true (0 + n) (1 + long) same in omega (arith, is, low)))

-- all elements pass the test exactly when the number of those that pass is the length
all_by_count : {X : Type 0} (test : X → Bool) (xs : List X) → list_all test xs ≡ (count_by test xs == length xs)
all_by_count test [] = refl
all_by_count test (x ∷ xs) =
    let counts = count-cons test x xs in
    let long : suc (length xs) ≡ 1 + length xs = omega arith in
    all_or_fewer (test x) (count_by test xs) (length xs) (list_all test xs) (all_by_count test xs) (count_by-le-length test xs) ∙ ap₂ (λ a b. a == b) (sym counts) (sym long)

-- ---- one more member, and the running jobs

module _ (busy : Option JobView → Bool) (members : List ℕ) where
  abbrev among : ℕ → List (Option JobView) → ℕ
  among n jobs = count_by (is_member members) (places_from busy n jobs)

  abbrev among_more : ℕ → ℕ → List (Option JobView) → ℕ
  among_more m n jobs = count_by (is_member (members ++ m ∷ [])) (places_from busy n jobs)

  head : (test : ℕ → Bool) (b : Bool) (n : ℕ) (ns : List ℕ) → count_by test (cons_if b n ns) ≡ one_if (b && test n) + count_by test ns
  head test true n ns = count-cons test n ns
  head test false n ns = omega arith

  -- a new member does not change the count of the elements after it
  others_stay : (m n : ℕ) (jobs : List (Option JobView)) → m < n → among_more m n jobs ≡ among n jobs
  others_stay m n [] below = refl
  others_stay m n (job ∷ jobs) below =
      let now = head (is_member (members ++ m ∷ [])) (busy job) n (places_from busy (n + 1) jobs) in
      let was = head (is_member members) (busy job) n (places_from busy (n + 1) jobs) in
      let same : one_if (busy job && is_member (members ++ m ∷ []) n) ≡ one_if (busy job && is_member members n) = ap (λ b. one_if (busy job && b)) (others_pushed members m n (λ e. omega (arith, e, below))) in
      let rest = others_stay m (n + 1) jobs (omega arith) in
      omega (arith, now, was, same, rest)

  split : (b was now : Bool) → now ≡ true → one_if (b && now) ≡ one_if (b && was) + one_if (b && not was)
  split true true now e = ap one_if e
  split true false now e = ap one_if e
  split false was now e = refl

  one_counts : (n k : ℕ) (jobs : List (Option JobView)) → busy None ≡ false → among_more (n + k) n jobs ≡ among n jobs + one_if (busy (get_or jobs k None) && not (is_member members (n + k)))
  one_counts n k [] none = let nothing : one_if (busy None && not (is_member members (n + k))) ≡ 0 = ap (λ b. one_if (b && not (is_member members (n + k)))) none in omega (arith, nothing)
  one_counts n zero (job ∷ jobs) none =
      let m = n + 0 in
      let here : m ≡ n = omega arith in
      let now = head (is_member (members ++ m ∷ [])) (busy job) n (places_from busy (n + 1) jobs) in
      let was = head (is_member members) (busy job) n (places_from busy (n + 1) jobs) in
      let is_now : is_member (members ++ m ∷ []) n ≡ true = ap (is_member (members ++ m ∷ [])) (sym here) ∙ itself_pushed members m in
      let parts = split (busy job) (is_member members n) (is_member (members ++ m ∷ []) n) is_now in
      let same : one_if (busy job && not (is_member members m)) ≡ one_if (busy job && not (is_member members n)) = ap (λ j. one_if (busy job && not (is_member members j))) here in
      let rest = others_stay m (n + 1) jobs (omega arith) in
      omega (arith, now, was, parts, same, rest)
  one_counts n (suc k) (job ∷ jobs) none =
      let m = n + suc k in
      let later : n + 1 + k ≡ m = omega arith in
      let now = head (is_member (members ++ m ∷ [])) (busy job) n (places_from busy (n + 1) jobs) in
      let was = head (is_member members) (busy job) n (places_from busy (n + 1) jobs) in
      let same : one_if (busy job && is_member (members ++ m ∷ []) n) ≡ one_if (busy job && is_member members n) = ap (λ b. one_if (busy job && b)) (others_pushed members m n (λ e. omega (arith, e))) in
      let rest : among_more m (n + 1) jobs ≡ among (n + 1) jobs + one_if (busy (get_or jobs k None) && not (is_member members m)) = subst (λ j. among_more j (n + 1) jobs ≡ among (n + 1) jobs + one_if (busy (get_or jobs k None) && not (is_member members j))) later (one_counts (n + 1) k jobs none) in
      omega (arith, now, was, same, rest)

module _ (plan : Plan) (view : View) (members : List ℕ) (m : ℕ) where
  queued_pushed : (p : ℕ) → has_queued plan view (members ++ m ∷ []) p ≡ (has_queued plan view members p || (is_queued_job plan p (live_job view.jobs m) || false))
  queued_pushed p = list_any-append (λ j. is_queued_job plan p (live_job view.jobs j)) members (m ∷ [])

  at_work_pushed : (p : ℕ) → members_at_work plan view.jobs (members ++ m ∷ []) p ≡ members_at_work plan view.jobs members p + one_if (is_busy_job plan p (live_job view.jobs m) && not (is_member members m))
  at_work_pushed p =
      let zero_more : 0 + m ≡ m = omega arith in
      subst (λ j. among_more (is_busy_job plan p) members j 0 view.jobs ≡ among (is_busy_job plan p) members 0 view.jobs + one_if (is_busy_job plan p (live_job view.jobs m) && not (is_member members j))) zero_more
      (one_counts (is_busy_job plan p) members 0 m view.jobs refl)

  abbrev with_job : ℕ → Option JobView → PoolActivity
  with_job p job = record { queued = has_queued plan view members p || (is_queued_job plan p job || false); at_work = members_at_work plan view.jobs members p + one_if (is_busy_job plan p job && not (is_member members m)) }

  activity_pushed : (p : ℕ) → activity_of plan view (members ++ m ∷ []) p ≡ with_job p (live_job view.jobs m)
  activity_pushed p = ap₂ (λ (b : Bool) (n : ℕ). record { queued = b; at_work = n }) (queued_pushed p) (at_work_pushed p)

  or_false : (b : Bool) → (b || false) ≡ b
  or_false true = refl
  or_false false = refl

  or_true : (b : Bool) → (b || true) ≡ true
  or_true true = refl
  or_true false = refl

  no_more : (n : ℕ) → n + 0 ≡ n
  no_more n = omega arith

  activity_stays : (p : ℕ) (job : Option JobView) → is_queued_job plan p job ≡ false → is_busy_job plan p job ≡ false → with_job p job ≡ activity_of plan view members p
  activity_stays p job queued busy = ap₂ (λ (b : Bool) (n : ℕ). record { queued = b; at_work = n })
      (ap (λ b. has_queued plan view members p || (b || false)) queued ∙ or_false (has_queued plan view members p))
      (ap (λ b. members_at_work plan view.jobs members p + one_if (b && not (is_member members m))) busy ∙ no_more (members_at_work plan view.jobs members p))

  and_false : (b c : Bool) → c ≡ false → (b && c) ≡ false
  and_false true c e = e
  and_false false c e = refl

  -- a number without a live job does not change the activity of a pool
  pub activity_without : (p : ℕ) → live_job view.jobs m ≡ None → activity_of plan view (members ++ m ∷ []) p ≡ activity_of plan view members p
  activity_without p none = activity_pushed p ∙ ap (with_job p) none ∙ activity_stays p None refl refl

  -- a job of another pool does not change the activity of pool p
  pub activity_elsewhere : (p : ℕ) (job : JobView) → live_job view.jobs m ≡ Some job → pool_of plan job.class ≢ p → activity_of plan view (members ++ m ∷ []) p ≡ activity_of plan view members p
  activity_elsewhere p job live other =
      let no : (pool_of plan job.class == p) ≡ false = false_from_ne_true (pool_of plan job.class == p) (λ same. other (eqb-true (pool_of plan job.class) p same)) in
      activity_pushed p ∙ ap (with_job p) live ∙ activity_stays p (Some job) (and_false (is_in_queue job.phase) _ no) (and_false (is_at_work job.phase) _ no)

  by_phase : (queued : Bool) (n : ℕ) (phase : Phase) (new : Bool) → ◌≡◌ {A = PoolActivity} (record { queued = queued || (is_in_queue phase && true || false); at_work = n + one_if (is_at_work phase && true && new) }) (activity_with (record { queued = queued; at_work = n }) phase new)
  by_phase queued n phase.Queued new = ap₂ (λ (b : Bool) (k : ℕ). record { queued = b; at_work = k }) (or_true queued) (no_more n)
  by_phase queued n (phase.At i) true = ap₂ (λ (b : Bool) (k : ℕ). record { queued = b; at_work = k }) (or_false queued) refl
  by_phase queued n (phase.At i) false = ap₂ (λ (b : Bool) (k : ℕ). record { queued = b; at_work = k }) (or_false queued) (no_more n)
  by_phase queued n phase.Done new = ap₂ (λ (b : Bool) (k : ℕ). record { queued = b; at_work = k }) (or_false queued) (no_more n)

  -- a job changes the activity of its own pool as its phase says
  pub activity_here : (job : JobView) → live_job view.jobs m ≡ Some job → activity_of plan view (members ++ m ∷ []) (pool_of plan job.class) ≡ activity_with (activity_of plan view members (pool_of plan job.class)) job.phase (not (is_member members m))
  activity_here job live =
      let p = pool_of plan job.class in
      let queued = has_queued plan view members p in
      let n = members_at_work plan view.jobs members p in
      activity_pushed p ∙ ap (with_job p) live
      ∙ ap (λ b. record { queued = queued || (is_in_queue job.phase && b || false); at_work = n + one_if (is_at_work job.phase && b && not (is_member members m)) }) (eq-eqb p p refl)
      ∙ by_phase queued n job.phase (not (is_member members m))

-- the empty set has no activity in a pool
pub no_members_no_activity : (plan : Plan) (view : View) (p : ℕ) → activity_of plan view [] p ≡ no_activity
no_members_no_activity plan view p = ap (λ (n : ℕ). record { queued = false; at_work = n }) (none (places_where (is_busy_job plan p) view.jobs))
  where
    none : (ns : List ℕ) → count_by (is_member []) ns ≡ 0
    none [] = refl
    none (n ∷ ns) = let counts = count-cons (is_member []) n ns in let rest = none ns in omega (arith, counts, rest)

-- the activities of all pools after a live job was added to the members
module _ (plan : Plan) (view : View) (members : List ℕ) (m : ℕ) (job : JobView) (live : live_job view.jobs m ≡ Some job) (activities : List PoolActivity) (inside : pool_of plan job.class < length activities) where
  abbrev activities_after : List PoolActivity
  activities_after = set activities (pool_of plan job.class) (activity_with (activity_at activities (pool_of plan job.class)) job.phase (not (is_member members m)))

  abbrev Counts : List PoolActivity → List ℕ → ℕ → ℕ → Type 0
  Counts all those p n = (activity_at all p ≡ activity_of plan view those p) × ((activity_at all p).at_work ≤ n)

  one_more : (activity : PoolActivity) (phase : Phase) (new : Bool) (n : ℕ) → activity.at_work ≤ n → (activity_with activity phase new).at_work ≤ n + 1
  one_more activity phase.Queued new n low = omega arith
  one_more activity (phase.At i) true n low = omega arith
  one_more activity (phase.At i) false n low = omega arith
  one_more activity phase.Done new n low = omega arith

  pub activities_count : (p n : ℕ) → Counts activities members p n → Counts activities_after (members ++ m ∷ []) p (n + 1)
  activities_count p n counts =
      let q = pool_of plan job.class in
      let new = not (is_member members m) in
      let activity = activity_with (activity_at activities q) job.phase new in
      ⊎_elim
      (λ (here : p ≡ q).
      let now : activity_at activities_after p ≡ activity = ap (activity_at activities_after) here ∙ get_or-set_same activities q activity no_activity inside in
      let was : activity_at activities q ≡ activity_of plan view members q = ap (activity_at activities) (sym here) ∙ counts.0 ∙ ap (activity_of plan view members) here in (
        now ∙ ap (λ s. activity_with s job.phase new) was ∙ sym (activity_here plan view members m job live) ∙ ap (activity_of plan view (members ++ m ∷ [])) (sym here),
        let low : (activity_at activities q).at_work ≤ n = subst (λ j. (activity_at activities j).at_work ≤ n) here counts.1 in
            subst (λ (s : PoolActivity). s.at_work ≤ n + 1) (sym now) (one_more (activity_at activities q) job.phase new n low),
      ))
      (λ (other : p ≢ q).
      let now : activity_at activities_after p ≡ activity_at activities p = get_or-set_other activities q p activity no_activity other in (
        now ∙ counts.0 ∙ sym (activity_elsewhere plan view members m p job live (λ e. other (sym e))),
        let low = counts.1 in subst (λ (s : PoolActivity). s.at_work ≤ n + 1) (sym now) (omega (arith, low)),
      ))
      (cases_eq p q)

-- ---- a pool whose queue contains a member

at_work_in_state : (plan : Plan) (s : State) (p : ℕ) → p < length plan.pools → (pool_in (live_view plan s) p).threads ≡ (pool_in (live_view plan s) p).idle + length (places_where (is_busy_job plan p) (live_view plan s).jobs)
at_work_in_state plan s p inside =
    let seen = pool_at_view plan s p inside in
    let threads = ap (λ (x : PoolView). x.threads) seen in
    let idle = ap (λ (x : PoolView). x.idle) seen in
    let many : length (places_where (is_busy_job plan p) (live_view plan s).jobs) ≡ busy plan s p = ap length (busy_places plan s p) ∙ length-places (is_busy_in plan p) s.jobs in
    omega (arith, threads, idle, many)

-- the number of threads is the number of idle workers plus the number of running jobs
at_work_in_pool : (plan : Plan) (view : View) (p : ℕ) → IsReachableView plan view → p < length plan.pools → (pool_in view p).threads ≡ (pool_in view p).idle + length (places_where (is_busy_job plan p) view.jobs)
at_work_in_pool plan view p of inside = subst (λ (v : View). (pool_in v p).threads ≡ (pool_in v p).idle + length (places_where (is_busy_job plan p) v.jobs)) of.2 (at_work_in_state plan of.0 p inside)

flip : (a b : ℕ) → (a == b) ≡ (b == a)
flip a b = elim (cases_Bool (a == b)) [
  | inl same ↦ same ∙ sym (eq-eqb b a (sym (eqb-true a b same)))
  | inr other ↦ other ∙ sym (false_from_ne_true (b == a) (λ same. both_ways (a == b) other (eq-eqb a b (sym (eqb-true b a same)))))
]

waits_if_idle : (idle threads long n : ℕ) (rest : Bool) → threads ≡ idle + long → rest ≡ (n == long) → (idle == 0 && rest) ≡ (idle == 0 && threads == n)
waits_if_idle idle threads long n rest e all = elim (cases_Bool (idle == 0)) [
  | inl none ↦
      let zero_idle : idle ≡ 0 = eqb-true idle 0 none in
      let same : long ≡ threads = omega (arith, zero_idle, e) in
      ap (λ b. b && rest) none ∙ all ∙ flip n long ∙ ap (λ t. t == n) same ∙ ap (λ b. b && threads == n) (sym none)
  | inr some ↦ ap (λ b. b && rest) some ∙ ap (λ b. b && threads == n) (sym some)
]

pub queue_waits : (plan : Plan) (view : View) (members : List ℕ) (p : ℕ) → IsReachableView plan view → p < length plan.pools → waits_in_queue_of plan view members p ≡ ((pool_in view p).idle == 0 && (pool_in view p).threads == members_at_work plan view.jobs members p)
queue_waits plan view members p of inside =
    let those = places_where (is_busy_job plan p) view.jobs in
    waits_if_idle (pool_in view p).idle (pool_in view p).threads (length those) (count_by (is_member members) those) (list_all (is_member members) those) (at_work_in_pool plan view p of inside) (all_by_count (is_member members) those)

module _ (plan : Plan) (view : View) (members : List ℕ) (p : ℕ) (of : IsReachableView plan view) (inside : p < length plan.pools) (answer : Bool) (e : answer ≡ pool_queue_waits (pool_in view p) (activity_of plan view members p)) where
  as_queue : answer ≡ (not (has_queued plan view members p) || waits_in_queue_of plan view members p)
  as_queue = e ∙ ap (λ b. not (has_queued plan view members p) || b) (sym (queue_waits plan view members p of inside))

  pub waits_if_queued : answer ≡ true → has_queued plan view members p ≡ true → waits_in_queue_of plan view members p ≡ true
  waits_if_queued waits queued = ap (λ b. not b || waits_in_queue_of plan view members p) (sym queued) ∙ sym as_queue ∙ waits

  implied : (b c : Bool) → (b ≡ true → c ≡ true) → (not b || c) ≡ true
  implied true c follows = follows refl
  implied false c follows = refl

  pub not_all_wait : answer ≡ false → (has_queued plan view members p ≡ true → waits_in_queue_of plan view members p ≡ true) → ⊥
  not_all_wait goes_on waits = both_ways answer goes_on (as_queue ∙ implied (has_queued plan view members p) (waits_in_queue_of plan view members p) waits)
