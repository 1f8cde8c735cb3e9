-- Debts of jobs: each job owes to its creator the weight that a later get of the job returns.
use Rattle.std.proofs.Common.{◌≡◌, ◌≢◌, ℕ, zero, suc, ◌+◌, ◌<◌, ◌≤◌, Bool, true, false, cond, inl, inr, ltb, eqb, List, [], ◌∷◌, length, get_or, slice_get, sum_by, Option, Some, None, refl, sym, ap, subst, ◌∙◌, arith}
use Rattle.std.specs.List.{enumerate_from}
use Rattle.std.proofs.lemmas.Bool.{false≢true, cases_lt, or_left, or_right, or_from, lt-ltb, le-ltb, eqb-true, eq-eqb, ne_eqb, false_from_ne_true}
use Rattle.std.proofs.lemmas.List.Sums.{sum_by-cons, sum_by-le-sum_by}
use Rattle.support.proofs.Sums.{sum_by-agree, sum_by-add}
use Rattle.job_bodies.specs.declared.action.Action.{Action}
use Rattle.job_bodies.specs.declared.action.Action.TheVariants as action
use Rattle.job_bodies.specs.Plan.{Plan, submitted_class}
use Rattle.job_bodies.specs.ValidBody.{IsValidBody}
use Rattle.pool_machine.specs.declared.parent.Parent.{Parent}
use Rattle.pool_machine.specs.declared.parent.Parent.TheVariants as parent
use Rattle.pool_machine.specs.State.{Stage, State, CreatedJob, no_job, job_at, same_parent}
use Rattle.pool_machine.proofs.Children.{same_actor_refl, maker_of, child_is}
use Rattle.pool_machine.proofs.StateInvariant.{HasChild}
use Rattle.weights.specs.declared.get_return.GetReturn.TheVariants.{DoneWeight}
use Rattle.weights.specs.Vector.{Vector, done_weight}
use Rattle.weights.specs.Ranks.{Ranks, reach}
use Rattle.soundness.specs.CountedGets.{passes_from}
use Rattle.soundness.proofs.CompletedSteps.{by_place-but_one}
use Rattle.soundness.proofs.Walks.{returned_by, returned}

-- ---- sums

-- if no term falls and the term of one element grows by at least `more`, the sum grows by at least `more`
sum_grows : {X : Type 0} (f g : X → ℕ) (xs : List X) (i more : ℕ) (d : X) → i < length xs → ((x : X) → f x ≤ g x) → f (get_or xs i d) + more ≤ g (get_or xs i d) → sum_by f xs + more ≤ sum_by g xs
sum_grows f g [] i more d inside each here = absurd (omega arith)
sum_grows f g (x ∷ xs) zero more d inside each here = omega (arith, sum_by-cons f x xs, sum_by-cons g x xs, here, sum_by-le-sum_by f g xs each)
sum_grows f g (x ∷ xs) (suc i) more d inside each here = omega (arith, sum_by-cons f x xs, sum_by-cons g x xs, each x, sum_grows f g xs i more d (omega arith) each here)

sum_of_zeros : {X : Type 0} (f : X → ℕ) (xs : List X) → ((x : X) → f x ≡ 0) → sum_by f xs ≡ 0
sum_of_zeros f [] zeros = refl
sum_of_zeros f (x ∷ xs) zeros = omega (arith, sum_by-cons f x xs, zeros x, sum_of_zeros f xs zeros)

-- if x is at most y, so is the number that is x on a condition and 0 otherwise
pub cond-le : (b : Bool) (x y : ℕ) → x ≤ y → cond b x 0 ≤ y
cond-le true x y less = less
cond-le false x y less = omega arith

cond-le_cond : (a b : Bool) (x : ℕ) → (a ≡ true → b ≡ true) → cond a x 0 ≤ cond b x 0
cond-le_cond true b x implies = omega (arith, ap (λ c. cond c x 0) (implies refl))
cond-le_cond false b x implies = omega arith

-- ---- debts

-- the weight that a later get of a job of class k can return if the job is at this stage: its done weight, or 0 if it was got
abbrev pub open_weight : Plan → Vector → ℕ → Stage → ℕ
open_weight plan v k Stage.Claimed = 0
open_weight plan v k _ = done_weight plan v k

-- what a job owes to its creator: its open weight if the reach of its class is below r, and nothing otherwise
abbrev pub debt : Plan → Ranks → Vector → ℕ → CreatedJob → ℕ
debt plan ranks v r job = cond (ltb (reach ranks job.class) r) (open_weight plan v job.class job.stage) 0

-- what a job owes to job j: its debt if j created it, and nothing otherwise
abbrev pub debt_to : Plan → Ranks → Vector → ℕ → ℕ → CreatedJob → ℕ
debt_to plan ranks v r j job = cond (same_parent (parent.Job j) job.parent) (debt plan ranks v r job) 0

-- the action is a get of the submit at position t
abbrev is_get_of : ℕ → Option Action → Bool
is_get_of t (Some (action.Get u)) = eqb t u
is_get_of t _ = false

-- one of the n actions from position h on is a get of the submit at position t
abbrev is_got_from : List Action → ℕ → ℕ → ℕ → Bool
is_got_from body h n t = passes_from (λ u. is_get_of t (slice_get body u)) h n

-- what a job owes to job j if one of the n actions of the body from position h on gets it, and nothing otherwise
abbrev debt_got : Plan → Ranks → Vector → ℕ → List Action → ℕ → ℕ → ℕ → CreatedJob → ℕ
debt_got plan ranks v r body h n j job = cond (is_got_from body h n job.slot) (debt_to plan ranks v r j job) 0

-- ---- the jobs that later gets find owe the weight that these gets return

-- each get of job j at position i or later, of a submit before i, finds its job
abbrev pub FindsChildren : State → ℕ → ℕ → List Action → Type 0
FindsChildren s j i body = (g t : ℕ) → i ≤ g → t < i → slice_get body g ≡ Some (action.Get t) → HasChild s.jobs (parent.Job j) t (submitted_class body t)

-- each get among the n actions from position h on is a get of a class with a reach below r
abbrev pub GetsReachBelow : Ranks → ℕ → List Action → ℕ → ℕ → Type 0
GetsReachBelow ranks r body h n = (u t : ℕ) → h ≤ u → u < h + n → slice_get body u ≡ Some (action.Get t) → reach ranks (submitted_class body t) < r

is_get_of_means : (t : ℕ) (next : Option Action) → is_get_of t next ≡ true → next ≡ Some (action.Get t)
is_get_of_means t None e = absurd (false≢true e)
is_get_of_means t (Some (action.Work u)) e = absurd (false≢true e)
is_get_of_means t (Some (action.Submit k)) e = absurd (false≢true e)
is_get_of_means t (Some (action.Get u)) e = ap (λ (x : ℕ). Some (action.Get x)) (sym (eqb-true t u e))

none_from : (test : ℕ → Bool) (h n : ℕ) → ((u : ℕ) → h ≤ u → test u ≡ false) → passes_from test h n ≡ false
none_from test h zero each = refl
none_from test h (suc n) each = or_from (test h) (passes_from test (h + 1) n) (each h (omega arith)) (none_from test (h + 1) n (λ u later. each u (omega arith)))

open_weight_is : (plan : Plan) (v : Vector) (k : ℕ) (stage : Stage) → stage ≢ Stage.Claimed → open_weight plan v k stage ≡ done_weight plan v k
open_weight_is plan v k Stage.Queued unclaimed = refl
open_weight_is plan v k (Stage.At i) unclaimed = refl
open_weight_is plan v k Stage.Done unclaimed = refl
open_weight_is plan v k Stage.Claimed unclaimed = absurd (unclaimed refl)

module _ (plan : Plan) (ranks : Ranks) (v : Vector) (r : ℕ) (s : State) (j : ℕ) where
  -- the job that a get of job j finds owes to j the weight that the get returns
  child_owes : (t k : ℕ) (child : HasChild s.jobs (parent.Job j) t k) → reach ranks k < r → debt_to plan ranks v r j (job_at s child.number) ≡ done_weight plan v k
  child_owes t k child low =
      let job = job_at s child.number in
      let created = maker_of job (parent.Job j) t (child_is s.jobs (parent.Job j) t child.number child.is_child).1 in
      let by_it : same_parent (parent.Job j) job.parent ≡ true = subst (λ (a : Parent). same_parent (parent.Job j) a ≡ true) created.0 (same_actor_refl (parent.Job j)) in
      let below : ltb (reach ranks job.class) r ≡ true = lt-ltb (reach ranks job.class) r (subst (λ (c : ℕ). reach ranks c < r) (sym child.of_class) low) in
      ap (λ b. cond b (debt plan ranks v r job) 0) by_it
      ∙ ap (λ b. cond b (open_weight plan v job.class job.stage) 0) below
      ∙ open_weight_is plan v job.class job.stage child.unclaimed
      ∙ ap (done_weight plan v) child.of_class

  -- if the actions begin one position earlier, they get no fewer jobs, so no `debt_got` falls
  more_got : (body : List Action) (h n : ℕ) (job : CreatedJob) → debt_got plan ranks v r body (h + 1) n j job ≤ debt_got plan ranks v r body h (suc n) j job
  more_got body h n job = cond-le_cond (is_got_from body (h + 1) n job.slot) (is_got_from body h (suc n) job.slot) (debt_to plan ranks v r j job) (λ later. or_right (is_get_of job.slot (slice_get body h)) (is_got_from body (h + 1) n job.slot) later)

  more_got_all : (body : List Action) (h n : ℕ) → sum_by (debt_got plan ranks v r body (h + 1) n j) s.jobs ≤ sum_by (debt_got plan ranks v r body h (suc n) j) s.jobs
  more_got_all body h n = sum_by-le-sum_by (debt_got plan ranks v r body (h + 1) n j) (debt_got plan ranks v r body h (suc n) j) s.jobs (more_got body h n)

  -- a get at position h adds the debt of the job that it finds to the debts of the jobs that later actions get, because no
  -- later action gets the same submit
  owed_at_get : (i h n t : ℕ) (body : List Action) → IsValidBody plan body → FindsChildren s j i body → i ≤ h → t < i → reach ranks (submitted_class body t) < r → slice_get body h ≡ Some (action.Get t)
      → sum_by (debt_got plan ranks v r body (h + 1) n j) s.jobs + done_weight plan v (submitted_class body t) ≤ sum_by (debt_got plan ranks v r body h (suc n) j) s.jobs
  owed_at_get i h n t body valid finds past before low is_next =
      let child = finds h t past before is_next in
      let job = job_at s child.number in
      let is_child = child_is s.jobs (parent.Job j) t child.number child.is_child in
      let slot : t ≡ job.slot = (maker_of job (parent.Job j) t is_child.1).1 in
      let owes = child_owes t (submitted_class body t) child low in
      let not_later : is_got_from body (h + 1) n job.slot ≡ false =
      none_from (λ u. is_get_of job.slot (slice_get body u)) (h + 1) n
      (λ u later. false_from_ne_true (is_get_of job.slot (slice_get body u)) (λ again.
      valid.once h u t (omega arith) is_next (is_get_of_means job.slot (slice_get body u) again ∙ ap (λ (x : ℕ). Some (action.Get x)) (sym slot)))) in
      let here : is_get_of job.slot (slice_get body h) ≡ true = ap (is_get_of job.slot) is_next ∙ eq-eqb job.slot t (sym slot) in
      let now : is_got_from body h (suc n) job.slot ≡ true = or_left (is_get_of job.slot (slice_get body h)) (is_got_from body (h + 1) n job.slot) here in
      let nothing : debt_got plan ranks v r body (h + 1) n j job ≡ 0 = ap (λ b. cond b (debt_to plan ranks v r j job) 0) not_later in
      let all : debt_got plan ranks v r body h (suc n) j job ≡ done_weight plan v (submitted_class body t) = ap (λ b. cond b (debt_to plan ranks v r j job) 0) now ∙ owes in
      sum_grows (debt_got plan ranks v r body (h + 1) n j) (debt_got plan ranks v r body h (suc n) j) s.jobs child.number (done_weight plan v (submitted_class body t)) no_job is_child.0 (more_got body h n) (omega (arith, nothing, all))

  -- if the n actions after position h return at most the debts of the jobs that they get, so do these actions together with the
  -- one at h
  owed_at : (i h n : ℕ) (body : List Action) (next : Option Action) → IsValidBody plan body → FindsChildren s j i body → i ≤ h → ((t : ℕ) → next ≡ Some (action.Get t) → reach ranks (submitted_class body t) < r)
      → returned DoneWeight plan v body i (h + 1) n ≤ sum_by (debt_got plan ranks v r body (h + 1) n j) s.jobs → slice_get body h ≡ next
      → returned_by DoneWeight plan v body i next + returned DoneWeight plan v body i (h + 1) n ≤ sum_by (debt_got plan ranks v r body h (suc n) j) s.jobs
  owed_at i h n body None valid finds past low rest is_next = omega (arith, rest, more_got_all body h n)
  owed_at i h n body (Some (action.Work u)) valid finds past low rest is_next = omega (arith, rest, more_got_all body h n)
  owed_at i h n body (Some (action.Submit k)) valid finds past low rest is_next = omega (arith, rest, more_got_all body h n)
  owed_at i h n body (Some (action.Get t)) valid finds past low rest is_next =
      let weight = done_weight plan v (submitted_class body t) in
      elim (cases_lt t i) [
        | inl before ↦ omega (arith, rest, owed_at_get i h n t body valid finds past before (low t refl) is_next, cond-le (ltb t i) weight weight (omega arith))
        | inr later ↦
            let nothing : cond (ltb t i) weight 0 ≡ 0 = ap (λ b. cond b weight 0) (le-ltb t i later) in
            omega (arith, rest, nothing, more_got_all body h n)
      ]

  owed_from : (i h n : ℕ) (body : List Action) → IsValidBody plan body → FindsChildren s j i body → i ≤ h → GetsReachBelow ranks r body h n → returned DoneWeight plan v body i h n ≤ sum_by (debt_got plan ranks v r body h n j) s.jobs
  owed_from i h zero body valid finds past low = omega arith
  owed_from i h (suc n) body valid finds past low =
      owed_at i h n body (slice_get body h) valid finds past (λ t is_get. low h t (omega arith) (omega arith) is_get)
      (owed_from i (h + 1) n body valid finds (omega arith) (λ u t from below. low u t (omega arith) (omega arith))) refl

  -- if the next n actions of job j get only classes with a reach below r, they return at most what all jobs together owe to j
  pub returned-le-owed : (i n : ℕ) (body : List Action) → IsValidBody plan body → FindsChildren s j i body → GetsReachBelow ranks r body i n → returned DoneWeight plan v body i i n ≤ sum_by (debt_to plan ranks v r j) s.jobs
  returned-le-owed i n body valid finds low =
      let all = sum_by-le-sum_by (debt_got plan ranks v r body i n j) (debt_to plan ranks v r j) s.jobs (λ job. cond-le (is_got_from body i n job.slot) (debt_to plan ranks v r j job) (debt_to plan ranks v r j job) (omega arith)) in
      omega (arith, owed_from i i n body valid finds (omega arith) low, all)

-- ---- each job owes to one job at most

owed_to_creator : {X : Type 0} (a : Parent) (w : ℕ) (xs : List X) → sum_by (λ (e : ℕ × X). cond (same_parent (parent.Job e.0) a) w 0) (enumerate_from 0 xs) ≤ w
owed_to_creator {X = X} (parent.Client c) w xs = omega (arith, sum_of_zeros (λ (e : ℕ × X). 0) (enumerate_from 0 xs) (λ e. refl))
owed_to_creator {X = X} (parent.Job q) w xs =
    let at_most = by_place-but_one (λ i. cond (eqb i q) w 0) (λ i. 0) q w (omega (arith, cond-le (eqb q q) w w (omega arith))) (λ i other. omega (arith, ap (λ b. cond b w 0) (ne_eqb i q other))) 0 xs in
    omega (arith, at_most, sum_of_zeros (λ (e : ℕ × X). 0) (enumerate_from 0 xs) (λ e. refl))

-- the sum of what the jobs owe to these creators is at most the sum of the debts of the jobs, because each job has one creator
pub owed-le-debts : (plan : Plan) (ranks : Ranks) (v : Vector) (r : ℕ) (creators jobs : List CreatedJob) → sum_by (λ (e : ℕ × CreatedJob). sum_by (debt_to plan ranks v r e.0) jobs) (enumerate_from 0 creators) ≤ sum_by (debt plan ranks v r) jobs
owed-le-debts plan ranks v r creators [] = omega (arith, sum_of_zeros (λ (e : ℕ × CreatedJob). 0) (enumerate_from 0 creators) (λ e. refl))
owed-le-debts plan ranks v r creators (job ∷ jobs) =
    let numbered = enumerate_from 0 creators in
    let first = λ (e : ℕ × CreatedJob). debt_to plan ranks v r e.0 job in
    let others = λ (e : ℕ × CreatedJob). sum_by (debt_to plan ranks v r e.0) jobs in
    let split : sum_by (λ (e : ℕ × CreatedJob). sum_by (debt_to plan ranks v r e.0) (job ∷ jobs)) numbered ≡ sum_by (λ (e : ℕ × CreatedJob). first e + others e) numbered =
    sum_by-agree (λ (e : ℕ × CreatedJob). sum_by (debt_to plan ranks v r e.0) (job ∷ jobs)) (λ (e : ℕ × CreatedJob). first e + others e) numbered (λ e. sum_by-cons (debt_to plan ranks v r e.0) job jobs) in
    omega (arith, split, sum_by-add first others numbered, owed_to_creator job.parent (debt plan ranks v r job) creators, owed-le-debts plan ranks v r creators jobs, sum_by-cons (debt plan ranks v r) job jobs)
