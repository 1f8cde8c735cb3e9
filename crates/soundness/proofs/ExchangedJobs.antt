-- An exchange of alike jobs preserves the invariants of reachable states, and changes neither weights nor threads.
use Rattle.std.proofs.Common.{◌≡◌, ◌≢◌, ℕ, zero, suc, ◌+◌, ◌<◌, ◌⊎◌, inl, inr, Bool, true, false, cond, eqb, ◌&&◌, not, List, [], ◌∷◌, length, map, get_or, Option, Some, None, refl, sym, ap, subst, ◌∙◌, arith}
use Rattle.std.proofs.lemmas.Bool.{false≢true, and_parts, and_left, cases_eq, eqb-true, false_from_ne_true}
use Rattle.std.proofs.lemmas.Bool.Decides.{nat_tests}
use Rattle.std.proofs.lemmas.List.{length-map}
use Rattle.std.proofs.lemmas.List.Elements.{All-map}
use Rattle.std.proofs.lemmas.Option.{same_Some, cond_some}
use Rattle.support.specs.Places.{last_of}
use Rattle.support.proofs.PassingPlaces.{places_where-map, places_where-agree}
use Rattle.support.proofs.Sums.{sum_by-map, count_by-map}
use Rattle.job_bodies.specs.Plan.{Plan, pool_at}
use Rattle.pool_machine.specs.declared.parent.Parent.{Parent}
use Rattle.pool_machine.specs.declared.parent.Parent.TheVariants as parent
use Rattle.pool_machine.specs.State.{Stage, State, CreatedJob, no_job, same_parent, job_at, pool_part, threads, is_busy_in, is_queued_in, is_made_by, child}
use Rattle.pool_machine.specs.Step.{point, point_of_job}
use Rattle.pool_machine.specs.Laws.{HasGreaterNumber}
use Rattle.pool_machine.specs.JobsMade.{is_of_pool, jobs_made}
use Rattle.pool_machine.proofs.StateInvariant.{HasChild, StateInvariant, places, busy_jobs}
use Rattle.pool_machine.proofs.Stages.{HaveParents}
use Rattle.pool_machine.proofs.Children.{same_actor_true, same_actor_refl, maker_of, child_is}
use Rattle.pool_machine.proofs.PoolInvariants.{same_pool}
use Rattle.pool_machine.proofs.ActorInvariants.{actor_changed}
use Rattle.pool_machine.proofs.JobsMade.{HaveJobs}
use Rattle.weights.specs.declared.get_return.GetReturn.{GetReturn}
use Rattle.weights.specs.Vector.{Vector}
use Rattle.soundness.specs.WeightedSum.{stage_weight}
use Rattle.soundness.specs.Execute.{JavaState}
use Rattle.soundness.proofs.ThreadChanges.{IsLasting}
use Rattle.soundness.specs.Exchange.{exchanged_job, after_exchange, is_claimed, both_alike, ExchangesSwapTwoGets}
use Rattle.soundness.specs.Skipping.{choice_step}
use Rattle.soundness.specs.Skipping.Choice.{Exchanges}
use Rattle.soundness.proofs.NeverRises.{worker_weight, jobs_weight, workers_weight_of_jobs, DoesNotIncrease}

-- ---- the two positions

-- the position i if the positions t and u are swapped: u for t, t for u, and i otherwise
abbrev swapped : ℕ → ℕ → ℕ → ℕ
swapped t u i = cond (eqb t i) u (cond (eqb u i) t i)

swapped_first : (t u : ℕ) → swapped t u t ≡ u
swapped_first t u = grind (arith, nat_tests)

swapped_second : (t u : ℕ) → swapped t u u ≡ t
swapped_second t u = grind (arith, nat_tests)

swapped_other : (t u w : ℕ) → w ≢ t → w ≢ u → swapped t u w ≡ w
swapped_other t u w not_first not_second = grind (arith, nat_tests)

-- w equals the swapped n exactly when the swapped w equals n
eqb-swapped : (t u w n : ℕ) → eqb w (swapped t u n) ≡ eqb (swapped t u w) n
eqb-swapped t u w n = grind (arith, nat_tests)

-- the position at which actor b found, before an exchange of positions t and u of actor a, the job that it finds at position w
-- afterwards
abbrev place_before : Parent → ℕ → ℕ → Parent → ℕ → ℕ
place_before a t u b w = cond (same_parent a b) (swapped t u w) w

-- actor b is the creator of a job at position w after an exchange exactly when it was the creator at `place_before` of w
made_by_exchanged : (a b : Parent) (t u w : ℕ) (job : CreatedJob) (own his : Bool) → same_parent a b ≡ own → same_parent b job.parent ≡ his → is_made_by b w (exchanged_job a t u job) ≡ is_made_by b (place_before a t u b w) job
made_by_exchanged a b t u w job own false is_own is_his =
    and_left (same_parent b job.parent) (eqb w (exchanged_job a t u job).slot) is_his ∙ sym (and_left (same_parent b job.parent) (eqb (place_before a t u b w) job.slot) is_his)
made_by_exchanged a b t u w job true true is_own is_his =
    let same : same_parent a job.parent ≡ true = ap (same_parent a) (sym (same_actor_true b job.parent is_his)) ∙ is_own in
    ap (λ (x : Bool). same_parent b job.parent && eqb w (cond (x && eqb t job.slot) u (cond (x && eqb u job.slot) t job.slot))) same
    ∙ ap (λ (x : Bool). same_parent b job.parent && x) (eqb-swapped t u w job.slot)
    ∙ ap (λ (x : Bool). same_parent b job.parent && eqb (cond x (swapped t u w) w) job.slot) (sym is_own)
made_by_exchanged a b t u w job false true is_own is_his =
    let same : same_parent a job.parent ≡ false = ap (same_parent a) (sym (same_actor_true b job.parent is_his)) ∙ is_own in
    ap (λ (x : Bool). same_parent b job.parent && eqb w (cond (x && eqb t job.slot) u (cond (x && eqb u job.slot) t job.slot))) same
    ∙ ap (λ (x : Bool). same_parent b job.parent && eqb (cond x (swapped t u w) w) job.slot) (sym is_own)

-- the job that actor b finds at position w after an exchange is the job that it found at `place_before` of w
pub child-exchanged : (s : State) (a b : Parent) (t u w : ℕ) → child (after_exchange a t u s) b w ≡ child s b (place_before a t u b w)
child-exchanged s a b t u w =
    ap last_of
    (places_where-map (is_made_by b w) (exchanged_job a t u) s.jobs
    ∙ places_where-agree (λ (job : CreatedJob). is_made_by b w (exchanged_job a t u job)) (is_made_by b (place_before a t u b w)) s.jobs
    (λ job. made_by_exchanged a b t u w job (same_parent a b) (same_parent b job.parent) refl refl))

child-exchanged_own : (s : State) (a : Parent) (t u w : ℕ) → child (after_exchange a t u s) a w ≡ child s a (swapped t u w)
child-exchanged_own s a t u w = child-exchanged s a a t u w ∙ ap (λ (x : Bool). child s a (cond x (swapped t u w) w)) (same_actor_refl a)

child-exchanged_other : (s : State) (a b : Parent) (t u w : ℕ) → same_parent a b ≡ false → child (after_exchange a t u s) b w ≡ child s b w
child-exchanged_other s a b t u w other = child-exchanged s a b t u w ∙ ap (λ (x : Bool). child s b (cond x (swapped t u w) w)) other

-- ---- one job

-- an exchange changes no part of a job except its position
job-exchanged : (a : Parent) (t u : ℕ) (jobs : List CreatedJob) (n : ℕ) (d : CreatedJob) → get_or (map (exchanged_job a t u) jobs) n d ≡ record (get_or jobs n d) { slot = (get_or (map (exchanged_job a t u) jobs) n d).slot }
job-exchanged a t u [] n d = refl
job-exchanged a t u (x ∷ xs) zero d = refl
job-exchanged a t u (x ∷ xs) (suc n) d = job-exchanged a t u xs n d

pub job_at-exchanged : (s : State) (a : Parent) (t u n : ℕ) → job_at (after_exchange a t u s) n ≡ record (job_at s n) { slot = (job_at (after_exchange a t u s) n).slot }
job_at-exchanged s a t u n = job-exchanged a t u s.jobs n no_job

pub class-exchanged : (s : State) (a : Parent) (t u n : ℕ) → (job_at (after_exchange a t u s) n).class ≡ (job_at s n).class
class-exchanged s a t u n = ap (λ (job : CreatedJob). job.class) (job_at-exchanged s a t u n)

pub stage-exchanged : (s : State) (a : Parent) (t u n : ℕ) → (job_at (after_exchange a t u s) n).stage ≡ (job_at s n).stage
stage-exchanged s a t u n = ap (λ (job : CreatedJob). job.stage) (job_at-exchanged s a t u n)

pub parent-exchanged : (s : State) (a : Parent) (t u n : ℕ) → (job_at (after_exchange a t u s) n).parent ≡ (job_at s n).parent
parent-exchanged s a t u n = ap (λ (job : CreatedJob). job.parent) (job_at-exchanged s a t u n)

-- an exchange leaves the position of every actor unchanged
pub point-exchanged : (plan : Plan) (s : State) (a : Parent) (t u : ℕ) (b : Parent) → point plan (after_exchange a t u s) b ≡ point plan s b
point-exchanged plan s a t u (parent.Client c) = refl
point-exchanged plan s a t u (parent.Job n) = ap (λ (job : CreatedJob). point_of_job plan job.class job.stage) (job_at-exchanged s a t u n)

-- the law that an exchange swaps what two gets find
pub exchanges_swap_two_gets : ExchangesSwapTwoGets
exchanges_swap_two_gets s a t u = record {
  first = child-exchanged_own s a t u t ∙ ap (child s a) (swapped_first t u);
  second = child-exchanged_own s a t u u ∙ ap (child s a) (swapped_second t u);
  positions = λ w not_first not_second. child-exchanged_own s a t u w ∙ ap (child s a) (swapped_other t u w not_first not_second);
  actors = λ b w other. child-exchanged_other s a b t u w (false_from_ne_true (same_parent a b) (λ same. other (sym (same_actor_true a b same))));
  classes = λ j. class-exchanged s a t u j;
  creators = λ j. parent-exchanged s a t u j;
  stages = λ j. stage-exchanged s a t u j;
}

-- ---- the jobs that gets find

-- the latest jobs that the actor submitted at the two positions have the same class, and neither was got
pub record AreAlike (s : State) (a : Parent) (t u : ℕ) : Type 0 where
  pub first : ℕ
  pub second : ℕ
  pub is_first : child s a t ≡ Some first
  pub is_second : child s a u ≡ Some second
  pub of_class : (job_at s first).class ≡ (job_at s second).class
  pub first_unclaimed : (job_at s first).stage ≢ Stage.Claimed
  pub second_unclaimed : (job_at s second).stage ≢ Stage.Claimed

-- let actor b find at w after the exchange the job that it found at v before; if this job has class k and is unclaimed, a get
-- of the submit at w finds it
found_after : (s : State) (a b : Parent) (t u v w k n : ℕ) → HaveParents s.jobs → child (after_exchange a t u s) b w ≡ child s b v → child s b v ≡ Some n → (job_at s n).class ≡ k → (job_at s n).stage ≢ Stage.Claimed → HasChild (after_exchange a t u s).jobs b w k
found_after s a b t u v w k n parents as_before is_child of_class unclaimed =
    let made = child_is s.jobs b v n is_child in
    record {
      number = n;
      is_child = as_before ∙ is_child;
      of_class = class-exchanged s a t u n ∙ of_class;
      unclaimed = λ claimed. unclaimed (sym (stage-exchanged s a t u n) ∙ claimed);
      later = subst (λ (c : Parent). HasGreaterNumber c n) (sym (maker_of (job_at s n) b v made.1).0) (parents n made.0);
    }

-- after an exchange, a get by the actor whose jobs were exchanged still finds an unclaimed job of the same class
own_found : (s : State) (a : Parent) (t u w k : ℕ) → HaveParents s.jobs → AreAlike s a t u → HasChild s.jobs a w k → (w ≡ t) ⊎ (w ≢ t) → (w ≡ u) ⊎ (w ≢ u) → HasChild (after_exchange a t u s).jobs a w k
own_found s a t u w k parents alike found (inl at_first) at_second =
    let swaps = child-exchanged_own s a t u w ∙ ap (child s a) (ap (swapped t u) at_first ∙ swapped_first t u) in
    let same : found.number ≡ alike.first = same_Some found.number alike.first (sym found.is_child ∙ ap (child s a) at_first ∙ alike.is_first) in
    found_after s a a t u u w k alike.second parents swaps alike.is_second (sym alike.of_class ∙ ap (λ (n : ℕ). (job_at s n).class) (sym same) ∙ found.of_class) alike.second_unclaimed
own_found s a t u w k parents alike found (inr not_first) (inl at_second) =
    let swaps = child-exchanged_own s a t u w ∙ ap (child s a) (ap (swapped t u) at_second ∙ swapped_second t u) in
    let same : found.number ≡ alike.second = same_Some found.number alike.second (sym found.is_child ∙ ap (child s a) at_second ∙ alike.is_second) in
    found_after s a a t u t w k alike.first parents swaps alike.is_first (alike.of_class ∙ ap (λ (n : ℕ). (job_at s n).class) (sym same) ∙ found.of_class) alike.first_unclaimed
own_found s a t u w k parents alike found (inr not_first) (inr not_second) =
    let stays = child-exchanged_own s a t u w ∙ ap (child s a) (swapped_other t u w not_first not_second) in
    found_after s a a t u w w k found.number parents stays found.is_child found.of_class found.unclaimed

-- after an exchange, a get by any actor still finds an unclaimed job of the same class
HasChild-exchanged : (s : State) (a b : Parent) (t u w k : ℕ) (own : Bool) → same_parent a b ≡ own → HaveParents s.jobs → AreAlike s a t u → HasChild s.jobs b w k → HasChild (after_exchange a t u s).jobs b w k
HasChild-exchanged s a b t u w k true is_own parents alike found =
    let same = same_actor_true a b is_own in
    subst (λ (c : Parent). HasChild (after_exchange a t u s).jobs c w k) same
    (own_found s a t u w k parents alike (subst (λ (c : Parent). HasChild s.jobs c w k) (sym same) found) (cases_eq w t) (cases_eq w u))
HasChild-exchanged s a b t u w k false is_own parents alike found = found_after s a b t u w w k found.number parents (child-exchanged_other s a b t u w is_own) found.is_child found.of_class found.unclaimed

-- ---- the invariants of reachable states

places-exchanged : (plan : Plan) (s : State) (a : Parent) (t u p : ℕ) → places plan (after_exchange a t u s).jobs p ≡ places plan s.jobs p
places-exchanged plan s a t u p = places_where-map (is_queued_in plan p) (exchanged_job a t u) s.jobs

busy-exchanged : (plan : Plan) (s : State) (a : Parent) (t u p : ℕ) → busy_jobs plan (after_exchange a t u s).jobs p ≡ busy_jobs plan s.jobs p
busy-exchanged plan s a t u p = count_by-map (is_busy_in plan p) (exchanged_job a t u) s.jobs

pub kept_exchanged : (plan : Plan) (s : State) (a : Parent) (t u : ℕ) → AreAlike s a t u → StateInvariant plan s → StateInvariant plan (after_exchange a t u s)
kept_exchanged plan s a t u alike kept = record {
  classes = All-map (λ (job : CreatedJob). job.class < length plan.classes) (exchanged_job a t u) s.jobs kept.classes;
  parents = λ n inside. subst (λ (c : Parent). HasGreaterNumber c n) (sym (parent-exchanged s a t u n)) (kept.parents n (omega (arith, length-map s.jobs (exchanged_job a t u))));
  as_many = kept.as_many;
  pools = λ p inside. same_pool (pool_at plan p) (pool_part s p) (pool_part s p) (places plan s.jobs p) (places plan (after_exchange a t u s).jobs p) (busy_jobs plan s.jobs p) (busy_jobs plan (after_exchange a t u s).jobs p) refl
      (places-exchanged plan s a t u p) (busy-exchanged plan s a t u p) (kept.pools p inside);
  actors = λ b body i now.
      actor_changed s.jobs (after_exchange a t u s).jobs b body i (kept.actors b body i (sym (point-exchanged plan s a t u b) ∙ now))
      (λ g w k low is_get found. HasChild-exchanged s a b t u w k (same_parent a b) refl kept.parents alike found);
}

-- ---- threads and submitted jobs

pub threads-exchanged : (plan : Plan) (s : State) (a : Parent) (t u p : ℕ) → threads plan (after_exchange a t u s) p ≡ threads plan s p
threads-exchanged plan s a t u p = ap (λ (n : ℕ). (pool_part s p).idle + n) (busy-exchanged plan s a t u p)

pub jobs_made-exchanged : (plan : Plan) (s : State) (a : Parent) (t u p : ℕ) → jobs_made plan (after_exchange a t u s) p ≡ jobs_made plan s p
jobs_made-exchanged plan s a t u p = count_by-map (is_of_pool plan p) (exchanged_job a t u) s.jobs

pub have_jobs_exchanged : (plan : Plan) (s : State) (a : Parent) (t u : ℕ) → HaveJobs plan (IsLasting plan) s → HaveJobs plan (IsLasting plan) (after_exchange a t u s)
have_jobs_exchanged plan s a t u have p inside lasting =
    let had = have p inside lasting in
    omega (arith, threads-exchanged plan s a t u p, jobs_made-exchanged plan s a t u p)

-- ---- weights

pub no_heavier_exchanged : (get_return : GetReturn) (plan : Plan) (v : Vector) (s : State) (a : Parent) (t u : ℕ) → DoesNotIncrease get_return plan v s (after_exchange a t u s)
no_heavier_exchanged get_return plan v s a t u =
    let jobs : jobs_weight get_return plan v (after_exchange a t u s).jobs ≡ jobs_weight get_return plan v s.jobs = sum_by-map (λ (job : CreatedJob). stage_weight get_return plan v job.class job.stage) (exchanged_job a t u) s.jobs in
    let workers : workers_weight_of_jobs plan v (after_exchange a t u s).jobs ≡ workers_weight_of_jobs plan v s.jobs = sum_by-map (λ (job : CreatedJob). worker_weight plan v job.class job.stage) (exchanged_job a t u) s.jobs in
    omega arith

-- ---- the choice

-- in s the two jobs are alike, and s' is the state after their exchange
pub record IsExchange (s : JavaState) (a : Parent) (t u : ℕ) (s' : JavaState) : Type 0 where
  pub alike : AreAlike s.machine a t u
  pub after : record s { machine = after_exchange a t u s.machine } ≡ s'

not_claimed : (stage : Stage) → not (is_claimed stage) ≡ true → stage ≢ Stage.Claimed
not_claimed stage is_open claimed = false≢true (sym (ap (λ (x : Stage). not (is_claimed x)) claimed) ∙ is_open)

both_found : (s : State) (a : Parent) (t u : ℕ) (first second : Option ℕ) → child s a t ≡ first → child s a u ≡ second → both_alike s first second ≡ true → AreAlike s a t u
both_found s a t u None second is_first is_second alike = absurd (false≢true alike)
both_found s a t u (Some i) None is_first is_second alike = absurd (false≢true alike)
both_found s a t u (Some i) (Some j) is_first is_second alike =
    let parts = and_parts (eqb (job_at s i).class (job_at s j).class) (not (is_claimed (job_at s i).stage) && not (is_claimed (job_at s j).stage)) alike in
    let both_open = and_parts (not (is_claimed (job_at s i).stage)) (not (is_claimed (job_at s j).stage)) parts.1 in
    record {
      first = i;
      second = j;
      is_first = is_first;
      is_second = is_second;
      of_class = eqb-true (job_at s i).class (job_at s j).class parts.0;
      first_unclaimed = not_claimed (job_at s i).stage both_open.0;
      second_unclaimed = not_claimed (job_at s j).stage both_open.1;
    }

pub is_exchange : (plan : Plan) (s : JavaState) (a : Parent) (t u : ℕ) (s' : JavaState) → choice_step plan s (Exchanges a t u) ≡ Some s' → IsExchange s a t u s'
is_exchange plan s a t u s' is_after =
    let given = cond_some (both_alike s.machine (child s.machine a t) (child s.machine a u)) (record s { machine = after_exchange a t u s.machine }) s' is_after in
    record { alike = both_found s.machine a t u (child s.machine a t) (child s.machine a u) refl refl given.0; after = given.1 }
