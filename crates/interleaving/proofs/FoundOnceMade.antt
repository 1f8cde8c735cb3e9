-- The index of latest jobs after a job was created.
use Rattle.std.proofs.Common.{◌≡◌, ◌≢◌, ℕ, ◌+◌, ◌<◌, ◌≤◌, ◌&&◌, Bool, true, false, if◌then◌else◌, List, [], ◌∷◌, ◌++◌, length, map, Option, Some, None, ⊎_elim, refl, sym, ap, subst, ◌∙◌, arith}
use Rattle.std.proofs.Math.ListN.{get_or-map}
use Rattle.std.proofs.lemmas.Bool.{cases_lt, cases_eq, cases_Bool, both_ways, false_from_ne_true, and_parts}
use Rattle.std.proofs.lemmas.List.{get_or_past, get_or_append_left, get_or_push, length_push, length-map}
use Rattle.pool_machine.specs.declared.parent.Parent.{Parent}
use Rattle.pool_machine.specs.declared.parent.Parent.TheVariants as parent
use Rattle.interleaving.specs.declared.job_view.JobView.{JobView}
use Rattle.interleaving.specs.ViewStep.{live_job, is_live_child, is_done, is_unfinished_job, may_get_in, drop_if_stale}
use Rattle.interleaving.specs.LatestJobs.{LatestJobsView, found, is_call}
use Rattle.interleaving.specs.LiveJobs.{IsLatest, AreFound}
use Rattle.interleaving.proofs.LatestFound.{made_if_child, is_call_of, same_call, child_itself}

abbrev pub with_new : List (Option JobView) → JobView → List (Option JobView)
with_new jobs job = map (drop_if_stale job.parent job.slot) jobs ++ Some job ∷ []

stale_child_if : (a b : Parent) (t u : ℕ) (v : JobView) (stale : Bool) → (stale ≡ true → is_live_child a t (Some v) ≡ true) → is_call a t b u ≡ false → is_live_child b u (if stale then None else Some v) ≡ is_live_child b u (Some v)
stale_child_if a b t u v true of_call other = sym (false_from_ne_true (is_live_child b u (Some v)) (λ e. both_ways (is_call a t b u) other (is_call_of a b t u (Some v) (of_call refl) e)))
stale_child_if a b t u v false of_call other = refl

-- a new job of one submit call makes no job of another call stale
stale_child : (a b : Parent) (t u : ℕ) (x : Option JobView) → is_call a t b u ≡ false → is_live_child b u (drop_if_stale a t x) ≡ is_live_child b u x
stale_child a b t u None other = refl
stale_child a b t u (Some v) other = stale_child_if a b t u v (is_live_child a t (Some v) && is_done v.phase) (λ e. (and_parts (is_live_child a t (Some v)) (is_done v.phase) e).0) other

unfinished_if : (v : JobView) (stale : Bool) → is_unfinished_job (if stale then None else Some v) ≡ true → is_unfinished_job (Some v) ≡ true
unfinished_if v true e = absurd cc
unfinished_if v false e = e

unfinished_drop_if_stale : (a : Parent) (t : ℕ) (x : Option JobView) → is_unfinished_job (drop_if_stale a t x) ≡ true → is_unfinished_job x ≡ true
unfinished_drop_if_stale a t None e = e
unfinished_drop_if_stale a t (Some v) e = unfinished_if v (is_live_child a t (Some v) && is_done v.phase) e

module _ (jobs : List (Option JobView)) (job : JobView) where
  -- each older job is unchanged, or it is stale and removed
  old_job : (k : ℕ) → k < length jobs → live_job (with_new jobs job) k ≡ drop_if_stale job.parent job.slot (live_job jobs k)
  old_job k inside =
      let f = drop_if_stale job.parent job.slot in
      get_or_append_left (map f jobs) (Some job ∷ []) None k (let long = length-map jobs f in omega (arith, inside)) ∙ get_or-map f jobs k None

  new_job : live_job (with_new jobs job) (length jobs) ≡ Some job
  new_job = get_or_push (map (drop_if_stale job.parent job.slot) jobs) (Some job) None (length jobs) (length-map jobs (drop_if_stale job.parent job.slot))

  pub length-with_new : length (with_new jobs job) ≡ length jobs + 1
  length-with_new = let long = length_push (map (drop_if_stale job.parent job.slot) jobs) (Some job) in let same = length-map jobs (drop_if_stale job.parent job.slot) in omega arith

  none_past : (k : ℕ) → length jobs < k → live_job (with_new jobs job) k ≡ None
  none_past k past = get_or_past (with_new jobs job) k None (omega (arith, length-with_new))

  -- the live jobs of every other call are unchanged
  pub other_child : (a : Parent) (t k : ℕ) → is_call job.parent job.slot a t ≡ false → is_live_child a t (live_job (with_new jobs job) k) ≡ is_live_child a t (live_job jobs k)
  other_child a t k other = ⊎_elim
      (λ (inside : k < length jobs). ap (is_live_child a t) (old_job k inside) ∙ stale_child job.parent a job.slot t (live_job jobs k) other)
      (λ (past : length jobs ≤ k). none_new k past ∙ sym (ap (is_live_child a t) (get_or_past jobs k None past)))
      (cases_lt k (length jobs))
    where
      none_new : (k : ℕ) → length jobs ≤ k → is_live_child a t (live_job (with_new jobs job) k) ≡ false
      none_new k past = ⊎_elim
          (λ (last : k ≡ length jobs). ap (λ m. is_live_child a t (live_job (with_new jobs job) m)) last ∙ ap (is_live_child a t) new_job
          ∙ false_from_ne_true (is_live_child a t (Some job)) (λ e. both_ways (is_call job.parent job.slot a t) other (is_call_of job.parent a job.slot t (Some job) (child_itself job) e)))
          (λ (behind : k ≢ length jobs). ap (is_live_child a t) (none_past k (omega arith)))
          (cases_eq k (length jobs))

  new_child : (a : Parent) (t : ℕ) → is_call job.parent job.slot a t ≡ true → is_live_child a t (live_job (with_new jobs job) (length jobs)) ≡ true
  new_child a t call =
      let same = same_call job.parent a job.slot t call in
      subst (λ b. is_live_child b t (live_job (with_new jobs job) (length jobs)) ≡ true) (sym same.0)
      (subst (λ u. is_live_child job.parent u (live_job (with_new jobs job) (length jobs)) ≡ true) (sym same.1) (ap (is_live_child job.parent job.slot) new_job ∙ child_itself job))

  -- an actor other than the new job may get its jobs afterwards only if it could before
  has_get : (a : Parent) → may_get_in (with_new jobs job) a ≡ true → a ≢ parent.Job (length jobs) → may_get_in jobs a ≡ true
  has_get (parent.Client c) e other = refl
  has_get (parent.Job j) e other = ⊎_elim
      (λ (inside : j < length jobs). unfinished_drop_if_stale job.parent job.slot (live_job jobs j) (sym (ap is_unfinished_job (old_job j inside)) ∙ e))
      (λ (past : length jobs ≤ j). ⊎_elim (λ (last : j ≡ length jobs). absurd (other (ap parent.Job last)))
      (λ (behind : j ≢ length jobs). absurd (both_ways (may_get_in (with_new jobs job) (parent.Job j)) (ap is_unfinished_job (none_past j (omega arith))) e))
      (cases_eq j (length jobs)))
      (cases_lt j (length jobs))

  module _ (latest later : LatestJobsView) (f : AreFound jobs latest) (made : (j t k : ℕ) → is_live_child (parent.Job j) t (live_job jobs k) ≡ true → j < length jobs)
      (e : (a : Parent) (t : ℕ) → found later a t ≡ (if is_call job.parent job.slot a t then Some (length jobs) else found latest a t)) where
    new_sound : (a : Parent) (t k : ℕ) → found later a t ≡ Some k → IsLatest (with_new jobs job) a t k
    new_sound a t k is_found = ⊎_elim
        (λ call.
        let number : Some (length jobs) ≡ Some k = sym (e a t ∙ ap (λ b. if b then Some (length jobs) else found latest a t) call) ∙ is_found in
        let same : k ≡ length jobs = sym (same_number (length jobs) k number) in
        record {
          passes = ap (λ m. is_live_child a t (live_job (with_new jobs job) m)) same ∙ new_child a t call;
          none_later = λ i above. ap (is_live_child a t) (none_past i (omega arith));
        })
        (λ other.
        let was = f.sound a t k (sym (e a t ∙ ap (λ b. if b then Some (length jobs) else found latest a t) other) ∙ is_found) in
        record { passes = other_child a t k other ∙ was.passes; none_later = λ i above. other_child a t i other ∙ was.none_later i above })
        (cases_Bool (is_call job.parent job.slot a t))
      where
        same_number : (m n : ℕ) → ◌≡◌ {A = Option ℕ} (Some m) (Some n) → m ≡ n
        same_number m n s = cc

    new_complete : (a : Parent) (t k : ℕ) → may_get_in (with_new jobs job) a ≡ true → IsLatest (with_new jobs job) a t k → found later a t ≡ Some k
    new_complete a t k asks last = ⊎_elim
        (λ call.
        let child = new_child a t call in
        let low : k < length jobs + 1 = subst (λ n. k < n) length-with_new (made_if_child (with_new jobs job) a t k last.passes) in
        let high : length jobs ≤ k = ⊎_elim (λ (below : k < length jobs). absurd (both_ways (is_live_child a t (live_job (with_new jobs job) (length jobs))) (last.none_later (length jobs) below) child)) (λ above. above) (cases_lt k (length jobs)) in
        let same : length jobs ≡ k = omega arith in
        e a t ∙ ap (λ b. if b then Some (length jobs) else found latest a t) call ∙ ap Some same)
        (λ other.
        let child : is_live_child a t (live_job jobs k) ≡ true = sym (other_child a t k other) ∙ last.passes in
        let was : IsLatest jobs a t k = record { passes = child; none_later = λ i above. sym (other_child a t i other) ∙ last.none_later i above } in
        let apart : a ≢ parent.Job (length jobs) = λ same. let low = made (length jobs) t k (subst (λ b. is_live_child b t (live_job jobs k) ≡ true) same child) in omega (arith, low) in
        e a t ∙ ap (λ b. if b then Some (length jobs) else found latest a t) other ∙ f.complete a t k (has_get a asks apart) was)
        (cases_Bool (is_call job.parent job.slot a t))

    pub found_made : AreFound (with_new jobs job) later
    found_made = record { sound = new_sound; complete = new_complete }
