-- The index of latest jobs after a job finished.
use Rattle.std.proofs.Common.{◌≡◌, ◌≢◌, ℕ, ◌==◌, ◌<◌, ◌≤◌, ◌&&◌, Bool, true, false, if◌then◌else◌, List, length, map, set, Option, Some, None, ⊎_elim, refl, sym, ap, subst, ◌∙◌, arith, length-set}
use Rattle.std.proofs.lemmas.Bool.{cases_Bool, cases_lt, cases_eq, both_ways, false_from_ne_true, and_from, eq-eqb}
use Rattle.std.proofs.lemmas.List.{get_or-set_same, get_or-set_other, map-set}
use Rattle.std.proofs.Math.ListN.{get_or-map as get_or-map_at}
use Rattle.std.proofs.lemmas.Option.{same_Some}
use Rattle.support.proofs.LastPlace.{none_where}
use Rattle.pool_machine.specs.declared.parent.Parent.{Parent}
use Rattle.pool_machine.specs.declared.parent.Parent.TheVariants as parent
use Rattle.pool_machine.specs.State.{same_parent}
use Rattle.pool_machine.proofs.Children.{same_actor_true}
use Rattle.interleaving.specs.declared.job_view.Phase.TheVariants as phase
use Rattle.interleaving.specs.declared.job_view.JobView.{JobView}
use Rattle.interleaving.specs.LiveView.{is_number}
use Rattle.interleaving.specs.ViewStep.{live_job, is_live_child, live_child, is_done, is_unfinished_job, may_get_in, drop_if_orphan, finished_if_gettable}
use Rattle.interleaving.specs.LatestJobs.{LatestJobsView, found, is_call}
use Rattle.interleaving.specs.LiveJobs.{DoneAreLatest, IsLatest, AreFound, AreOrphaned, OrphansAreFound}
use Rattle.interleaving.proofs.MakersStay.{Fades, AreFading, fading_orphans}
use Rattle.interleaving.proofs.LatestFound.{latest_is, made_if_child, is_call_of, same_call, still_child, sound_fading, asks_before, child_of, child_itself}

-- the index has each done job that an unfinished job created
pub orphans_found : (jobs : List (Option JobView)) (latest : LatestJobsView) (j : ℕ) → AreFound jobs latest → DoneAreLatest jobs → may_get_in jobs (parent.Job j) ≡ true → OrphansAreFound jobs latest j
orphans_found jobs latest j f done asks = λ t k job e child is_done_job. f.complete (parent.Job j) t k asks (latest_is jobs (parent.Job j) t k (done (parent.Job j) t k job e child is_done_job))

-- a job that job j did not create is unchanged when the done children of job j are removed
pub not_orphan : (j : ℕ) (job : Option JobView) → ((t : ℕ) → is_live_child (parent.Job j) t job ≡ false) → drop_if_orphan j job ≡ job
not_orphan j None none = refl
not_orphan j (Some job) none =
    let at : (same_parent (parent.Job j) job.parent && job.slot == job.slot) ≡ false = none job.slot in
    let other : same_parent (parent.Job j) job.parent ≡ false = ⊎_elim (λ own. absurd (both_ways _ at (and_from _ _ own (eq-eqb job.slot job.slot refl)))) (λ e. e) (cases_Bool (same_parent (parent.Job j) job.parent)) in
    ap (λ b. if b && is_done job.phase then None else Some job) other

-- if an actor has a live job of a submit, it has a latest live job of that submit
latest_of : (jobs : List (Option JobView)) (a : Parent) (t k : ℕ) (o : Option ℕ) → live_child jobs a t ≡ o → is_live_child a t (live_job jobs k) ≡ true → (m : ℕ) × (live_child jobs a t ≡ Some m)
latest_of jobs a t k None e child =
    let inside = made_if_child jobs a t k child in
    absurd (both_ways (is_live_child a t (live_job jobs k)) (none_where (is_live_child a t) jobs e k None inside) child)
latest_of jobs a t k (Some m) e child = (m, e)

-- the job with number n finishes
module _ (jobs : List (Option JobView)) (n : ℕ) (job : JobView) (live : live_job jobs n ≡ Some job) (other : job.parent ≢ parent.Job n) where
  abbrev fin : Option JobView
  fin = finished_if_gettable jobs n job

  abbrev left : List (Option JobView)
  left = map (drop_if_orphan n) jobs

  abbrev after : List (Option JobView)
  after = set left n fin

  fin_if : (b : Bool) → drop_if_orphan n (if b then Some (record job { phase = phase.Done }) else None) ≡ (if b then Some (record job { phase = phase.Done }) else None)
  fin_if true = ap (λ b. if b && true then None else Some (record job { phase = phase.Done })) (false_from_ne_true (same_parent (parent.Job n) job.parent) (λ e. other (sym (same_actor_true (parent.Job n) job.parent e))))
  fin_if false = refl

  -- the jobs after job n finished and then its done children were removed
  pub after_is : after ≡ map (drop_if_orphan n) (set jobs n fin)
  after_is = ap (set left n) (sym (fin_if (may_get_in jobs job.parent && is_number (live_child jobs job.parent job.slot) n))) ∙ sym (map-set (drop_if_orphan n) jobs n fin)

  long : length left ≡ length jobs
  long = (fading_orphans jobs n).long

  n_inside : n < length jobs
  n_inside = made_if_child jobs job.parent job.slot n (ap (is_live_child job.parent job.slot) live ∙ child_itself job)

  at_n : live_job after n ≡ fin
  at_n = get_or-set_same left n fin None (omega (arith, n_inside, long))

  at_other : (k : ℕ) → k ≢ n → live_job after k ≡ live_job left k
  at_other k apart = get_or-set_other left n k fin None apart

  at_left : (k : ℕ) → live_job left k ≡ drop_if_orphan n (live_job jobs k)
  at_left k = get_or-map_at (drop_if_orphan n) jobs k None

  fades_fin : (b : Bool) (x : Option JobView) → x ≡ Some job → Fades x (if b then Some (record job { phase = phase.Done }) else None)
  fades_fin true x e = subst (λ y. Fades y (Some (record job { phase = phase.Done }))) (sym e) (refl, refl)
  fades_fin false x e = tt

  pub fading : AreFading jobs after
  fading = record {
    long = length-set left n fin ∙ long;
    each = λ k. ⊎_elim
        (λ (here : k ≡ n). subst (λ m. Fades (live_job jobs m) (live_job after m)) (sym here) (subst (Fades (live_job jobs n)) (sym at_n) (fades_fin (may_get_in jobs job.parent && is_number (live_child jobs job.parent job.slot) n) (live_job jobs n) live)))
        (λ (apart : k ≢ n). subst (Fades (live_job jobs k)) (sym (at_other k apart)) ((fading_orphans jobs n).each k))
        (cases_eq k n);
  }

  fin_done : (b : Bool) → is_unfinished_job (if b then Some (record job { phase = phase.Done }) else None) ≡ false
  fin_done true = refl
  fin_done false = refl

  pub fin_finished : is_unfinished_job fin ≡ false
  fin_finished = fin_done (may_get_in jobs job.parent && is_number (live_child jobs job.parent job.slot) n)

  n_asks_not : may_get_in after (parent.Job n) ≡ false
  n_asks_not = ap is_unfinished_job at_n ∙ fin_finished

  unfinished_if_orphan : (x : Option JobView) → is_unfinished_job (drop_if_orphan n x) ≡ true → is_unfinished_job x ≡ true
  unfinished_if_orphan None e = e
  unfinished_if_orphan (Some v) e = by_test (same_parent (parent.Job n) v.parent && is_done v.phase) e
    where
      by_test : (b : Bool) → is_unfinished_job (if b then None else Some v) ≡ true → is_unfinished_job (Some v) ≡ true
      by_test true e = absurd cc
      by_test false e = e

  has_get : (a : Parent) → may_get_in after a ≡ true → may_get_in jobs a ≡ true
  has_get a e = asks_before jobs after a (λ k unfinished. ⊎_elim
      (λ (here : k ≡ n). absurd (both_ways (is_unfinished_job (live_job after k)) (ap (λ m. is_unfinished_job (live_job after m)) here ∙ n_asks_not) unfinished))
      (λ (apart : k ≢ n). unfinished_if_orphan (live_job jobs k) (sym (ap is_unfinished_job (at_other k apart ∙ at_left k)) ∙ unfinished))
      (cases_eq k n)) e

  not_n : (a : Parent) → may_get_in after a ≡ true → a ≢ parent.Job n
  not_n a e same = both_ways (may_get_in after a) (ap (may_get_in after) same ∙ n_asks_not) e

  -- if an actor may still get its jobs after job n finished, the latest job of each of its submits is still live
  survives : (a : Parent) (t m : ℕ) → may_get_in after a ≡ true → live_child jobs a t ≡ Some m → is_live_child a t (live_job after m) ≡ true
  survives a t m asks e =
      let child = (latest_is jobs a t m e).passes in
      ⊎_elim
      (λ (here : m ≡ n).
      let mine = child_of a t (Some job) (ap (is_live_child a t) (sym live ∙ ap (live_job jobs) (sym here)) ∙ child) in
      let view : mine.view ≡ job = same_Some mine.view job (sym mine.is_live) in
      let actor : a ≡ job.parent = mine.actor ∙ ap (λ (x : JobView). x.parent) view in
      let slot : t ≡ job.slot = mine.slot ∙ ap (λ (x : JobView). x.slot) view in
      let told : is_number (live_child jobs job.parent job.slot) n ≡ true =
      ap (λ o. is_number o n) (ap (λ b. live_child jobs b job.slot) (sym actor) ∙ ap (live_child jobs a) (sym slot) ∙ e ∙ ap Some here) ∙ eq-eqb n n refl in
      let both = and_from (may_get_in jobs job.parent) (is_number (live_child jobs job.parent job.slot) n) (ap (may_get_in jobs) (sym actor) ∙ has_get a asks) told in
      let is_fin : fin ≡ Some (record job { phase = phase.Done }) = ap (λ b. if b then Some (record job { phase = phase.Done }) else None) both in
      ap (λ i. is_live_child a t (live_job after i)) here ∙ ap (is_live_child a t) (at_n ∙ is_fin) ∙ ap (is_live_child a t) (sym live ∙ ap (live_job jobs) (sym here)) ∙ child)
      (λ (apart : m ≢ n).
      let stays : drop_if_orphan n (live_job jobs m) ≡ live_job jobs m = not_orphan n (live_job jobs m) (λ u. false_from_ne_true (is_live_child (parent.Job n) u (live_job jobs m)) (λ own.
      let call = is_call_of a (parent.Job n) t u (live_job jobs m) child own in
      not_n a asks (sym (same_call a (parent.Job n) t u call).0))) in
      ap (is_live_child a t) (at_other m apart ∙ at_left m ∙ stays) ∙ child)
      (cases_eq m n)

  module _ (latest later next : LatestJobsView) (i : ℕ) (f : AreFound jobs latest) (o : AreOrphaned n i jobs left latest later)
      (sub : (a : Parent) (t k : ℕ) → found next a t ≡ Some k → (found later a t ≡ Some k) × (fin ≡ None → is_call job.parent job.slot a t ≡ true → k ≢ n))
      (stay : (a : Parent) (t k : ℕ) → found later a t ≡ Some k → (fin ≡ None → k ≢ n) → found next a t ≡ Some k) where
    fin_child : (a : Parent) (t : ℕ) (x : Option JobView) → fin ≡ x → is_live_child a t (Some job) ≡ true → (x ≡ None → ⊥) → is_live_child a t x ≡ true
    fin_child a t None e child some = absurd (some refl)
    fin_child a t (Some v) e child some = by_test (may_get_in jobs job.parent && is_number (live_child jobs job.parent job.slot) n) e
      where
        by_test : (b : Bool) → ◌≡◌ {A = Option JobView} (if b then Some (record job { phase = phase.Done }) else None) (Some v) → is_live_child a t (Some v) ≡ true
        by_test true same = sym (ap (is_live_child a t) same) ∙ child
        by_test false same = absurd cc

    finished_sound : (a : Parent) (t k : ℕ) → found next a t ≡ Some k → IsLatest after a t k
    finished_sound a t k e =
        let one = sub a t k e in
        let two = o.sub a t k one.0 in
        let was = f.sound a t k two.0 in
        sound_fading jobs after latest a t k f fading two.0 (⊎_elim
        (λ (here : k ≡ n).
        let child : is_live_child a t (Some job) ≡ true = ap (is_live_child a t) (sym live ∙ ap (live_job jobs) (sym here)) ∙ was.passes in
        ap (λ m. is_live_child a t (live_job after m)) here ∙ ap (is_live_child a t) at_n
        ∙ fin_child a t fin refl child (λ none. one.1 none (is_call_of job.parent a job.slot t (Some job) (child_itself job) child) here))
        (λ (apart : k ≢ n). ap (is_live_child a t) (at_other k apart ∙ two.1) ∙ was.passes)
        (cases_eq k n))

    finished_complete : (a : Parent) (t k : ℕ) → may_get_in after a ≡ true → IsLatest after a t k → found next a t ≡ Some k
    finished_complete a t k asks last =
        let child = still_child jobs after fading a t k last.passes in
        let top = latest_of jobs a t k (live_child jobs a t) refl child in
        let m = top.0 in
        let was = latest_is jobs a t m top.1 in
        let alive = survives a t m asks top.1 in
        let low : m ≤ k = ⊎_elim (λ (above : k < m). absurd (both_ways (is_live_child a t (live_job after m)) (last.none_later m above) alive)) (λ below. below) (cases_lt k m) in
        let high : k ≤ m = ⊎_elim (λ (above : m < k). absurd (both_ways (is_live_child a t (live_job jobs k)) (was.none_later k above) child)) (λ below. below) (cases_lt m k) in
        let same : m ≡ k = omega arith in
        let is_found : found later a t ≡ Some k = o.others a t (not_n a asks) ∙ f.complete a t m (has_get a asks) was ∙ ap Some same in
        stay a t k is_found (λ none here. both_ways (is_live_child a t (live_job after k)) (ap (λ i. is_live_child a t (live_job after i)) here ∙ ap (is_live_child a t) (at_n ∙ none)) last.passes)

    pub found_finished : AreFound after next
    found_finished = record { sound = finished_sound; complete = finished_complete }
