-- The condition under which a world adds a place.
use Rattle.std.proofs.Common.{◌≡◌, ℕ, ◌+◌, ◌≤◌, ◌==◌, true, cond, if◌then◌else◌, List, [], ◌∷◌, ◌++◌, length, map, get_or, count_by, is_some, Option, Some, None, inl, inr, ⊎_elim, refl, ap, ◌∙◌, arith}
use Rattle.std.proofs.lemmas.Bool.{cases_lt, cases_Bool, eqb-true}
use Rattle.std.proofs.lemmas.List.{set_past, length-map, length_push}
use Rattle.support.proofs.Sums.{count_by-set, count_by-map, count_by-le}
use Rattle.pool_machine.specs.declared.parent.Parent.{Parent}
use Rattle.pool_machine.specs.declared.parent.Parent.TheVariants as parent
use Rattle.interleaving.specs.declared.job_view.Phase.{Phase}
use Rattle.interleaving.specs.declared.job_view.Phase.TheVariants as phase
use Rattle.interleaving.specs.declared.job_view.JobView.{JobView}
use Rattle.interleaving.specs.LiveView.{View}
use Rattle.interleaving.specs.ViewStep.{live_job, in_phase, with_phase, drop_if_stale, moved_live_jobs}
use Rattle.interleaving.specs.LiveJobs.{JobList, places_made}
use Rattle.interleaving.specs.World.{WorldValue, live_jobs, ReusesPlaces}
use Rattle.interleaving.proofs.JobsOnceMoved.{length-moved}

phased_is_some : (phase : Phase) (job : Option JobView) → is_some (in_phase phase job) ≡ is_some job
phased_is_some phase None = refl
phased_is_some phase (Some job) = refl

-- a change of a phase does not change the number of live jobs
count-phased : (jobs : List (Option JobView)) (j : ℕ) (phase : Phase) → count_by is_some (with_phase j phase jobs) ≡ count_by is_some jobs
count-phased jobs j phase =
    let new = in_phase phase (live_job jobs j) in
    ⊎_elim
    (λ inside. let moved = count_by-set is_some jobs j new None inside in let same = ap {B = ℕ} (λ b. cond b 1 0) (phased_is_some phase (live_job jobs j)) in omega (arith, moved, same))
    (λ past. ap (count_by is_some) (set_past jobs j new past))
    (cases_lt j (length jobs))

count-moved : (a : Parent) (i : ℕ) (view : View) → count_by is_some (moved_live_jobs a i view) ≡ live_jobs view
count-moved (parent.Client c) i view = refl
count-moved (parent.Job j) i view = count-phased view.jobs j (phase.At i)

still_live : (a : Parent) (t : ℕ) (job : Option JobView) → is_some (drop_if_stale a t job) ≡ true → is_some job ≡ true
still_live a t None e = e
still_live a t (Some job) e = refl

-- the removal of a stale job does not increase the number of live jobs
count-drop_if_stale : (a : Parent) (t : ℕ) (jobs : List (Option JobView)) → count_by is_some (map (drop_if_stale a t) jobs) ≤ count_by is_some jobs
count-drop_if_stale a t jobs =
    let fewer = count_by-le (λ job. is_some (drop_if_stale a t job)) is_some jobs None (λ i inside e. still_live a t (get_or jobs i None) e) in
    let mapped = count_by-map is_some (drop_if_stale a t) jobs in
    omega (arith, fewer, mapped)

-- if each live job had a place before, the creation of a job adds a place only if no place is free
pub used_again : (a b : Parent) (t i : ℕ) (job : JobView) (old new : WorldValue) (moved : JobList) → moved.jobs ≡ moved_live_jobs b i old.view → moved.places ≡ old.places → live_jobs old.view ≤ old.places
    → new.view.jobs ≡ map (drop_if_stale a t) moved.jobs ++ Some job ∷ [] → new.places ≡ places_made moved (map (drop_if_stale a t) moved.jobs) → ReusesPlaces old new
used_again a b t i job old new moved jobs places enough made after =
    let left = map (drop_if_stale a t) moved.jobs in
    let as_before : count_by is_some moved.jobs ≡ live_jobs old.view = ap (count_by is_some) jobs ∙ count-moved b i old.view in
    let fewer = count-drop_if_stale a t moved.jobs in
    ⊎_elim
    (λ full.
    let all = eqb-true (count_by is_some left) moved.places full in
    inr (record {
      more = after ∙ ap (λ c. if c then moved.places + 1 else moved.places) full ∙ ap (λ n. n + 1) places;
      made = ap length made ∙ length_push left (Some job) ∙ ap (λ n. n + 1) (length-map moved.jobs (drop_if_stale a t) ∙ ap length jobs ∙ length-moved b i old.view);
      full = omega (arith, as_before, fewer, all, places, enough);
    }))
    (λ free. inl (after ∙ ap (λ c. if c then moved.places + 1 else moved.places) free ∙ places))
    (cases_Bool (count_by is_some left == moved.places))
