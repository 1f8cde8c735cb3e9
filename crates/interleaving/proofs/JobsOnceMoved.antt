-- The live jobs after an actor moved.
use Rattle.std.proofs.Common.{◌≡◌, ◌≢◌, ℕ, true, not, List, length, Option, Some, None, refl, sym, ap, subst, ◌∙◌, arith, false, if◌then◌else◌, set, inl, inr, ⊎_elim, length-set}
use Rattle.std.proofs.lemmas.Bool.{both_ways, cases_lt, cases_eq, and_right}
use Rattle.std.proofs.lemmas.List.{get_or-set_other, get_or_past, get_or-set_same}
use Rattle.std.proofs.lemmas.Option.{same_Some}
use Rattle.pool_machine.specs.declared.parent.Parent.{Parent}
use Rattle.pool_machine.specs.declared.parent.Parent.TheVariants as parent
use Rattle.interleaving.specs.declared.job_view.Phase.TheVariants as phase
use Rattle.interleaving.specs.declared.job_view.JobView.{JobView}
use Rattle.interleaving.specs.LiveView.{View}
use Rattle.interleaving.specs.ViewStep.{live_job, is_live_child, live_child, is_done, is_unfinished_job, may_get_in, in_phase, moved_live_jobs, with_phase, drop_if_stale}
use Rattle.interleaving.specs.LiveJobs.{IsOnlyLiveJob, WasMade, NoOtherIsStale}
use Rattle.interleaving.specs.NextAction.{IsAmong}
use Rattle.interleaving.proofs.LatestFound.{phased_child, latest_is, child_of}

moved_child : (a : Parent) (i : ℕ) (view : View) (b : Parent) (t k : ℕ) → is_live_child b t (live_job (moved_live_jobs a i view) k) ≡ is_live_child b t (live_job view.jobs k)
moved_child (parent.Client c) i view b t k = refl
moved_child (parent.Job j) i view b t k = phased_child view.jobs j (phase.At i) b t k

pub alone_moved : (a : Parent) (i : ℕ) (view : View) (b : Parent) (t : ℕ) → IsOnlyLiveJob view.jobs b t → IsOnlyLiveJob (moved_live_jobs a i view) b t
alone_moved a i view b t alone m k one two = alone m k (sym (moved_child a i view b t m) ∙ one) (sym (moved_child a i view b t k) ∙ two)

-- a move does not change a done job, since the actor that moves is not done
pub done_moved : (a : Parent) (i : ℕ) (view : View) (k : ℕ) (job : JobView) → may_get_in view.jobs a ≡ true → live_job view.jobs k ≡ Some job → is_done job.phase ≡ true → live_job (moved_live_jobs a i view) k ≡ Some job
done_moved (parent.Client c) i view k job asks live done = live
done_moved (parent.Job j) i view k job asks live done =
    let other : k ≢ j = λ same. both_ways (is_unfinished_job (live_job view.jobs k)) (ap is_unfinished_job live ∙ ap not done) (ap (λ m. is_unfinished_job (live_job view.jobs m)) same ∙ asks) in
    get_or-set_other view.jobs j k (in_phase (phase.At i) (live_job view.jobs j)) None other ∙ live

-- if a submit has only one live job, this also holds for the submit in the fields `parent` and `slot` of that job
pub alone_as_child : (jobs : List (Option JobView)) (a : Parent) (t k : ℕ) (job : JobView) → live_child jobs a t ≡ Some k → live_job jobs k ≡ Some job → IsOnlyLiveJob jobs a t → IsOnlyLiveJob jobs job.parent job.slot
alone_as_child jobs a t k job e live alone =
    let child = child_of a t (Some job) (ap (is_live_child a t) (sym live) ∙ (latest_is jobs a t k e).passes) in
    let view : child.view ≡ job = same_Some child.view job (sym child.is_live) in
    subst (λ b. IsOnlyLiveJob jobs b job.slot) (child.actor ∙ ap (λ (x : JobView). x.parent) view) (subst (λ u. IsOnlyLiveJob jobs a u) (child.slot ∙ ap (λ (x : JobView). x.slot) view) alone)

pub was_made : (a : Parent) (clients : ℕ) (jobs after : List (Option JobView)) → IsAmong clients (length jobs) a → length after ≡ length jobs → WasMade after a
was_made (parent.Client c) clients jobs after among long = tt
was_made (parent.Job j) clients jobs after among long = omega (arith, among, long)

-- ---- stale jobs

-- a running job is not stale
stays_at : (a : Parent) (t i : ℕ) (job : Option JobView) → drop_if_stale a t (in_phase (phase.At i) job) ≡ in_phase (phase.At i) job
stays_at a t i None = refl
stays_at a t i (Some job) = ap (λ b. if b then None else Some (record job { phase = phase.At i })) (and_right (is_live_child a t (Some job)) false refl)

phased_stays : (jobs : List (Option JobView)) (a : Parent) (t j i : ℕ) → drop_if_stale a t (live_job (with_phase j (phase.At i) jobs) j) ≡ live_job (with_phase j (phase.At i) jobs) j
phased_stays jobs a t j i =
    let new = in_phase (phase.At i) (live_job jobs j) in
    elim (cases_lt j (length jobs)) [
      | inl inside ↦ let e = get_or-set_same jobs j new None inside in ap (drop_if_stale a t) e ∙ stays_at a t i (live_job jobs j) ∙ sym e
      | inr past ↦ let e = get_or_past (set jobs j new) j None (omega (arith, length-set jobs j new)) in ap (drop_if_stale a t) e ∙ sym e
    ]

-- a move of an actor makes no job stale
pub stale_moved : (a b : Parent) (t i : ℕ) (latest : Option ℕ) (view : View) → NoOtherIsStale view.jobs latest a t → NoOtherIsStale (moved_live_jobs b i view) latest a t
stale_moved a (parent.Client c) t i latest view none = none
stale_moved a (parent.Job j) t i latest view none = λ k other. ⊎_elim
    (λ (same : k ≡ j). ap (λ n. drop_if_stale a t (live_job (with_phase j (phase.At i) view.jobs) n)) same ∙ phased_stays view.jobs a t j i ∙ ap (live_job (with_phase j (phase.At i) view.jobs)) (sym same))
    (λ (apart : k ≢ j). let e = get_or-set_other view.jobs j k (in_phase (phase.At i) (live_job view.jobs j)) None apart in ap (drop_if_stale a t) e ∙ none k other ∙ sym e)
    (cases_eq k j)

-- a move does not change the number of jobs
pub length-moved : (a : Parent) (i : ℕ) (view : View) → length (moved_live_jobs a i view) ≡ length view.jobs
length-moved (parent.Client c) i view = refl
length-moved (parent.Job j) i view = length-set view.jobs j (in_phase (phase.At i) (live_job view.jobs j))
