-- Only the latest job of an actor at a position can be stale.
use Rattle.std.proofs.Common.{◌≡◌, ◌≢◌, ℕ, ◌&&◌, if◌then◌else◌, List, Option, Some, None, ⊎_elim, refl, ap, ◌∙◌}
use Rattle.std.proofs.lemmas.Bool.{cases_Bool, and_parts}
use Rattle.pool_machine.specs.declared.parent.Parent.{Parent}
use Rattle.interleaving.specs.declared.job_view.JobView.{JobView}
use Rattle.interleaving.specs.ViewStep.{live_job, is_live_child, live_child, is_done, drop_if_stale}
use Rattle.interleaving.specs.LiveJobs.{DoneAreLatest, NoOtherIsStale}

stays_unless_latest : (jobs : List (Option JobView)) (latest : Option ℕ) (a : Parent) (t k : ℕ) (job : Option JobView) → DoneAreLatest jobs → latest ≡ live_child jobs a t → latest ≢ Some k → live_job jobs k ≡ job → drop_if_stale a t job ≡ job
stays_unless_latest jobs latest a t k None done is_latest other e = refl
stays_unless_latest jobs latest a t k (Some job) done is_latest other e = ⊎_elim
    (λ stale. let parts = and_parts (is_live_child a t (Some job)) (is_done job.phase) stale in absurd (other (is_latest ∙ done a t k job e parts.0 parts.1)))
    (λ fresh. ap (λ b. if b then None else Some job) fresh)
    (cases_Bool (is_live_child a t (Some job) && is_done job.phase))

pub none_but_latest : (jobs : List (Option JobView)) (latest : Option ℕ) (a : Parent) (t : ℕ) → DoneAreLatest jobs → latest ≡ live_child jobs a t → NoOtherIsStale jobs latest a t
none_but_latest jobs latest a t done is_latest = λ k other. stays_unless_latest jobs latest a t k (live_job jobs k) done is_latest other refl
