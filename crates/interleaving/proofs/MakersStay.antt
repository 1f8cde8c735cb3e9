-- A change of a job's phase, and the removal of a job, give no actor a new job.
use Rattle.std.proofs.Common.{◌≡◌, ◌≢◌, ℕ, ◌==◌, ◌&&◌, Bool, true, false, if◌then◌else◌, List, length, map, set, get_or, Option, Some, None, inl, inr, ⊎_elim, refl, sym, ap, ap₂, subst, ◌∙◌, arith, length-set}
use Rattle.std.proofs.Math.ListN.{get_or-map}
use Rattle.std.proofs.lemmas.Bool.{cases_lt, cases_eq}
use Rattle.std.proofs.lemmas.List.{length-map, get_or_past, get_or-set_same, get_or-set_other}
use Rattle.pool_machine.specs.declared.parent.Parent.{Parent}
use Rattle.pool_machine.specs.declared.parent.Parent.TheVariants as parent
use Rattle.pool_machine.specs.State.{same_parent}
use Rattle.interleaving.specs.declared.job_view.JobView.{JobView}
use Rattle.interleaving.specs.ViewStep.{live_job, is_live_child, is_done, drop_if_orphan}

-- ---- one job changes its phase or is removed

-- the second job is None, or it is the first one in some phase
abbrev pub Fades : Option JobView → Option JobView → Type 0
Fades job None = Unit {0}
Fades None (Some after) = ⊥
Fades (Some job) (Some after) = (after.parent ≡ job.parent) × (after.slot ≡ job.slot)

pub fades_to_itself : (job : Option JobView) → Fades job job
fades_to_itself None = tt
fades_to_itself (Some job) = (refl, refl)

pub fades_child : (a : Parent) (t : ℕ) (job after : Option JobView) → Fades job after → is_live_child a t job ≡ false → is_live_child a t after ≡ false
fades_child a t job None f e = refl
fades_child a t None (Some after) f e = absurd f
fades_child a t (Some job) (Some after) f e = ap₂ (λ p s. same_parent a p && t == s) f.0 f.1 ∙ e

fades_if : (b : Bool) (job : JobView) → Fades (Some job) (if b then None else Some job)
fades_if true job = tt
fades_if false job = (refl, refl)

fades_drop_if_orphan : (j : ℕ) (job : Option JobView) → Fades job (drop_if_orphan j job)
fades_drop_if_orphan j None = tt
fades_drop_if_orphan j (Some job) = fades_if (same_parent (parent.Job j) job.parent && is_done job.phase) job

-- ---- a list of jobs

pub record AreFading (jobs after : List (Option JobView)) : Type 0 where
  pub long : length after ≡ length jobs
  pub each : (k : ℕ) → Fades (live_job jobs k) (live_job after k)

set_at : (jobs : List (Option JobView)) (j : ℕ) (after : Option JobView) → Fades (live_job jobs j) after → Fades (live_job jobs j) (live_job (set jobs j after) j)
set_at jobs j after f = elim (cases_lt j (length jobs)) [
  | inl inside ↦ subst (Fades (live_job jobs j)) (sym (get_or-set_same jobs j after None inside)) f
  | inr past ↦ subst (Fades (live_job jobs j)) (sym (get_or_past (set jobs j after) j None (omega (arith, length-set jobs j after)))) tt
]

pub fading_set : (jobs : List (Option JobView)) (j : ℕ) (after : Option JobView) → Fades (live_job jobs j) after → AreFading jobs (set jobs j after)
fading_set jobs j after f = record {
  long = length-set jobs j after;
  each = λ k. ⊎_elim (λ (same : k ≡ j). subst (λ n. Fades (live_job jobs n) (live_job (set jobs j after) n)) (sym same) (set_at jobs j after f))
      (λ (other : k ≢ j). subst (Fades (live_job jobs k)) (sym (get_or-set_other jobs j k after None other)) (fades_to_itself (live_job jobs k)))
      (cases_eq k j);
}

fading_map : (f : Option JobView → Option JobView) (jobs : List (Option JobView)) → f None ≡ None → ((job : Option JobView) → Fades job (f job)) → AreFading jobs (map f jobs)
fading_map f jobs none fades = record {
  long = length-map jobs f;
  each = λ k. let at : live_job (map f jobs) k ≡ f (live_job jobs k) = ap (get_or (map f jobs) k) (sym none) ∙ get_or-map f jobs k None in
      subst (Fades (live_job jobs k)) (sym at) (fades (live_job jobs k));
}

pub fading_orphans : (jobs : List (Option JobView)) (j : ℕ) → AreFading jobs (map (drop_if_orphan j) jobs)
fading_orphans jobs j = fading_map (drop_if_orphan j) jobs refl (fades_drop_if_orphan j)
