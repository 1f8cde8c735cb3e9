-- Functions that change few jobs, mapped over a list of jobs.
use Rattle.std.proofs.Common.{◌≡◌, ◌≢◌, ℕ, List, length, map, set, get_or, Option, None, ⊎_elim, refl, sym, ap, ◌∙◌, arith, length-set, ext_get_or}
use Rattle.std.proofs.Math.ListN.{get_or-map}
use Rattle.std.proofs.lemmas.Bool.{cases_lt, cases_eq}
use Rattle.std.proofs.lemmas.List.{length-map, get_or_past, get_or-set_same, get_or-set_other}
use Rattle.interleaving.specs.declared.job_view.JobView.{JobView}
use Rattle.interleaving.specs.ViewStep.{live_job}

-- a list whose elements are the images of the jobs is the mapped list
pub all_mapped : (f : Option JobView → Option JobView) (jobs now : List (Option JobView)) → f None ≡ None → length now ≡ length jobs → ((k : ℕ) → live_job now k ≡ f (live_job jobs k)) → now ≡ map f jobs
all_mapped f jobs now none long each = ext_get_or None now (map f jobs) (long ∙ sym (length-map jobs f)) (λ k inside. each k ∙ sym (at k))
  where
    at : (k : ℕ) → get_or (map f jobs) k None ≡ f (live_job jobs k)
    at k = ap (get_or (map f jobs) k) (sym none) ∙ get_or-map f jobs k None

-- if the function changes no job, the mapped list is the same list
pub none_mapped : (f : Option JobView → Option JobView) (jobs : List (Option JobView)) → f None ≡ None → ((k : ℕ) → f (live_job jobs k) ≡ live_job jobs k) → jobs ≡ map f jobs
none_mapped f jobs none same = all_mapped f jobs jobs none refl (λ k. sym (same k))

-- if the function changes only job n, the mapped list is the list with that job replaced
pub one_mapped : (f : Option JobView → Option JobView) (jobs : List (Option JobView)) (n : ℕ) → f None ≡ None → ((k : ℕ) → k ≢ n → f (live_job jobs k) ≡ live_job jobs k) → set jobs n (f (live_job jobs n)) ≡ map f jobs
one_mapped f jobs n none same =
    let new = f (live_job jobs n) in
    let at : live_job (set jobs n new) n ≡ new = ⊎_elim (λ inside. get_or-set_same jobs n new None inside)
    (λ past. get_or_past (set jobs n new) n None (omega (arith, length-set jobs n new)) ∙ sym none ∙ ap f (sym (get_or_past jobs n None past)))
    (cases_lt n (length jobs)) in
    all_mapped f jobs (set jobs n new) none (length-set jobs n new) (λ k. ⊎_elim
    (λ (here : k ≡ n). ap (live_job (set jobs n new)) here ∙ at ∙ ap (λ m. f (live_job jobs m)) (sym here))
    (λ (other : k ≢ n). get_or-set_other jobs n k new None other ∙ sym (same k other))
    (cases_eq k n))
