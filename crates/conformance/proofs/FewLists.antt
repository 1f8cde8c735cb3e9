-- If each job of a path can have one class only, one list of jobs is open at each moment.
use Rattle.std.proofs.Common.{◌≡◌, ℕ, zero, suc, true, List, [], ◌∷◌, ◌++◌, get_or, Some, refl, sym, ap, subst, ◌∙◌, slice_get, arith}
use Rattle.std.proofs.lemmas.Bool.{eq-eqb}
use Rattle.std.proofs.lemmas.Option.{same_Some, slice_get_within, slice_get-get_or, get_or_from_slice_get}
use Rattle.support.proofs.Members.{In-slice_get, list_any_at_In}
use Rattle.job_bodies.specs.declared.action.Action.{Action}
use Rattle.job_bodies.specs.declared.action.Action.TheVariants.{Submit}
use Rattle.conformance.specs.declared.open_job.OpenJob.{OpenJob}
use Rattle.conformance.specs.declared.step.ActorKind.{ActorKind}
use Rattle.conformance.specs.declared.step.PathStep.{PathStep}
use Rattle.conformance.specs.declared.step.PathStep.TheVariants as step
use Rattle.conformance.specs.PathStep.{submits}
use Rattle.conformance.specs.Path.{Walks, starts, body_moves, HasOneClass, is_submit_of, has_submit_of, without}
use Rattle.conformance.specs.PathMatch.{IsUnambiguous, HasManyOpenLists}
use Rattle.conformance.proofs.Walks.{walk_last}
use Rattle.conformance.proofs.WalkStates.{no_submit_of_get, same_get}

module _ (kind : ActorKind) (body : List Action) (path : List PathStep) (all : IsUnambiguous body path) where
  jobs_at_start : {q : ℕ} {jobs : List OpenJob} → Walks kind body path q 0 jobs → jobs ≡ []
  jobs_at_start starts = refl
  jobs_at_start (body_moves action w e h) = jobs_at_start w

  has_submit : (q class : ℕ) → slice_get body q ≡ Some (Submit class) → has_submit_of body class ≡ true
  has_submit q class e = list_any_at_In (λ (a : Action). is_submit_of class (Some a)) (In-slice_get body q (Submit class) e) (eq-eqb class class refl)

  one_class : (p : ℕ) (one : PathStep) → slice_get path p ≡ Some one → HasOneClass body one
  one_class p one e = subst (λ (s : PathStep). HasOneClass body s) (get_or_from_slice_get path p one one e) (all p one (slice_get_within path p one e))

  -- All walks up to the same step of the path have the same open jobs.
  same_jobs : (p q r : ℕ) (jobs others : List OpenJob) → Walks kind body path q p jobs → Walks kind body path r p others → jobs ≡ others
  same_jobs zero q r jobs others w v = jobs_at_start w ∙ sym (jobs_at_start v)
  same_jobs (suc p) q r jobs others w v =
      walk_last kind body path (λ q jobs. jobs ≡ others)
      (λ q jobs action e within before. before)
      (λ q jobs one class w e s c.
      walk_last kind body path (λ r others. jobs ++ record { job = p; class = class } ∷ [] ≡ others)
      (λ r others action e within before. before)
      (λ r others another k v f t d.
      let same : another ≡ one = same_Some another one (sym t ∙ s) in
      let is : class ≡ k = one_class p one s class k c (subst (λ (x : PathStep). submits x k ≡ true) same d) (has_submit q class e) (has_submit r k f) in
      ap (λ (xs : List OpenJob). xs ++ record { job = p; class = class } ∷ []) (same_jobs p q r jobs others w v) ∙ ap (λ (n : ℕ). others ++ record { job = p; class = n } ∷ []) is)
      (λ r others job k v t o m. absurd (no_submit_of_get job class one (same_Some one (step.Gets job) (sym s ∙ t)) c))
      v)
      (λ q jobs job class w s o m.
      walk_last kind body path (λ r others. without job jobs ≡ others)
      (λ r others action e within before. before)
      (λ r others another k v f t d. absurd (no_submit_of_get job k another (same_Some another (step.Gets job) (sym t ∙ s)) d))
      (λ r others other k v t u n.
      ap (without job) (same_jobs p q r jobs others w v) ∙ ap (λ (j : ℕ). without j others) (same_get job other (sym s ∙ t)))
      v)
      w

  pub few_lists : HasManyOpenLists kind body path → ⊥
  few_lists many =
      let long = many.many in
      let lists = many.lists in
      let first : slice_get lists 0 ≡ Some (get_or lists 0 []) = slice_get-get_or lists 0 [] (omega (arith, long)) in
      let second : slice_get lists 1 ≡ Some (get_or lists 1 []) = slice_get-get_or lists 1 [] (omega (arith, long)) in
      let w = many.walks 0 (get_or lists 0 []) first in
      let v = many.walks 1 (get_or lists 1 []) second in
      let same : get_or lists 1 [] ≡ get_or lists 0 [] = same_jobs many.place v.0 w.0 (get_or lists 1 []) (get_or lists 0 []) v.1 w.1 in
      let equal : 0 ≡ 1 = many.distinct 0 1 (get_or lists 0 []) first (second ∙ ap (λ (jobs : List OpenJob). Some jobs) same) in
      omega (arith, equal)
