-- Walks: their bounds, their beginnings, and paths that begin alike.
use Rattle.std.proofs.Common.{◌≡◌, ℕ, zero, suc, ◌<◌, ◌≤◌, ⊎_elim, true, List, [], ◌∷◌, ◌++◌, length, take, Option, Some, None, refl, sym, subst, ◌∙◌, length-take-le, arith}
use Rattle.std.proofs.lemmas.Bool.{cases_lt}
use Rattle.std.specs.Prelude.{slice_get}
use Rattle.std.proofs.lemmas.Option.{slice_get_within}
use Rattle.job_bodies.specs.declared.action.Action.{Action}
use Rattle.job_bodies.specs.declared.action.Action.TheVariants.{Submit}
use Rattle.conformance.specs.declared.open_job.OpenJob.{OpenJob}
use Rattle.conformance.specs.declared.step.ActorKind.{ActorKind}
use Rattle.conformance.specs.declared.step.PathStep.{PathStep}
use Rattle.conformance.specs.declared.step.PathStep.TheVariants as step
use Rattle.conformance.specs.declared.step.PathState.{PathState}
use Rattle.conformance.specs.declared.step.PathState.TheVariants.{Whole, Prefix}
use Rattle.conformance.specs.PathStep.{submits}
use Rattle.conformance.specs.Path.{Walks, starts, body_moves, both_submit, path_gets, IsWithin, MayGet, open_class, without, IsPathOf}
use Rattle.conformance.specs.declared.open_excess.OpenExcess.{OpenExcess}
use Rattle.conformance.specs.OpenExcess.{IsReason}
use Rattle.conformance.specs.MissingJob.{IsMissingJob}
use Rattle.conformance.specs.PathMatch.{IsExplained}

module _ (kind : ActorKind) (body : List Action) (path : List PathStep) where
  pub walk_within : {q p : ℕ} {jobs : List OpenJob} → Walks kind body path q p jobs → IsWithin jobs body q
  walk_within starts = λ class. omega arith
  walk_within (body_moves action w e h) = h
  walk_within (both_submit step class w e s c h) = h
  walk_within (path_gets job class w s o m h) = h

  pub walk_in_body : {q p : ℕ} {jobs : List OpenJob} → Walks kind body path q p jobs → q ≤ length body
  walk_in_body starts = omega arith
  walk_in_body (body_moves {q = q} action w e h) = let lt = slice_get_within body q action e in omega (arith, lt)
  walk_in_body (both_submit {q = q} step class w e s c h) = let lt = slice_get_within body q (Submit class) e in omega (arith, lt)
  walk_in_body (path_gets job class w s o m h) = walk_in_body w

  -- A walk of a longer part of the path begins with one of each shorter part.
  pub walk_begins : {q p : ℕ} {jobs : List OpenJob} → Walks kind body path q p jobs → (n : ℕ) → n ≤ p → (index : ℕ) × (others : List OpenJob) × Walks kind body path index n others
  walk_begins starts n h =
      let e : n ≡ 0 = omega (arith, h) in
      (0, [], subst (λ m. Walks kind body path 0 m []) (sym e) starts)
  walk_begins (body_moves action w e within) n h = walk_begins w n h
  walk_begins (both_submit {q = q} {p = p} {jobs = jobs} step class w e s c within) n h =
      ⊎_elim
      (λ lt. walk_begins w n (omega (arith, lt)))
      (λ le.
      let same : suc p ≡ n = omega (arith, h, le) in
      (suc q, jobs ++ record { job = p; class = class } ∷ [], subst (λ m. Walks kind body path (suc q) m (jobs ++ record { job = p; class = class } ∷ [])) same (both_submit step class w e s c within)))
      (cases_lt n (suc p))
  walk_begins (path_gets {q = q} {p = p} {jobs = jobs} job class w s o m within) n h =
      ⊎_elim
      (λ lt. walk_begins w n (omega (arith, lt)))
      (λ le.
      let same : suc p ≡ n = omega (arith, h, le) in
      (q, without job jobs, subst (λ k. Walks kind body path q k (without job jobs)) same (path_gets job class w s o m within)))
      (cases_lt n (suc p))

  -- What a walk of one more step keeps, if the moves of the body keep it.
  pub walk_last : (Q : ℕ → List OpenJob → Type 0) {p : ℕ}
      → ((q : ℕ) (jobs : List OpenJob) (action : Action) → slice_get body q ≡ Some action → IsWithin jobs body (suc q) → Q q jobs → Q (suc q) jobs)
      → ((q : ℕ) (jobs : List OpenJob) (one : PathStep) (class : ℕ) → Walks kind body path q p jobs → slice_get body q ≡ Some (Submit class) → slice_get path p ≡ Some one → submits one class ≡ true → Q (suc q) (jobs ++ record { job = p; class = class } ∷ []))
      → ((q : ℕ) (jobs : List OpenJob) (job class : ℕ) → Walks kind body path q p jobs → slice_get path p ≡ Some (step.Gets job) → open_class job jobs ≡ Some class → MayGet kind body q class → Q q (without job jobs))
      → {q : ℕ} {jobs : List OpenJob} → Walks kind body path q (suc p) jobs → Q q jobs
  walk_last Q moves submit get (body_moves {q = q} {jobs = jobs} action w e h) = moves q jobs action e h (walk_last Q moves submit get w)
  walk_last Q moves submit get (both_submit {q = q} {jobs = jobs} one class w e s c h) = submit q jobs one class w e s c
  walk_last Q moves submit get (path_gets {q = q} {jobs = jobs} job class w s o m h) = get q jobs job class w s o m

-- Walks of paths that begin alike are the same.
pub walk_alike : (kind : ActorKind) (body : List Action) (path other : List PathStep) {q p : ℕ} {jobs : List OpenJob} → Walks kind body path q p jobs
    → ((i : ℕ) → i < p → slice_get path i ≡ slice_get other i) → Walks kind body other q p jobs
walk_alike kind body path other starts same = starts
walk_alike kind body path other (body_moves action w e h) same = body_moves action (walk_alike kind body path other w same) e h
walk_alike kind body path other (both_submit {p = p} one class w e s c h) same =
    both_submit one class (walk_alike kind body path other w (λ i lt. same i (omega (arith, lt)))) e (sym (same p (omega arith)) ∙ s) c h
walk_alike kind body path other (path_gets {p = p} job class w s o m h) same =
    path_gets job class (walk_alike kind body path other w (λ i lt. same i (omega (arith, lt)))) (sym (same p (omega arith)) ∙ s) o m h

no_less : (i : ℕ) → i < 0 → ⊥
no_less i h = omega (arith, h)

slice_get_take : {X : Type 0} (n i : ℕ) (xs : List X) → i < n → slice_get (take n xs) i ≡ slice_get xs i
slice_get_take zero i xs h = absurd (no_less i h)
slice_get_take (suc n) i [] h = refl
slice_get_take (suc n) zero (x ∷ xs) h = refl
slice_get_take (suc n) (suc i) (x ∷ xs) h = slice_get_take n i xs (omega (arith, h))

-- ---- beginnings of a path
pub begins_from_walk : (kind : ActorKind) (body : List Action) (path : List PathStep) (n q : ℕ) (jobs : List OpenJob) → n ≤ length path → Walks kind body path q n jobs → IsPathOf kind Prefix body (take n path)
begins_from_walk kind body path n q jobs h w = (
  q,
  jobs,
  subst (λ m. Walks kind body (take n path) q m jobs) (sym (length-take-le n path h))
      (walk_alike kind body path (take n path) w (λ i lt. sym (slice_get_take n i path lt))),
)

pub walk_from_begins : (kind : ActorKind) (body : List Action) (path : List PathStep) (n : ℕ) → n ≤ length path → IsPathOf kind Prefix body (take n path) → (q : ℕ) × (jobs : List OpenJob) × Walks kind body path q n jobs
walk_from_begins kind body path n h of =
    let w = subst (λ m. Walks kind body (take n path) of.0 m of.1) (length-take-le n path h) of.2 in
    (of.0, of.1, walk_alike kind body (take n path) path w (λ i lt. slice_get_take n i path lt))

-- If no walk goes over the step at this index, the path is explained up to it.
pub explained_from_walks : (kind : ActorKind) (body : List Action) (path : List PathStep) (n q : ℕ) (jobs : List OpenJob) → n < length path → Walks kind body path q n jobs
    → ((index : ℕ) (others : List OpenJob) → ¬ Walks kind body path index (suc n) others) → (excess : Option OpenExcess) → IsReason kind body path n excess → IsExplained kind body path (record { length = n; excess = excess; missing = None })
explained_from_walks kind body path n q jobs lt w none excess reason = record {
  within = omega (arith, lt);
  front = begins_from_walk kind body path n q jobs (omega (arith, lt)) w;
  longest = λ more above within of.
      let longer = walk_from_begins kind body path more within of in
      let next = walk_begins kind body path longer.2 (suc n) (omega (arith, above)) in
      none next.0 next.1 next.2;
  reason = reason;
  missing = tt;
  named = λ whole. absurd (omega (arith, lt, whole));
  unnamed = λ _. refl;
}

-- A path whose steps are all walked is explained to its end, with the job that is missing there.
pub explained_to_end : (kind : ActorKind) (body : List Action) (path : List PathStep) (q : ℕ) (jobs : List OpenJob) → Walks kind body path q (length path) jobs → IsReason kind body path (length path) None → (job : ℕ) → IsMissingJob kind body path (length path) job
    → IsExplained kind body path (record { length = length path; excess = None; missing = Some job })
explained_to_end kind body path q jobs w reason job is_missing = record {
  within = omega arith;
  front = begins_from_walk kind body path (length path) q jobs (omega arith) w;
  longest = λ more above within of. omega (arith, above, within);
  reason = reason;
  missing = is_missing;
  named = λ _. refl;
  unnamed = λ shorter. absurd (omega (arith, shorter));
}

-- A path that matches is walked to its end.
pub walk_of_path : (kind : ActorKind) (path_state : PathState) (body : List Action) (path : List PathStep) → IsPathOf kind path_state body path → (q : ℕ) × (jobs : List OpenJob) × Walks kind body path q (length path) jobs
walk_of_path kind Whole body path of = (length body, of.0, of.1)
walk_of_path kind Prefix body path of = of

-- If no walk goes over a step, the path does not match.
pub no_path_from_walks : (kind : ActorKind) (path_state : PathState) (body : List Action) (path : List PathStep) (n : ℕ) → n < length path
    → ((index : ℕ) (others : List OpenJob) → ¬ Walks kind body path index (suc n) others) → ¬ IsPathOf kind path_state body path
no_path_from_walks kind path_state body path n lt none = λ of.
    let w = walk_of_path kind path_state body path of in
    let next = walk_begins kind body path w.2 (suc n) (omega (arith, lt)) in
    none next.0 next.1 next.2
