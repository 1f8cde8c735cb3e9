-- Paths in which the jobs have fewer classes: a body that such a path matches is one that the path matches.
use Rattle.std.proofs.Common.{◌≡◌, ◌==◌, ℕ, zero, suc, true, List, [], ◌∷◌, length, slice_index_or, Option, Some, None, refl, ap, sym, subst, ◌∙◌, arith}
use Rattle.std.specs.Prelude.{Contains, slice_get, ⊤}
use Rattle.std.specs.List.{list_any}
use Rattle.std.proofs.lemmas.List.Folds.{list_any_at, Any-from_list_any}
use Rattle.recordings.proofs.SubmitIndices.{same_self}
use Rattle.job_bodies.specs.declared.action.Action.{Action}
use Rattle.conformance.specs.declared.open_job.OpenJob.{OpenJob}
use Rattle.conformance.specs.declared.step.ActorKind.{ActorKind}
use Rattle.conformance.specs.declared.step.PathStep.{PathStep}
use Rattle.conformance.specs.declared.step.PathStep.TheVariants as step
use Rattle.conformance.specs.declared.step.PathState.{PathState}
use Rattle.conformance.specs.declared.step.PathState.TheVariants.{Whole, Prefix}
use Rattle.conformance.specs.PathStep.{submits}
use Rattle.conformance.specs.Path.{IsPathOf, Walks, starts, body_moves, both_submit, path_gets}
use Rattle.conformance.specs.Narrowing.{IsNarrowerStep, IsNarrower}
use Rattle.conformance.proofs.Words.{one_of}

-- ---- steps
found : (classes : List ℕ) (class : ℕ) → Contains classes class → list_any (λ one. one == class) classes ≡ true
found classes class c = list_any_at (λ one. one == class) classes c.0 class c.1 (ap (λ one. one == class) c.2 ∙ same_self class)

equal_of : (a b : ℕ) → (a == b) ≡ true → a ≡ b
equal_of a b h = grind (arith, h)

pub contained : (classes : List ℕ) (class : ℕ) → list_any (λ one. one == class) classes ≡ true → Contains classes class
contained classes class h =
    let a = Any-from_list_any (λ one. one == class) classes h in
    (a.0, a.2, subst (λ (n : ℕ). slice_index_or classes a.0 n ≡ n) (equal_of a.1 class a.4) a.3)

submits_within : (one other : PathStep) (class : ℕ) → IsNarrowerStep one other → submits one class ≡ true → submits other class ≡ true
submits_within (step.Submits one) (step.Submits other) class w h = found other.items class (w class (contained one.items class h))
submits_within (step.Gets one) (step.Gets other) class w h = h
submits_within (step.Submits one) (step.Gets other) class w h = absurd w
submits_within (step.Gets one) (step.Submits other) class w h = absurd w

-- The second path has a step where the first has one, and the step has its classes.
abbrev HasStepWithin : Option PathStep → Option PathStep → Type 0
HasStepWithin None None = ⊤
HasStepWithin (Some one) (Some other) = IsNarrowerStep one other
HasStepWithin _ _ = ⊥

within_at : (one other : List PathStep) → IsNarrower one other → (i : ℕ) → HasStepWithin (slice_get one i) (slice_get other i)
within_at [] [] w i = tt
within_at (x ∷ xs) (y ∷ ys) w zero = w.0
within_at (x ∷ xs) (y ∷ ys) w (suc i) = within_at xs ys w.1 i
within_at [] (y ∷ ys) w i = absurd w
within_at (x ∷ xs) [] w i = absurd w

record StepWithin (one : PathStep) (there : Option PathStep) : Type 0 where
  pub other : PathStep
  pub is : there ≡ Some other
  pub within : IsNarrowerStep one other

step_within : (one : PathStep) (here there : Option PathStep) → HasStepWithin here there → here ≡ Some one → StepWithin one there
step_within one (Some x) (Some y) w is = record { other = y; is = refl; within = subst (λ (s : PathStep). IsNarrowerStep s y) (one_of (Some x) x one refl is) w }
step_within one None there w is = absurd (let e : None ≡ Some one = is in cc)
step_within one (Some x) None w is = absurd w

gets_within : (one : PathStep) (place : ℕ) → IsNarrowerStep (step.Gets place) one → one ≡ step.Gets place
gets_within (step.Gets other) place w = ap (λ (p : ℕ). step.Gets p) (sym w)
gets_within (step.Submits other) place w = absurd w

same_length : (one other : List PathStep) → IsNarrower one other → length one ≡ length other
same_length [] [] w = refl
same_length (x ∷ xs) (y ∷ ys) w = ap suc (same_length xs ys w.1)
same_length [] (y ∷ ys) w = absurd w
same_length (x ∷ xs) [] w = absurd w

-- ---- walks
-- A walk of the narrower path is a walk of the other one.
module _ (kind : ActorKind) (body : List Action) (one other : List PathStep) (w : IsNarrower one other) where
  walks_within : (q p : ℕ) (jobs : List OpenJob) → Walks kind body one q p jobs → Walks kind body other q p jobs
  walks_within _ _ _ starts = starts
  walks_within _ _ _ (body_moves {q} {p} {jobs} action walked there b) = body_moves action (walks_within q p jobs walked) there b
  walks_within _ _ _ (both_submit {q} {p} {jobs} step class walked in_body there is b) =
      let at = step_within step (slice_get one p) (slice_get other p) (within_at one other w p) there in
      both_submit at.other class (walks_within q p jobs walked) in_body at.is (submits_within step at.other class at.within is) b
  walks_within _ _ _ (path_gets {q} {p} {jobs} job class walked there is_open may b) =
      let at = step_within (step.Gets job) (slice_get one p) (slice_get other p) (within_at one other w p) there in
      path_gets job class (walks_within q p jobs walked) (at.is ∙ ap Some (gets_within at.other job at.within)) is_open may b

-- A body that the narrower path matches is one that the other path matches.
pub path_within : (kind : ActorKind) (path_state : PathState) (body : List Action) (one other : List PathStep) → IsNarrower one other → IsPathOf kind path_state body one → IsPathOf kind path_state body other
path_within kind Whole body one other w h = (h.0, subst (λ (n : ℕ). Walks kind body other (length body) n h.0) (same_length one other w) (walks_within kind body one other w (length body) (length one) h.0 h.1))
path_within kind Prefix body one other w h = (h.0, h.1, subst (λ (n : ℕ). Walks kind body other h.0 n h.1) (same_length one other w) (walks_within kind body one other w h.0 (length one) h.1 h.2))
