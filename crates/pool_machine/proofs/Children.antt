-- Lemmas about the jobs for which actors wait.
use Rattle.std.proofs.Common.{◌≡◌, ◌≢◌, ℕ, ◌<◌, true, false, eqb, inl, inr, List, [], ◌∷◌, ◌++◌, length, get_or, Some, refl, sym, ap, ◌∙◌, arith}
use Rattle.std.proofs.lemmas.Bool.{false≢true, cases_eq, and_parts, and_from, and_left, and_right, eqb-true, eq-eqb, ne_eqb, false_from_ne_true}
use Rattle.std.proofs.lemmas.List.{get_or_append_left, get_or_push}
use Rattle.support.specs.Places.{places_where, last_of}
use Rattle.support.proofs.LastPlace.{last_where_is, last_where_push, last_where_push_fails}
use Rattle.pool_machine.specs.declared.parent.Parent.{Parent}
use Rattle.pool_machine.specs.declared.parent.Parent.TheVariants as parent
use Rattle.pool_machine.specs.State.{Stage, State, CreatedJob, no_job, same_parent, is_made_by}
use Rattle.pool_machine.specs.Step.{moved_jobs, new_job}
use Rattle.pool_machine.proofs.Positions.{At≢Claimed}
use Rattle.pool_machine.specs.Laws.{HasGreaterNumber}
use Rattle.pool_machine.proofs.StateInvariant.{HasChild}
use Rattle.pool_machine.proofs.Stages.{staged, stage-staged, get_or-staged_other, class-staged, child-stage}

-- ---- the creator of a job

pub same_actor_true : (a b : Parent) → same_parent a b ≡ true → a ≡ b
same_actor_true (parent.Client a) (parent.Client b) e = ap parent.Client (eqb-true a b e)
same_actor_true (parent.Job a) (parent.Job b) e = ap parent.Job (eqb-true a b e)
same_actor_true (parent.Client a) (parent.Job b) e = absurd (false≢true e)
same_actor_true (parent.Job a) (parent.Client b) e = absurd (false≢true e)

pub same_actor_refl : (a : Parent) → same_parent a a ≡ true
same_actor_refl (parent.Client a) = eq-eqb a a refl
same_actor_refl (parent.Job a) = eq-eqb a a refl

pub maker_of : (job : CreatedJob) (a : Parent) (t : ℕ) → is_made_by a t job ≡ true → (a ≡ job.parent) × (t ≡ job.slot)
maker_of job a t made =
    let parts = and_parts (same_parent a job.parent) (eqb t job.slot) made in
    (same_actor_true a job.parent parts.0, eqb-true t job.slot parts.1)

-- each job has one creator, and was created at one position
pub one_maker : (job : CreatedJob) (a b : Parent) (t u : ℕ) → is_made_by a t job ≡ true → is_made_by b u job ≡ true → (a ≡ b) × (t ≡ u)
one_maker job a b t u of_a of_b =
    let first = maker_of job a t of_a in
    let second = maker_of job b u of_b in
    (first.0 ∙ sym second.0, first.1 ∙ sym second.1)

-- the latest job that an actor created at a position exists, and the actor created it there
pub child_is : (jobs : List CreatedJob) (a : Parent) (t n : ℕ) → last_of (places_where (is_made_by a t) jobs) ≡ Some n → (n < length jobs) × (is_made_by a t (get_or jobs n no_job) ≡ true)
child_is jobs a t n e =
    let last = last_where_is (is_made_by a t) jobs n e in
    (last.inside, last.passes no_job)

-- a job is the latest job of at most one actor, at one position
pub one_child : (jobs : List CreatedJob) (a b : Parent) (t u n : ℕ) → last_of (places_where (is_made_by a t) jobs) ≡ Some n → last_of (places_where (is_made_by b u) jobs) ≡ Some n → (a ≡ b) × (t ≡ u)
one_child jobs a b t u n of_a of_b = one_maker (get_or jobs n no_job) a b t u (child_is jobs a t n of_a).1 (child_is jobs b u n of_b).1

-- ---- the latest job of an actor at a position, after a change of the jobs

pub HasChild-staged : (jobs : List CreatedJob) (j : ℕ) (stage : Stage) (a : Parent) (t k : ℕ) (child : HasChild jobs a t k) → (child.number ≡ j → stage ≢ Stage.Claimed) → HasChild (staged jobs j stage) a t k
HasChild-staged jobs j stage a t k child allowed = record {
  number = child.number;
  is_child = child-stage jobs a t j stage ∙ child.is_child;
  of_class = class-staged jobs j stage child.number no_job ∙ child.of_class;
  unclaimed = stays_unclaimed jobs j stage child.number (child_is jobs a t child.number child.is_child).0 child.unclaimed allowed;
  later = child.later;
}
  where
    stays_unclaimed : (jobs : List CreatedJob) (j : ℕ) (stage : Stage) (n : ℕ) → n < length jobs → (get_or jobs n no_job).stage ≢ Stage.Claimed → (n ≡ j → stage ≢ Stage.Claimed) → (get_or (staged jobs j stage) n no_job).stage ≢ Stage.Claimed
    stays_unclaimed jobs j stage n inside unclaimed allowed claimed = elim (cases_eq n j) [
      | inl same ↦
          let within : j < length jobs = omega arith in
          let is_stage : (get_or (staged jobs j stage) n no_job).stage ≡ stage = ap (λ (m : ℕ). (get_or (staged jobs j stage) m no_job).stage) same ∙ stage-staged jobs j stage within in
          allowed same (sym is_stage ∙ claimed)
      | inr other ↦ unclaimed (ap (λ (job : CreatedJob). job.stage) (sym (get_or-staged_other jobs j stage n no_job other)) ∙ claimed)
    ]

pub HasChild-moved : (s : State) (b : Parent) (i : ℕ) (a : Parent) (t k : ℕ) → HasChild s.jobs a t k → HasChild (moved_jobs b i s) a t k
HasChild-moved s (parent.Client c) i a t k child = child
HasChild-moved s (parent.Job j) i a t k child = HasChild-staged s.jobs j (Stage.At i) a t k child (λ same. At≢Claimed refl)

pub HasChild-pushed : (jobs : List CreatedJob) (job : CreatedJob) (a : Parent) (t k : ℕ) → is_made_by a t job ≡ false → HasChild jobs a t k → HasChild (jobs ++ job ∷ []) a t k
HasChild-pushed jobs job a t k of_other child =
    let inside = (child_is jobs a t child.number child.is_child).0 in
    let as_before : get_or (jobs ++ job ∷ []) child.number no_job ≡ get_or jobs child.number no_job = get_or_append_left jobs (job ∷ []) no_job child.number inside in
    record {
      number = child.number;
      is_child = last_where_push_fails (is_made_by a t) jobs job of_other ∙ child.is_child;
      of_class = ap (λ (x : CreatedJob). x.class) as_before ∙ child.of_class;
      unclaimed = λ claimed. child.unclaimed (ap (λ (x : CreatedJob). x.stage) (sym as_before) ∙ claimed);
      later = child.later;
    }

-- a new job is the latest job that its creator created at its position
pub HasChild_new : (jobs : List CreatedJob) (job : CreatedJob) (a : Parent) (t k : ℕ) → is_made_by a t job ≡ true → job.class ≡ k → job.stage ≢ Stage.Claimed → HasGreaterNumber a (length jobs) → HasChild (jobs ++ job ∷ []) a t k
HasChild_new jobs job a t k of_actor of_class unclaimed after =
    let is_new : get_or (jobs ++ job ∷ []) (length jobs) no_job ≡ job = get_or_push jobs job no_job (length jobs) refl in
    record {
      number = length jobs;
      is_child = last_where_push (is_made_by a t) jobs job of_actor;
      of_class = ap (λ (x : CreatedJob). x.class) is_new ∙ of_class;
      unclaimed = λ claimed. unclaimed (ap (λ (x : CreatedJob). x.stage) (sym is_new) ∙ claimed);
      later = after;
    }

-- ---- whether an actor created the new job

pub made_by_maker : (k : ℕ) (a : Parent) (i : ℕ) (stage : Stage) → is_made_by a i (new_job k a i stage) ≡ true
made_by_maker k a i stage = and_from (same_parent a a) (eqb i i) (same_actor_refl a) (eq-eqb i i refl)

pub not_at_slot : (k : ℕ) (a : Parent) (i : ℕ) (stage : Stage) (t : ℕ) → t ≢ i → is_made_by a t (new_job k a i stage) ≡ false
not_at_slot k a i stage t other = and_right (same_parent a a) (eqb t i) (ne_eqb t i other)

pub not_by_other : (k : ℕ) (a : Parent) (i : ℕ) (stage : Stage) (b : Parent) (t : ℕ) → b ≢ a → is_made_by b t (new_job k a i stage) ≡ false
not_by_other k a i stage b t other = and_left (same_parent b a) (eqb t i) (false_from_ne_true (same_parent b a) (λ same. other (same_actor_true b a same)))
