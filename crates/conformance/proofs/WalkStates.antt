-- The state of the walks after a step of the path.
use Rattle.std.proofs.Common.{◌≡◌, ℕ, zero, suc, ◌+◌, ◌<◌, ◌≤◌, ⊎_elim, Bool, true, false, ◌&&◌, ltb, List, length, get_or, Option, Some, None, sym, ap, subst, ◌∙◌, add-one, arith}
use Rattle.std.specs.Prelude.{slice_get}
use Rattle.std.specs.declared.alloc.Global.{Global}
use Rattle.std.specs.declared.vec.Vec.{Vec}
use Rattle.std.proofs.lemmas.Bool.{cases_lt, false≢true, and_parts, and_from, or_cases, or_left, or_right, eqb-true}
use Rattle.std.proofs.lemmas.List.{get_or_past}
use Rattle.std.proofs.lemmas.Option.{slice_get_within, slice_get-get_or}
use Rattle.job_bodies.specs.declared.action.Action.{Action}
use Rattle.job_bodies.specs.declared.action.Action.TheVariants.{Work, Submit, Get}
use Rattle.conformance.specs.declared.open_job.OpenJob.{OpenJob}
use Rattle.conformance.specs.declared.step.ActorKind.{ActorKind}
use Rattle.conformance.specs.declared.step.PathStep.{PathStep}
use Rattle.conformance.specs.declared.step.PathStep.TheVariants as step
use Rattle.conformance.specs.declared.walk_state.WalkState.{WalkState}
use Rattle.conformance.specs.PathStep.{submits}
use Rattle.conformance.specs.Path.{Walks, body_moves, both_submit, path_gets, open_class, is_submit_of}
use Rattle.conformance.specs.BodyGets.{get_at, can_pass}
use Rattle.conformance.specs.WalkState.{is_at, HasTables, IsAfterSubmit, IsAfterGetOf}
use Rattle.conformance.proofs.OpenCounts.{within_next, within_submit, within_without}
use Rattle.conformance.proofs.Walks.{walk_within, walk_in_body}

-- ---- rows
pub at_in_body : (body : List Action) (state : WalkState) → HasTables body state → (q : ℕ) → is_at state q ≡ true → q ≤ length body
at_in_body body state tables q h =
    ⊎_elim
    (λ lt. let e = tables.row_length in omega (arith, lt, e))
    (λ past. absurd (false≢true (sym (get_or_past state.row.items q false past) ∙ h)))
    (cases_lt q (length state.row.items))

pub submit_is : (class : ℕ) (o : Option Action) → is_submit_of class o ≡ true → o ≡ Some (Submit class)
submit_is class None h = absurd (false≢true h)
submit_is class (Some (Work units)) h = absurd (false≢true h)
submit_is class (Some (Submit other)) h = ap (λ k. Some (Submit k)) (eqb-true other class h)
submit_is class (Some (Get submit)) h = absurd (false≢true h)

pub no_submit_of_get : (job class : ℕ) (one : PathStep) → one ≡ step.Gets job → submits one class ≡ true → ⊥
no_submit_of_get job class one e h = false≢true (sym (ap (λ s. submits s class) e) ∙ h)

is_submit_step : PathStep → Bool
is_submit_step (step.Submits classes) = true
is_submit_step (step.Gets job) = false

pub submit_no_get : (classes : Vec ℕ Global) (job : ℕ) → step.Submits classes ≡ step.Gets job → ⊥
unfolding is_submit_step
submit_no_get classes job e = false≢true (sym (ap is_submit_step e))

pub same_get : (job other : ℕ) → ◌≡◌ {A = Option PathStep} (Some (step.Gets job)) (Some (step.Gets other)) → job ≡ other
same_get job other e = grind (arith, e)

pub at_next : (state : WalkState) (q : ℕ) → is_at state (q + 1) ≡ true → is_at state (suc q) ≡ true
at_next state q h = subst (λ n. is_at state n ≡ true) (add-one q) h

at_plus : (state : WalkState) (q : ℕ) → is_at state (suc q) ≡ true → is_at state (q + 1) ≡ true
at_plus state q h = subst (λ n. is_at state n ≡ true) (sym (add-one q)) h

module _ (kind : ActorKind) (body : List Action) (path : List PathStep) where
  -- The body moves alone.
  pub walk_moves : (q p : ℕ) (jobs : List OpenJob) → Walks kind body path q p jobs → q < length body → can_pass (get_at body q) jobs ≡ true → Walks kind body path (suc q) p jobs
  walk_moves q p jobs w lt passes =
      body_moves (get_or body q (Work 0)) w (slice_get-get_or body q (Work 0) lt) (within_next jobs body q (walk_within kind body path w) passes)

  -- ---- a submit
  module _ (p class : ℕ) (one : PathStep) (old new : WalkState) (sound : (index : ℕ) → is_at old index ≡ true → Walks kind body path index p old.jobs.items) (after : IsAfterSubmit body p class old new)
      (at_path : slice_get path p ≡ Some one) (may_be : submits one class ≡ true) where
    walk_submits : (q : ℕ) → is_at old q ≡ true → is_submit_of class (slice_get body q) ≡ true → Walks kind body path (suc q) (suc p) new.jobs.items
    walk_submits q at is_submit =
        let w = sound q at in
        let e = submit_is class (slice_get body q) is_submit in
        subst (λ jobs. Walks kind body path (suc q) (suc p) jobs) (sym after.jobs)
        (both_submit one class w e at_path may_be (within_submit old.jobs.items body q p class e (walk_within kind body path w)))

    pub sound_after_submit : (q : ℕ) → is_at new q ≡ true → Walks kind body path q (suc p) new.jobs.items
    sound_after_submit zero h = absurd (false≢true (sym after.first ∙ h))
    sound_after_submit (suc q) h =
        let in_body = at_in_body body new after.tables (suc q) h in
        let lt : q < length body = omega (arith, in_body) in
        let found = sym (after.rest q lt) ∙ at_plus new q h in
        ⊎_elim
        (λ left. let parts = and_parts (is_at old q) (is_submit_of class (slice_get body q)) left in walk_submits q parts.0 parts.1)
        (λ right.
        let parts = and_parts (is_at new q) (can_pass (get_at body q) new.jobs.items) right in
        walk_moves q (suc p) new.jobs.items (sound_after_submit q parts.0) lt parts.1)
        (or_cases (is_at old q && is_submit_of class (slice_get body q)) (is_at new q && can_pass (get_at body q) new.jobs.items) found)

    -- The body then continues alone as far as it may.
    pub closed_after_submit : (q : ℕ) → q < length body → is_at new q ≡ true → can_pass (get_at body q) new.jobs.items ≡ true → is_at new (suc q) ≡ true
    closed_after_submit q lt at passes = at_next new q (after.rest q lt ∙ or_right (is_at old q && is_submit_of class (slice_get body q)) (is_at new q && can_pass (get_at body q) new.jobs.items) (and_from (is_at new q) (can_pass (get_at body q) new.jobs.items) at passes))

    -- Both submit.
    pub at_after_submit : (q : ℕ) → is_at old q ≡ true → is_submit_of class (slice_get body q) ≡ true → is_at new (suc q) ≡ true
    at_after_submit q at is_submit =
        let lt = slice_get_within body q (Submit class) (submit_is class (slice_get body q) is_submit) in
        at_next new q (after.rest q lt ∙ or_left (is_at old q && is_submit_of class (slice_get body q)) (is_at new q && can_pass (get_at body q) new.jobs.items) (and_from (is_at old q) (is_submit_of class (slice_get body q)) at is_submit))

  -- ---- a get
  module _ (p job class : ℕ) (old new : WalkState) (sound : (index : ℕ) → is_at old index ≡ true → Walks kind body path index p old.jobs.items) (is_open : open_class job old.jobs.items ≡ Some class) (after : IsAfterGetOf kind body job class old new)
      (at_path : slice_get path p ≡ Some (step.Gets job)) where
    walk_gets : (q : ℕ) → (is_at old q && ltb q after.end) ≡ true → Walks kind body path q (suc p) new.jobs.items
    walk_gets q h =
        let parts = and_parts (is_at old q) (ltb q after.end) h in
        let w = sound q parts.0 in
        let may = (after.is_end q (walk_in_body kind body path w)).0 parts.1 in
        subst (λ jobs. Walks kind body path q (suc p) jobs) (sym after.jobs)
        (path_gets job class w at_path is_open may (within_without old.jobs.items body q job (walk_within kind body path w)))

    pub sound_after_get : (q : ℕ) → is_at new q ≡ true → Walks kind body path q (suc p) new.jobs.items
    sound_after_get zero h = walk_gets zero (sym after.first ∙ h)
    sound_after_get (suc q) h =
        let in_body = at_in_body body new after.tables (suc q) h in
        let lt : q < length body = omega (arith, in_body) in
        let found = sym (after.rest q lt) ∙ at_plus new q h in
        ⊎_elim
        (λ left. walk_gets (suc q) (subst (λ n. (is_at old n && ltb n after.end) ≡ true) (add-one q) left))
        (λ right.
        let parts = and_parts (is_at new q) (can_pass (get_at body q) new.jobs.items) right in
        walk_moves q (suc p) new.jobs.items (sound_after_get q parts.0) lt parts.1)
        (or_cases (is_at old (q + 1) && ltb (q + 1) after.end) (is_at new q && can_pass (get_at body q) new.jobs.items) found)

    pub kept_at : (q : ℕ) → q ≤ length body → (is_at old q && ltb q after.end) ≡ true → is_at new q ≡ true
    kept_at zero h kept = after.first ∙ kept
    kept_at (suc q) h kept =
        at_next new q (after.rest q (omega (arith, h)) ∙ or_left (is_at old (q + 1) && ltb (q + 1) after.end) (is_at new q && can_pass (get_at body q) new.jobs.items)
        (subst (λ n. (is_at old n && ltb n after.end) ≡ true) (sym (add-one q)) kept))

    pub closed_after_get : (q : ℕ) → q < length body → is_at new q ≡ true → can_pass (get_at body q) new.jobs.items ≡ true → is_at new (suc q) ≡ true
    closed_after_get q lt at passes = at_next new q (after.rest q lt ∙ or_right (is_at old (q + 1) && ltb (q + 1) after.end) (is_at new q && can_pass (get_at body q) new.jobs.items) (and_from (is_at new q) (can_pass (get_at body q) new.jobs.items) at passes))
