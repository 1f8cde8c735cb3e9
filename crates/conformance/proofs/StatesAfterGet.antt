-- The states after a get, if jobs may belong to several classes.
use Rattle.std.proofs.Common.{◌≡◌, ◌<◌, ℕ, suc, Bool, true, false, ltb, ⊎_elim, List, [], ◌∷◌, ◌++◌, length, Option, Some, None, refl, sym, ap, subst, ◌∙◌, slice_get, arith}
use Rattle.std.specs.Prelude.{slice_index_or}
use Rattle.std.proofs.lemmas.Bool.{false≢true, and_from}
use Rattle.std.proofs.lemmas.Option.{slice_get_within, same_Some}
use Rattle.support.specs.In.{In, here}
use Rattle.support.proofs.Members.{not_In_nil, In-append_left, In-append_right, In-push_cases}
use Rattle.job_bodies.specs.declared.action.Action.{Action}
use Rattle.conformance.specs.declared.open_job.OpenJob.{OpenJob}
use Rattle.conformance.specs.declared.step.ActorKind.{ActorKind}
use Rattle.conformance.specs.declared.step.PathStep.{PathStep}
use Rattle.conformance.specs.declared.step.PathStep.TheVariants as step
use Rattle.conformance.specs.declared.walk_state.WalkState.{WalkState}
use Rattle.conformance.specs.Path.{Walks, open_class, without}
use Rattle.conformance.specs.BodyGets.{get_at, can_pass}
use Rattle.conformance.specs.WalkState.{is_at, HasTables, IsAfterGet, IsBegun}
use Rattle.conformance.specs.WalkStates.{AreStatesAt, IsStateOf, IsRepresented, AreAfterGet, IsMerged, AreMerged}
use Rattle.conformance.proofs.OpenCounts.{can_pass_from_within}
use Rattle.conformance.proofs.Walks.{walk_last, walk_in_body}
use Rattle.conformance.proofs.WalkStates.{sound_after_get, closed_after_get, kept_at, at_in_body, no_submit_of_get, same_get}

-- ---- one state more
pub none_after_get : (kind : ActorKind) (body : List Action) (job : ℕ) → AreAfterGet kind body job [] []
none_after_get kind body job = record {
  from = λ state i. absurd (not_In_nil i);
  to = λ before i. absurd (not_In_nil i);
}

pub one_after_get : (kind : ActorKind) (body : List Action) (job : ℕ) (old new : List WalkState) (before state : WalkState) → AreAfterGet kind body job old new → IsAfterGet kind body job before state → IsBegun state
    → AreAfterGet kind body job (old ++ before ∷ []) (new ++ state ∷ [])
one_after_get kind body job old new before state are after begun = record {
  from = λ one i. ⊎_elim
      (λ earlier. let found = are.from one earlier in (found.0, In-append_left (before ∷ []) found.1, found.2, found.3))
      (λ same. (before, In-append_right old here, subst (λ (s : WalkState). IsAfterGet kind body job before s) (sym same) after, subst IsBegun (sym same) begun))
      (In-push_cases new state i);
  to = λ one i. ⊎_elim
      (λ earlier. let found = are.to one earlier in (found.0, found.1, λ is. In-append_left (state ∷ []) (found.2 is)))
      (λ same. (state, subst (λ (s : WalkState). IsAfterGet kind body job s state) (sym same) after, λ is. In-append_right new here))
      (In-push_cases old before i);
}

-- No walk is left in the state.
pub none_more_after_get : (kind : ActorKind) (body : List Action) (job : ℕ) (old new : List WalkState) (before state : WalkState) → AreAfterGet kind body job old new → IsAfterGet kind body job before state → (IsBegun state → ⊥)
    → AreAfterGet kind body job (old ++ before ∷ []) new
none_more_after_get kind body job old new before state are after none = record {
  from = λ one i. let found = are.from one i in (found.0, In-append_left (before ∷ []) found.1, found.2, found.3);
  to = λ one i. ⊎_elim
      (λ earlier. are.to one earlier)
      (λ same. (state, subst (λ (s : WalkState). IsAfterGet kind body job s state) (sym same) after, λ is. absurd (none is)))
      (In-push_cases old before i);
}

-- ---- all walks
module _ (kind : ActorKind) (body : List Action) (path : List PathStep) (p job : ℕ) (old new : List WalkState)
    (at_path : slice_get path p ≡ Some (step.Gets job)) (states : AreStatesAt kind body path p old) (after : AreAfterGet kind body job old new) where
  state_if : (o : Option ℕ) (before state : WalkState) → open_class job before.jobs.items ≡ o → IsStateOf kind body path p before → IsAfterGet kind body job before state → IsBegun state → IsStateOf kind body path (suc p) state
  state_if None before state e is got begun = absurd (false≢true (sym (got.missing e begun.0) ∙ begun.1))
  state_if (Some class) before state e is got begun = record {
    tables = (got.got class e).tables;
    begun = begun;
    sound = sound_after_get kind body path p job class before state is.sound e (got.got class e) at_path;
    closed = closed_after_get kind body path p job class before state is.sound e (got.got class e) at_path;
  }

  state_of : (state : WalkState) → In state new → IsStateOf kind body path (suc p) state
  state_of state i = let found = after.from state i in state_if (open_class job found.0.jobs.items) found.0 state refl (states.each found.0 found.1) found.2 found.3

  represented : {q : ℕ} {jobs : List OpenJob} → Walks kind body path q (suc p) jobs → IsRepresented new q jobs
  represented =
      walk_last kind body path (λ q jobs. IsRepresented new q jobs)
      (λ q jobs action e within r. record {
        state = r.state;
        is_in = r.is_in;
        jobs_are = r.jobs_are;
        at = (state_of r.state r.is_in).closed q (slice_get_within body q action e) r.at (subst (λ (others : List OpenJob). can_pass (get_at body q) others ≡ true) r.jobs_are (can_pass_from_within jobs body q within));
      })
      (λ q jobs other class w e s c. absurd (no_submit_of_get job class other (same_Some other (step.Gets job) (sym s ∙ at_path)) c))
      (λ q jobs other class w s o m.
      let same : other ≡ job = same_get other job (sym s ∙ at_path) in
      let r = states.complete q jobs w in
      let found = after.to r.state r.is_in in
      let is_open : open_class job r.state.jobs.items ≡ Some class = ap (λ (j : ℕ). open_class j r.state.jobs.items) (sym same) ∙ (sym (ap (open_class other) r.jobs_are) ∙ o) in
      let got = found.1.got class is_open in
      let in_body = walk_in_body kind body path w in
      let may = (got.is_end q in_body).1 m in
      let at : is_at found.0 q ≡ true = kept_at kind body path p job class r.state found.0 (states.each r.state r.is_in).sound is_open got at_path q in_body (and_from (is_at r.state q) (ltb q got.end) r.at may) in
      record {
        state = found.0;
        is_in = found.2 (q, at);
        jobs_are = ap (without other) r.jobs_are ∙ (ap (λ (j : ℕ). without j r.state.jobs.items) same ∙ sym got.jobs);
        at = at;
      })

  pub states_after_get : AreStatesAt kind body path (suc p) new
  states_after_get = record {
    each = state_of;
    complete = λ q jobs w. represented w;
  }

-- ---- one state in place of all that have the same open jobs
module _ (kind : ActorKind) (body : List Action) (path : List PathStep) (p : ℕ) (old new : List WalkState) (states : AreStatesAt kind body path p old) (merged : AreMerged old new) where
  in_row : (one state : WalkState) → HasTables body one → HasTables body state → (q : ℕ) → is_at state q ≡ true → q < length one.row.items
  in_row one state tables others q at =
      let within = at_in_body body state others q at in
      let long = tables.row_length in
      omega (arith, within, long)

  merged_state : (one state : WalkState) → In one old → IsMerged old one state → IsStateOf kind body path p state
  merged_state one state i is =
      let before = states.each one i in
      record {
        tables = record {
          row_length = is.row_length ∙ before.tables.row_length;
          passes_length = ap length is.passes ∙ before.tables.passes_length;
          passes = λ index lt. ap (λ (passes : List Bool). slice_index_or passes index false) is.passes ∙ (before.tables.passes index lt ∙ ap (can_pass (get_at body index)) (sym is.jobs));
        };
        begun = (before.begun.0, is.to before.begun.0 one i refl before.begun.1 (in_row one one before.tables before.tables before.begun.0 before.begun.1));
        sound = λ q at.
            let found = is.from q at in
            subst (λ (jobs : List OpenJob). Walks kind body path q p jobs) (found.2 ∙ sym is.jobs) ((states.each found.0 found.1).sound q found.3);
        closed = λ q lt at passes.
            let found = is.from q at in
            let other = states.each found.0 found.1 in
            let next = other.closed q lt found.3 (subst (λ (jobs : List OpenJob). can_pass (get_at body q) jobs ≡ true) (is.jobs ∙ sym found.2) passes) in
            is.to (suc q) found.0 found.1 found.2 next (in_row one found.0 before.tables other.tables (suc q) next);
      }

  pub states_merged : AreStatesAt kind body path p new
  states_merged = record {
    each = λ state i. let found = merged.from state i in merged_state found.0 state found.1 found.2;
    complete = λ q jobs w.
        let r = states.complete q jobs w in
        let kept = merged.to r.state r.is_in in
        let found = merged.from kept.0 kept.1 in
        let one = states.each found.0 found.1 in
        record {
          state = kept.0;
          is_in = kept.1;
          jobs_are = r.jobs_are ∙ sym kept.2;
          at = found.2.to q r.state r.is_in (sym kept.2 ∙ found.2.jobs) r.at (in_row found.0 r.state one.tables (states.each r.state r.is_in).tables q r.at);
        };
  }
