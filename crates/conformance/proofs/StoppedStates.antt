-- Where the walks stop, and why.
use Rattle.std.proofs.Common.{◌≡◌, ℕ, zero, suc, ◌+◌, map, ◌<◌, ◌≤◌, inl, inr, true, eqb, List, [], ◌∷◌, ◌++◌, length, Option, Some, None, refl, sym, ap, subst, ◌∙◌, slice_get, add-one, arith}
use Rattle.std.specs.declared.alloc.Global.{Global}
use Rattle.std.specs.declared.vec.Vec.{Vec}
use Rattle.std.proofs.lemmas.Bool.{cases_lt, false≢true, eq-eqb}
use Rattle.std.proofs.lemmas.List.{length-map}
use Rattle.std.proofs.lemmas.Option.{slice_get_within, same_Some}
use Rattle.support.specs.In.{In}
use Rattle.support.proofs.Members.{list_any_at_In, In-from_list_any, In-slice_get, not_In_nil}
use Rattle.job_bodies.specs.declared.action.Action.{Action}
use Rattle.job_bodies.specs.declared.action.Action.TheVariants.{Submit}
use Rattle.conformance.specs.declared.body_gets.BodyGet.{BodyGet}
use Rattle.conformance.specs.declared.open_excess.OpenExcess.{OpenExcess}
use Rattle.conformance.specs.declared.open_job.OpenJob.{OpenJob}
use Rattle.conformance.specs.declared.furthest.Reached.{Reached}
use Rattle.conformance.specs.declared.stop_reasons.SubmitAhead.{SubmitAhead}
use Rattle.conformance.specs.declared.step.ActorKind.{ActorKind}
use Rattle.conformance.specs.declared.step.PathStep.{PathStep}
use Rattle.conformance.specs.declared.step.PathStep.TheVariants as step
use Rattle.conformance.specs.declared.step.PathState.{PathState}
use Rattle.conformance.specs.declared.step.PathState.TheVariants.{Whole, Prefix}
use Rattle.conformance.specs.declared.path_match.PathMatch.TheVariants.{Deviates}
use Rattle.conformance.specs.declared.walk_state.WalkState.{WalkState}
use Rattle.conformance.specs.PathStep.{submits}
use Rattle.conformance.specs.Path.{Walks, both_submit, IsPathOf, count_in, is_submit_of}
use Rattle.conformance.specs.PathMatch.{IsMatch, HasManyOpenLists}
use Rattle.conformance.specs.declared.path_match.TheConstants.{MAX_OPEN_LISTS}
use Rattle.conformance.specs.BodyGets.{AreGets}
use Rattle.conformance.specs.BlockingGet.{IsLastReached, IsFree, IsBlocked, IsBlocking}
use Rattle.conformance.specs.OpenExcess.{IsSubmitAhead, IsOpenExcess, IsReason}
use Rattle.conformance.specs.MissingJob.{first_in, IsMissingJob}
use Rattle.conformance.specs.WalkState.{is_at}
use Rattle.conformance.specs.WalkStates.{AreStatesAt, AreDistinct, HasState, IsFurthestAt, IsFurthest, IsAhead, IsNextSubmit, AreAhead}
use Rattle.conformance.proofs.OpenCounts.{within_submit}
use Rattle.conformance.proofs.PassedGets as passed
use Rattle.conformance.proofs.OpenExcesses.{open_excess}
use Rattle.conformance.proofs.MissingJobs.{missing_job}
use Rattle.conformance.proofs.Walks.{walk_within, walk_in_body, explained_from_walks, explained_to_end, no_path_from_walks}
use Rattle.conformance.proofs.WalkStates.{submit_is}
use Rattle.conformance.proofs.StoppedWalks.{none_ahead_at_end}
use Rattle.conformance.proofs.StatesAfterSubmit.{any_is_in}

module _ (kind : ActorKind) (body : List Action) (path : List PathStep) (place : ℕ) (states : List WalkState) (are : AreStatesAt kind body path place states) where
  -- A walk, if there is a state.
  pub some_walk : HasState states → (index : ℕ) × (jobs : List OpenJob) × Walks kind body path index place jobs
  some_walk some = let state = are.each some.0 some.1 in (state.begun.0, some.0.jobs.items, state.sound state.begun.0 state.begun.1)

  -- No walk is past the furthest index.
  last_reached : (end : ℕ) (reached : Reached) (found : IsFurthestAt states end reached) (last : ℕ) → IsLastReached found.state.row.items (suc end) last
      → (index : ℕ) (others : List OpenJob) → Walks kind body path index place others → index ≤ end → index ≤ last
  last_reached end reached found last from index others w within =
      let r = are.complete index others w in
      let below = found.furthest r.state index r.is_in within r.at in
      elim (cases_lt last reached.index) [
        | inl later ↦ absurd (false≢true (sym (from.last reached.index later found.last.before) ∙ found.last.at))
        | inr less ↦ omega (arith, below, less)
      ]

  module _ (gets : List (Option BodyGet)) (are_gets : AreGets body gets) where
    -- The body can continue alone to an index.
    walk_to : (state : WalkState) → In state states → (end : ℕ) → end ≤ length body → IsFree state.row.items state.passes.items gets (suc end) end → Walks kind body path end place state.jobs.items
    walk_to state i end within free =
        let is = are.each state i in
        let before = free.from.before in
        passed.walk_over kind body path place state is.tables is.sound gets are_gets free.reached free.from.at end free.free end (omega (arith, before)) (omega arith) within

    -- ---- at a submit
    module _ (list : Vec ℕ Global) (at_path : slice_get path place ≡ Some (step.Submits list)) (classes : List ℕ) (same_classes : classes ≡ list.items) (none : (index : ℕ) (jobs : List OpenJob) → ¬ Walks kind body path index (place + 1) jobs) where
      may_be : (class : ℕ) → In class classes → submits (step.Submits list) class ≡ true
      may_be class i = list_any_at_In (λ k. eqb k class) (subst (λ (ks : List ℕ). In class ks) same_classes i) (eq-eqb class class refl)

      ahead_from : (submit : ℕ) → IsSubmitAhead kind body path place submit → IsAhead states body classes submit
      ahead_from submit ahead =
          let same : ahead.step ≡ step.Submits list = same_Some ahead.step (step.Submits list) (sym ahead.step_is ∙ at_path) in
          let r = are.complete ahead.reached ahead.jobs ahead.walk in
          record {
            of_any = list_any_at_In (λ (k : ℕ). is_submit_of k (slice_get body submit)) (subst (λ (ks : List ℕ). In ahead.class ks) (sym same_classes) (any_is_in ahead.class list.items (subst (λ (s : PathStep). submits s ahead.class ≡ true) same ahead.may_be)))
                (ap (is_submit_of ahead.class) ahead.submit_is ∙ eq-eqb ahead.class ahead.class refl);
            state = r.state;
            index = ahead.reached;
            is_in = r.is_in;
            before = ahead.ahead;
            at = r.at;
          }

      pub none_ahead : AreAhead states body classes None → IsReason kind body path place None
      none_ahead nothing submit ahead = nothing submit (ahead_from submit ahead)

      module _ (ahead : SubmitAhead) (found : IsNextSubmit states body classes ahead) (is_in : In found.reached.state states) where
        of_any : (class : ℕ) × In class classes × (is_submit_of class (slice_get body ahead.submit) ≡ true)
        of_any = In-from_list_any (λ (k : ℕ). is_submit_of k (slice_get body ahead.submit)) classes found.of_any

        submit_there : slice_get body ahead.submit ≡ Some (Submit of_any.0)
        submit_there = submit_is of_any.0 (slice_get body ahead.submit) of_any.2

        -- The body cannot reach the submit, as no walk makes it.
        pub not_free : IsFree found.reached.state.row.items found.reached.state.passes.items gets (suc ahead.submit) ahead.submit → ⊥
        not_free free =
            let lt = found.in_body in
            let w = walk_to found.reached.state is_in ahead.submit (omega (arith, lt)) free in
            let next = both_submit (step.Submits list) of_any.0 w submit_there at_path (may_be of_any.0 of_any.1)
            (within_submit found.reached.state.jobs.items body ahead.submit place of_any.0 submit_there (walk_within kind body path w)) in
            none (suc ahead.submit) (found.reached.state.jobs.items ++ record { job = place; class = of_any.0 } ∷ [])
            (subst (λ (n : ℕ). Walks kind body path (suc ahead.submit) n (found.reached.state.jobs.items ++ record { job = place; class = of_any.0 } ∷ [])) (sym (add-one place)) next)

        pub excess_ahead : (get : BodyGet) → IsBlocked found.reached.state.row.items found.reached.state.passes.items gets (suc ahead.submit) ahead.submit get
            → (excess : OpenExcess) → excess.class ≡ get.class → excess.open_jobs ≡ count_in get.class found.reached.state.jobs.items → excess.limit ≡ get.limit → IsOpenExcess kind body path place excess
        excess_ahead get way =
            let is = are.each found.reached.state is_in in
            open_excess kind body path place found.reached.state is.tables is.sound gets are_gets ahead.submit found.in_body get way
            (record {
              reached = way.reached;
              jobs = found.reached.state.jobs.items;
              walk = is.sound way.reached way.from.at;
              ahead = let lt = way.from.before in omega (arith, lt);
              step = step.Submits list;
              class = of_any.0;
              step_is = at_path;
              may_be = may_be of_any.0 of_any.1;
              submit_is = submit_there;
            })
            (λ other is_ahead. found.next other (ahead_from other is_ahead))
            (last_reached ahead.submit ahead.reached found.reached way.reached way.from)

    -- ---- at the end of the path
    module _ (short : (others : List OpenJob) → ¬ Walks kind body path (length body) place others) where
      pub none_reached : (index : ℕ) (jobs : List OpenJob) → Walks kind body path index place jobs → IsFurthest states (length body) None → ⊥
      none_reached index jobs w nothing =
          let r = are.complete index jobs w in
          false≢true (sym (nothing r.state index r.is_in (walk_in_body kind body path w)) ∙ r.at)

      pub not_at_end : (reached : Reached) (found : IsFurthestAt states (length body) reached) → In found.state states → IsBlocking found.state.row.items found.state.passes.items gets (length body) None → ⊥
      not_at_end reached found i free =
          let before = found.last.before in
          short found.state.jobs.items (walk_to found.state i (length body) (omega arith) (free reached.index (omega (arith, before)) found.last.at))

      pub missing_at_end : (reached : Reached) (found : IsFurthestAt states (length body) reached) → In found.state states → (get : BodyGet) → IsBlocked found.state.row.items found.state.passes.items gets (suc (length body)) (length body) get
          → (job : ℕ) × (first_in get.class found.state.jobs.items ≡ Some job) × IsMissingJob kind body path place job
      missing_at_end reached found i get way =
          let is = are.each found.state i in
          missing_job kind body path place found.state is.tables is.sound gets are_gets get way
          (λ index others w. last_reached (length body) reached found way.reached way.from index others w (walk_in_body kind body path w))

  -- ---- the results
  pub result_if_stopped : (path_state : PathState) → place < length path → HasState states → AreStatesAt kind body path (place + 1) []
      → (excess : Option OpenExcess) → IsReason kind body path place excess → IsMatch kind path_state body path (Deviates (record { length = place; excess = excess; missing = None }))
  result_if_stopped path_state lt some nothing excess reason =
      let w = some_walk some in
      let none : (index : ℕ) (jobs : List OpenJob) → ¬ Walks kind body path index (suc place) jobs = λ index jobs next. not_In_nil (nothing.complete index jobs (subst (λ (n : ℕ). Walks kind body path index n jobs) (sym (add-one place)) next)).is_in in
      (no_path_from_walks kind path_state body path place lt none, explained_from_walks kind body path place w.0 w.1 lt w.2 none excess reason)

-- ---- the results at the end of the path
module _ (kind : ActorKind) (body : List Action) (path : List PathStep) (states : List WalkState) (are : AreStatesAt kind body path (length path) states) where
  pub fits_at_prefix : HasState states → IsPathOf kind Prefix body path
  fits_at_prefix some = some_walk kind body path (length path) states are some

  pub fits_at_end : (state : WalkState) → In state states → is_at state (length body) ≡ true → IsPathOf kind Whole body path
  fits_at_end state i at = (state.jobs.items, (are.each state i).sound (length body) at)

  pub result_if_missing : HasState states → ((others : List OpenJob) → ¬ Walks kind body path (length body) (length path) others) → (job : ℕ) → IsMissingJob kind body path (length path) job
      → IsMatch kind Whole body path (Deviates (record { length = length path; excess = None; missing = Some job }))
  result_if_missing some short job is_missing =
      let w = some_walk kind body path (length path) states are some in
      ((λ of. short of.0 of.1), explained_to_end kind body path w.0 w.1 w.2 (none_ahead_at_end kind body path (length path) refl) job is_missing)

-- ---- many lists of open jobs
job_list_at : (states : List WalkState) (i : ℕ) (jobs : List OpenJob) → slice_get (map (λ (s : WalkState). s.jobs.items) states) i ≡ Some jobs → (state : WalkState) × (slice_get states i ≡ Some state) × (state.jobs.items ≡ jobs)
job_list_at [] i jobs at = let lt = slice_get_within [] i jobs at in absurd (omega (arith, lt))
job_list_at (state ∷ states) zero jobs at = (state, refl, same_Some state.jobs.items jobs at)
job_list_at (state ∷ states) (suc i) jobs at = job_list_at states i jobs at

pub many_lists : (kind : ActorKind) (body : List Action) (path : List PathStep) (place : ℕ) (states : List WalkState) → AreStatesAt kind body path place states → AreDistinct states → place ≤ length path → MAX_OPEN_LISTS < length states → HasManyOpenLists kind body path
many_lists kind body path place states are distinct within many = record {
  place = place;
  within = within;
  lists = map (λ (s : WalkState). s.jobs.items) states;
  many = let long = length-map states (λ (s : WalkState). s.jobs.items) in omega (arith, many, long);
  distinct = λ i j jobs at_i at_j.
      let one = job_list_at states i jobs at_i in
      let other = job_list_at states j jobs at_j in
      distinct i j one.0 other.0 one.1 other.1 (one.2 ∙ sym other.2);
  walks = λ i jobs at.
      let found = job_list_at states i jobs at in
      let state = are.each found.0 (In-slice_get states i found.0 found.1) in
      (state.begun.0, subst (λ (others : List OpenJob). Walks kind body path state.begun.0 place others) found.2 (state.sound state.begun.0 state.begun.1));
}
