-- The choices by which a machine's actor that lags passes the actions of its body.
use Rattle.std.proofs.Common.{◌≡◌, ◌≢◌, ℕ, zero, suc, ◌+◌, ◌<◌, ◌⊎◌, inl, inr, ⊎_elim, Bool, true, false, cond, ◌&&◌, ◌||◌, not, eqb, List, [], ◌∷◌, ◌++◌, length, get_or, slice_get, Option, Some, None, refl, sym, ap, ap₂, subst, ◌∙◌, arith, add-one}
use Rattle.std.proofs.lemmas.Bool.{false≢true, and_from, cases_eq, eq-eqb, not-true, false_from_ne_true}
use Rattle.std.proofs.lemmas.List.{length-map, get_or_push}
use Rattle.std.proofs.lemmas.Option.{none-some, slice_get-get_or}
use Rattle.support.specs.In.{In}
use Rattle.support.specs.Places.{places_where, last_of}
use Rattle.support.proofs.Members.{In-push_cases, In-filter_from}
use Rattle.support.proofs.LastPlace.{last_where_push}
use Rattle.job_bodies.specs.declared.action.Action.{Action}
use Rattle.job_bodies.specs.declared.action.Action.TheVariants as action
use Rattle.job_bodies.specs.Plan.{Plan, class_of_submit, submitted_class}
use Rattle.job_bodies.proofs.Bodies.{HasValidBodies}
use Rattle.pool_machine.specs.declared.parent.Parent.{Parent}
use Rattle.pool_machine.specs.declared.parent.Parent.TheVariants as parent
use Rattle.pool_machine.specs.declared.event.Outcome.{Outcome}
use Rattle.pool_machine.specs.declared.event.Outcome.TheVariants as outcome
use Rattle.pool_machine.specs.State.{Stage, State, CreatedJob, no_job, is_made_by, job_at, pool_of}
use Rattle.pool_machine.specs.Step.{point, moved_jobs, with_position, with_stage, new_job, skipped, got, got_child, step_action, step_at_point, step}
use Rattle.pool_machine.proofs.Stages.{staged, length-staged, get_or-staged_other, child-stage, child-moved}
use Rattle.pool_machine.proofs.Positions.{valid_point}
use Rattle.pool_machine.proofs.Children.{one_child, made_by_maker, not_at_slot}
use Rattle.cert_text.specs.Cert.{Cert}
use Rattle.soundness.specs.Execute.{JavaState, is_calling, submission_at, submission_of, submission, as_atomic, java_stepped}
use Rattle.soundness.specs.Exchange.{exchanged_job, after_exchange, is_claimed, are_alike, both_alike, can_exchange}
use Rattle.soundness.specs.Skipping.{Choice, choice_step, skip_submit, event_of_actor}
use Rattle.soundness.specs.Skipping.Choice.{Acts, Skips, Exchanges}
use Rattle.soundness.proofs.AnyOrder.{acts_alone}
use Rattle.soundness.proofs.CertLaws.{CertLaws}
use Rattle.soundness.proofs.Skipping.{choice_keeps}
use Rattle.soundness.proofs.ExchangedJobs.{exchanges_swap_two_gets, point-exchanged}
use Rattle.conformance.specs.Path.{open_after_action, open_in_body}
use Rattle.conformance.specs.LaggingRun.{MachineJob, is_open, Passes, arrives, works, skips, gets, exchanges}
use Rattle.conformance.proofs.MachineJobs.{member_open}
use Rattle.conformance.proofs.OpenSubmits.{open_below, get_is_open}
use Rattle.conformance.proofs.Undisturbed.{KeepsJobs, keeps_both, keeps_moved, keeps_pushed, at_not_done, done_not_claimed, HasPosition, has_position_moved, stands_staged, stands_pushed, not_that_job}
use Rattle.conformance.proofs.OthersAct.{IsQuiet}
use Rattle.conformance.proofs.Lagging.{HasSlot, IsOwn, Lags, slot_kept, own_kept, free_slot}

-- ---- the actor's event
pub submission_of_actor : (plan : Plan) (s : State) (a : Parent) → submission plan s (event_of_actor a) ≡ submission_of a (point plan s a)
submission_of_actor plan s (parent.Client c) = refl
submission_of_actor plan s (parent.Job j) = refl

step_of_actor : (plan : Plan) (s : State) (a : Parent) → step plan s (event_of_actor a) ≡ step_at_point plan s a (point plan s a)
step_of_actor plan s (parent.Client c) = refl
step_of_actor plan s (parent.Job j) = refl

-- At an action that is no submit, the actor's event is that of the machine.
acts_step : (plan : Plan) (a : Parent) (body : List Action) (m : ℕ) (s : JavaState) (there : Option Action) (after : State) (o : Outcome) → HasPosition plan s.machine a body m → slice_get body m ≡ there → submission_at a m there ≡ None → step_action plan s.machine a m there ≡ Some (after, o)
    → choice_step plan s (Acts (event_of_actor a)) ≡ Some (record s { machine = after })
acts_step plan a body m s there after o stands is_there no_submit stepped =
    let none : submission plan s.machine (event_of_actor a) ≡ None = submission_of_actor plan s.machine a ∙ ap (submission_of a) stands ∙ ap (submission_at a m) is_there ∙ no_submit in
    let goes : step plan s.machine (event_of_actor a) ≡ Some (after, o) = step_of_actor plan s.machine a ∙ ap (step_at_point plan s.machine a) stands ∙ ap (step_action plan s.machine a m) is_there ∙ stepped in
    ap (java_stepped plan s (event_of_actor a)) none ∙ acts_alone plan s a ∙ ap (as_atomic s) goes

-- At a submit that has not begun, the actor can skip it.
skip_step : (plan : Plan) (a : Parent) (body : List Action) (m k : ℕ) (s : JavaState) → HasPosition plan s.machine a body m → slice_get body m ≡ Some (action.Submit k) → IsQuiet a s
    → choice_step plan s (Skips (event_of_actor a)) ≡ Some (record s { machine = skipped s.machine a m k })
skip_step plan a body m k s stands e quiet =
    let found = submission_of_actor plan s.machine a ∙ ap (submission_of a) stands ∙ ap (submission_at a m) e in
    let p = pool_of plan k in
    let not_offering = false_from_ne_true (is_calling s.offering a p) (quiet p).0 in
    let not_requesting = false_from_ne_true (is_calling s.requesting a p) (quiet p).1 in
    ap (skip_submit plan s) found ∙ ap₂ (λ (x y : Bool). cond (x || y) None (Some (record s { machine = skipped s.machine a m k }))) not_offering not_requesting

not_is_claimed : (stage : Stage) → stage ≢ Stage.Claimed → not (is_claimed stage) ≡ true
not_is_claimed Stage.Queued other = refl
not_is_claimed (Stage.At i) other = refl
not_is_claimed Stage.Done other = refl
not_is_claimed Stage.Claimed other = absurd (other refl)

-- ---- a slot after a change
-- A job that was not got now is at the slot of another submit of the class.
slot_moved : (a : Parent) (body : List Action) (jobs : List MachineJob) (list list' : List CreatedJob) (v w : ℕ) → last_of (places_where (is_made_by a w) list') ≡ last_of (places_where (is_made_by a v) list) → submitted_class body v ≡ submitted_class body w
    → ((n : ℕ) → (get_or list' n no_job).class ≡ (get_or list n no_job).class) → ((n : ℕ) → (get_or list' n no_job).stage ≡ (get_or list n no_job).stage) → HasSlot list a body jobs v → HasSlot list' a body jobs w
slot_moved a body jobs list list' v w same class classes stages slot = record {
  number = slot.number;
  is_child = same ∙ slot.is_child;
  of_class = classes slot.number ∙ slot.of_class ∙ class;
  unclaimed = λ claimed. slot.unclaimed (sym (stages slot.number) ∙ claimed);
  filled = ⊎_elim (λ there. inl there) (λ is. inr (stages slot.number ∙ is)) slot.filled;
}

-- Another job changes its stage.
slot_beside : (a : Parent) (body : List Action) (jobs : List MachineJob) (list : List CreatedJob) (n t : ℕ) (stage : Stage) → (slot : HasSlot list a body jobs t) → slot.number ≢ n → HasSlot (staged list n stage) a body jobs t
slot_beside a body jobs list n t stage slot other =
    let same = get_or-staged_other list n stage slot.number no_job other in
    record {
      number = slot.number;
      is_child = child-stage list a t n stage ∙ slot.is_child;
      of_class = ap (λ (job : CreatedJob). job.class) same ∙ slot.of_class;
      unclaimed = λ claimed. slot.unclaimed (sym (ap (λ (job : CreatedJob). job.stage) same) ∙ claimed);
      filled = ⊎_elim (λ there. inl there) (λ is. inr (ap (λ (job : CreatedJob). job.stage) same ∙ is)) slot.filled;
    }

own_beside : (a : Parent) (one : MachineJob) (list : List CreatedJob) (n : ℕ) (stage : Stage) → IsOwn list a one → one.number ≢ n → IsOwn (staged list n stage) a one
own_beside a one list n stage own other =
    let same = get_or-staged_other list n stage one.number no_job other in
    record {
      inside = let lt = own.inside in let long = length-staged list n stage in omega (arith, lt, long);
      of_actor = ap (λ (job : CreatedJob). job.parent) same ∙ own.of_actor;
      of_class = ap (λ (job : CreatedJob). job.class) same ∙ own.of_class;
      unclaimed = λ claimed. own.unclaimed (sym (ap (λ (job : CreatedJob). job.stage) same) ∙ claimed);
    }

-- A new job at its slot.
pub slot_new : (a : Parent) (body : List Action) (jobs : List MachineJob) (list : List CreatedJob) (k m : ℕ) (stage : Stage) → slice_get body m ≡ Some (action.Submit k) → stage ≢ Stage.Claimed → (is_open (length list) jobs ≡ true) ⊎ (stage ≡ Stage.Done)
    → HasSlot (list ++ new_job k a m stage ∷ []) a body jobs m
slot_new a body jobs list k m stage e unclaimed filled =
    let job = new_job k a m stage in
    let is_new : get_or (list ++ job ∷ []) (length list) no_job ≡ job = get_or_push list job no_job (length list) refl in
    record {
      number = length list;
      is_child = last_where_push (is_made_by a m) list job (made_by_maker k a m stage);
      of_class = ap (λ (x : CreatedJob). x.class) is_new ∙ sym (ap class_of_submit e);
      unclaimed = λ claimed. unclaimed (sym (ap (λ (x : CreatedJob). x.stage) is_new) ∙ claimed);
      filled = ⊎_elim (λ there. inl there) (λ is. inr (ap (λ (x : CreatedJob). x.stage) is_new ∙ is)) filled;
    }

-- The actor's jobs are kept when it moves and a job of its submit at m is created.
pub keeps_submit : (plan : Plan) (a : Parent) (body : List Action) (m k : ℕ) (stage : Stage) (s : State) → HasPosition plan s a body m → KeepsJobs a m s.jobs (moved_jobs a (m + 1) s ++ new_job k a m stage ∷ [])
keeps_submit plan a body m k stage s stands =
    keeps_both a m s.jobs (moved_jobs a (m + 1) s) (moved_jobs a (m + 1) s ++ new_job k a m stage ∷ []) (keeps_moved plan a m s a body m (m + 1) stands)
    (keeps_pushed a m (moved_jobs a (m + 1) s) (new_job k a m stage) (λ t lt. not_at_slot k a m stage t (λ (same : t ≡ m). omega (arith, lt, same))))

module _ (plan : Plan) (cert : Cert) (a : Parent) (body : List Action) (ordered : HasValidBodies plan) (laws : CertLaws plan cert) where
  -- The actor has passed one action.
  pub record HasPassed (jobs : List MachineJob) (m q : ℕ) (s : JavaState) : Type 0 where
    pub after : JavaState
    pub lags : Lags plan cert a body jobs (suc m) q after
    pub quiet : IsQuiet a after
    pub passes : (j : ℕ) (s' : JavaState) → Passes plan a body jobs (suc m) after j s' → Passes plan a body jobs m s j s'

  next_lags : (jobs : List MachineJob) (m q : ℕ) (o : Action) (s s' : JavaState) → Lags plan cert a body jobs m q s → m < q → slice_get body m ≡ Some o → (x : Choice) → choice_step plan s x ≡ Some s' → HasPosition plan s'.machine a body (m + 1)
      → ((one : MachineJob) → In one jobs → IsOwn s'.machine.jobs a one) → ((t : ℕ) → In t (open_after_action (Some o) m (open_in_body body m)) → HasSlot s'.machine.jobs a body jobs t)
      → Lags plan cert a body jobs (suc m) q s'
  next_lags jobs m q o s s' lags lt e x stepped stands own slots = record {
    sound = choice_keeps plan cert ordered laws s x s' lags.sound stepped;
    stands = subst (HasPosition plan s'.machine a body) (add-one m) stands;
    behind = omega (arith, lt);
    inside = lags.inside;
    within = λ i le le'. lags.within i (omega (arith, le)) le';
    own = own;
    slots = λ t i. slots t (subst (In t) (ap (λ (there : Option Action). open_after_action there m (open_in_body body m)) e) i);
  }

  pass_work : (jobs : List MachineJob) (m q units : ℕ) (s : JavaState) → Lags plan cert a body jobs m q s → IsQuiet a s → m < q → slice_get body m ≡ Some (action.Work units) → HasPassed jobs m q s
  pass_work jobs m q units s lags quiet lt e =
      let after : JavaState = record s { machine = with_position a (m + 1) s.machine } in
      let stepped : choice_step plan s (Acts (event_of_actor a)) ≡ Some after = acts_step plan a body m s (Some (action.Work units)) (with_position a (m + 1) s.machine) (outcome.Worked units) lags.stands e refl refl in
      let keeps = keeps_moved plan a m s.machine a body m (m + 1) lags.stands in
      record {
        after = after;
        lags = next_lags jobs m q (action.Work units) s after lags lt e (Acts (event_of_actor a)) stepped (has_position_moved plan s.machine a body m (m + 1) lags.stands)
            (λ one i. own_kept a m one s.machine.jobs after.machine.jobs keeps (lags.own one i))
            (λ t i. slot_kept a body jobs m t s.machine.jobs after.machine.jobs keeps (open_below body m t i) (lags.slots t i));
        quiet = quiet;
        passes = λ j s' rest. works units e stepped rest;
      }

  pass_submit : (jobs : List MachineJob) (m q k : ℕ) (s : JavaState) → Lags plan cert a body jobs m q s → IsQuiet a s → m < q → slice_get body m ≡ Some (action.Submit k) → HasPassed jobs m q s
  pass_submit jobs m q k s lags quiet lt e =
      let after : JavaState = record s { machine = skipped s.machine a m k } in
      let moved : State = with_position a (m + 1) s.machine in
      let stepped = skip_step plan a body m k s lags.stands e quiet in
      let keeps = keeps_submit plan a body m k Stage.Done s.machine lags.stands in
      record {
        after = after;
        lags = next_lags jobs m q (action.Submit k) s after lags lt e (Skips (event_of_actor a)) stepped
            (stands_pushed plan moved a (new_job k a m Stage.Done) body (m + 1) (has_position_moved plan s.machine a body m (m + 1) lags.stands))
            (λ one i. own_kept a m one s.machine.jobs after.machine.jobs keeps (lags.own one i))
            (λ t i. ⊎_elim (λ old. slot_kept a body jobs m t s.machine.jobs after.machine.jobs keeps (open_below body m t old) (lags.slots t old))
            (λ (new : t ≡ m). subst (HasSlot after.machine.jobs a body jobs) (sym new) (slot_new a body jobs (moved_jobs a (m + 1) s.machine) k m Stage.Done e done_not_claimed (inr refl)))
            (In-push_cases (open_in_body body m) m i));
        quiet = quiet;
        passes = λ j s' rest. skips k e stepped rest;
      }

  -- The get of a job that is not open in the path.
  pass_free : (jobs : List MachineJob) (m q t : ℕ) (s : JavaState) → Lags plan cert a body jobs m q s → IsQuiet a s → m < q → slice_get body m ≡ Some (action.Get t) → (slot : HasSlot s.machine.jobs a body jobs t) → is_open slot.number jobs ≡ false → HasPassed jobs m q s
  pass_free jobs m q t s lags quiet lt e slot free =
      let n = slot.number in
      let moved : State = with_position a (m + 1) s.machine in
      let after : JavaState = record s { machine = with_stage n Stage.Claimed moved } in
      let done : (job_at s.machine n).stage ≡ Stage.Done = ⊎_elim (λ there. absurd (false≢true (sym free ∙ there))) (λ is. is) slot.filled in
      let stepped : choice_step plan s (Acts (event_of_actor a)) ≡ Some after =
      acts_step plan a body m s (Some (action.Get t)) (with_stage n Stage.Claimed moved) (outcome.Got n) lags.stands e refl (ap (got_child s.machine a m) slot.is_child ∙ ap (got s.machine a m n) done) in
      let keeps = keeps_moved plan a m s.machine a body m (m + 1) lags.stands in
      let stands = stands_staged plan moved a n Stage.Claimed body (m + 1) (not_that_job plan s.machine a n body m (λ i at. at_not_done i at done) lags.stands) (has_position_moved plan s.machine a body m (m + 1) lags.stands) in
      record {
        after = after;
        lags = next_lags jobs m q (action.Get t) s after lags lt e (Acts (event_of_actor a)) stepped stands
            (λ one i. own_beside a one (moved_jobs a (m + 1) s.machine) n Stage.Claimed (own_kept a m one s.machine.jobs (moved_jobs a (m + 1) s.machine) keeps (lags.own one i))
            (λ same. false≢true (sym (ap (λ (k : ℕ). is_open k jobs) same ∙ free) ∙ member_open jobs one i)))
            (λ u i.
            let kept = In-filter_from (λ (other : ℕ). not (eqb other t)) (open_in_body body m) i in
            let old = slot_kept a body jobs m u s.machine.jobs (moved_jobs a (m + 1) s.machine) keeps (open_below body m u kept.0) (lags.slots u kept.0) in
            slot_beside a body jobs (moved_jobs a (m + 1) s.machine) n u Stage.Claimed old
            (λ same. false≢true (sym (not-true (eqb u t) kept.1) ∙ eq-eqb u t (one_child (moved_jobs a (m + 1) s.machine) a a u t n (old.is_child ∙ ap (λ (k : ℕ). Some k) same) (child-moved s.machine a (m + 1) a t ∙ slot.is_child)).1)));
        quiet = quiet;
        passes = λ j s' rest. gets t n e slot.is_child free stepped rest;
      }

  -- ---- an exchange
  exchange_step : (jobs : List MachineJob) (m q t u : ℕ) (s : JavaState) → (first : HasSlot s.machine.jobs a body jobs t) (second : HasSlot s.machine.jobs a body jobs u) → submitted_class body u ≡ submitted_class body t
      → choice_step plan s (Exchanges a t u) ≡ Some (record s { machine = after_exchange a t u s.machine })
  exchange_step jobs m q t u s first second class =
      let i = first.number in
      let j = second.number in
      let alike : are_alike (job_at s.machine i) (job_at s.machine j) ≡ true =
      and_from (eqb (job_at s.machine i).class (job_at s.machine j).class) (not (is_claimed (job_at s.machine i).stage) && not (is_claimed (job_at s.machine j).stage))
      (eq-eqb (job_at s.machine i).class (job_at s.machine j).class (first.of_class ∙ sym class ∙ sym second.of_class))
      (and_from (not (is_claimed (job_at s.machine i).stage)) (not (is_claimed (job_at s.machine j).stage)) (not_is_claimed (job_at s.machine i).stage first.unclaimed) (not_is_claimed (job_at s.machine j).stage second.unclaimed)) in
      let can : can_exchange s.machine a t u ≡ true = ap₂ (both_alike s.machine) first.is_child second.is_child ∙ alike in
      ap (λ (b : Bool). cond b (Some (record s { machine = after_exchange a t u s.machine })) None) can

  swapped_slots : (jobs : List MachineJob) (t u w : ℕ) (s : JavaState) → submitted_class body u ≡ submitted_class body t → HasSlot s.machine.jobs a body jobs t → HasSlot s.machine.jobs a body jobs u → HasSlot s.machine.jobs a body jobs w
      → (w ≡ t) ⊎ (w ≢ t) → (w ≡ u) ⊎ (w ≢ u) → HasSlot (after_exchange a t u s.machine).jobs a body jobs w
  swapped_slots jobs t u w s class first second slot (inl at_first) at_second =
      let swap = exchanges_swap_two_gets s.machine a t u in
      subst (HasSlot (after_exchange a t u s.machine).jobs a body jobs) (sym at_first) (slot_moved a body jobs s.machine.jobs (after_exchange a t u s.machine).jobs u t swap.first class swap.classes swap.stages second)
  swapped_slots jobs t u w s class first second slot (inr not_first) (inl at_second) =
      let swap = exchanges_swap_two_gets s.machine a t u in
      subst (HasSlot (after_exchange a t u s.machine).jobs a body jobs) (sym at_second) (slot_moved a body jobs s.machine.jobs (after_exchange a t u s.machine).jobs t u swap.second (sym class) swap.classes swap.stages first)
  swapped_slots jobs t u w s class first second slot (inr not_first) (inr not_second) =
      let swap = exchanges_swap_two_gets s.machine a t u in
      slot_moved a body jobs s.machine.jobs (after_exchange a t u s.machine).jobs w w (swap.positions w not_first not_second) refl swap.classes swap.stages slot

  exchanged_lags : (jobs : List MachineJob) (m q t u : ℕ) (s : JavaState) → Lags plan cert a body jobs m q s → HasSlot s.machine.jobs a body jobs t → HasSlot s.machine.jobs a body jobs u → submitted_class body u ≡ submitted_class body t
      → Lags plan cert a body jobs m q (record s { machine = after_exchange a t u s.machine })
  exchanged_lags jobs m q t u s lags first second class =
      let after : JavaState = record s { machine = after_exchange a t u s.machine } in
      let swap = exchanges_swap_two_gets s.machine a t u in
      record {
        sound = choice_keeps plan cert ordered laws s (Exchanges a t u) after lags.sound (exchange_step jobs m q t u s first second class);
        stands = point-exchanged plan s.machine a t u a ∙ lags.stands;
        behind = lags.behind;
        inside = lags.inside;
        within = lags.within;
        own = λ one i.
            let own = lags.own one i in
            record {
              inside = let lt = own.inside in let same = length-map s.machine.jobs (exchanged_job a t u) in omega (arith, lt, same);
              of_actor = swap.creators one.number ∙ own.of_actor;
              of_class = swap.classes one.number ∙ own.of_class;
              unclaimed = λ claimed. own.unclaimed (sym (swap.stages one.number) ∙ claimed);
            };
        slots = λ w i. swapped_slots jobs t u w s class first second (lags.slots w i) (cases_eq w t) (cases_eq w u);
      }

  pass_get : (b : Bool) (jobs : List MachineJob) (m q t : ℕ) (s : JavaState) → Lags plan cert a body jobs m q s → IsQuiet a s → m < q → slice_get body m ≡ Some (action.Get t) → (slot : HasSlot s.machine.jobs a body jobs t) → is_open slot.number jobs ≡ b → HasPassed jobs m q s
  unfolding slot_moved
  pass_get false jobs m q t s lags quiet lt e slot is = pass_free jobs m q t s lags quiet lt e slot is
  pass_get true jobs m q t s lags quiet lt e slot is =
      let free = free_slot plan cert a body ordered laws jobs m q t s lags lt e in
      let u = free.submit in
      let next : JavaState = record s { machine = after_exchange a t u s.machine } in
      let swap = exchanges_swap_two_gets s.machine a t u in
      let stepped = exchange_step jobs m q t u s slot free.slot free.of_class in
      let swapped = slot_moved a body jobs s.machine.jobs next.machine.jobs u t swap.first free.of_class swap.classes swap.stages free.slot in
      let passed = pass_free jobs m q t next (exchanged_lags jobs m q t u s lags slot free.slot free.of_class) quiet lt e swapped free.free in
      record {
        after = passed.after;
        lags = passed.lags;
        quiet = passed.quiet;
        passes = λ j s' rest. exchanges t u stepped (passed.passes j s' rest);
      }

  -- ---- all actions up to an index
  pass_if : (there : Option Action) (jobs : List MachineJob) (m q : ℕ) (s : JavaState) → Lags plan cert a body jobs m q s → IsQuiet a s → m < q → slice_get body m ≡ there → HasPassed jobs m q s
  pass_if None jobs m q s lags quiet lt e =
      let inside = lags.inside in
      absurd (none-some (get_or body m (action.Work 0)) (sym e ∙ slice_get-get_or body m (action.Work 0) (omega (arith, lt, inside))))
  pass_if (Some (action.Work units)) jobs m q s lags quiet lt e = pass_work jobs m q units s lags quiet lt e
  pass_if (Some (action.Submit k)) jobs m q s lags quiet lt e = pass_submit jobs m q k s lags quiet lt e
  pass_if (Some (action.Get t)) jobs m q s lags quiet lt e =
      let slot = lags.slots t (get_is_open plan body m t (valid_point plan s.machine a body m ordered lags.stands) e) in
      pass_get (is_open slot.number jobs) jobs m q t s lags quiet lt e slot refl

  -- The actor has reached the index of the walk.
  pub record HasReached (jobs : List MachineJob) (m q : ℕ) (s : JavaState) : Type 0 where
    pub after : JavaState
    pub lags : Lags plan cert a body jobs q q after
    pub quiet : IsQuiet a after
    pub passes : Passes plan a body jobs m s q after

  pub reaches : (more : ℕ) (jobs : List MachineJob) (m q : ℕ) (s : JavaState) → q ≡ m + more → Lags plan cert a body jobs m q s → IsQuiet a s → HasReached jobs m q s
  reaches zero jobs m q s all lags quiet =
      let same : m ≡ q = omega (arith, all) in
      subst (λ (n : ℕ). HasReached jobs n q s) (sym same) (record { after = s; lags = subst (λ (n : ℕ). Lags plan cert a body jobs n q s) same lags; quiet = quiet; passes = arrives })
  reaches (suc more) jobs m q s all lags quiet =
      let lt : m < q = omega (arith, all) in
      let passed = pass_if (slice_get body m) jobs m q s lags quiet lt refl in
      let rest = reaches more jobs (suc m) q passed.after (omega (arith, all)) passed.lags passed.quiet in
      record { after = rest.after; lags = rest.lags; quiet = rest.quiet; passes = passed.passes q rest.after rest.passes }
