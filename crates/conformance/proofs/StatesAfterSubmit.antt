-- The states after a submit of a job that may belong to several classes.
use Rattle.std.proofs.Common.{◌≡◌, ℕ, suc, true, ◌==◌, ⊎_elim, List, [], ◌∷◌, ◌++◌, map, refl, sym, ap, subst, ◌∙◌, slice_get, Some}
use Rattle.std.specs.declared.alloc.Global.{Global}
use Rattle.std.specs.declared.vec.Vec.{Vec}
use Rattle.std.specs.List.{list_any}
use Rattle.std.proofs.lemmas.Bool.{eq-eqb, eqb-true}
use Rattle.std.proofs.lemmas.Option.{slice_get_within, same_Some}
use Rattle.support.specs.In.{In, here}
use Rattle.support.proofs.Members.{not_In_nil, In-append_left, In-append_right, In-push_cases, In-map, In-map_from, In-flat_map, In-flat_map_from, In-from_list_any, list_any_at_In}
use Rattle.job_bodies.specs.declared.action.Action.{Action}
use Rattle.conformance.specs.declared.open_job.OpenJob.{OpenJob}
use Rattle.conformance.specs.declared.step.ActorKind.{ActorKind}
use Rattle.conformance.specs.declared.step.PathStep.{PathStep}
use Rattle.conformance.specs.declared.step.PathStep.TheVariants as step
use Rattle.conformance.specs.declared.walk_state.WalkState.{WalkState}
use Rattle.conformance.specs.PathStep.{submits}
use Rattle.conformance.specs.Path.{Walks, is_submit_of}
use Rattle.conformance.specs.BodyGets.{get_at, can_pass}
use Rattle.conformance.specs.WalkState.{IsAfterSubmit, CanSubmit}
use Rattle.conformance.specs.WalkStates.{AreStatesAt, IsStateOf, IsRepresented, AreAfterSubmit, choices}
use Rattle.conformance.proofs.OpenCounts.{can_pass_from_within}
use Rattle.conformance.proofs.Walks.{walk_last}
use Rattle.conformance.proofs.WalkStates.{submit_no_get, sound_after_submit, closed_after_submit, at_after_submit}

-- ---- one choice more
pub none_after_submit : (body : List Action) (job : ℕ) → AreAfterSubmit body job [] []
none_after_submit body job = record {
  from = λ state i. absurd (not_In_nil i);
  to = λ choice i can. absurd (not_In_nil i);
}

-- The body can make the submit with the choice.
pub one_after_submit : (body : List Action) (job : ℕ) (pairs : List (WalkState × ℕ)) (states : List WalkState) (choice : WalkState × ℕ) (new : WalkState) → AreAfterSubmit body job pairs states
    → CanSubmit body choice.1 choice.0 → IsAfterSubmit body job choice.1 choice.0 new → AreAfterSubmit body job (pairs ++ choice ∷ []) (states ++ new ∷ [])
one_after_submit body job pairs states choice new are can after = record {
  from = λ state i. ⊎_elim
      (λ old. let found = are.from state old in (found.0, In-append_left (choice ∷ []) found.1, found.2, found.3))
      (λ same. (choice, In-append_right pairs here, can, subst (λ (s : WalkState). IsAfterSubmit body job choice.1 choice.0 s) (sym same) after))
      (In-push_cases states new i);
  to = λ other i may. ⊎_elim
      (λ old. let found = are.to other old may in (found.0, In-append_left (new ∷ []) found.1, found.2))
      (λ same. (new, In-append_right states here, subst (λ (c : WalkState × ℕ). IsAfterSubmit body job c.1 c.0 new) (sym same) after))
      (In-push_cases pairs choice i);
}

-- The body cannot make it.
pub none_more_after_submit : (body : List Action) (job : ℕ) (pairs : List (WalkState × ℕ)) (states : List WalkState) (choice : WalkState × ℕ) → AreAfterSubmit body job pairs states
    → (CanSubmit body choice.1 choice.0 → ⊥) → AreAfterSubmit body job (pairs ++ choice ∷ []) states
none_more_after_submit body job pairs states choice are cannot = record {
  from = λ state i. let found = are.from state i in (found.0, In-append_left (choice ∷ []) found.1, found.2, found.3);
  to = λ other i may. ⊎_elim
      (λ old. are.to other old may)
      (λ same. absurd (cannot (subst (λ (c : WalkState × ℕ). CanSubmit body c.1 c.0) same may)))
      (In-push_cases pairs choice i);
}

-- ---- the choices
pub choice_from : (states : List WalkState) (classes : List ℕ) (choice : WalkState × ℕ) → In choice (choices states classes) → In choice.0 states × In choice.1 classes
choice_from states classes choice i =
    let state = In-flat_map_from (λ (s : WalkState). map (λ class. (s, class)) classes) states i in
    let class = In-map_from (λ (k : ℕ). (state.0, k)) classes state.2 in
    let e : (state.0, class.0) ≡ choice = class.2 in (
      subst (λ (c : WalkState × ℕ). In c.0 states) e state.1,
      subst (λ (c : WalkState × ℕ). In c.1 classes) e class.1,
    )

pub choice_to : (states : List WalkState) (classes : List ℕ) (state : WalkState) (class : ℕ) → In state states → In class classes → In (state, class) (choices states classes)
choice_to states classes state class i j = In-flat_map (λ (s : WalkState). map (λ k. (s, k)) classes) i (In-map (λ (k : ℕ). (state, k)) j)

pub any_is_in : (class : ℕ) (classes : List ℕ) → list_any (λ one. one == class) classes ≡ true → In class classes
any_is_in class classes h =
    let found = In-from_list_any (λ one. one == class) classes h in
    subst (λ (k : ℕ). In k classes) (eqb-true found.0 class found.2) found.1

-- ---- all walks
module _ (kind : ActorKind) (body : List Action) (path : List PathStep) (p : ℕ) (list : Vec ℕ Global) (old new : List WalkState)
    (at_path : slice_get path p ≡ Some (step.Submits list)) (states : AreStatesAt kind body path p old) (after : AreAfterSubmit body p (choices old list.items) new) where
  may_be : (class : ℕ) → In class list.items → submits (step.Submits list) class ≡ true
  may_be class i = list_any_at_In (λ k. k == class) i (eq-eqb class class refl)

  state_of : (state : WalkState) → In state new → IsStateOf kind body path (suc p) state
  state_of state i =
      let found = after.from state i in
      let parts = choice_from old list.items found.0 found.1 in
      let before = states.each found.0.0 parts.0 in
      let may = may_be found.0.1 parts.1 in
      let submitted = found.3 in
      record {
        tables = submitted.tables;
        begun = (suc found.2.0, at_after_submit kind body path p found.0.1 (step.Submits list) found.0.0 state before.sound submitted at_path may found.2.0 found.2.1 found.2.2);
        sound = sound_after_submit kind body path p found.0.1 (step.Submits list) found.0.0 state before.sound submitted at_path may;
        closed = closed_after_submit kind body path p found.0.1 (step.Submits list) found.0.0 state before.sound submitted at_path may;
      }

  represented : {q : ℕ} {jobs : List OpenJob} → Walks kind body path q (suc p) jobs → IsRepresented new q jobs
  represented =
      walk_last kind body path (λ q jobs. IsRepresented new q jobs)
      (λ q jobs action e within r. record {
        state = r.state;
        is_in = r.is_in;
        jobs_are = r.jobs_are;
        at = (state_of r.state r.is_in).closed q (slice_get_within body q action e) r.at (subst (λ (others : List OpenJob). can_pass (get_at body q) others ≡ true) r.jobs_are (can_pass_from_within jobs body q within));
      })
      (λ q jobs other class w e s c.
      let same : other ≡ step.Submits list = same_Some other (step.Submits list) (sym s ∙ at_path) in
      let may : submits (step.Submits list) class ≡ true = subst (λ (x : PathStep). submits x class ≡ true) same c in
      let is_class = any_is_in class list.items may in
      let r = states.complete q jobs w in
      let is_submit : is_submit_of class (slice_get body q) ≡ true = ap (is_submit_of class) e ∙ eq-eqb class class refl in
      let found = after.to (r.state, class) (choice_to old list.items r.state class r.is_in is_class) (q, r.at, is_submit) in
      record {
        state = found.0;
        is_in = found.1;
        jobs_are = ap (λ (others : List OpenJob). others ++ record { job = p; class = class } ∷ []) r.jobs_are ∙ sym found.2.jobs;
        at = at_after_submit kind body path p class (step.Submits list) r.state found.0 (states.each r.state r.is_in).sound found.2 at_path may q r.at is_submit;
      })
      (λ q jobs job class w s o m. absurd (submit_no_get list job (same_Some (step.Submits list) (step.Gets job) (sym at_path ∙ s))))

  pub states_after_submit : AreStatesAt kind body path (suc p) new
  states_after_submit = record {
    each = state_of;
    complete = λ q jobs w. represented w;
  }
