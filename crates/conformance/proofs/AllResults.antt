-- The results for all actors: for a list of lines, after one more line, and at the end of the lines.
use Rattle.std.proofs.Common.{◌≡◌, ◌⊎◌, ℕ, true, false, List, [], ◌∷◌, ◌++◌, slice_index_or, is_some, None, All, refl, ap, sym, subst, ◌∙◌, inl, inr, append_assoc}
use Rattle.std.specs.List.{list_any}
use Rattle.std.proofs.lemmas.List.Elements.{All-append, All-weaker, All-nil, All-head, All-tail}
use Rattle.std.proofs.lemmas.List.Folds.{list_any-append, list_any_none, list_any_at}
use Rattle.recordings.specs.declared.recording_line.RecordedActor.{RecordedActor}
use Rattle.recordings.specs.declared.recording_line.RecordedActor.TheVariants.{Job, Round}
use Rattle.recordings.specs.RecordingLine.{RecordedLine}
use Rattle.recordings.specs.Path.{path_of}
use Rattle.recordings.specs.PathsOfLines.{KeepsRules}
use Rattle.recordings.proofs.Refusals.{same_actor}
use Rattle.job_bodies.specs.Plan.{Plan}
use Rattle.conformance.specs.declared.actor_table.ActorTable.{ActorTable}
use Rattle.conformance.specs.declared.job_classes.ClassTable.{ClassTable}
use Rattle.conformance.specs.declared.classified_actor.ClassifiedActor.{ClassifiedActor}
use Rattle.conformance.specs.PathState.{has_ended}
use Rattle.conformance.specs.Classes.{IsSettled, AreStepsOf}
use Rattle.conformance.specs.ActorTables.{in_table}
use Rattle.conformance.specs.ClassifiedActor.{CanBe, IsCorrectResult, IsOnceEach, AreResultsOfPrefix, AreAllResultsOf, AddsSettled, is_reported, is_recorded}
use Rattle.conformance.specs.Represents.{AreTablesOf}
use Rattle.conformance.specs.ClassificationResults.{AddsResults}
use Rattle.conformance.proofs.Words.{by_bool, apart, none_some, is_none_of, or_either}
use Rattle.conformance.proofs.AppliedLine.{same_as_self}
use Rattle.conformance.proofs.EndedActors.{stays}
use Rattle.conformance.proofs.SettledClassesStay.{through_of, below_of, settled_stays, classes_stay, kinds_stay, steps_stay}
use Rattle.conformance.proofs.Ambiguous.{label_stays_its, ambiguous_stays}
use Rattle.conformance.proofs.EmptyTables.{none_through, settled_gone}
use Rattle.conformance.proofs.AddsResults.{any_append_left, any_append_right, once_left, once_right, none_most, none_of_kept}
use Rattle.conformance.proofs.BegunActors.{named_come, come_live, through_come}

-- ---- one actor
can_be_stays : (plan : Plan) (before more : List RecordedLine) (actor : RecordedActor) (members : List ℕ) → KeepsRules (before ++ more) → IsSettled before actor → CanBe plan before actor members → CanBe plan (before ++ more) actor members
can_be_stays plan before more (Job job) members keeps is can = classes_stay plan before more keeps job members can is
can_be_stays plan before more (Round round) members keeps is can = kinds_stay plan before more keeps round members can is

reported_stays : (plan : Plan) (before more : List RecordedLine) → KeepsRules (before ++ more) → (reported : ClassifiedActor) → IsSettled before reported.actor → IsCorrectResult plan before reported → IsCorrectResult plan (before ++ more) reported
reported_stays plan before more keeps reported is t =
    let s = stays before more reported.actor keeps (through_of before reported.actor is) in
    record {
      label = label_stays_its before more reported.actor _ _ keeps t.label;
      path = t.path ∙ sym s.path;
      members = λ decided. can_be_stays plan before more reported.actor reported.family.members.items keeps is (t.members decided);
      ascending = t.ascending;
      explained = λ decided.
          let e = t.explained decided in
          record {
            steps = e.steps;
            path = subst (λ path. AreStepsOf plan (before ++ more) path e.steps) (sym s.path) (steps_stay plan before more keeps (path_of before reported.actor) e.steps e.path (below_of before reported.actor is));
            most = e.most;
            named = e.named;
          };
      decided = λ clear. t.decided (λ ambiguous. clear (ambiguous_stays plan before more keeps reported.actor is ambiguous));
    }

-- ---- no lines
none_settled : (actor : RecordedActor) → IsSettled [] actor → ⊥
none_settled actor is = apart (has_ended [] actor) (through_of [] actor is) (none_through actor)

pub reported_none : (plan : Plan) → AreResultsOfPrefix plan [] []
reported_none plan = record {
  reported = All-nil (IsCorrectResult plan []);
  once = λ actor. none_most (is_reported actor);
  settled = λ actor. ((λ h. apart false h refl), (λ is. absurd (none_settled actor is)));
}

-- ---- one more line
-- A settled actor is not among actors that were all unsettled.
none_unsettled : (lines : List RecordedLine) (actor : RecordedActor) (more : List ClassifiedActor) → IsSettled lines actor → All (λ (t : ClassifiedActor). IsSettled lines t.actor → ⊥) more → list_any (is_reported actor) more ≡ false
none_unsettled lines actor more is unsettled = list_any_none (is_reported actor) more
    (All-weaker (λ (t : ClassifiedActor). IsSettled lines t.actor → ⊥) (λ (t : ClassifiedActor). is_reported actor t ≡ false)
    (λ t h. by_bool (is_reported actor t) (λ same. absurd (h (subst (λ (a : RecordedActor). IsSettled lines a) (sym (same_actor t.actor actor same)) is))) (λ other. other)) more unsettled)

-- A property of all classified actors holds of each of them.
of_reported : (P : RecordedActor → Type 0) (actor : RecordedActor) (more : List ClassifiedActor) → All (λ (t : ClassifiedActor). P t.actor) more → list_any (is_reported actor) more ≡ true → P actor
of_reported P actor [] are h = absurd (cc)
of_reported P actor (t ∷ more) are h = or_either (is_reported actor t) (list_any (is_reported actor) more) h
    (λ here. subst P (same_actor t.actor actor here) (All-head (λ (one : ClassifiedActor). P one.actor) t more are))
    (λ rest. of_reported P actor more (All-tail (λ (one : ClassifiedActor). P one.actor) t more are) rest)

module _ (plan : Plan) (before : List RecordedLine) (line : RecordedLine) (keeps : KeepsRules (before ++ line ∷ [])) (all more : List ClassifiedActor) (are : AreResultsOfPrefix plan before all) (reported : All (IsCorrectResult plan (before ++ line ∷ [])) more) (settled : All (λ (t : ClassifiedActor). IsSettled (before ++ line ∷ []) t.actor) more)
    (unsettled : All (λ (t : ClassifiedActor). IsSettled before t.actor → ⊥) more) (once : IsOnceEach more)
    (each : (actor : RecordedActor) → IsSettled (before ++ line ∷ []) actor → IsSettled before actor ⊎ (list_any (is_reported actor) more ≡ true)) where
  earlier_or : (actor : RecordedActor) → IsSettled before actor ⊎ (list_any (is_reported actor) more ≡ true) → list_any (is_reported actor) (all ++ more) ≡ true
  earlier_or actor (inl is) = any_append_left (is_reported actor) all more ((are.settled actor).1 is)
  earlier_or actor (inr h) = any_append_right (is_reported actor) all more h

  all_settled : All (λ (t : ClassifiedActor). IsSettled before t.actor) all
  all_settled = λ k d low.
      let t = slice_index_or all k d in
      (are.settled t.actor).0 (list_any_at (is_reported t.actor) all k d low (same_as_self t.actor))

  still_reported : All (IsCorrectResult plan (before ++ line ∷ [])) all
  still_reported = λ k d low. reported_stays plan before (line ∷ []) keeps (slice_index_or all k d) (all_settled k d low) (are.reported k d low)

  pub reported_then : AreResultsOfPrefix plan (before ++ line ∷ []) (all ++ more)
  reported_then = record {
    reported = All-append (IsCorrectResult plan (before ++ line ∷ [])) all more still_reported reported;
    once = λ actor. by_bool (list_any (is_reported actor) all)
        (λ earlier. once_left (is_reported actor) all more (are.once actor) (none_unsettled before actor more ((are.settled actor).0 earlier) unsettled))
        (λ none. once_right (is_reported actor) all more none (once actor));
    settled = λ actor. (
      (λ h. or_either (list_any (is_reported actor) all) (list_any (is_reported actor) more) (sym (list_any-append (is_reported actor) all more) ∙ h)
          (λ earlier. settled_stays before (line ∷ []) keeps actor ((are.settled actor).0 earlier))
          (λ now. of_reported (λ a. IsSettled (before ++ line ∷ []) a) actor more settled now)),
      (λ is. earlier_or actor (each actor is)),
    );
  }

pub reported_more : (plan : Plan) (before : List RecordedLine) (line : RecordedLine) → KeepsRules (before ++ line ∷ []) → (earlier old new : List ClassifiedActor) → AreResultsOfPrefix plan before (earlier ++ old) → AddsSettled plan before (before ++ line ∷ []) old new → AreResultsOfPrefix plan (before ++ line ∷ []) (earlier ++ new)
reported_more plan before line keeps earlier old new are t =
    subst (λ (all : List ClassifiedActor). AreResultsOfPrefix plan (before ++ line ∷ []) all) (append_assoc earlier old t.more ∙ ap (λ (l : List ClassifiedActor). earlier ++ l) (sym t.after))
    (reported_then plan before line keeps (earlier ++ old) t.more are t.reported t.settled t.unsettled t.once t.each)

-- ---- the end of the lines
none_kept : (actors : ActorTable) (actor : RecordedActor) (more : List ClassifiedActor) → in_table actors actor ≡ None → (is_some (in_table actors actor) ≡ true) ⊎ (list_any (is_reported actor) more ≡ true) → list_any (is_reported actor) more ≡ true
none_kept actors actor more gone (inl h) = none_some (in_table actors actor) gone h
none_kept actors actor more gone (inr h) = h

module _ (plan : Plan) (lines : List RecordedLine) (keeps : KeepsRules lines) (old new : ActorTable) (known : ClassTable) (kept : AreTablesOf plan lines old known None) (none : (actor : RecordedActor) → in_table new actor ≡ None)
    (all more : List ClassifiedActor) (are : AreResultsOfPrefix plan lines all) (reported : All (IsCorrectResult plan lines) more) (of_kept : All (λ (t : ClassifiedActor). is_some (in_table old t.actor) ≡ true) more) (once : IsOnceEach more)
    (each : (actor : RecordedActor) → is_some (in_table old actor) ≡ true → (is_some (in_table new actor) ≡ true) ⊎ (list_any (is_reported actor) more ≡ true)) where
  all_come : All (λ (t : ClassifiedActor). is_recorded lines t.actor ≡ true) more
  all_come = All-weaker (IsCorrectResult plan lines) (λ (t : ClassifiedActor). is_recorded lines t.actor ≡ true) (λ t h. named_come lines t.actor _ _ h.label) more reported

  reported_come : (actor : RecordedActor) → list_any (is_reported actor) (all ++ more) ≡ true → is_recorded lines actor ≡ true
  reported_come actor h = or_either (list_any (is_reported actor) all) (list_any (is_reported actor) more) (sym (list_any-append (is_reported actor) all more) ∙ h)
      (λ earlier. through_come lines keeps actor (through_of lines actor ((are.settled actor).0 earlier)))
      (λ now. of_reported (λ a. is_recorded lines a ≡ true) actor more all_come now)

  gone_through : (actor : RecordedActor) → is_recorded lines actor ≡ true → in_table old actor ≡ None → has_ended lines actor ≡ true
  gone_through actor come gone = by_bool (has_ended lines actor) (λ through. through) (λ going. none_some (in_table old actor) gone (kept.live actor (come_live lines actor come going)))

  come_reported : (actor : RecordedActor) → is_recorded lines actor ≡ true → list_any (is_reported actor) (all ++ more) ≡ true
  come_reported actor come = by_bool (is_some (in_table old actor))
      (λ there. any_append_right (is_reported actor) all more (none_kept new actor more (none actor) (each actor there)))
      (λ absent.
      let gone = is_none_of (in_table old actor) absent in
      any_append_left (is_reported actor) all more ((are.settled actor).1 (kept.settled actor (gone_through actor come gone) gone)))

  same_reported : (actor : RecordedActor) → list_any (is_reported actor) (all ++ more) ≡ is_recorded lines actor
  same_reported actor = by_bool (is_recorded lines actor) (λ come. come_reported actor come ∙ sym come)
      (λ fails. by_bool (list_any (is_reported actor) (all ++ more)) (λ h. apart (is_recorded lines actor) (reported_come actor h) fails) (λ h. h ∙ sym fails))

  pub reported_at_end : AreAllResultsOf plan lines (all ++ more)
  reported_at_end = record {
    reported = All-append (IsCorrectResult plan lines) all more are.reported reported;
    once = λ actor. by_bool (list_any (is_reported actor) all)
        (λ earlier. once_left (is_reported actor) all more (are.once actor) (none_of_kept old actor more (ap is_some (settled_gone plan lines old known kept actor ((are.settled actor).0 earlier))) of_kept))
        (λ none_earlier. once_right (is_reported actor) all more none_earlier (once actor));
    each = same_reported;
  }

pub all_reported : (plan : Plan) (lines : List RecordedLine) → KeepsRules lines → (before later : ActorTable) (known : ClassTable) → AreTablesOf plan lines before known None → ((actor : RecordedActor) → in_table later actor ≡ None) → (earlier old new : List ClassifiedActor)
    → AreResultsOfPrefix plan lines (earlier ++ old) → AddsResults (IsCorrectResult plan lines) before later old new → AreAllResultsOf plan lines (earlier ++ new)
all_reported plan lines keeps before later known kept none earlier old new are t =
    subst (λ (all : List ClassifiedActor). AreAllResultsOf plan lines all) (append_assoc earlier old t.more ∙ ap (λ (l : List ClassifiedActor). earlier ++ l) (sym t.after))
    (reported_at_end plan lines keeps before later known kept none (earlier ++ old) t.more are t.reported t.kept t.once t.each)
