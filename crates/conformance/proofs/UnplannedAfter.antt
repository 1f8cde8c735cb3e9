-- The labels that are not in the plan, after one more line.
use Rattle.std.proofs.Common.{◌≡◌, ◌≤◌, ◌+◌, ℕ, Bool, true, false, ◌||◌, List, [], ◌∷◌, ◌++◌, length, All, Contains, refl, ap, sym, subst, ◌∙◌, inl, inr, string_bytes, count_by, is_some, not, slice_get, arith}
use Rattle.std.specs.Prelude.{◌⊎◌}
use Rattle.std.specs.List.{list_any}
use Rattle.std.specs.Str.{bytes_eq}
use Rattle.std.specs.declared.alloc.Global.{Global}
use Rattle.std.specs.declared.string.String.{String}
use Rattle.std.proofs.lemmas.List.Elements.{All-push, All-weaker, Contains-push_cases}
use Rattle.std.proofs.lemmas.Slice.Eq.{bytes_eq-Decides}
use Rattle.job_bodies.specs.Plan.{Plan}
use Rattle.recordings.specs.declared.recording_line.RecordedActor.{RecordedActor}
use Rattle.recordings.specs.declared.recording_line.Line.{Line}
use Rattle.recordings.specs.declared.recording_line.Line.TheVariants as read
use Rattle.recordings.specs.RecordingLine.{line_view}
use Rattle.std.proofs.Common.{Bor}
use Rattle.conformance.specs.Verdicts.{is_empty}
use Rattle.recordings.specs.RecordingLine.{RecordedLine, Submits, RoundBegins}
use Rattle.conformance.specs.Family.{class_family, client_family}
use Rattle.conformance.specs.declared.unplanned.UnplannedLabel.{UnplannedLabel}
use Rattle.conformance.specs.declared.unplanned.UnplannedLabel.TheVariants as code
use Rattle.conformance.specs.declared.unplanned.UnplannedLabels.{UnplannedLabels}
use Rattle.conformance.specs.LabelSet.{has_label, pair_text}
use Rattle.conformance.specs.LineQuery.{IsLine}
use Rattle.conformance.proofs.Among.{at_place}
use Rattle.conformance.proofs.ListPlaces.{there_before, there_last, within, before_or_after}
use Rattle.conformance.proofs.Times.{once_more}
use Rattle.conformance.specs.UnplannedLabels.{IsNext, IsClassNotPlanned, IsKindNotPlanned, IsNotPlanned, AreUnplannedLabelsOf, AddsClass, AddsKind, class_stays, class_added, kind_stays, kind_added, names_class, names_kind}

-- ---- lines
line_stays : (before more : List RecordedLine) (number : ℕ) (line : RecordedLine) → IsLine before number line → IsLine (before ++ more) number line
line_stays before more number line (i, is, there) = (i, is, there_before before more i line there)

last_line : (before : List RecordedLine) (number : ℕ) (line : RecordedLine) → IsNext number before → IsLine (before ++ line ∷ []) number line
last_line before number line next = (length before, next, there_last before line)

-- A line is one of the earlier lines, or its number is above theirs.
line_cases : (before more : List RecordedLine) (number : ℕ) (line : RecordedLine) → IsLine (before ++ more) number line → IsLine before number line ⊎ (length before + 1 ≤ number)
line_cases before more number line (i, is, there) =
    elim (before_or_after before more i line there) [ inl earlier ↦ inl (i, is, earlier) | inr after ↦ inr (omega (arith, is, after)) ]

-- The number of an earlier line is at most the number of earlier lines.
within_lines : (before : List RecordedLine) (number : ℕ) (line : RecordedLine) → IsLine before number line → number ≤ length before
within_lines before number line (i, is, there) = omega (arith, is, within before i line there)

line_among : (before : List RecordedLine) (number : ℕ) (line : RecordedLine) → IsLine before number line → Contains before line
line_among before number line (i, is, there) = at_place before i line there

-- The first line of a label remains the first.
first_stays : (before more : List RecordedLine) (number : ℕ) (line other : RecordedLine) (earlier : ℕ) → IsLine before number line → (IsLine before earlier other → number ≤ earlier) → IsLine (before ++ more) earlier other → number ≤ earlier
first_stays before more number line other earlier here first at =
    elim (line_cases before more earlier other at) [ inl before_it ↦ first before_it | inr after ↦ omega (arith, within_lines before number line here, after) ]

-- The next line is the first of its label if no earlier line has that label.
first_next : (before : List RecordedLine) (number : ℕ) (line other : RecordedLine) (earlier : ℕ) → IsNext number before → (Contains before other → ⊥) → IsLine (before ++ line ∷ []) earlier other → number ≤ earlier
first_next before number line other earlier next none at =
    elim (line_cases before (line ∷ []) earlier other at) [ inl before_it ↦ absurd (none (line_among before earlier other before_it)) | inr after ↦ omega (arith, next, after) ]

label_stays : (plan : Plan) (before more : List RecordedLine) (label : UnplannedLabel) → IsNotPlanned plan before label → IsNotPlanned plan (before ++ more) label
label_stays plan before more (code.Class line class pool) so = record {
  actor = so.actor;
  job = so.job;
  line = line_stays before more line _ so.line;
  none = so.none;
  first = λ earlier by one at. first_stays before more line _ (Submits by one (string_bytes class) (string_bytes pool)) earlier so.line (so.first earlier by one) at;
}
label_stays plan before more (code.Kind line kind) so = record {
  round = so.round;
  line = line_stays before more line _ so.line;
  none = so.none;
  first = λ earlier one at. first_stays before more line _ (RoundBegins one (string_bytes kind)) earlier so.line (so.first earlier one) at;
}

-- ---- reported labels
any_push : {X : Type 0} (test : X → Bool) (xs : List X) (x : X) → list_any test (xs ++ x ∷ []) ≡ (list_any test xs || test x)
any_push test [] x = or_false (test x)
  where
    or_false : (a : Bool) → (a || false) ≡ a
    or_false true = refl
    or_false false = refl
any_push test (y ∷ xs) x = ap (λ (b : Bool). test y || b) (any_push test xs x) ∙ sym (or_or (test y) (list_any test xs) (test x))
  where
    or_or : (a b c : Bool) → ((a || b) || c) ≡ (a || (b || c))
    or_or true b c = refl
    or_or false b c = refl

or_left : (a b : Bool) → a ≡ true → (a || b) ≡ true
or_left a b h = ap (λ (x : Bool). x || b) h

or_right : (a b : Bool) → b ≡ true → (a || b) ≡ true
or_right true b h = refl
or_right false b h = h

or_none : (a b : Bool) → b ≡ false → (a || b) ≡ a
or_none true b h = refl
or_none false b h = h

same_bytes : (bytes : List ℕ) → bytes_eq bytes bytes ≡ true
same_bytes bytes = (bytes_eq-Decides bytes bytes).1 refl

-- ---- lines without a new label
-- The state is unchanged, and the line adds nothing.
pub record NothingNew (plan : Plan) (line : RecordedLine) (old : UnplannedLabels) : Type 0 where
  pub classes : (actor : RecordedActor) (job : ℕ) (class pool : List ℕ) → line ≡ Submits actor job class pool → class_family plan class pool ≡ [] → list_any (names_class class pool) old.found.items ≡ true
  pub kinds : (round : ℕ) (kind : List ℕ) → line ≡ RoundBegins round kind → client_family plan kind ≡ [] → list_any (names_kind kind) old.found.items ≡ true

pub remains_after : (plan : Plan) (before : List RecordedLine) (line : RecordedLine) (old : UnplannedLabels) → AreUnplannedLabelsOf plan before old → NothingNew plan line old → AreUnplannedLabelsOf plan (before ++ line ∷ []) old
remains_after plan before line old so none = record {
  found = record {
    sound = All-weaker (IsNotPlanned plan before) (IsNotPlanned plan (before ++ line ∷ [])) (label_stays plan before (line ∷ [])) _ so.found.sound;
    classes = λ actor job class pool among empty. elim (Contains-push_cases before line _ among) [ inl earlier ↦ so.found.classes actor job class pool earlier empty | inr is ↦ none.classes actor job class pool is empty ];
    kinds = λ round kind among empty. elim (Contains-push_cases before line _ among) [ inl earlier ↦ so.found.kinds round kind earlier empty | inr is ↦ none.kinds round kind is empty ];
    class_once = so.found.class_once;
    kind_once = so.found.kind_once;
  };
  kept_classes = so.kept_classes;
  kept_kinds = so.kept_kinds;
}

-- ---- a submit
known_class : (plan : Plan) (before : List RecordedLine) (actor : RecordedActor) (job : ℕ) (class pool : List ℕ) (old : UnplannedLabels) → AreUnplannedLabelsOf plan before old
    → (has_label old.classes (pair_text class pool) ≡ true) ⊎ (¬ (class_family plan class pool ≡ [])) → NothingNew plan (Submits actor job class pool) old
known_class plan before actor job class pool old so why = record {
  classes = λ who one c p is empty.
      let same_class : class ≡ c = cc in
      let same_pool : pool ≡ p = cc in
      elim why [
        | inl known ↦ sym (so.kept_classes c p) ∙ (ap (λ (text : List ℕ). has_label old.classes text) (ap (λ (x : List ℕ). pair_text x p) (sym same_class) ∙ ap (λ (x : List ℕ). pair_text class x) (sym same_pool)) ∙ known)
        | inr there ↦ absurd (there (ap (λ (x : List ℕ). class_family plan x pool) same_class ∙ (ap (λ (x : List ℕ). class_family plan c x) same_pool ∙ empty)))
      ];
  kinds = λ round kind is empty. absurd (cc);
}

contra : (b : Bool) → b ≡ true → b ≡ false → ⊥
contra true h none = absurd (cc)
contra false h none = absurd (cc)

reported_class : (plan : Plan) (before : List RecordedLine) (number : ℕ) (actor : RecordedActor) (job : ℕ) (class pool : List ℕ) (old new : UnplannedLabels) → IsNext number before → AreUnplannedLabelsOf plan before old
    → has_label old.classes (pair_text class pool) ≡ false → (c p : String Global) → string_bytes c ≡ class → string_bytes p ≡ pool → class_family plan class pool ≡ []
    → new.found.items ≡ old.found.items ++ code.Class number c p ∷ []
    → ((q : List ℕ) → has_label new.classes q ≡ (has_label old.classes q || bytes_eq (pair_text class pool) q))
    → new.kinds ≡ old.kinds
    → AreUnplannedLabelsOf plan (before ++ Submits actor job class pool ∷ []) new
reported_class plan before number actor job class pool old new next so fresh c p c_is p_is empty found_is kept_is kinds_is =
    let line = Submits actor job class pool in
    let one = code.Class number c p in
    let any_class : (x y : List ℕ) → list_any (names_class x y) new.found.items ≡ (list_any (names_class x y) old.found.items || names_class x y one)
    = λ x y. ap (list_any (names_class x y)) found_is ∙ any_push (names_class x y) old.found.items one in
    let any_kind : (x : List ℕ) → list_any (names_kind x) new.found.items ≡ list_any (names_kind x) old.found.items
    = λ x. ap (list_any (names_kind x)) found_is ∙ (any_push (names_kind x) old.found.items one ∙ or_none _ _ refl) in
    let text : pair_text (string_bytes c) (string_bytes p) ≡ pair_text class pool = ap (λ (x : List ℕ). pair_text x (string_bytes p)) c_is ∙ ap (λ (x : List ℕ). pair_text class x) p_is in
    let tells : (x y : List ℕ) → names_class x y one ≡ bytes_eq (pair_text class pool) (pair_text x y) = λ x y. ap (λ (t : List ℕ). bytes_eq t (pair_text x y)) text in
    let not_earlier : (by : RecordedActor) (other : ℕ) → Contains before (Submits by other class pool) → ⊥
    = λ by other among. contra _ (so.kept_classes class pool ∙ so.found.classes by other class pool among empty) fresh in
    let first_one : IsClassNotPlanned plan (before ++ line ∷ []) number class pool = record {
      actor = actor;
      job = job;
      line = last_line before number line next;
      none = empty;
      first = λ earlier by other at. first_next before number line (Submits by other class pool) earlier next (not_earlier by other) at;
    } in
    let new_one : IsNotPlanned plan (before ++ line ∷ []) one =
    subst (λ (x : List ℕ). IsClassNotPlanned plan (before ++ line ∷ []) number x (string_bytes p)) (sym c_is) (subst (λ (y : List ℕ). IsClassNotPlanned plan (before ++ line ∷ []) number class y) (sym p_is) first_one) in
    let not_yet : (x y : List ℕ) → names_class x y one ≡ true → list_any (names_class x y) old.found.items ≡ false
    = λ x y h.
    let same : pair_text class pool ≡ pair_text x y = (bytes_eq-Decides (pair_text class pool) (pair_text x y)).0 (sym (tells x y) ∙ h) in
    sym (so.kept_classes x y) ∙ (ap (λ (t : List ℕ). has_label old.classes t) (sym same) ∙ fresh) in
    record {
      found = record {
        sound = subst (λ (xs : List UnplannedLabel). All (IsNotPlanned plan (before ++ line ∷ [])) xs) (sym found_is)
            (All-push (IsNotPlanned plan (before ++ line ∷ [])) old.found.items one (All-weaker (IsNotPlanned plan before) (IsNotPlanned plan (before ++ line ∷ [])) (label_stays plan before (line ∷ [])) _ so.found.sound) new_one);
        classes = λ who n x y among none. elim (Contains-push_cases before line _ among) [
          | inl earlier ↦ any_class x y ∙ or_left _ _ (so.found.classes who n x y earlier none)
          | inr is ↦
              let same_class : class ≡ x = cc in
              let same_pool : pool ≡ y = cc in
              let same : bytes_eq (pair_text class pool) (pair_text x y) ≡ true = ap (λ (t : List ℕ). bytes_eq (pair_text class pool) t) (sym (ap (λ (z : List ℕ). pair_text z pool) same_class ∙ ap (λ (z : List ℕ). pair_text x z) same_pool)) ∙ same_bytes (pair_text class pool) in
              any_class x y ∙ or_right _ _ (tells x y ∙ same)
        ];
        kinds = λ round kind among none. elim (Contains-push_cases before line _ among) [ inl earlier ↦ any_kind kind ∙ so.found.kinds round kind earlier none | inr is ↦ absurd (cc) ];
        class_once = λ x y. subst (λ (xs : List UnplannedLabel). count_by (names_class x y) xs ≤ 1) (sym found_is) (once_more (names_class x y) old.found.items one (so.found.class_once x y) (not_yet x y));
        kind_once = λ x. subst (λ (xs : List UnplannedLabel). count_by (names_kind x) xs ≤ 1) (sym found_is) (once_more (names_kind x) old.found.items one (so.found.kind_once x) (λ h. absurd (contra _ h refl)));
      };
      kept_classes = λ x y. kept_is (pair_text x y) ∙ (ap (λ (b : Bool). b || bytes_eq (pair_text class pool) (pair_text x y)) (so.kept_classes x y) ∙ (ap (λ (b : Bool). list_any (names_class x y) old.found.items || b) (sym (tells x y)) ∙ sym (any_class x y)));
      kept_kinds = λ x. ap (λ (k : _). has_label k x) kinds_is ∙ (so.kept_kinds x ∙ sym (any_kind x));
    }

pub after_submit : (plan : Plan) (before : List RecordedLine) (number : ℕ) (actor : RecordedActor) (job : ℕ) (class pool : List ℕ) (old new : UnplannedLabels) → IsNext number before → AreUnplannedLabelsOf plan before old
    → AddsClass plan number class pool old new → AreUnplannedLabelsOf plan (before ++ Submits actor job class pool ∷ []) new
after_submit plan before number actor job class pool old new next so (class_stays why is) =
    subst (AreUnplannedLabelsOf plan (before ++ Submits actor job class pool ∷ [])) (sym is) (remains_after plan before _ old so (known_class plan before actor job class pool old so why))
after_submit plan before number actor job class pool old new next so (class_added fresh c p c_is p_is empty found_is kept_is kinds_is) =
    reported_class plan before number actor job class pool old new next so fresh c p c_is p_is empty found_is kept_is kinds_is

-- ---- a begin
known_kind : (plan : Plan) (before : List RecordedLine) (round : ℕ) (kind : List ℕ) (old : UnplannedLabels) → AreUnplannedLabelsOf plan before old
    → (has_label old.kinds kind ≡ true) ⊎ (¬ (client_family plan kind ≡ [])) → NothingNew plan (RoundBegins round kind) old
known_kind plan before round kind old so why = record {
  classes = λ who one c p is empty. absurd (cc);
  kinds = λ one k is empty.
      let same : kind ≡ k = cc in
      elim why [
        | inl known ↦ sym (so.kept_kinds k) ∙ (ap (λ (x : List ℕ). has_label old.kinds x) (sym same) ∙ known)
        | inr there ↦ absurd (there (ap (λ (x : List ℕ). client_family plan x) same ∙ empty))
      ];
}

reported_kind : (plan : Plan) (before : List RecordedLine) (number round : ℕ) (kind : List ℕ) (old new : UnplannedLabels) → IsNext number before → AreUnplannedLabelsOf plan before old
    → has_label old.kinds kind ≡ false → (k : String Global) → string_bytes k ≡ kind → client_family plan kind ≡ []
    → new.found.items ≡ old.found.items ++ code.Kind number k ∷ []
    → ((q : List ℕ) → has_label new.kinds q ≡ (has_label old.kinds q || bytes_eq kind q))
    → new.classes ≡ old.classes
    → AreUnplannedLabelsOf plan (before ++ RoundBegins round kind ∷ []) new
reported_kind plan before number round kind old new next so fresh k k_is empty found_is kept_is classes_is =
    let line = RoundBegins round kind in
    let one = code.Kind number k in
    let any_class : (x y : List ℕ) → list_any (names_class x y) new.found.items ≡ list_any (names_class x y) old.found.items
    = λ x y. ap (list_any (names_class x y)) found_is ∙ (any_push (names_class x y) old.found.items one ∙ or_none _ _ refl) in
    let any_kind : (x : List ℕ) → list_any (names_kind x) new.found.items ≡ (list_any (names_kind x) old.found.items || bytes_eq kind x)
    = λ x. ap (list_any (names_kind x)) found_is ∙ (any_push (names_kind x) old.found.items one ∙ ap (λ (t : List ℕ). list_any (names_kind x) old.found.items || bytes_eq t x) k_is) in
    let tells : (x : List ℕ) → names_kind x one ≡ bytes_eq kind x = λ x. ap (λ (t : List ℕ). bytes_eq t x) k_is in
    let not_earlier : (other : ℕ) → Contains before (RoundBegins other kind) → ⊥ = λ other among. contra _ (so.kept_kinds kind ∙ so.found.kinds other kind among empty) fresh in
    let first_one : IsKindNotPlanned plan (before ++ line ∷ []) number kind = record {
      round = round;
      line = last_line before number line next;
      none = empty;
      first = λ earlier other at. first_next before number line (RoundBegins other kind) earlier next (not_earlier other) at;
    } in
    let new_one : IsNotPlanned plan (before ++ line ∷ []) one = subst (λ (x : List ℕ). IsKindNotPlanned plan (before ++ line ∷ []) number x) (sym k_is) first_one in
    let not_yet : (x : List ℕ) → names_kind x one ≡ true → list_any (names_kind x) old.found.items ≡ false
    = λ x h.
    let same : kind ≡ x = (bytes_eq-Decides kind x).0 (sym (tells x) ∙ h) in
    sym (so.kept_kinds x) ∙ (ap (λ (t : List ℕ). has_label old.kinds t) (sym same) ∙ fresh) in
    record {
      found = record {
        sound = subst (λ (xs : List UnplannedLabel). All (IsNotPlanned plan (before ++ line ∷ [])) xs) (sym found_is)
            (All-push (IsNotPlanned plan (before ++ line ∷ [])) old.found.items one (All-weaker (IsNotPlanned plan before) (IsNotPlanned plan (before ++ line ∷ [])) (label_stays plan before (line ∷ [])) _ so.found.sound) new_one);
        classes = λ who n x y among none. elim (Contains-push_cases before line _ among) [ inl earlier ↦ any_class x y ∙ so.found.classes who n x y earlier none | inr is ↦ absurd (cc) ];
        kinds = λ r x among none. elim (Contains-push_cases before line _ among) [
          | inl earlier ↦ any_kind x ∙ or_left _ _ (so.found.kinds r x earlier none)
          | inr is ↦
              let same : kind ≡ x = cc in
              any_kind x ∙ or_right _ _ (ap (λ (t : List ℕ). bytes_eq kind t) (sym same) ∙ same_bytes kind)
        ];
        class_once = λ x y. subst (λ (xs : List UnplannedLabel). count_by (names_class x y) xs ≤ 1) (sym found_is) (once_more (names_class x y) old.found.items one (so.found.class_once x y) (λ h. absurd (contra _ h refl)));
        kind_once = λ x. subst (λ (xs : List UnplannedLabel). count_by (names_kind x) xs ≤ 1) (sym found_is) (once_more (names_kind x) old.found.items one (so.found.kind_once x) (not_yet x));
      };
      kept_classes = λ x y. ap (λ (l : _). has_label l (pair_text x y)) classes_is ∙ (so.kept_classes x y ∙ sym (any_class x y));
      kept_kinds = λ x. kept_is x ∙ (ap (λ (b : Bool). b || bytes_eq kind x) (so.kept_kinds x) ∙ sym (any_kind x));
    }

pub after_begin_line : (plan : Plan) (before : List RecordedLine) (number round : ℕ) (kind : List ℕ) (old new : UnplannedLabels) → IsNext number before → AreUnplannedLabelsOf plan before old
    → AddsKind plan number kind old new → AreUnplannedLabelsOf plan (before ++ RoundBegins round kind ∷ []) new
after_begin_line plan before number round kind old new next so (kind_stays why is) =
    subst (AreUnplannedLabelsOf plan (before ++ RoundBegins round kind ∷ [])) (sym is) (remains_after plan before _ old so (known_kind plan before round kind old so why))
after_begin_line plan before number round kind old new next so (kind_added fresh k k_is empty found_is kept_is classes_is) =
    reported_kind plan before number round kind old new next so fresh k k_is empty found_is kept_is classes_is

-- ---- another line
abbrev pub is_label_line : RecordedLine → Bool
is_label_line (Submits actor job class pool) = true
is_label_line (RoundBegins round kind) = true
is_label_line line = false

pub after_other : (plan : Plan) (before : List RecordedLine) (line : RecordedLine) (old : UnplannedLabels) → AreUnplannedLabelsOf plan before old → is_label_line line ≡ false → AreUnplannedLabelsOf plan (before ++ line ∷ []) old
after_other plan before line old so other = remains_after plan before line old so (record {
  classes = λ actor job class pool is empty. absurd (contra _ (ap is_label_line is) other);
  kinds = λ round kind is empty. absurd (contra _ (ap is_label_line is) other);
})

-- ---- families
pub filled : (numbers : List ℕ) → is_some (slice_get numbers 0) ≡ true → numbers ≡ [] → ⊥
filled [] h none = grind (arith, h)
filled (n ∷ more) h none = grind (arith, none)

pub emptied : (numbers : List ℕ) → is_some (slice_get numbers 0) ≡ false → numbers ≡ []
emptied [] h = refl
emptied (n ∷ more) h = absurd (grind (arith, h))

pub is_filled : (numbers : List ℕ) → is_some (slice_get numbers 0) ≡ not (is_empty numbers)
is_filled [] = refl
is_filled (n ∷ more) = refl

-- ---- lines as the program represents them
pub submit_seen : (plan : Plan) (before : List RecordedLine) (number : ℕ) (line : Line) (actor : RecordedActor) (job : ℕ) (class pool : Bor (List ℕ)) (old new : UnplannedLabels) → line ≡ read.Submits actor job class pool
    → IsNext number before → AreUnplannedLabelsOf plan before old → AddsClass plan number class.now pool.now old new → AreUnplannedLabelsOf plan (before ++ line_view line ∷ []) new
submit_seen plan before number line actor job class pool old new is next so takes =
    subst (λ (l : RecordedLine). AreUnplannedLabelsOf plan (before ++ l ∷ []) new) (sym (ap line_view is)) (after_submit plan before number actor job class.now pool.now old new next so takes)

pub begin_seen : (plan : Plan) (before : List RecordedLine) (number : ℕ) (line : Line) (round : ℕ) (kind : Bor (List ℕ)) (old new : UnplannedLabels) → line ≡ read.RoundBegins round kind
    → IsNext number before → AreUnplannedLabelsOf plan before old → AddsKind plan number kind.now old new → AreUnplannedLabelsOf plan (before ++ line_view line ∷ []) new
begin_seen plan before number line round kind old new is next so takes =
    subst (λ (l : RecordedLine). AreUnplannedLabelsOf plan (before ++ l ∷ []) new) (sym (ap line_view is)) (after_begin_line plan before number round kind.now old new next so takes)

pub label_none : (line : Line) → ((actor : RecordedActor) (job : ℕ) (class pool : Bor (List ℕ)) → line ≡ read.Submits actor job class pool → ⊥) → ((round : ℕ) (kind : Bor (List ℕ)) → line ≡ read.RoundBegins round kind → ⊥)
    → is_label_line (line_view line) ≡ false
label_none (read.Submits actor job class pool) no_submit no_begin = absurd (no_submit actor job class pool refl)
label_none (read.RoundBegins round kind) no_submit no_begin = absurd (no_begin round kind refl)
label_none _ no_submit no_begin = refl
