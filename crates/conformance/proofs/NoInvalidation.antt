-- If no invalidating event is found, each invalidating line is a rejection that the plan allows.
use Rattle.std.proofs.Common.{◌≡◌, ◌+◌, ◌++◌, ℕ, Bool, true, false, ◌&&◌, not, if◌then◌else◌, List, [], ◌∷◌, map, Contains, slice_get, Option, Some, None, codes, is_some, refl, ap, sym, subst, ◌∙◌, inl, inr}
use Rattle.std.specs.Prelude.{◌⊎◌, filter}
use Rattle.std.specs.List.{cons_option, filter_map}
use Rattle.std.specs.Option.{option_to_list}
use Rattle.std.specs.Str.{bytes_eq}
use Rattle.std.proofs.lemmas.Slice.Eq.{bytes_eq-Decides}
use Rattle.job_bodies.specs.Plan.{Plan}
use Rattle.recordings.specs.RecordingLine.{RecordedLine, Refused, Cancels, InvokesAny, Removed, JobThrew, Unseen}
use Rattle.recordings.specs.LineSteps.{with_lines_before}
use Rattle.recordings.specs.declared.invalidation.Invalidation.{Invalidation}
use Rattle.recordings.specs.declared.invalidation.InvalidatingEvent.{InvalidatingEvent}
use Rattle.recordings.specs.declared.invalidation.InvalidatingEvent.TheVariants as event
use Rattle.recordings.specs.Invalidations.{keyword_of, is_same_type, has_type, invalidation_of, invalidations_from, first_of_each, invalidations_of}
use Rattle.conformance.specs.declared.rejections.Rejections.{Rejections}
use Rattle.conformance.specs.Conforms.{invalidates, HasNoInvalidation}
use Rattle.conformance.specs.CollectedFindings.{is_path_independent_event, is_refusal, is_counted, counted_with}
use Rattle.conformance.specs.Findings.{counted_invalidations}
use Rattle.conformance.specs.RejectionRule.{has_rejecting_pool, rejecting_pool, refusal_unless, refusal_by, refusals_in, first_refusal}
use Rattle.conformance.specs.Rejections.{AreRejectionsOf}
use Rattle.conformance.proofs.Among.{here, later, head_or_later, is_among_none, stays}
use Rattle.conformance.proofs.LineByLine.{nothing_first, nothing_last}

-- The line invalidates a SAFE answer. If `without` is true, it is also not a refusal.
abbrev counts : Bool → RecordedLine → Bool
counts without (Refused actor job) = not without
counts without line = invalidates line

abbrev lasts : Bool → InvalidatingEvent → Bool
lasts without event = not (without && is_refusal event) && is_path_independent_event event

counted_refusal : (without : Bool) → not without ≡ true → (not (without && true) && true) ≡ true
counted_refusal true h = absurd (let e : false ≡ true = h in cc)
counted_refusal false h = refl

counted_other : (without : Bool) → (not (without && false) && true) ≡ true
counted_other true = refl
counted_other false = refl

record Lasting (without : Bool) (invalidations : List Invalidation) : Type 0 where
  one : Invalidation
  among : Contains invalidations one
  lasting : lasts without one.event ≡ true

record IsInvalidationOf (without : Bool) (number : ℕ) (line : RecordedLine) (after : List RecordedLine) : Type 0 where
  one : Invalidation
  is : invalidation_of number line after ≡ Some one
  lasting : lasts without one.event ≡ true

invalidation_is : (without : Bool) (number : ℕ) (line : RecordedLine) (after : List RecordedLine) → counts without line ≡ true → IsInvalidationOf without number line after
invalidation_is without number (Refused actor job) after h = record { one = record { line = number; event = event.Refused actor job }; is = refl; lasting = counted_refusal without h }
invalidation_is without number (Cancels actor job) after h = record { one = record { line = number; event = event.Cancelled actor job }; is = refl; lasting = counted_other without }
invalidation_is without number (InvokesAny actor pool) after h = record { one = record { line = number; event = event.AnyInvoked actor }; is = refl; lasting = counted_other without }
invalidation_is without number (Removed job) after h = record { one = record { line = number; event = event.Removed job }; is = refl; lasting = counted_other without }
invalidation_is without number (JobThrew job) after h = record { one = record { line = number; event = event.Threw job }; is = refl; lasting = counted_other without }
invalidation_is without number (Unseen pool jobs) after h = record { one = record { line = number; event = event.Unseen jobs }; is = refl; lasting = counted_other without }
invalidation_is without number _ after h = absurd (let e : false ≡ true = h in cc)

more_after : (without : Bool) (o : Option Invalidation) (rest : List Invalidation) → Lasting without rest → Lasting without (cons_option o rest)
more_after without None rest has = has
more_after without (Some invalidation) rest has = record { one = has.one; among = later invalidation has.one rest has.among; lasting = has.lasting }

first_there : (without : Bool) (o : Option Invalidation) (one : Invalidation) (rest : List Invalidation) → o ≡ Some one → lasts without one.event ≡ true → Lasting without (cons_option o rest)
first_there without o one rest is lasting = subst (λ (x : Option Invalidation). Lasting without (cons_option x rest)) (sym is) (record { one = one; among = here one rest; lasting = lasting })

invalidation_there : (without : Bool) (number : ℕ) (lines : List RecordedLine) (line : RecordedLine) → Contains lines line → counts without line ≡ true → Lasting without (invalidations_from number lines)
invalidation_there without number [] line among h = absurd (is_among_none line among)
invalidation_there without number (first ∷ after) line among h =
    elim (head_or_later first line after among) [
      | inl is ↦
          let invalidation = invalidation_is without number first after (ap (counts without) is ∙ h) in
          first_there without (invalidation_of number first after) invalidation.one (invalidations_from (number + 1) after) invalidation.is invalidation.lasting
      | inr more ↦ more_after without (invalidation_of number first after) (invalidations_from (number + 1) after) (invalidation_there without (number + 1) after line more h)
    ]

-- ---- each event type
lasts_by : Bool → List ℕ → Bool
lasts_by without word = not (without && bytes_eq word (codes "refused")) && (not (bytes_eq word (codes "timeout")) && not (bytes_eq word (codes "interrupted")))

by_word : (without : Bool) (one : InvalidatingEvent) → lasts without one ≡ lasts_by without (keyword_of one)
unfolding lasts_by
by_word without (event.Refused actor job) = refl
by_word without (event.TimedOut actor job) = refl
by_word without (event.Interrupted actor job) = refl
by_word without (event.Cancelled actor job) = refl
by_word without (event.AnyInvoked actor) = refl
by_word without (event.Removed job) = refl
by_word without (event.Threw job) = refl
by_word without (event.Unseen jobs) = refl

same_lasts : (without : Bool) (one other : InvalidatingEvent) → is_same_type one other ≡ true → lasts without one ≡ lasts without other
same_lasts without one other h = by_word without one ∙ (ap (lasts_by without) ((bytes_eq-Decides (keyword_of one) (keyword_of other)).0 h) ∙ sym (by_word without other))

by_test : (b : Bool) → (b ≡ true) ⊎ (b ≡ false)
by_test true = inl refl
by_test false = inr refl

first_stays : (without : Bool) (invalidations : List Invalidation) (invalidation : Invalidation) → Contains invalidations invalidation → lasts without invalidation.event ≡ true → Lasting without (first_of_each invalidations)
first_stays without [] invalidation among h = absurd (is_among_none invalidation among)
first_stays without (first ∷ invalidations) invalidation among h =
    elim (head_or_later first invalidation invalidations among) [
      | inl is ↦ record { one = first; among = here first _; lasting = ap (λ (v : Invalidation). lasts without v.event) is ∙ h }
      | inr more ↦
          let rest = first_stays without invalidations invalidation more h in
          elim (by_test (has_type rest.one.event first)) [
            | inl same ↦ record { one = first; among = here first _; lasting = same_lasts without first.event rest.one.event same ∙ rest.lasting }
            | inr other ↦ record { one = rest.one; among = later first rest.one _ (stays (λ (v : Invalidation). not (has_type v.event first)) (first_of_each invalidations) rest.one rest.among (ap not other)); lasting = rest.lasting }
          ]
    ]

none_lasts : (without : Bool) (invalidations : List Invalidation) → filter (is_counted without) invalidations ≡ [] → Lasting without invalidations → ⊥
none_lasts without invalidations none has = is_among_none has.one (subst (λ (xs : List Invalidation). Contains xs has.one) none (stays (is_counted without) invalidations has.one has.among has.lasting))

none_counted : (without : Bool) (lines : List RecordedLine) → filter (is_counted without) (invalidations_of lines) ≡ [] → (line : RecordedLine) → Contains lines line → counts without line ≡ true → ⊥
unfolding invalidations_of
none_counted without lines none line among h =
    let has = invalidation_there without 1 lines line among h in
    none_lasts without (invalidations_of lines) none (first_stays without (invalidations_from 1 lines) has.one has.among has.lasting)

-- ---- refusals
there : {X : Type 0} (before after : List X) (x : X) → Contains (before ++ x ∷ after) x
there [] after x = here x after
there (first ∷ before) after x = later first x (before ++ x ∷ after) (there before after x)

among_lines : (before after : List RecordedLine) (line : RecordedLine) (lines : List RecordedLine) → before ++ line ∷ after ≡ lines → Contains lines line
among_lines before after line lines is = subst (λ (xs : List RecordedLine). Contains xs line) is (there before after line)

mapped : {X Y : Type 0} (f : X → Y) (xs : List X) (x : X) → Contains xs x → Contains (map f xs) (f x)
mapped f [] x among = absurd (is_among_none x among)
mapped f (y ∷ xs) x among =
    elim (head_or_later y x xs among) [
      | inl is ↦ subst (λ z. Contains (f y ∷ map f xs) (f z)) is (here (f y) (map f xs))
      | inr more ↦ later (f y) (f x) (map f xs) (mapped f xs x more)
    ]

there_with_before : (before after : List RecordedLine) (line : RecordedLine) → Contains (with_lines_before (before ++ line ∷ after)) (before, line)
there_with_before [] after line = here ([], line) _
there_with_before (first ∷ before) after line =
    later ([], first) (first ∷ before, line) _ (mapped (λ (p : List RecordedLine × RecordedLine). (first ∷ p.0, p.1)) (with_lines_before (before ++ line ∷ after)) (before, line) (there_with_before before after line))

none_first : {X : Type 0} (o : Option X) (xs : List X) → cons_option o xs ≡ [] → (o ≡ None) × (xs ≡ [])
none_first None xs h = (refl, h)
none_first (Some x) xs h = absurd (let e : x ∷ xs ≡ [] = h in cc)

none_by : {X Y : Type 0} (f : X → Option Y) (xs : List X) (x : X) → filter_map f xs ≡ [] → Contains xs x → f x ≡ None
none_by f [] x none among = absurd (is_among_none x among)
none_by f (y ∷ xs) x none among =
    let both = none_first (f y) (filter_map f xs) none in
    elim (head_or_later y x xs among) [
      | inl is ↦ ap f (sym is) ∙ both.0
      | inr more ↦ none_by f xs x both.1 more
    ]

no_refusal : (plan : Plan) (lines before after : List RecordedLine) (line : RecordedLine) → refusals_in plan lines lines ≡ [] → before ++ line ∷ after ≡ lines → refusal_by plan lines before line ≡ None
unfolding refusals_in
no_refusal plan lines before after line none is =
    none_by (λ (p : List RecordedLine × RecordedLine). refusal_by plan lines p.0 p.1) (with_lines_before lines) (before, line) none
    (subst (λ (xs : List RecordedLine). Contains (with_lines_before xs) (before, line)) is (there_with_before before after line))

allowed_if : (allowed : Bool) (refusal : Invalidation) → refusal_unless allowed refusal ≡ None → allowed ≡ true
allowed_if true refusal h = refl
allowed_if false refusal h = absurd (let e : Some refusal ≡ None = h in cc)

nothing_at_0 : {X : Type 0} (xs : List X) → option_to_list (slice_get xs 0) ≡ [] → xs ≡ []
nothing_at_0 [] h = refl
nothing_at_0 (x ∷ xs) h = absurd (let e : x ∷ [] ≡ [] = h in cc)

-- ---- all lines
allowed : (plan : Plan) (lines : List RecordedLine) → filter (is_counted true) (invalidations_of lines) ≡ [] → refusals_in plan lines lines ≡ [] → HasNoInvalidation plan lines
allowed plan lines none no_refusals before after (Refused actor job) is h =
    allowed_if (is_some (rejecting_pool plan lines before job)) _ (no_refusal plan lines before after (Refused actor job) no_refusals is)
allowed plan lines none no_refusals before after line is h = absurd (none_counted true lines none line (among_lines before after line lines is) h)

all_count : (line : RecordedLine) → invalidates line ≡ true → counts false line ≡ true
all_count (Refused actor job) h = refl
all_count line h = h

by_plan : (rejecting : Bool) (plan : Plan) (lines : List RecordedLine) → filter (is_counted rejecting) (invalidations_of lines) ++ (if rejecting then option_to_list (first_refusal plan lines) else []) ≡ [] → HasNoInvalidation plan lines
by_plan true plan lines none =
    allowed plan lines (nothing_first (filter (is_counted true) (invalidations_of lines)) (option_to_list (first_refusal plan lines)) none)
    (nothing_at_0 (refusals_in plan lines lines) (nothing_last (filter (is_counted true) (invalidations_of lines)) (option_to_list (first_refusal plan lines)) none))
by_plan false plan lines none = λ before after line is h.
    absurd (none_counted false lines (nothing_first (filter (is_counted false) (invalidations_of lines)) [] none) line (among_lines before after line lines is) (all_count line h))

pub not_invalidation : (plan : Plan) (lines : List RecordedLine) → counted_invalidations plan lines ≡ [] → HasNoInvalidation plan lines
not_invalidation plan lines none = by_plan (has_rejecting_pool plan) plan lines none

-- With the rejections of the recording, the events of `counted_with` are those of `counted_invalidations`.
pub counted_is : (plan : Plan) (lines : List RecordedLine) (rejections : Option Rejections) → AreRejectionsOf plan lines rejections → counted_with rejections lines ≡ counted_invalidations plan lines
counted_is plan lines None are = ap (λ (b : Bool). filter (is_counted b) (invalidations_of lines) ++ (if b then option_to_list (first_refusal plan lines) else [])) (sym are)
counted_is plan lines (Some rejections) are =
    ap (λ (o : Option Invalidation). filter (is_counted true) (invalidations_of lines) ++ option_to_list o) are.1.first
    ∙ ap (λ (b : Bool). filter (is_counted b) (invalidations_of lines) ++ (if b then option_to_list (first_refusal plan lines) else [])) (sym are.0)
