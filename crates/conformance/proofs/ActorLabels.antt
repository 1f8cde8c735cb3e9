-- Later lines do not change the label of a job or a round.
use Rattle.std.proofs.Common.{◌≡◌, ◌≤◌, ℕ, ◌+◌, ◌==◌, true, if◌then◌else◌, List, [], ◌∷◌, ◌++◌, slice_get, Option, Some, None, refl, ap, ◌∙◌, arith}
use Rattle.std.specs.Option.{option_to_list}
use Rattle.std.specs.List.{filter_map}
use Rattle.recordings.specs.RecordingLine.{RecordedLine, RoundBegins, Submits}
use Rattle.recordings.specs.LineParts.{is_submit, is_begin}
use Rattle.recordings.specs.Before.{submits, begins}
use Rattle.recordings.specs.Rules.{has_next_number}
use Rattle.recordings.proofs.Appended.{submits_more, begins_more}
use Rattle.recordings.specs.PathsOfLines.{KeepsRules}
use Rattle.recordings.proofs.Tests.{filter_map_more}
use Rattle.recordings.proofs.ByLast.{by_kept}
use Rattle.recordings.proofs.LaterNumbers.{next_number}
use Rattle.conformance.specs.Label.{label_in, label_of, kind_in, kind_of}
use Rattle.conformance.proofs.LaterLines.{onward}
use Rattle.conformance.proofs.Words.{if_false}

first_stays : {X : Type 0} (xs ys : List X) (x : X) → slice_get xs 0 ≡ Some x → slice_get (xs ++ ys) 0 ≡ Some x
first_stays [] ys x h = cc
first_stays (first ∷ xs) ys x h = h

pub label_more : (before : List RecordedLine) (line : RecordedLine) (job : ℕ) (label : List ℕ × List ℕ) → label_of before job ≡ Some label → label_of (before ++ line ∷ []) job ≡ Some label
unfolding label_of
label_more before line job label h =
    ap (λ (names : List (List ℕ × List ℕ)). slice_get names 0) (filter_map_more (label_in job) before line) ∙ first_stays (filter_map (label_in job) before) (option_to_list (label_in job line)) label h

pub kind_more : (before : List RecordedLine) (line : RecordedLine) (round : ℕ) (kind : List ℕ) → kind_of before round ≡ Some kind → kind_of (before ++ line ∷ []) round ≡ Some kind
unfolding kind_of
kind_more before line round kind h =
    ap (λ (names : List (List ℕ)). slice_get names 0) (filter_map_more (kind_in round) before line) ∙ first_stays (filter_map (kind_in round) before) (option_to_list (kind_in round line)) kind h

pub label_stays : (before more : List RecordedLine) (job : ℕ) (label : List ℕ × List ℕ) → KeepsRules (before ++ more) → label_of before job ≡ Some label → label_of (before ++ more) job ≡ Some label
label_stays before more job label kept h = onward (λ lines. label_of lines job ≡ Some label) (λ lines line k. label_more lines line job label) before more kept h

pub kind_stays : (before more : List RecordedLine) (round : ℕ) (kind : List ℕ) → KeepsRules (before ++ more) → kind_of before round ≡ Some kind → kind_of (before ++ more) round ≡ Some kind
kind_stays before more round kind kept h = onward (λ lines. kind_of lines round ≡ Some kind) (λ lines line k. kind_more lines line round kind) before more kept h

-- ---- an actor that begins
first_new : {X : Type 0} (xs : List X) (more : Option X) → slice_get xs 0 ≡ None → slice_get (xs ++ option_to_list more) 0 ≡ more
first_new [] (Some x) h = refl
first_new [] None h = refl
first_new (first ∷ xs) more h = cc

pub label_new : (before : List RecordedLine) (line : RecordedLine) (job : ℕ) → label_of before job ≡ None → label_of (before ++ line ∷ []) job ≡ label_in job line
unfolding label_of
label_new before line job h = ap (λ (names : List (List ℕ × List ℕ)). slice_get names 0) (filter_map_more (label_in job) before line) ∙ first_new (filter_map (label_in job) before) (label_in job line) h

pub kind_new : (before : List RecordedLine) (line : RecordedLine) (round : ℕ) → kind_of before round ≡ None → kind_of (before ++ line ∷ []) round ≡ kind_in round line
unfolding kind_of
kind_new before line round h = ap (λ (names : List (List ℕ)). slice_get names 0) (filter_map_more (kind_in round) before line) ∙ first_new (filter_map (kind_in round) before) (kind_in round line) h

unlabelled_past : (before : List RecordedLine) (line : RecordedLine) (j : ℕ) → has_next_number before line ≡ true → submits before + (if is_submit line then 1 else 0) ≤ j → label_in j line ≡ None
unlabelled_past before (Submits actor job class pool) j next past = if_false (job == j) (Some (class, pool)) None (grind (arith, next, past))
unlabelled_past before line j next past = refl

none_labelled : (job : ℕ) → label_of [] job ≡ None
unfolding label_of
none_labelled job = refl

pub label_fresh : (lines : List RecordedLine) → KeepsRules lines → (j : ℕ) → submits lines ≤ j → label_of lines j ≡ None
label_fresh =
    by_kept (λ lines. (j : ℕ) → submits lines ≤ j → label_of lines j ≡ None) (λ j past. none_labelled j)
    (λ before line kept k h j past.
    let all : submits before + (if is_submit line then 1 else 0) ≤ j = rw (← submits_more before line) past in
    label_new before line j (h j (omega arith)) ∙ unlabelled_past before line j (next_number before line k) all)

unkinded_past : (before : List RecordedLine) (line : RecordedLine) (r : ℕ) → has_next_number before line ≡ true → begins before + (if is_begin line then 1 else 0) ≤ r → kind_in r line ≡ None
unkinded_past before (RoundBegins round kind) r next past = if_false (round == r) (Some kind) None (grind (arith, next, past))
unkinded_past before line r next past = refl

none_kinded : (round : ℕ) → kind_of [] round ≡ None
unfolding kind_of
none_kinded round = refl

pub kind_fresh : (lines : List RecordedLine) → KeepsRules lines → (r : ℕ) → begins lines ≤ r → kind_of lines r ≡ None
kind_fresh =
    by_kept (λ lines. (r : ℕ) → begins lines ≤ r → kind_of lines r ≡ None) (λ r past. none_kinded r)
    (λ before line kept k h r past.
    let all : begins before + (if is_begin line then 1 else 0) ≤ r = rw (← begins_more before line) past in
    kind_new before line r (h r (omega arith)) ∙ unkinded_past before line r (next_number before line k) all)
