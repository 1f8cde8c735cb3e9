-- The actors that have begun.
use Rattle.std.proofs.Common.{◌≡◌, ◌==◌, Bool, true, false, if◌then◌else◌, ℕ, List, [], ◌∷◌, ◌++◌, is_some, slice_get, Option, Some, None, refl, ap, sym, ◌∙◌, arith}
use Rattle.std.specs.List.{list_any, filter_map, cons_option}
use Rattle.recordings.specs.declared.recording_line.RecordedActor.{RecordedActor}
use Rattle.recordings.specs.declared.recording_line.RecordedActor.TheVariants.{Job, Round}
use Rattle.recordings.specs.RecordingLine.{RecordedLine, RoundBegins, Submits}
use Rattle.recordings.specs.LineParts.{is_actor, submits_job, begins_round}
use Rattle.recordings.specs.Before.{is_begun}
use Rattle.recordings.proofs.Appended.{is_begun_more}
use Rattle.recordings.specs.LineSteps.{is_submitted}
use Rattle.recordings.specs.PathsOfLines.{KeepsRules, is_live}
use Rattle.recordings.proofs.StepsByLine.{submitted_more}
use Rattle.recordings.proofs.Tests.{and_first}
use Rattle.recordings.specs.LastLine.{ended_by}
use Rattle.conformance.specs.PathState.{has_ended}
use Rattle.conformance.specs.Label.{label_in, label_of, kind_in, kind_of, HasLabel}
use Rattle.conformance.specs.ClassifiedActor.{is_recorded}
use Rattle.conformance.proofs.LaterLines.{onward}
use Rattle.conformance.proofs.Words.{by_bool, apart, or_left, or_right, or_either}
use Rattle.conformance.proofs.LineActors.{through_after, ended_live}
use Rattle.conformance.proofs.EmptyTables.{none_through}

-- ---- an actor that has a label
none_first : {Y : Type 0} (o : Option Y) (ys : List Y) → is_some o ≡ false → cons_option o ys ≡ ys
none_first None ys h = refl
none_first (Some y) ys h = apart true refl h

first_passes : {X Y : Type 0} (f : X → Option Y) (p : X → Bool) → ((x : X) → is_some (f x) ≡ true → p x ≡ true) → (xs : List X) (y : Y) → slice_get (filter_map f xs) 0 ≡ Some y → list_any p xs ≡ true
first_passes f p passes [] y h = absurd (cc)
first_passes f p passes (x ∷ xs) y h = by_bool (is_some (f x))
    (λ here. or_left (p x) (list_any p xs) (passes x here))
    (λ none. or_right (p x) (list_any p xs) (first_passes f p passes xs y (ap (λ ys. slice_get ys 0) (sym (none_first (f x) (filter_map f xs) none)) ∙ h)))

some_if : {Y : Type 0} (b : Bool) (y : Y) → is_some (if b then Some y else None) ≡ true → b ≡ true
some_if true y h = refl
some_if false y h = h

labelled_submits : (job : ℕ) (line : RecordedLine) → is_some (label_in job line) ≡ true → submits_job job line ≡ true
labelled_submits job (Submits actor one class pool) h = some_if (one == job) (class, pool) h
labelled_submits job line h = apart false h refl

labelled_begins : (round : ℕ) (line : RecordedLine) → is_some (kind_in round line) ≡ true → begins_round round line ≡ true
labelled_begins round (RoundBegins one kind) h = some_if (one == round) kind h
labelled_begins round line h = apart false h refl

label_come : (lines : List RecordedLine) (job : ℕ) (label : List ℕ × List ℕ) → label_of lines job ≡ Some label → is_submitted lines job ≡ true
unfolding label_of is_submitted
label_come lines job label h = first_passes (label_in job) (submits_job job) (labelled_submits job) lines label h

kind_come : (lines : List RecordedLine) (round : ℕ) (kind : List ℕ) → kind_of lines round ≡ Some kind → is_begun lines round ≡ true
unfolding kind_of is_begun
kind_come lines round kind h = first_passes (kind_in round) (begins_round round) (labelled_begins round) lines kind h

pub named_come : (lines : List RecordedLine) (actor : RecordedActor) (label pool : List ℕ) → HasLabel lines actor label pool → is_recorded lines actor ≡ true
named_come lines (Job job) label pool named = label_come lines job (label, pool) named
named_come lines (Round round) label pool named = kind_come lines round label named.0

-- ---- an actor that is open, or has ended
pub live_come : (lines : List RecordedLine) (actor : RecordedActor) → is_live lines actor ≡ true → is_recorded lines actor ≡ true
live_come lines (Job job) h = and_first _ _ h
live_come lines (Round round) h = and_first _ _ h

pub come_live : (lines : List RecordedLine) (actor : RecordedActor) → is_recorded lines actor ≡ true → has_ended lines actor ≡ false → is_live lines actor ≡ true
come_live lines (Job job) come going = grind (arith, come, going)
come_live lines (Round round) come going = grind (arith, come, going)

come_more : (before : List RecordedLine) (line : RecordedLine) (actor : RecordedActor) → is_recorded before actor ≡ true → is_recorded (before ++ line ∷ []) actor ≡ true
come_more before line (Job job) h = submitted_more before line job ∙ or_left (is_submitted before job) (submits_job job line) h
come_more before line (Round round) h = is_begun_more before line round ∙ or_left (is_begun before round) (begins_round round line) h

pub through_come : (lines : List RecordedLine) → KeepsRules lines → (actor : RecordedActor) → has_ended lines actor ≡ true → is_recorded lines actor ≡ true
through_come lines keeps actor =
    onward (λ ls. has_ended ls actor ≡ true → is_recorded ls actor ≡ true)
    (λ before line kept known h. come_more before line actor
    (or_either (has_ended before actor) (is_actor actor (ended_by line)) (sym (through_after before line actor) ∙ h)
    known (λ ends. live_come before actor (ended_live before line actor kept ends))))
    [] lines keeps (λ h. apart (has_ended [] actor) h (none_through actor))
