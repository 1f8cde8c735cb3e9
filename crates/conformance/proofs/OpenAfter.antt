-- The kinds of the open rounds after one more line.
use Rattle.std.proofs.Common.{◌≡◌, ℕ, ◌==◌, ◌&&◌, ◌||◌, not, Bool, true, false, if◌then◌else◌, List, [], ◌∷◌, ◌++◌, Option, Some, None, refl, ap, ap₂, sym, ◌∙◌, arith}
use Rattle.std.specs.Option.{option_and_then}
use Rattle.std.proofs.lemmas.Bool.{eqb-true, eq-eqb}
use Rattle.support.specs.Numbered.{value_at}
use Rattle.recordings.specs.declared.recording_line.RecordedActor.TheVariants.{Round}
use Rattle.recordings.specs.RecordingLine.{RecordedLine, RoundBegins, RoundEnds}
use Rattle.recordings.specs.LineParts.{begins_round, ends_round}
use Rattle.recordings.specs.Before.{is_begun, is_ended}
use Rattle.recordings.proofs.Appended.{is_begun_more, is_ended_more}
use Rattle.recordings.specs.PathsOfLines.{KeepsRules, is_live}
use Rattle.recordings.proofs.ByLast.{keeps_before, keeps_last}
use Rattle.recordings.proofs.LaterNumbers.{next_round, ended_fresh}
use Rattle.job_bodies.specs.Plan.{Plan}
use Rattle.conformance.specs.RoundExcesses.{kind_of, kind_at}
use Rattle.conformance.specs.Label as labels
use Rattle.conformance.proofs.ActorLabels.{kind_fresh, kind_new}
use Rattle.conformance.proofs.LineActors.{ended_live}
use Rattle.conformance.specs.declared.open_rounds.OpenRounds.{OpenRounds}
use Rattle.conformance.specs.declared.other_kinds.OtherKinds.{OtherKinds}
use Rattle.conformance.specs.OtherKinds.{kind_by, AreKindsBy}
use Rattle.conformance.specs.OpenRounds.{AreOpen, entry_after_line, kind_in, kind_by_line}

-- ---- open rounds
live_more : (before : List RecordedLine) (line : RecordedLine) (r : ℕ) → is_live (before ++ line ∷ []) (Round r) ≡ ((is_begun before r || begins_round r line) && not (is_ended before r || ends_round r line))
live_more before line r = ap₂ (λ (a b : Bool). a && not b) (is_begun_more before line r) (is_ended_more before line r)

still : (a b c d : Bool) → c ≡ false → d ≡ false → ((a || c) && not (b || d)) ≡ (a && not b)
still a b c d h g = grind (arith, h, g)

still_live : (before : List RecordedLine) (line : RecordedLine) (r : ℕ) → begins_round r line ≡ false → ends_round r line ≡ false → is_live (before ++ line ∷ []) (Round r) ≡ is_live before (Round r)
still_live before line r h g = live_more before line r ∙ still (is_begun before r) (is_ended before r) (begins_round r line) (ends_round r line) h g

come : (a b c d : Bool) → b ≡ false → c ≡ true → d ≡ false → ((a || c) && not (b || d)) ≡ true
come a b c d f h g = grind (arith, f, h, g)

gone : (a b c d : Bool) → d ≡ true → ((a || c) && not (b || d)) ≡ false
gone a b c d g = grind (arith, g)

first_number : (before : List RecordedLine) (round r : ℕ) (label : List ℕ) → KeepsRules (before ++ RoundBegins round label ∷ []) → (round == r) ≡ true → is_ended before r ≡ false
first_number before round r label keeps same =
    ended_fresh before (keeps_before before (RoundBegins round label) keeps) r (next_round before round r label (keeps_last before (RoundBegins round label) keeps) same)

-- ---- entries of the table
abbrev shown : Bool → Option ℕ → Option (Option ℕ)
shown live kind = if live then Some kind else None

begun : (kinds : List (Option ℕ)) (before : List RecordedLine) (round r : ℕ) (label : List ℕ) (kind : Option ℕ) (same : Bool) → KeepsRules (before ++ RoundBegins round label ∷ []) → kind_of kinds round ≡ kind → (round == r) ≡ same
    → (if same then Some kind else shown (is_live before (Round r)) (kind_of kinds r)) ≡ shown (is_live (before ++ RoundBegins round label ∷ []) (Round r)) (kind_of kinds r)
begun kinds before round r label kind true keeps is same =
    let line = RoundBegins round label in
    let live : is_live (before ++ line ∷ []) (Round r) ≡ true = live_more before line r ∙ come (is_begun before r) (is_ended before r) (round == r) false (first_number before round r label keeps same) same refl in
    ap Some (sym is ∙ ap (kind_of kinds) (eqb-true round r same)) ∙ sym (ap (λ (b : Bool). shown b (kind_of kinds r)) live)
begun kinds before round r label kind false keeps is same = ap (λ (b : Bool). shown b (kind_of kinds r)) (sym (still_live before (RoundBegins round label) r same refl))

ended : (kinds : List (Option ℕ)) (before : List RecordedLine) (round r : ℕ) (same : Bool) → (round == r) ≡ same
    → (if same then None else shown (is_live before (Round r)) (kind_of kinds r)) ≡ shown (is_live (before ++ RoundEnds round ∷ []) (Round r)) (kind_of kinds r)
ended kinds before round r true same =
    sym (ap (λ (b : Bool). shown b (kind_of kinds r)) (live_more before (RoundEnds round) r ∙ gone (is_begun before r) (is_ended before r) false (round == r) same))
ended kinds before round r false same = ap (λ (b : Bool). shown b (kind_of kinds r)) (sym (still_live before (RoundEnds round) r refl same))

-- The label of a round that begins.
label_here : (before : List RecordedLine) (round : ℕ) (label : List ℕ) → KeepsRules (before ++ RoundBegins round label ∷ []) → labels.kind_of (before ++ RoundBegins round label ∷ []) round ≡ Some label
label_here before round label keeps =
    let line = RoundBegins round label in
    let same = eq-eqb round round refl in
    kind_new before line round (kind_fresh before (keeps_before before line keeps) round (next_round before round round label (keeps_last before line keeps) same))
    ∙ ap (λ (b : Bool). if b then Some label else None) same

kind_given : (plan : Plan) (others : OtherKinds) (kinds : List (Option ℕ)) (before : List RecordedLine) (round : ℕ) (label : List ℕ) → KeepsRules (before ++ RoundBegins round label ∷ []) → AreKindsBy plan others (before ++ RoundBegins round label ∷ []) kinds
    → kind_of kinds round ≡ kind_by plan others round label
kind_given plan others kinds before round label keeps given = given.each round label (label_here before round label keeps)

one_after : (plan : Plan) (others : OtherKinds) (kinds : List (Option ℕ)) (before : List RecordedLine) (line : RecordedLine) (r : ℕ) → KeepsRules (before ++ line ∷ []) → AreKindsBy plan others (before ++ line ∷ []) kinds
    → entry_after_line plan others line r (shown (is_live before (Round r)) (kind_of kinds r)) ≡ shown (is_live (before ++ line ∷ []) (Round r)) (kind_of kinds r)
one_after plan others kinds before (RoundBegins round label) r keeps given = begun kinds before round r label (kind_by plan others round label) (round == r) keeps (kind_given plan others kinds before round label keeps given) refl
one_after plan others kinds before (RoundEnds round) r keeps given = ended kinds before round r (round == r) refl
one_after plan others kinds before line r keeps given = ap (λ (b : Bool). shown b (kind_of kinds r)) (sym (still_live before line r refl refl))

pub open_after : (plan : Plan) (others : OtherKinds) (kinds : List (Option ℕ)) (before : List RecordedLine) (line : RecordedLine) (old new : OpenRounds) → KeepsRules (before ++ line ∷ []) → AreKindsBy plan others (before ++ line ∷ []) kinds → AreOpen kinds before old
    → ((r : ℕ) → value_at new.kinds r ≡ entry_after_line plan others line r (value_at old.kinds r)) → AreOpen kinds (before ++ line ∷ []) new
open_after plan others kinds before line old new keeps given so kept = record {
  kept = λ r. kept r ∙ (ap (entry_after_line plan others line r) (so.kept r) ∙ one_after plan others kinds before line r keeps given);
}

none_live : (r : ℕ) → is_live [] (Round r) ≡ false
unfolding is_begun
none_live r = refl

pub none_open : (kinds : List (Option ℕ)) (rounds : OpenRounds) → ((r : ℕ) → value_at rounds.kinds r ≡ None) → AreOpen kinds [] rounds
none_open kinds rounds none = record { kept = λ r. none r ∙ sym (ap (λ (b : Bool). shown b (kind_of kinds r)) (none_live r)) }

-- ---- the kind of the line's round
ended_kind : (kinds : List (Option ℕ)) (before : List RecordedLine) (round : ℕ) (old : OpenRounds) → KeepsRules (before ++ RoundEnds round ∷ []) → AreOpen kinds before old → kind_in old round ≡ kind_of kinds round
ended_kind kinds before round old keeps so =
    let live = ended_live before (RoundEnds round) (Round round) keeps (eq-eqb round round refl) in
    let there : value_at old.kinds round ≡ Some (kind_of kinds round) = so.kept round ∙ ap (λ (b : Bool). shown b (kind_of kinds round)) live in
    ap (option_and_then (λ (kind : Option ℕ). kind)) there

pub line_kind : (plan : Plan) (others : OtherKinds) (kinds : List (Option ℕ)) (before : List RecordedLine) (line : RecordedLine) (old : OpenRounds) → KeepsRules (before ++ line ∷ []) → AreKindsBy plan others (before ++ line ∷ []) kinds → AreOpen kinds before old
    → kind_at kinds line ≡ kind_by_line plan others old line
line_kind plan others kinds before (RoundBegins round label) old keeps given so = kind_given plan others kinds before round label keeps given
line_kind plan others kinds before (RoundEnds round) old keeps given so = sym (ended_kind kinds before round old keeps so)
line_kind plan others kinds before line old keeps given so = refl
