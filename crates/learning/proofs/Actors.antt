-- Lemmas about the rounds and jobs of a list of lines.
use Rattle.std.proofs.Common.{◌≡◌, ◌||◌, ℕ, Bool, true, false, List, [], ◌∷◌, ◌++◌, None, refl, inl, arith}
use Rattle.std.specs.List.{Contains, list_any}
use Rattle.std.proofs.lemmas.Bool.{and_parts}
use Rattle.std.proofs.lemmas.List.Elements.{Contains-append_left, Contains-append_right}
use Rattle.recordings.specs.RecordingLine.{RecordedLine, RoundBegins, RoundEnds}
use Rattle.recordings.specs.Before.{is_begun}
use Rattle.recordings.specs.LineParts.{begins_round, is_begin}
use Rattle.recordings.specs.Rules.{first_broken_rule}
use Rattle.recordings.proofs.Keeping.{keeps_all}
use Rattle.learning.specs.Names.{HasBegun}
use Rattle.learning.specs.InferenceLimit.{HasActors}

pub begin_actors : (lines : List RecordedLine) (line : RecordedLine) → is_begin line ≡ true → Contains lines line → HasActors lines
begin_actors lines (RoundBegins round label) begins there = (label, inl (round, there))
begin_actors lines line begins there = absurd (grind (arith, begins))

-- ---- a round that ends
begun_here : (lines : List RecordedLine) (line : RecordedLine) (round : ℕ) → begins_round round line ≡ true → Contains lines line → (label : List ℕ) × HasBegun lines label
begun_here lines (RoundBegins one label) round begins there = (label, (one, there))
begun_here lines line round begins there = absurd (grind (arith, begins))

begun_at : (begins : Bool) (line : RecordedLine) (before : List RecordedLine) (round : ℕ) → begins_round round line ≡ begins → (begins || list_any (begins_round round) before) ≡ true
    → (list_any (begins_round round) before ≡ true → (label : List ℕ) × HasBegun before label) → (label : List ℕ) × HasBegun (line ∷ before) label
begun_at true line before round begins any rest = begun_here (line ∷ before) line round begins (0, omega arith, refl)
begun_at false line before round begins any rest = let begun = rest any in (begun.0, (begun.1.0, Contains-append_right (line ∷ []) before (RoundBegins begun.1.0 begun.0) begun.1.1))

begun_before : (before : List RecordedLine) (round : ℕ) → list_any (begins_round round) before ≡ true → (label : List ℕ) × HasBegun before label
begun_before [] round any = absurd (grind (arith, any))
begun_before (line ∷ before) round any = begun_at (begins_round round line) line before round refl any (begun_before before round)

-- A valid line ends only a round that has begun.
pub end_begun : (before after : List RecordedLine) (round : ℕ) → first_broken_rule before (RoundEnds round) ≡ None → (label : List ℕ) × HasBegun (before ++ RoundEnds round ∷ after) label
unfolding is_begun
end_begun before after round kept =
    let going = and_parts (is_begun before round) _ (keeps_all before (RoundEnds round) kept).rounds in
    let begun = begun_before before round going.0 in
    (begun.0, (begun.1.0, Contains-append_left before (RoundEnds round ∷ after) (RoundBegins begun.1.0 begun.0) begun.1.1))
