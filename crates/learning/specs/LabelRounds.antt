-- Counters for the rounds of each label.
use Rattle.std.specs.Prelude.{◌≡◌, ℕ, List, ◌++◌, length, map, slice_get, string_bytes, Some}
use Rattle.support.specs.Numbered.{value_at}
use Rattle.recordings.specs.RecordingLine.{RecordedLine}
use Rattle.learning.specs.declared.label_rounds.LabelRounds.{LabelRounds}
use Rattle.learning.specs.Counts.{AreOfKinds}
use Rattle.learning.specs.LearningState.{AreCountsOf}

abbrev pub labels_of : LabelRounds → List (List ℕ)
labels_of rounds = map string_bytes rounds.labels.items

-- `rounds` has the counters after these lines. `kinds` has the label number of each round. Each entry of `open_labels` is the
-- label number of its round. If label numbers are taken as client kinds, the counters of each kind count its rounds, and the
-- name of the kind belongs to the family of their label. Both also hold with any rounds `more` and labels `names` that may
-- follow, because the lines name none of them.
pub record AreLabelRoundsOf (rounds : LabelRounds) (lines : List RecordedLine) : Type 0 where
  pub kinds : List ℕ
  pub begun : length kinds ≡ rounds.begun
  pub open_labels : (round kind : ℕ) → value_at rounds.open_labels round ≡ Some kind → slice_get kinds round ≡ Some kind
  pub counts : (more : List ℕ) → AreCountsOf (slice_get (kinds ++ more)) lines rounds.counts.items
  pub of_kinds : (more : List ℕ) (names : List (List ℕ)) → AreOfKinds (slice_get (kinds ++ more)) (labels_of rounds ++ names) lines
