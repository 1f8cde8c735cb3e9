-- Labels of a recording.
use Rattle.std.specs.Prelude.{ℕ, Bool, List, ◌++◌, codes}
use Rattle.std.specs.HashSet.{contains_text}
use Rattle.conformance.specs.declared.labels.LabelSet.{LabelSet}

abbrev pub has_label : LabelSet → List ℕ → Bool
has_label labels label = contains_text labels.labels label

-- A class and its pool as one text, separated by a space as in a `submit` line.
abbrev pub pair_text : List ℕ → List ℕ → List ℕ
pair_text class pool = class ++ codes " " ++ pool
