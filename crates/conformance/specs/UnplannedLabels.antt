-- The labels of a recording that are not in the plan.
use Rattle.std.specs.Prelude.{◌≡◌, ◌≤◌, ◌+◌, ◌||◌, ◌⊎◌, ℕ, Bool, true, false, List, [], ◌∷◌, ◌++◌, length, All, Contains, count_by, string_bytes}
use Rattle.std.specs.List.{list_any}
use Rattle.std.specs.Str.{bytes_eq}
use Rattle.std.specs.declared.alloc.Global.{Global}
use Rattle.std.specs.declared.string.String.{String}
use Rattle.job_bodies.specs.Plan.{Plan}
use Rattle.recordings.specs.declared.recording_line.RecordedActor.{RecordedActor}
use Rattle.recordings.specs.RecordingLine.{RecordedLine, Submits, RoundBegins}
use Rattle.conformance.specs.Family.{class_family, client_family}
use Rattle.conformance.specs.declared.unplanned.UnplannedLabel.{UnplannedLabel}
use Rattle.conformance.specs.declared.unplanned.UnplannedLabel.TheVariants as code
use Rattle.conformance.specs.declared.unplanned.UnplannedLabels.{UnplannedLabels}
use Rattle.conformance.specs.LabelSet.{has_label, pair_text}
use Rattle.conformance.specs.LineQuery.{IsLine}

-- The line after these lines has this number. Lines are numbered from 1.
abbrev pub IsNext : ℕ → List RecordedLine → Type 0
IsNext number before = number ≡ length before + 1

-- ---- one label
-- Line `number` is the first line that submits a job of this class to this pool, and the plan has no such class in that pool.
pub record IsClassNotPlanned (plan : Plan) (lines : List RecordedLine) (number : ℕ) (class pool : List ℕ) : Type 0 where
  pub actor : RecordedActor
  pub job : ℕ
  pub line : IsLine lines number (Submits actor job class pool)
  pub none : class_family plan class pool ≡ []
  pub first : (earlier : ℕ) (by : RecordedActor) (one : ℕ) → IsLine lines earlier (Submits by one class pool) → number ≤ earlier

-- Line `number` is the first line that begins a round of this client kind, and the plan has no such kind.
pub record IsKindNotPlanned (plan : Plan) (lines : List RecordedLine) (number : ℕ) (kind : List ℕ) : Type 0 where
  pub round : ℕ
  pub line : IsLine lines number (RoundBegins round kind)
  pub none : client_family plan kind ≡ []
  pub first : (earlier : ℕ) (one : ℕ) → IsLine lines earlier (RoundBegins one kind) → number ≤ earlier

abbrev pub IsNotPlanned : Plan → List RecordedLine → UnplannedLabel → Type 0
IsNotPlanned plan lines (code.Class line class pool) = IsClassNotPlanned plan lines line (string_bytes class) (string_bytes pool)
IsNotPlanned plan lines (code.Kind line kind) = IsKindNotPlanned plan lines line (string_bytes kind)

-- ---- all labels
-- The element is this class in this pool.
abbrev pub names_class : List ℕ → List ℕ → UnplannedLabel → Bool
names_class class pool (code.Class line c p) = bytes_eq (pair_text (string_bytes c) (string_bytes p)) (pair_text class pool)
names_class class pool (code.Kind line kind) = false

abbrev pub names_kind : List ℕ → UnplannedLabel → Bool
names_kind kind (code.Class line c p) = false
names_kind kind (code.Kind line k) = bytes_eq (string_bytes k) kind

-- The list has each label of the lines that is not in the plan, once and with the first line that has it. It has no other
-- label.
pub record AreNotPlanned (plan : Plan) (lines : List RecordedLine) (found : List UnplannedLabel) : Type 0 where
  pub sound : All (IsNotPlanned plan lines) found
  pub classes : (actor : RecordedActor) (job : ℕ) (class pool : List ℕ) → Contains lines (Submits actor job class pool) → class_family plan class pool ≡ []
      → list_any (names_class class pool) found ≡ true
  pub kinds : (round : ℕ) (kind : List ℕ) → Contains lines (RoundBegins round kind) → client_family plan kind ≡ []
      → list_any (names_kind kind) found ≡ true
  pub class_once : (class pool : List ℕ) → count_by (names_class class pool) found ≤ 1
  pub kind_once : (kind : List ℕ) → count_by (names_kind kind) found ≤ 1

-- The state is correct for these lines. Its list `found` has the labels that are not in the plan, and its two sets have
-- exactly the labels of `found`.
pub record AreUnplannedLabelsOf (plan : Plan) (lines : List RecordedLine) (unplanned : UnplannedLabels) : Type 0 where
  pub found : AreNotPlanned plan lines unplanned.found.items
  pub kept_classes : (class pool : List ℕ) → has_label unplanned.classes (pair_text class pool) ≡ list_any (names_class class pool) unplanned.found.items
  pub kept_kinds : (kind : List ℕ) → has_label unplanned.kinds kind ≡ list_any (names_kind kind) unplanned.found.items

-- ---- one more line
-- The state after a `submit` line. The label is added if the plan has no such class in the pool, and if the label has not
-- been added before.
pub data AddsClass (plan : Plan) (number : ℕ) (class pool : List ℕ) (old new : UnplannedLabels) : Type 0 where
  class_stays : (has_label old.classes (pair_text class pool) ≡ true) ⊎ (¬ (class_family plan class pool ≡ [])) → new ≡ old → AddsClass plan number class pool old new
  class_added : has_label old.classes (pair_text class pool) ≡ false → (c p : String Global) → string_bytes c ≡ class → string_bytes p ≡ pool → class_family plan class pool ≡ []
      → new.found.items ≡ old.found.items ++ code.Class number c p ∷ []
      → ((q : List ℕ) → has_label new.classes q ≡ (has_label old.classes q || bytes_eq (pair_text class pool) q))
      → new.kinds ≡ old.kinds
      → AddsClass plan number class pool old new

-- The state after a `begin` line. The label is added if the plan has no such client kind, and if the label has not been added
-- before.
pub data AddsKind (plan : Plan) (number : ℕ) (kind : List ℕ) (old new : UnplannedLabels) : Type 0 where
  kind_stays : (has_label old.kinds kind ≡ true) ⊎ (¬ (client_family plan kind ≡ [])) → new ≡ old → AddsKind plan number kind old new
  kind_added : has_label old.kinds kind ≡ false → (k : String Global) → string_bytes k ≡ kind → client_family plan kind ≡ []
      → new.found.items ≡ old.found.items ++ code.Kind number k ∷ []
      → ((q : List ℕ) → has_label new.kinds q ≡ (has_label old.kinds q || bytes_eq kind q))
      → new.classes ≡ old.classes
      → AddsKind plan number kind old new
