-- The labels of jobs and rounds.
use Rattle.std.specs.Prelude.{◌≡◌, ℕ, ◌==◌, if◌then◌else◌, List, [], Option, Some, None, slice_get}
use Rattle.std.specs.List.{filter_map}
use Rattle.recordings.specs.declared.recording_line.RecordedActor.{RecordedActor}
use Rattle.recordings.specs.declared.recording_line.RecordedActor.TheVariants.{Job, Round}
use Rattle.recordings.specs.RecordingLine.{RecordedLine, RoundBegins, Submits}

-- The class and the pool in the line, if the line submits the job.
abbrev pub label_in : ℕ → RecordedLine → Option (List ℕ × List ℕ)
label_in job (Submits actor one class pool) = if one == job then Some (class, pool) else None
label_in job line = None

-- The class and the pool in the `submit` line of the job, or `None` if there is no such line.
unfoldable pub label_of : List RecordedLine → ℕ → Option (List ℕ × List ℕ)
label_of lines job = slice_get (filter_map (label_in job) lines) 0

-- The client kind in the line, if the line begins the round.
abbrev pub kind_in : ℕ → RecordedLine → Option (List ℕ)
kind_in round (RoundBegins one kind) = if one == round then Some kind else None
kind_in round line = None

-- The client kind in the `begin` line of the round, or `None` if there is no such line.
unfoldable pub kind_of : List RecordedLine → ℕ → Option (List ℕ)
kind_of lines round = slice_get (filter_map (kind_in round) lines) 0

-- The actor has this label and this pool in the lines. The pool of a round is empty.
abbrev pub HasLabel : List RecordedLine → RecordedActor → List ℕ → List ℕ → Type 0
HasLabel lines (Job job) label pool = label_of lines job ≡ Some (label, pool)
HasLabel lines (Round round) label pool = (kind_of lines round ≡ Some label) × (pool ≡ [])
