-- A search for the first line of a recording that meets a condition.
use Rattle.std.specs.Prelude.{◌≡◌, ◌+◌, ℕ, Bool, false, true, List, [], slice_get, take, Option, Some, None}
use Rattle.std.specs.List.{list_any}
use Rattle.recordings.specs.declared.recording_line.RecordedActor.{RecordedActor}
use Rattle.recordings.specs.declared.recording_line.RecordedActor.TheVariants.{Job, Round}
use Rattle.recordings.specs.declared.recording_line.Line.{Line}
use Rattle.recordings.specs.RecordingLine.{RecordedLine, Submits, RoundBegins, RoundEnds, JobEnds, JobThrew, Got, InvokesAny, Unseen, line_view}
use Rattle.recordings.specs.LineParts as parts
use Rattle.recordings.specs.LineParts.{submits_job, begins_round, ends_round, finishes_job}
use Rattle.recordings.specs.LineSteps.{gets_by}
use Rattle.conformance.specs.declared.line_query.LineQuery.{LineQuery}
use Rattle.conformance.specs.declared.line_query.LineQuery.TheVariants as line_query

abbrev pub is_same_actor : RecordedActor → RecordedActor → Bool
is_same_actor one other = parts.is_same_actor one other

-- The line ends this actor.
abbrev pub is_last : RecordedActor → RecordedLine → Bool
is_last (Job job) line = finishes_job job line
is_last (Round round) line = ends_round round line

abbrev pub is_any : RecordedLine → Bool
is_any (InvokesAny actor pool) = true
is_any line = false

abbrev pub is_unseen : RecordedLine → Bool
is_unseen (Unseen pool jobs) = true
is_unseen line = false

abbrev pub is_match : LineQuery → RecordedLine → Bool
is_match (line_query.Submit job) line = submits_job job line
is_match (line_query.Begin round) line = begins_round round line
is_match (line_query.Got actor job) line = gets_by actor job line
is_match (line_query.Last actor) line = is_last actor line
is_match line_query.InvokesAny line = is_any line
is_match line_query.Unseen line = is_unseen line

-- The condition that the line meets, or `None` if it meets none.
abbrev pub query_of : RecordedLine → Option LineQuery
query_of (Submits actor job class pool) = Some (line_query.Submit job)
query_of (RoundBegins round kind) = Some (line_query.Begin round)
query_of (Got actor job) = Some (line_query.Got actor job)
query_of (RoundEnds round) = Some (line_query.Last (Round round))
query_of (JobEnds job) = Some (line_query.Last (Job job))
query_of (JobThrew job) = Some (line_query.Last (Job job))
query_of (InvokesAny actor pool) = Some line_query.InvokesAny
query_of (Unseen pool jobs) = Some line_query.Unseen
query_of line = None

-- The condition for the line that gives the actor its label.
abbrev pub label_line : RecordedActor → LineQuery
label_line (Job job) = line_query.Submit job
label_line (Round round) = line_query.Begin round

-- The class in a `submit` line, or the client kind in a `begin` line. It is empty for any other line.
abbrev pub label_in : RecordedLine → List ℕ
label_in (Submits actor job class pool) = class
label_in (RoundBegins round kind) = kind
label_in line = []

-- The pool in a `submit`, `any` or `unseen` line. It is empty for any other line.
abbrev pub pool_in : RecordedLine → List ℕ
pool_in (Submits actor job class pool) = pool
pool_in (InvokesAny actor pool) = pool
pool_in (Unseen pool jobs) = pool
pool_in line = []

-- The found line with its number. The program's `Line` is converted to a `RecordedLine`.
abbrev pub found_seen : Option (ℕ × Line) → Option (ℕ × RecordedLine)
found_seen None = None
found_seen (Some (number, line)) = Some (number, line_view line)

-- The lines have this line at this number. Lines are numbered from 1.
abbrev pub IsLine : List RecordedLine → ℕ → RecordedLine → Type 0
IsLine lines number line = (i : ℕ) × (number ≡ i + 1) × (slice_get lines i ≡ Some line)

-- The line with this number meets the condition, and no earlier one does.
pub record IsFirstAt (lines : List RecordedLine) (query : LineQuery) (number : ℕ) (line : RecordedLine) : Type 0 where
  pub before : ℕ
  pub number_is : number ≡ before + 1
  pub there : slice_get lines before ≡ Some line
  pub is : is_match query line ≡ true
  pub none_before : list_any (is_match query) (take before lines) ≡ false

-- The first line that meets the condition, or `None` if there is none.
abbrev pub IsFirstLine : List RecordedLine → LineQuery → Option (ℕ × RecordedLine) → Type 0
IsFirstLine lines query None = list_any (is_match query) lines ≡ false
IsFirstLine lines query (Some (number, line)) = IsFirstAt lines query number line

-- The class or the client kind in the found line, or an empty name if no line was found.
abbrev pub label_seen : Option (ℕ × RecordedLine) → List ℕ
label_seen None = []
label_seen (Some (number, line)) = label_in line

-- The pool in the found line, or an empty name if no line was found.
abbrev pub pool_seen : Option (ℕ × RecordedLine) → List ℕ
pool_seen None = []
pool_seen (Some (number, line)) = pool_in line

-- `label` and `pool` are the class and the pool in the `submit` line of a job. For a round, `label` is the client kind in its
-- `begin` line, and `pool` is empty. Both are empty if there is no such line.
pub record IsLabelOf (lines : List RecordedLine) (actor : RecordedActor) (label pool : List ℕ) : Type 0 where
  pub found : Option (ℕ × RecordedLine)
  pub first : IsFirstLine lines (label_line actor) found
  pub label_is : label ≡ label_seen found
  pub pool_is : pool ≡ pool_seen found

-- `pool` is the pool in the first line that meets the condition. It is empty if there is no such line.
pub record IsPoolOf (lines : List RecordedLine) (query : LineQuery) (pool : List ℕ) : Type 0 where
  pub found : Option (ℕ × RecordedLine)
  pub first : IsFirstLine lines query found
  pub pool_is : pool ≡ pool_seen found
