-- The text of a line, and the valid lines.
use Rattle.std.specs.Prelude.{ℕ, Bool, true, false, ◌&&◌, List, [], ◌∷◌, ◌++◌, codes, decimal}
use Rattle.std.specs.List.{join_with_byte}
use Rattle.job_bodies.specs.WellFormed.{is_valid_name}
use Rattle.support.specs.LineNumber.{is_valid_number}
use Rattle.recordings.specs.declared.recording_line.RecordedActor.{RecordedActor}
use Rattle.recordings.specs.declared.recording_line.RecordedActor.TheVariants.{Job, Round}
use Rattle.recordings.specs.declared.pool_sizes.PoolSizes.{PoolSizes}
use Rattle.recordings.specs.declared.pool_sizes.QueueKind.{QueueKind}
use Rattle.recordings.specs.declared.pool_sizes.QueueKind.TheVariants as queue
use Rattle.recordings.specs.declared.pool_sizes.HandlerKind.{HandlerKind}
use Rattle.recordings.specs.declared.pool_sizes.HandlerKind.TheVariants as handler
use Rattle.recordings.specs.RecordingLine.{RecordedLine, Head, Pool, RoundBegins, RoundEnds, Submits, Refused, JobStarts, JobEnds, JobThrew, Got, TimedOut, Interrupted, Cancels, InvokesAny, Removed, ShutDown, Unseen, End}

-- ---- the words of a line
abbrev pub queue_word : QueueKind → List ℕ
queue_word queue.Array = codes "array"
queue_word queue.Linked = codes "linked"
queue_word queue.Synchronous = codes "synchronous"
queue_word queue.Priority = codes "priority"
queue_word queue.Other = codes "other"

abbrev pub handler_word : HandlerKind → List ℕ
handler_word handler.Abort = codes "abort"
handler_word handler.CallerRuns = codes "caller_runs"
handler_word handler.Discard = codes "discard"
handler_word handler.DiscardOldest = codes "discard_oldest"
handler_word handler.Other = codes "other"

abbrev pub yes_no_word : Bool → List ℕ
yes_no_word true = codes "yes"
yes_no_word false = codes "no"

abbrev pub sizes_words : PoolSizes → List (List ℕ)
sizes_words sizes =
    codes "core" ∷ decimal sizes.core ∷ codes "max" ∷ decimal sizes.max ∷ codes "queue" ∷ queue_word sizes.queue ∷ decimal sizes.capacity ∷ codes "timeout" ∷ yes_no_word sizes.timeout
    ∷ codes "prestarted" ∷ decimal sizes.prestarted ∷ codes "handler" ∷ handler_word sizes.handler ∷ []

-- the two words of an actor, followed by these words
abbrev pub actor_words : RecordedActor → List (List ℕ) → List (List ℕ)
actor_words (Job n) words = codes "job" ∷ decimal n ∷ words
actor_words (Round n) words = codes "round" ∷ decimal n ∷ words

-- the text of an actor, followed by a space and this text
abbrev pub after_actor : RecordedActor → List ℕ → List ℕ
after_actor (Job n) text = codes "job" ++ 32 ∷ (decimal n ++ 32 ∷ text)
after_actor (Round n) text = codes "round" ++ 32 ∷ (decimal n ++ 32 ∷ text)

abbrev pub line_words : RecordedLine → List (List ℕ)
line_words Head = codes "recording" ∷ codes "1" ∷ []
line_words (Pool name sizes) = codes "pool" ∷ name ∷ sizes_words sizes
line_words (RoundBegins round kind) = actor_words (Round round) (codes "begin" ∷ kind ∷ [])
line_words (RoundEnds round) = actor_words (Round round) (codes "end" ∷ [])
line_words (Submits actor job class pool) = actor_words actor (codes "submit" ∷ decimal job ∷ class ∷ pool ∷ [])
line_words (Refused actor job) = actor_words actor (codes "refused" ∷ decimal job ∷ [])
line_words (JobStarts job) = actor_words (Job job) (codes "start" ∷ [])
line_words (JobEnds job) = actor_words (Job job) (codes "end" ∷ [])
line_words (JobThrew job) = actor_words (Job job) (codes "threw" ∷ [])
line_words (Got actor job) = actor_words actor (codes "got" ∷ decimal job ∷ [])
line_words (TimedOut actor job) = actor_words actor (codes "timeout" ∷ decimal job ∷ [])
line_words (Interrupted actor job) = actor_words actor (codes "interrupted" ∷ decimal job ∷ [])
line_words (Cancels actor job) = actor_words actor (codes "cancel" ∷ decimal job ∷ [])
line_words (InvokesAny actor pool) = actor_words actor (codes "any" ∷ pool ∷ [])
line_words (Removed job) = codes "removed" ∷ decimal job ∷ []
line_words (ShutDown pool) = codes "shutdown" ∷ pool ∷ []
line_words (Unseen pool jobs) = codes "unseen" ∷ pool ∷ decimal jobs ∷ []
line_words End = codes "end" ∷ []

-- the text of a line without its newline: its words, separated by single spaces
abbrev pub line_text : RecordedLine → List ℕ
line_text line = join_with_byte 32 (line_words line)

-- ---- valid lines
abbrev pub is_valid_actor : RecordedActor → Bool
is_valid_actor (Job n) = is_valid_number n
is_valid_actor (Round n) = is_valid_number n

abbrev pub has_valid_numbers : PoolSizes → Bool
has_valid_numbers sizes = is_valid_number sizes.core && is_valid_number sizes.max && is_valid_number sizes.capacity && is_valid_number sizes.prestarted

-- each number in the line is within the limit, and each name is valid
abbrev pub is_valid_line : RecordedLine → Bool
is_valid_line Head = true
is_valid_line (Pool name sizes) = is_valid_name name && has_valid_numbers sizes
is_valid_line (RoundBegins round kind) = is_valid_number round && is_valid_name kind
is_valid_line (RoundEnds round) = is_valid_number round
is_valid_line (Submits actor job class pool) = is_valid_actor actor && is_valid_number job && is_valid_name class && is_valid_name pool
is_valid_line (Refused actor job) = is_valid_actor actor && is_valid_number job
is_valid_line (JobStarts job) = is_valid_number job
is_valid_line (JobEnds job) = is_valid_number job
is_valid_line (JobThrew job) = is_valid_number job
is_valid_line (Got actor job) = is_valid_actor actor && is_valid_number job
is_valid_line (TimedOut actor job) = is_valid_actor actor && is_valid_number job
is_valid_line (Interrupted actor job) = is_valid_actor actor && is_valid_number job
is_valid_line (Cancels actor job) = is_valid_actor actor && is_valid_number job
is_valid_line (InvokesAny actor pool) = is_valid_actor actor && is_valid_name pool
is_valid_line (Removed job) = is_valid_number job
is_valid_line (ShutDown pool) = is_valid_name pool
is_valid_line (Unseen pool jobs) = is_valid_name pool && is_valid_number jobs
is_valid_line End = true
