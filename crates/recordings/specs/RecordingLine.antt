-- The parsed lines of a recording.
use Rattle.std.specs.Prelude.{ℕ, if◌then◌else◌, List, map, codes, Option, Some, None, Result, Ok, Err}
use Rattle.std.specs.Str.{bytes_eq}
use Rattle.support.specs.Pieces.{split_space}
use Rattle.support.specs.LineNumber.{number_of}
use Rattle.recordings.specs.declared.recording_line.RecordedActor.{RecordedActor}
use Rattle.recordings.specs.declared.recording_line.RecordedActor.TheVariants as actor
use Rattle.recordings.specs.declared.recording_line.Line.{Line}
use Rattle.recordings.specs.declared.recording_line.Line.TheVariants as code
use Rattle.recordings.specs.declared.lines.BadLine.{BadLine}
use Rattle.recordings.specs.declared.pool_sizes.PoolSizes.{PoolSizes}
use Rattle.recordings.specs.Words.{◌>>=◌, name_of, parse_number, parse_name}
use Rattle.recordings.specs.PoolSizes.{pool_sizes_of}
use Rattle.recordings.specs.WholeLines.{whole_lines}

-- a well-formed line, with its names as lists of bytes
pub data RecordedLine : Type 0 where
  Head : RecordedLine
  Pool : List ℕ → PoolSizes → RecordedLine
  RoundBegins : ℕ → List ℕ → RecordedLine
  RoundEnds : ℕ → RecordedLine
  Submits : RecordedActor → ℕ → List ℕ → List ℕ → RecordedLine
  Refused : RecordedActor → ℕ → RecordedLine
  JobStarts : ℕ → RecordedLine
  JobEnds : ℕ → RecordedLine
  JobThrew : ℕ → RecordedLine
  Got : RecordedActor → ℕ → RecordedLine
  TimedOut : RecordedActor → ℕ → RecordedLine
  Interrupted : RecordedActor → ℕ → RecordedLine
  Cancels : RecordedActor → ℕ → RecordedLine
  InvokesAny : RecordedActor → List ℕ → RecordedLine
  Removed : ℕ → RecordedLine
  ShutDown : List ℕ → RecordedLine
  Unseen : List ℕ → ℕ → RecordedLine
  End : RecordedLine

-- the line of the specification that corresponds to a line of the code
abbrev pub line_view : Line → RecordedLine
line_view code.Head = Head
line_view (code.Pool name sizes) = Pool name.now sizes
line_view (code.RoundBegins round kind) = RoundBegins round kind.now
line_view (code.RoundEnds round) = RoundEnds round
line_view (code.Submits actor job class pool) = Submits actor job class.now pool.now
line_view (code.Refused actor job) = Refused actor job
line_view (code.JobStarts job) = JobStarts job
line_view (code.JobEnds job) = JobEnds job
line_view (code.JobThrew job) = JobThrew job
line_view (code.Got actor job) = Got actor job
line_view (code.TimedOut actor job) = TimedOut actor job
line_view (code.Interrupted actor job) = Interrupted actor job
line_view (code.Cancels actor job) = Cancels actor job
line_view (code.InvokesAny actor pool) = InvokesAny actor pool.now
line_view (code.Removed job) = Removed job
line_view (code.ShutDown pool) = ShutDown pool.now
line_view (code.Unseen pool jobs) = Unseen pool.now jobs
line_view code.End = End

-- ---- lines of actors
-- the line of an action on a job, given the word for the action and the job's number
unfoldable pub job_action_of : RecordedActor → List ℕ → ℕ → Option RecordedLine
job_action_of actor word job =
    if bytes_eq word (codes "got") then Some (Got actor job)
    else (if bytes_eq word (codes "refused") then Some (Refused actor job)
    else (if bytes_eq word (codes "timeout") then Some (TimedOut actor job)
    else (if bytes_eq word (codes "interrupted") then Some (Interrupted actor job)
    else (if bytes_eq word (codes "cancel") then Some (Cancels actor job)
    else None))))

-- the line of a submit, given the words `J CLASS POOL` after `submit`
unfoldable pub submit_of : RecordedActor → List ℕ → Option RecordedLine
submit_of actor text = parse_number text >>= λ job. parse_name job.1 >>= λ class. name_of class.1 >>= λ pool. Some (Submits actor job.0 class.0 pool)

-- the line of an action of an actor, given the first word after the actor and the other words
unfoldable pub action_of : RecordedActor → List ℕ → List ℕ → Option RecordedLine
action_of actor word rest =
    if bytes_eq word (codes "submit") then submit_of actor rest
    else (if bytes_eq word (codes "any") then (name_of rest >>= λ pool. Some (InvokesAny actor pool))
    else (number_of rest >>= λ job. job_action_of actor word job))

-- the line that begins with `job N`, given the words after that
unfoldable pub job_line_of : ℕ → List ℕ → Option RecordedLine
job_line_of job text =
    if bytes_eq text (codes "start") then Some (JobStarts job)
    else (if bytes_eq text (codes "end") then Some (JobEnds job)
    else (if bytes_eq text (codes "threw") then Some (JobThrew job)
    else (split_space text >>= λ words. action_of (actor.Job job) words.0 words.1)))

-- the line that begins with `round N`, given the words after that
unfoldable pub round_line_of : ℕ → List ℕ → Option RecordedLine
round_line_of round text =
    if bytes_eq text (codes "end") then Some (RoundEnds round)
    else (split_space text >>= λ words.
    if bytes_eq words.0 (codes "begin") then (name_of words.1 >>= λ kind. Some (RoundBegins round kind)) else action_of (actor.Round round) words.0 words.1)

-- ---- lines
-- the line without an actor, given its first word and the other words
unfoldable pub other_line_of : List ℕ → List ℕ → Option RecordedLine
other_line_of word rest =
    if bytes_eq word (codes "pool") then (parse_name rest >>= λ name. pool_sizes_of name.1 >>= λ sizes. Some (Pool name.0 sizes))
    else (if bytes_eq word (codes "recording") then (if bytes_eq rest (codes "1") then Some Head else None)
    else (if bytes_eq word (codes "removed") then (number_of rest >>= λ job. Some (Removed job))
    else (if bytes_eq word (codes "shutdown") then (name_of rest >>= λ pool. Some (ShutDown pool))
    else (if bytes_eq word (codes "unseen") then (parse_name rest >>= λ pool. number_of pool.1 >>= λ jobs. Some (Unseen pool.0 jobs))
    else None))))

-- the line of at least two words, given its first word and the other words
unfoldable pub line_of_words : List ℕ → List ℕ → Option RecordedLine
line_of_words word rest =
    if bytes_eq word (codes "job") then (parse_number rest >>= λ job. job_line_of job.0 job.1)
    else (if bytes_eq word (codes "round") then (parse_number rest >>= λ round. round_line_of round.0 round.1)
    else other_line_of word rest)

-- the line with this text, without its newline; None if the text has none of the forms of a line
unfoldable pub line_of : List ℕ → Option RecordedLine
line_of text = if bytes_eq text (codes "end") then Some End else (split_space text >>= λ words. line_of_words words.0 words.1)

-- ---- the lines of a text
-- the line of the specification that corresponds to a result of the parser; None for a line with none of the forms
abbrev pub line_read : Result Line BadLine → Option RecordedLine
line_read (Ok line) = Some (line_view line)
line_read (Err bad) = None

-- the lines of a text in order; None for a line with none of the forms
abbrev pub lines_read : List ℕ → List (Option RecordedLine)
lines_read text = map line_of (whole_lines text)
