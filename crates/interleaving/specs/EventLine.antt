-- The content of an event line: an event, or the question whether some jobs wait only for each other.
use Rattle.std.specs.Prelude.{ℕ, ◌+◌, if◌then◌else◌, List, map, position, codes, Option, Some, None, Result, Ok, Err, option_map, option_and_then}
use Rattle.std.specs.Str.{bytes_eq}
use Rattle.support.specs.Reading.{ok_or, read_each}
use Rattle.job_bodies.specs.Plan.{Plan}
use Rattle.pool_machine.specs.declared.event.Event.{Event}
use Rattle.pool_machine.specs.declared.event.Event.TheVariants as event
use Rattle.interleaving.specs.declared.event_line.EventLine.{EventLine}
use Rattle.interleaving.specs.declared.event_line.EventLine.TheVariants as code
use Rattle.interleaving.specs.declared.lines.BadEventLine.{BadEventLine}
use Rattle.support.specs.Pieces.{lines_of, split_space, first_line, after_line}
use Rattle.support.specs.LineNumber.{number_of}
use Rattle.interleaving.specs.Words.{members_in}

pub data Line : Type 0 where
  Perform : Event → Line
  Stuck : List ℕ → Line

-- the `Line` that a parsed line of the code represents
abbrev pub line_seen : EventLine → Line
line_seen (code.Perform e) = Perform e
line_seen (code.Stuck members) = Stuck members

-- the index of the pool with this name, or None if no pool has this name
unfoldable pub pool_named : Plan → List ℕ → Option ℕ
pool_named plan name = position (λ pool. bytes_eq pool.name name) plan.pools

-- the event of a line that consists of this verb, a space and this text; None if the line is not an event
unfoldable pub event_of : Plan → List ℕ → List ℕ → Option Event
event_of plan verb rest =
    if bytes_eq verb (codes "client") then option_map (λ n. event.Client n) (number_of rest)
    else (if bytes_eq verb (codes "job") then option_map (λ n. event.Job n) (number_of rest)
    else (if bytes_eq verb (codes "take") then option_map (λ p. event.Take p) (pool_named plan rest)
    else (if bytes_eq verb (codes "retire") then option_map (λ p. event.Retire p) (pool_named plan rest)
    else None)))

-- the question about the jobs with these numbers, which are separated by single spaces; None if a word is not a number
unfoldable pub stuck_of : List ℕ → Option Line
stuck_of rest = option_map Stuck (members_in rest)

-- the content of a line that consists of this verb, a space and this text; None if the line is malformed
unfoldable pub line_of_verb : Plan → List ℕ → List ℕ → Option Line
line_of_verb plan verb rest =
    if bytes_eq verb (codes "stuck") then stuck_of rest else option_map Perform (event_of plan verb rest)

-- the content of a line, for this plan; None if the line is malformed
unfoldable pub line_of : Plan → List ℕ → Option Line
line_of plan text = option_and_then (λ words. line_of_verb plan words.0 words.1) (split_space text)

-- the content of the first line of a text, and the text after it; None if the line is malformed
abbrev pub split_event_line : Plan → List ℕ → Option (Line × List ℕ)
split_event_line plan text = option_map (λ line. (line, after_line text)) (line_of plan (first_line text))

-- the content of the line at this index; if the line is malformed, an error with its number, which is the index plus 1
abbrev pub line_at : Plan → ℕ → List ℕ → Result Line ℕ
line_at plan place text = ok_or (line_of plan text) (place + 1)

-- the contents of all lines of a text, or the number of the first malformed line, counted from 1
unfoldable pub event_lines : Plan → List ℕ → Result (List Line) ℕ
event_lines plan text = read_each (line_at plan) 0 (lines_of text)

-- ---- the lines one at a time

-- the content of a line that the parser returned, or None if it returned an error
abbrev pub line_read : Result EventLine BadEventLine → Option Line
line_read (Ok line) = Some (line_seen line)
line_read (Err bad) = None

-- the content of each line of a text; None for a malformed line
abbrev pub lines_read : Plan → List ℕ → List (Option Line)
lines_read plan text = map (line_of plan) (lines_of text)

-- the contents of all lines, or the number of the first malformed line. The first line has the index i and the number i + 1.
abbrev pub all_from : ℕ → List (Option Line) → Result (List Line) ℕ
all_from i lines = read_each (λ place line. ok_or line (place + 1)) i lines
