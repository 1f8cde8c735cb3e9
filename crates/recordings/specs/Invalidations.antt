-- The events of a recording that invalidate a SAFE answer.
use Rattle.std.specs.Prelude.{ℕ, ◌+◌, ◌==◌, ◌&&◌, not, Bool, false, if◌then◌else◌, List, [], ◌∷◌, codes, Option, Some, None}
use Rattle.std.specs.Str.{bytes_eq}
use Rattle.std.specs.List.{filter, slice_get, cons_option}
use Rattle.std.specs.Option.{option_and_then}
use Rattle.recordings.specs.declared.recording_line.RecordedActor.{RecordedActor}
use Rattle.recordings.specs.RecordingLine.{RecordedLine, Refused, JobThrew, Got, TimedOut, Interrupted, Cancels, InvokesAny, Removed, Unseen}
use Rattle.recordings.specs.LineParts.{is_same_actor, is_of}
use Rattle.recordings.specs.declared.invalidation.Invalidation.{Invalidation}
use Rattle.recordings.specs.declared.invalidation.InvalidatingEvent.{InvalidatingEvent}
use Rattle.recordings.specs.declared.invalidation.InvalidatingEvent.TheVariants as event

-- ---- keywords
abbrev pub keyword_of : InvalidatingEvent → List ℕ
keyword_of (event.Refused actor job) = codes "refused"
keyword_of (event.TimedOut actor job) = codes "timeout"
keyword_of (event.Interrupted actor job) = codes "interrupted"
keyword_of (event.Cancelled actor job) = codes "cancel"
keyword_of (event.AnyInvoked actor) = codes "any"
keyword_of (event.Removed job) = codes "removed"
keyword_of (event.Threw job) = codes "threw"
keyword_of (event.Unseen jobs) = codes "unseen"

abbrev pub is_same_type : InvalidatingEvent → InvalidatingEvent → Bool
is_same_type one other = bytes_eq (keyword_of one) (keyword_of other)

-- The invalidation has the same type as this event.
abbrev pub has_type : InvalidatingEvent → Invalidation → Bool
has_type event invalidation = is_same_type invalidation.event event

-- ---- repeated gets
-- The line reports a get of the job by the actor. The get returned, timed out or was interrupted.
abbrev pub repeats_get : RecordedActor → ℕ → RecordedLine → Bool
repeats_get actor job (Got who one) = is_same_actor who actor && (one == job)
repeats_get actor job (TimedOut who one) = is_same_actor who actor && (one == job)
repeats_get actor job (Interrupted who one) = is_same_actor who actor && (one == job)
repeats_get actor job line = false

-- The first line that belongs to the actor.
unfoldable pub next_of : RecordedActor → List RecordedLine → Option RecordedLine
next_of actor after = slice_get (filter (is_of actor) after) 0

abbrev pub is_repeated_next : RecordedActor → ℕ → Option RecordedLine → Bool
is_repeated_next actor job None = false
is_repeated_next actor job (Some line) = repeats_get actor job line

-- ---- invalidating events
-- The invalidating event that the line reports, if any.
abbrev pub event_of : RecordedLine → Option InvalidatingEvent
event_of (Refused actor job) = Some (event.Refused actor job)
event_of (TimedOut actor job) = Some (event.TimedOut actor job)
event_of (Interrupted actor job) = Some (event.Interrupted actor job)
event_of (Cancels actor job) = Some (event.Cancelled actor job)
event_of (InvokesAny actor pool) = Some (event.AnyInvoked actor)
event_of (Removed job) = Some (event.Removed job)
event_of (JobThrew job) = Some (event.Threw job)
event_of (Unseen pool jobs) = Some (event.Unseen jobs)
event_of line = None

-- The event does not count: it is a get that timed out or was interrupted, and the actor's next line repeats the get.
abbrev pub is_excused : InvalidatingEvent → List RecordedLine → Bool
is_excused (event.TimedOut actor job) after = is_repeated_next actor job (next_of actor after)
is_excused (event.Interrupted actor job) after = is_repeated_next actor job (next_of actor after)
is_excused event after = false

-- The invalidating event that line `number` reports, if it counts. Whether it counts depends on the lines after it.
abbrev pub invalidation_of : ℕ → RecordedLine → List RecordedLine → Option Invalidation
invalidation_of number line after = option_and_then (λ event. if is_excused event after then None else Some (record { line = number; event = event })) (event_of line)

-- The invalidating events of the lines, without those that do not count. `number` is the number of the first line.
abbrev pub invalidations_from : ℕ → List RecordedLine → List Invalidation
invalidations_from number [] = []
invalidations_from number (line ∷ after) = cons_option (invalidation_of number line after) (invalidations_from (number + 1) after)

-- The first event of each type.
abbrev pub first_of_each : List Invalidation → List Invalidation
first_of_each [] = []
first_of_each (invalidation ∷ invalidations) = invalidation ∷ filter (λ other. not (has_type other.event invalidation)) (first_of_each invalidations)

unfoldable pub invalidations_of : List RecordedLine → List Invalidation
invalidations_of lines = first_of_each (invalidations_from 1 lines)
