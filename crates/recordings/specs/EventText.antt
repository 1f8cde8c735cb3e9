-- The texts of the invalidating events.
use Rattle.std.specs.Prelude.{ℕ, ◌++◌, List, codes, decimal}
use Rattle.recordings.specs.declared.invalidation.InvalidatingEvent.{InvalidatingEvent}
use Rattle.recordings.specs.declared.invalidation.InvalidatingEvent.TheVariants as event

-- The end of the text of an event, which says what happened.
abbrev pub outcome : InvalidatingEvent → List ℕ
outcome (event.Refused actor job) = codes "was refused"
outcome (event.TimedOut actor job) = codes "timed out"
outcome (event.Interrupted actor job) = codes "was interrupted"
outcome (event.Cancelled actor job) = codes "was cancelled"
outcome (event.AnyInvoked actor) = codes "invokeAny was called"
outcome (event.Removed job) = codes "was removed from its queue"
outcome (event.Threw job) = codes "threw an exception"
outcome (event.Unseen jobs) = codes "jobs were run that no line mentions"

-- The text of an event, without a line number and without a newline.
abbrev pub event_text : InvalidatingEvent → List ℕ
event_text (event.Refused actor job) = codes "job " ++ decimal job ++ codes " was refused"
event_text (event.TimedOut actor job) = codes "a get of job " ++ decimal job ++ codes " timed out"
event_text (event.Interrupted actor job) = codes "a get of job " ++ decimal job ++ codes " was interrupted"
event_text (event.Cancelled actor job) = codes "job " ++ decimal job ++ codes " was cancelled"
event_text (event.AnyInvoked actor) = codes "invokeAny was called"
event_text (event.Removed job) = codes "job " ++ decimal job ++ codes " was removed from its queue"
event_text (event.Threw job) = codes "job " ++ decimal job ++ codes " threw an exception"
event_text (event.Unseen jobs) = decimal jobs ++ codes " jobs were run that no line mentions"
