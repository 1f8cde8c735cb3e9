-- The stored rounds are correct after one more line.
use Rattle.std.proofs.Common.{◌≡◌, ℕ, ◌≤◌, ◌&&◌, not, false, List, [], ◌∷◌, ◌++◌, is_some, arith}
use Rattle.recordings.specs.RecordingLine.{RecordedLine, Head, Pool, RoundBegins, RoundEnds, Submits, Refused, JobStarts, JobEnds, JobThrew, Got, TimedOut, Interrupted, Cancels, InvokesAny, Removed, ShutDown, Unseen, End}
use Rattle.recordings.specs.declared.trace_validator.TraceValidator.{TraceValidator}
use Rattle.recordings.specs.Before as said
use Rattle.recordings.specs.StoredState.{round_at}
use Rattle.recordings.specs.StateChanges.{AppliesLine}
use Rattle.recordings.specs.StateOfLines.{Represents}
use Rattle.recordings.proofs.Appended.{is_begun_more, is_ended_more}
use Rattle.recordings.proofs.Keeping.{Keeps}

pub not_begun_after : (old new : TraceValidator) (before : List RecordedLine) (line : RecordedLine) → Represents old before → Keeps before line → AppliesLine old line new → (r : ℕ) → new.rounds.begun ≤ r → said.is_begun (before ++ line ∷ []) r ≡ false
not_begun_after old new before Head s k f r past = grind (arith, past, is_begun_more before Head r, s.not_begun r, s.rounds_begun, f.rounds_begun, k.numbers)
not_begun_after old new before (Pool name sizes) s k f r past = grind (arith, past, is_begun_more before (Pool name sizes) r, s.not_begun r, s.rounds_begun, f.rounds_begun, k.numbers)
not_begun_after old new before (RoundBegins round kind) s k f r past = grind (arith, past, is_begun_more before (RoundBegins round kind) r, s.not_begun r, s.rounds_begun, f.rounds_begun, k.numbers)
not_begun_after old new before (RoundEnds round) s k f r past = grind (arith, past, is_begun_more before (RoundEnds round) r, s.not_begun r, s.rounds_begun, f.rounds_begun, k.numbers)
not_begun_after old new before (Submits actor job class pool) s k f r past = grind (arith, past, is_begun_more before (Submits actor job class pool) r, s.not_begun r, s.rounds_begun, f.rounds_begun, k.numbers)
not_begun_after old new before (Refused actor job) s k f r past = grind (arith, past, is_begun_more before (Refused actor job) r, s.not_begun r, s.rounds_begun, f.rounds_begun, k.numbers)
not_begun_after old new before (JobStarts job) s k f r past = grind (arith, past, is_begun_more before (JobStarts job) r, s.not_begun r, s.rounds_begun, f.rounds_begun, k.numbers)
not_begun_after old new before (JobEnds job) s k f r past = grind (arith, past, is_begun_more before (JobEnds job) r, s.not_begun r, s.rounds_begun, f.rounds_begun, k.numbers)
not_begun_after old new before (JobThrew job) s k f r past = grind (arith, past, is_begun_more before (JobThrew job) r, s.not_begun r, s.rounds_begun, f.rounds_begun, k.numbers)
not_begun_after old new before (Got actor job) s k f r past = grind (arith, past, is_begun_more before (Got actor job) r, s.not_begun r, s.rounds_begun, f.rounds_begun, k.numbers)
not_begun_after old new before (TimedOut actor job) s k f r past = grind (arith, past, is_begun_more before (TimedOut actor job) r, s.not_begun r, s.rounds_begun, f.rounds_begun, k.numbers)
not_begun_after old new before (Interrupted actor job) s k f r past = grind (arith, past, is_begun_more before (Interrupted actor job) r, s.not_begun r, s.rounds_begun, f.rounds_begun, k.numbers)
not_begun_after old new before (Cancels actor job) s k f r past = grind (arith, past, is_begun_more before (Cancels actor job) r, s.not_begun r, s.rounds_begun, f.rounds_begun, k.numbers)
not_begun_after old new before (InvokesAny actor pool) s k f r past = grind (arith, past, is_begun_more before (InvokesAny actor pool) r, s.not_begun r, s.rounds_begun, f.rounds_begun, k.numbers)
not_begun_after old new before (Removed job) s k f r past = grind (arith, past, is_begun_more before (Removed job) r, s.not_begun r, s.rounds_begun, f.rounds_begun, k.numbers)
not_begun_after old new before (ShutDown pool) s k f r past = grind (arith, past, is_begun_more before (ShutDown pool) r, s.not_begun r, s.rounds_begun, f.rounds_begun, k.numbers)
not_begun_after old new before (Unseen pool jobs) s k f r past = grind (arith, past, is_begun_more before (Unseen pool jobs) r, s.not_begun r, s.rounds_begun, f.rounds_begun, k.numbers)
not_begun_after old new before End s k f r past = grind (arith, past, is_begun_more before End r, s.not_begun r, s.rounds_begun, f.rounds_begun, k.numbers)

pub not_ended_after : (old new : TraceValidator) (before : List RecordedLine) (line : RecordedLine) → Represents old before → Keeps before line → AppliesLine old line new → (r : ℕ) → new.rounds.begun ≤ r → said.is_ended (before ++ line ∷ []) r ≡ false
not_ended_after old new before Head s k f r past = grind (arith, past, is_ended_more before Head r, s.not_ended r, s.not_begun r, s.rounds_begun, f.rounds_begun, k.rounds)
not_ended_after old new before (Pool name sizes) s k f r past = grind (arith, past, is_ended_more before (Pool name sizes) r, s.not_ended r, s.not_begun r, s.rounds_begun, f.rounds_begun, k.rounds)
not_ended_after old new before (RoundBegins round kind) s k f r past = grind (arith, past, is_ended_more before (RoundBegins round kind) r, s.not_ended r, s.not_begun r, s.rounds_begun, f.rounds_begun, k.rounds)
not_ended_after old new before (RoundEnds round) s k f r past = grind (arith, past, is_ended_more before (RoundEnds round) r, s.not_ended r, s.not_begun r, s.rounds_begun, f.rounds_begun, k.rounds)
not_ended_after old new before (Submits actor job class pool) s k f r past = grind (arith, past, is_ended_more before (Submits actor job class pool) r, s.not_ended r, s.not_begun r, s.rounds_begun, f.rounds_begun, k.rounds)
not_ended_after old new before (Refused actor job) s k f r past = grind (arith, past, is_ended_more before (Refused actor job) r, s.not_ended r, s.not_begun r, s.rounds_begun, f.rounds_begun, k.rounds)
not_ended_after old new before (JobStarts job) s k f r past = grind (arith, past, is_ended_more before (JobStarts job) r, s.not_ended r, s.not_begun r, s.rounds_begun, f.rounds_begun, k.rounds)
not_ended_after old new before (JobEnds job) s k f r past = grind (arith, past, is_ended_more before (JobEnds job) r, s.not_ended r, s.not_begun r, s.rounds_begun, f.rounds_begun, k.rounds)
not_ended_after old new before (JobThrew job) s k f r past = grind (arith, past, is_ended_more before (JobThrew job) r, s.not_ended r, s.not_begun r, s.rounds_begun, f.rounds_begun, k.rounds)
not_ended_after old new before (Got actor job) s k f r past = grind (arith, past, is_ended_more before (Got actor job) r, s.not_ended r, s.not_begun r, s.rounds_begun, f.rounds_begun, k.rounds)
not_ended_after old new before (TimedOut actor job) s k f r past = grind (arith, past, is_ended_more before (TimedOut actor job) r, s.not_ended r, s.not_begun r, s.rounds_begun, f.rounds_begun, k.rounds)
not_ended_after old new before (Interrupted actor job) s k f r past = grind (arith, past, is_ended_more before (Interrupted actor job) r, s.not_ended r, s.not_begun r, s.rounds_begun, f.rounds_begun, k.rounds)
not_ended_after old new before (Cancels actor job) s k f r past = grind (arith, past, is_ended_more before (Cancels actor job) r, s.not_ended r, s.not_begun r, s.rounds_begun, f.rounds_begun, k.rounds)
not_ended_after old new before (InvokesAny actor pool) s k f r past = grind (arith, past, is_ended_more before (InvokesAny actor pool) r, s.not_ended r, s.not_begun r, s.rounds_begun, f.rounds_begun, k.rounds)
not_ended_after old new before (Removed job) s k f r past = grind (arith, past, is_ended_more before (Removed job) r, s.not_ended r, s.not_begun r, s.rounds_begun, f.rounds_begun, k.rounds)
not_ended_after old new before (ShutDown pool) s k f r past = grind (arith, past, is_ended_more before (ShutDown pool) r, s.not_ended r, s.not_begun r, s.rounds_begun, f.rounds_begun, k.rounds)
not_ended_after old new before (Unseen pool jobs) s k f r past = grind (arith, past, is_ended_more before (Unseen pool jobs) r, s.not_ended r, s.not_begun r, s.rounds_begun, f.rounds_begun, k.rounds)
not_ended_after old new before End s k f r past = grind (arith, past, is_ended_more before End r, s.not_ended r, s.not_begun r, s.rounds_begun, f.rounds_begun, k.rounds)

pub going_after : (old new : TraceValidator) (before : List RecordedLine) (line : RecordedLine) → Represents old before → Keeps before line → AppliesLine old line new → (r : ℕ) → is_some (round_at new.rounds r) ≡ (said.is_begun (before ++ line ∷ []) r && not (said.is_ended (before ++ line ∷ []) r))
going_after old new before Head s k f r = grind (arith, is_begun_more before Head r, is_ended_more before Head r, s.going r, s.not_ended r, s.rounds_begun, f.rounds r, k.numbers, k.rounds)
going_after old new before (Pool name sizes) s k f r = grind (arith, is_begun_more before (Pool name sizes) r, is_ended_more before (Pool name sizes) r, s.going r, s.not_ended r, s.rounds_begun, f.rounds r, k.numbers, k.rounds)
going_after old new before (RoundBegins round kind) s k f r = grind (arith, is_begun_more before (RoundBegins round kind) r, is_ended_more before (RoundBegins round kind) r, s.going r, s.not_ended r, s.rounds_begun, f.rounds r, k.numbers, k.rounds)
going_after old new before (RoundEnds round) s k f r = grind (arith, is_begun_more before (RoundEnds round) r, is_ended_more before (RoundEnds round) r, s.going r, s.not_ended r, s.rounds_begun, f.rounds r, k.numbers, k.rounds)
going_after old new before (Submits actor job class pool) s k f r = grind (arith, is_begun_more before (Submits actor job class pool) r, is_ended_more before (Submits actor job class pool) r, s.going r, s.not_ended r, s.rounds_begun, f.rounds r, k.numbers, k.rounds)
going_after old new before (Refused actor job) s k f r = grind (arith, is_begun_more before (Refused actor job) r, is_ended_more before (Refused actor job) r, s.going r, s.not_ended r, s.rounds_begun, f.rounds r, k.numbers, k.rounds)
going_after old new before (JobStarts job) s k f r = grind (arith, is_begun_more before (JobStarts job) r, is_ended_more before (JobStarts job) r, s.going r, s.not_ended r, s.rounds_begun, f.rounds r, k.numbers, k.rounds)
going_after old new before (JobEnds job) s k f r = grind (arith, is_begun_more before (JobEnds job) r, is_ended_more before (JobEnds job) r, s.going r, s.not_ended r, s.rounds_begun, f.rounds r, k.numbers, k.rounds)
going_after old new before (JobThrew job) s k f r = grind (arith, is_begun_more before (JobThrew job) r, is_ended_more before (JobThrew job) r, s.going r, s.not_ended r, s.rounds_begun, f.rounds r, k.numbers, k.rounds)
going_after old new before (Got actor job) s k f r = grind (arith, is_begun_more before (Got actor job) r, is_ended_more before (Got actor job) r, s.going r, s.not_ended r, s.rounds_begun, f.rounds r, k.numbers, k.rounds)
going_after old new before (TimedOut actor job) s k f r = grind (arith, is_begun_more before (TimedOut actor job) r, is_ended_more before (TimedOut actor job) r, s.going r, s.not_ended r, s.rounds_begun, f.rounds r, k.numbers, k.rounds)
going_after old new before (Interrupted actor job) s k f r = grind (arith, is_begun_more before (Interrupted actor job) r, is_ended_more before (Interrupted actor job) r, s.going r, s.not_ended r, s.rounds_begun, f.rounds r, k.numbers, k.rounds)
going_after old new before (Cancels actor job) s k f r = grind (arith, is_begun_more before (Cancels actor job) r, is_ended_more before (Cancels actor job) r, s.going r, s.not_ended r, s.rounds_begun, f.rounds r, k.numbers, k.rounds)
going_after old new before (InvokesAny actor pool) s k f r = grind (arith, is_begun_more before (InvokesAny actor pool) r, is_ended_more before (InvokesAny actor pool) r, s.going r, s.not_ended r, s.rounds_begun, f.rounds r, k.numbers, k.rounds)
going_after old new before (Removed job) s k f r = grind (arith, is_begun_more before (Removed job) r, is_ended_more before (Removed job) r, s.going r, s.not_ended r, s.rounds_begun, f.rounds r, k.numbers, k.rounds)
going_after old new before (ShutDown pool) s k f r = grind (arith, is_begun_more before (ShutDown pool) r, is_ended_more before (ShutDown pool) r, s.going r, s.not_ended r, s.rounds_begun, f.rounds r, k.numbers, k.rounds)
going_after old new before (Unseen pool jobs) s k f r = grind (arith, is_begun_more before (Unseen pool jobs) r, is_ended_more before (Unseen pool jobs) r, s.going r, s.not_ended r, s.rounds_begun, f.rounds r, k.numbers, k.rounds)
going_after old new before End s k f r = grind (arith, is_begun_more before End r, is_ended_more before End r, s.going r, s.not_ended r, s.rounds_begun, f.rounds r, k.numbers, k.rounds)
