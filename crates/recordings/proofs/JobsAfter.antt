-- The stored jobs are correct after one more line.
use Rattle.std.proofs.Common.{◌≡◌, ℕ, ◌+◌, ◌≤◌, ◌&&◌, ◌||◌, ◌==◌, nat_lt, Bool, true, false, if◌then◌else◌, List, [], ◌∷◌, ◌++◌, is_none, Option, Some, None, refl, arith}
use Rattle.std.specs.Option.{option_map}
use Rattle.recordings.specs.declared.recording_line.RecordedActor.{RecordedActor}
use Rattle.recordings.specs.declared.recording_line.RecordedActor.TheVariants.{Job}
use Rattle.recordings.specs.RecordingLine.{RecordedLine, Head, Pool, RoundBegins, RoundEnds, Submits, Refused, JobStarts, JobEnds, JobThrew, Got, TimedOut, Interrupted, Cancels, InvokesAny, Removed, ShutDown, Unseen, End}
use Rattle.recordings.specs.declared.jobs.JobState.{JobState}
use Rattle.recordings.specs.LineParts.{is_same_actor}
use Rattle.recordings.specs.declared.trace_validator.TraceValidator.{TraceValidator}
use Rattle.recordings.specs.Before as said
use Rattle.recordings.specs.StoredState.{job_at, has_started, is_done, is_settled, started_there, settled_there, new_job, with_last_submit}
use Rattle.recordings.specs.StateChanges.{AppliesLine}
use Rattle.recordings.specs.StateOfLines.{Represents}
use Rattle.recordings.proofs.Appended.{started_more, done_more, cancelled_more}
use Rattle.recordings.proofs.Keeping.{Keeps}

-- ---- a job is submitted
pub next_number : (old : TraceValidator) (before : List RecordedLine) (actor : RecordedActor) (job : ℕ) (class pool : List ℕ) → Represents old before → Keeps before (Submits actor job class pool) → job ≡ old.jobs.submitted
next_number old before actor job class pool s k = grind (arith, k.numbers, s.submitted)

last_submit_started : (same : Bool) (last_submit : Option ℕ) (there : Option JobState) → started_there (if same then option_map (with_last_submit last_submit) there else there) ≡ started_there there
last_submit_started true last_submit None = refl
last_submit_started true last_submit (Some state) = refl
last_submit_started false last_submit there = refl

last_submit_none : (same : Bool) (last_submit : Option ℕ) (there : Option JobState) → is_none (if same then option_map (with_last_submit last_submit) there else there) ≡ is_none there
last_submit_none true last_submit None = refl
last_submit_none true last_submit (Some state) = refl
last_submit_none false last_submit there = refl

last_submit_settled : (same : Bool) (last_submit : Option ℕ) (there : Option JobState) → settled_there (if same then option_map (with_last_submit last_submit) there else there) ≡ settled_there there
last_submit_settled true last_submit None = refl
last_submit_settled true last_submit (Some state) = refl
last_submit_settled false last_submit there = refl

new_started : (count j : ℕ) (there : Option JobState) → (nat_lt j (count + 1) && started_there (if count == j then Some new_job else there)) ≡ (nat_lt j count && started_there there)
new_started count j there = grind arith

new_done : (count j : ℕ) (there : Option JobState) → (nat_lt j (count + 1) && is_none (if count == j then Some new_job else there)) ≡ (nat_lt j count && is_none there)
new_done count j there = grind arith

new_settled : (count j : ℕ) (there : Option JobState) → (nat_lt j (count + 1) && settled_there (if count == j then Some new_job else there)) ≡ (nat_lt j count && settled_there there)
new_settled count j there = grind arith

-- a stored property of job j, after a job with the next number was submitted
reported_after : (tell : Option JobState → Bool) (same : Bool) (last_submit : Option ℕ) (count job submitted j : ℕ) (there new : Option JobState)
    → ((x : Option JobState) → tell (if same then option_map (with_last_submit last_submit) x else x) ≡ tell x)
    → (nat_lt j (count + 1) && tell (if count == j then Some new_job else there)) ≡ (nat_lt j count && tell there)
    → job ≡ count → submitted ≡ count + 1
    → new ≡ (let x = if job == j then Some new_job else there in if same then option_map (with_last_submit last_submit) x else x)
    → (nat_lt j submitted && tell new) ≡ (nat_lt j count && tell there)
reported_after tell same last_submit count job submitted j there new kept reported next more at =
    rw (more, at, kept (if job == j then Some new_job else there), next) reported

pub started_after : (old new : TraceValidator) (before : List RecordedLine) (line : RecordedLine) → Represents old before → Keeps before line → AppliesLine old line new → (j : ℕ) → has_started new.jobs j ≡ said.has_started (before ++ line ∷ []) j
started_after old new before Head s k f j = grind (arith, started_more before Head j, s.started j, s.submitted, f.jobs j, f.submitted, k.jobs, k.numbers)
started_after old new before (Pool name sizes) s k f j = grind (arith, started_more before (Pool name sizes) j, s.started j, s.submitted, f.jobs j, f.submitted, k.jobs, k.numbers)
started_after old new before (RoundBegins round kind) s k f j = grind (arith, started_more before (RoundBegins round kind) j, s.started j, s.submitted, f.jobs j, f.submitted, k.jobs, k.numbers)
started_after old new before (RoundEnds round) s k f j = grind (arith, started_more before (RoundEnds round) j, s.started j, s.submitted, f.jobs j, f.submitted, k.jobs, k.numbers)
started_after old new before (Submits actor job class pool) s k f j =
    let reported = reported_after started_there (is_same_actor actor (Job j)) (Some job) old.jobs.submitted job new.jobs.submitted j (job_at old.jobs j) (job_at new.jobs j) (last_submit_started (is_same_actor actor (Job j)) (Some job)) (new_started old.jobs.submitted j (job_at old.jobs j))
    (next_number old before actor job class pool s k) f.submitted (f.jobs j) in
    grind (arith, reported, started_more before (Submits actor job class pool) j, s.started j)
started_after old new before (Refused actor job) s k f j = grind (arith, started_more before (Refused actor job) j, s.started j, s.submitted, f.jobs j, f.submitted, k.jobs, k.numbers)
started_after old new before (JobStarts job) s k f j = grind (arith, started_more before (JobStarts job) j, s.started j, s.submitted, f.jobs j, f.submitted, k.jobs, k.numbers)
started_after old new before (JobEnds job) s k f j = grind (arith, started_more before (JobEnds job) j, s.started j, s.submitted, f.jobs j, f.submitted, k.jobs, k.numbers)
started_after old new before (JobThrew job) s k f j = grind (arith, started_more before (JobThrew job) j, s.started j, s.submitted, f.jobs j, f.submitted, k.jobs, k.numbers)
started_after old new before (Got actor job) s k f j = grind (arith, started_more before (Got actor job) j, s.started j, s.submitted, f.jobs j, f.submitted, k.jobs, k.numbers)
started_after old new before (TimedOut actor job) s k f j = grind (arith, started_more before (TimedOut actor job) j, s.started j, s.submitted, f.jobs j, f.submitted, k.jobs, k.numbers)
started_after old new before (Interrupted actor job) s k f j = grind (arith, started_more before (Interrupted actor job) j, s.started j, s.submitted, f.jobs j, f.submitted, k.jobs, k.numbers)
started_after old new before (Cancels actor job) s k f j = grind (arith, started_more before (Cancels actor job) j, s.started j, s.submitted, f.jobs j, f.submitted, k.jobs, k.numbers)
started_after old new before (InvokesAny actor pool) s k f j = grind (arith, started_more before (InvokesAny actor pool) j, s.started j, s.submitted, f.jobs j, f.submitted, k.jobs, k.numbers)
started_after old new before (Removed job) s k f j = grind (arith, started_more before (Removed job) j, s.started j, s.submitted, f.jobs j, f.submitted, k.jobs, k.numbers)
started_after old new before (ShutDown pool) s k f j = grind (arith, started_more before (ShutDown pool) j, s.started j, s.submitted, f.jobs j, f.submitted, k.jobs, k.numbers)
started_after old new before (Unseen pool jobs) s k f j = grind (arith, started_more before (Unseen pool jobs) j, s.started j, s.submitted, f.jobs j, f.submitted, k.jobs, k.numbers)
started_after old new before End s k f j = grind (arith, started_more before End j, s.started j, s.submitted, f.jobs j, f.submitted, k.jobs, k.numbers)

pub done_after : (old new : TraceValidator) (before : List RecordedLine) (line : RecordedLine) → Represents old before → Keeps before line → AppliesLine old line new → (j : ℕ) → is_done new.jobs j ≡ said.is_done (before ++ line ∷ []) j
done_after old new before Head s k f j = grind (arith, done_more before Head j, s.done j, s.submitted, f.jobs j, f.submitted, k.jobs, k.numbers)
done_after old new before (Pool name sizes) s k f j = grind (arith, done_more before (Pool name sizes) j, s.done j, s.submitted, f.jobs j, f.submitted, k.jobs, k.numbers)
done_after old new before (RoundBegins round kind) s k f j = grind (arith, done_more before (RoundBegins round kind) j, s.done j, s.submitted, f.jobs j, f.submitted, k.jobs, k.numbers)
done_after old new before (RoundEnds round) s k f j = grind (arith, done_more before (RoundEnds round) j, s.done j, s.submitted, f.jobs j, f.submitted, k.jobs, k.numbers)
done_after old new before (Submits actor job class pool) s k f j =
    let reported = reported_after is_none (is_same_actor actor (Job j)) (Some job) old.jobs.submitted job new.jobs.submitted j (job_at old.jobs j) (job_at new.jobs j) (last_submit_none (is_same_actor actor (Job j)) (Some job)) (new_done old.jobs.submitted j (job_at old.jobs j))
    (next_number old before actor job class pool s k) f.submitted (f.jobs j) in
    grind (arith, reported, done_more before (Submits actor job class pool) j, s.done j)
done_after old new before (Refused actor job) s k f j = grind (arith, done_more before (Refused actor job) j, s.done j, s.submitted, f.jobs j, f.submitted, k.jobs, k.numbers)
done_after old new before (JobStarts job) s k f j = grind (arith, done_more before (JobStarts job) j, s.done j, s.submitted, f.jobs j, f.submitted, k.jobs, k.numbers)
done_after old new before (JobEnds job) s k f j = grind (arith, done_more before (JobEnds job) j, s.done j, s.submitted, f.jobs j, f.submitted, k.jobs, k.numbers)
done_after old new before (JobThrew job) s k f j = grind (arith, done_more before (JobThrew job) j, s.done j, s.submitted, f.jobs j, f.submitted, k.jobs, k.numbers)
done_after old new before (Got actor job) s k f j = grind (arith, done_more before (Got actor job) j, s.done j, s.submitted, f.jobs j, f.submitted, k.jobs, k.numbers)
done_after old new before (TimedOut actor job) s k f j = grind (arith, done_more before (TimedOut actor job) j, s.done j, s.submitted, f.jobs j, f.submitted, k.jobs, k.numbers)
done_after old new before (Interrupted actor job) s k f j = grind (arith, done_more before (Interrupted actor job) j, s.done j, s.submitted, f.jobs j, f.submitted, k.jobs, k.numbers)
done_after old new before (Cancels actor job) s k f j = grind (arith, done_more before (Cancels actor job) j, s.done j, s.submitted, f.jobs j, f.submitted, k.jobs, k.numbers)
done_after old new before (InvokesAny actor pool) s k f j = grind (arith, done_more before (InvokesAny actor pool) j, s.done j, s.submitted, f.jobs j, f.submitted, k.jobs, k.numbers)
done_after old new before (Removed job) s k f j = grind (arith, done_more before (Removed job) j, s.done j, s.submitted, f.jobs j, f.submitted, k.jobs, k.numbers)
done_after old new before (ShutDown pool) s k f j = grind (arith, done_more before (ShutDown pool) j, s.done j, s.submitted, f.jobs j, f.submitted, k.jobs, k.numbers)
done_after old new before (Unseen pool jobs) s k f j = grind (arith, done_more before (Unseen pool jobs) j, s.done j, s.submitted, f.jobs j, f.submitted, k.jobs, k.numbers)
done_after old new before End s k f j = grind (arith, done_more before End j, s.done j, s.submitted, f.jobs j, f.submitted, k.jobs, k.numbers)

pub settled_after : (old new : TraceValidator) (before : List RecordedLine) (line : RecordedLine) → Represents old before → Keeps before line → AppliesLine old line new → (j : ℕ) → is_settled new.jobs j ≡ (said.is_done (before ++ line ∷ []) j || said.is_cancelled (before ++ line ∷ []) j)
settled_after old new before Head s k f j = grind (arith, done_more before Head j, cancelled_more before Head j, s.settled j, s.submitted, f.jobs j, f.submitted, k.jobs, k.numbers)
settled_after old new before (Pool name sizes) s k f j = grind (arith, done_more before (Pool name sizes) j, cancelled_more before (Pool name sizes) j, s.settled j, s.submitted, f.jobs j, f.submitted, k.jobs, k.numbers)
settled_after old new before (RoundBegins round kind) s k f j = grind (arith, done_more before (RoundBegins round kind) j, cancelled_more before (RoundBegins round kind) j, s.settled j, s.submitted, f.jobs j, f.submitted, k.jobs, k.numbers)
settled_after old new before (RoundEnds round) s k f j = grind (arith, done_more before (RoundEnds round) j, cancelled_more before (RoundEnds round) j, s.settled j, s.submitted, f.jobs j, f.submitted, k.jobs, k.numbers)
settled_after old new before (Submits actor job class pool) s k f j =
    let reported = reported_after settled_there (is_same_actor actor (Job j)) (Some job) old.jobs.submitted job new.jobs.submitted j (job_at old.jobs j) (job_at new.jobs j) (last_submit_settled (is_same_actor actor (Job j)) (Some job)) (new_settled old.jobs.submitted j (job_at old.jobs j))
    (next_number old before actor job class pool s k) f.submitted (f.jobs j) in
    grind (arith, reported, done_more before (Submits actor job class pool) j, cancelled_more before (Submits actor job class pool) j, s.settled j)
settled_after old new before (Refused actor job) s k f j = grind (arith, done_more before (Refused actor job) j, cancelled_more before (Refused actor job) j, s.settled j, s.submitted, f.jobs j, f.submitted, k.jobs, k.numbers)
settled_after old new before (JobStarts job) s k f j = grind (arith, done_more before (JobStarts job) j, cancelled_more before (JobStarts job) j, s.settled j, s.submitted, f.jobs j, f.submitted, k.jobs, k.numbers)
settled_after old new before (JobEnds job) s k f j = grind (arith, done_more before (JobEnds job) j, cancelled_more before (JobEnds job) j, s.settled j, s.submitted, f.jobs j, f.submitted, k.jobs, k.numbers)
settled_after old new before (JobThrew job) s k f j = grind (arith, done_more before (JobThrew job) j, cancelled_more before (JobThrew job) j, s.settled j, s.submitted, f.jobs j, f.submitted, k.jobs, k.numbers)
settled_after old new before (Got actor job) s k f j = grind (arith, done_more before (Got actor job) j, cancelled_more before (Got actor job) j, s.settled j, s.submitted, f.jobs j, f.submitted, k.jobs, k.numbers)
settled_after old new before (TimedOut actor job) s k f j = grind (arith, done_more before (TimedOut actor job) j, cancelled_more before (TimedOut actor job) j, s.settled j, s.submitted, f.jobs j, f.submitted, k.jobs, k.numbers)
settled_after old new before (Interrupted actor job) s k f j = grind (arith, done_more before (Interrupted actor job) j, cancelled_more before (Interrupted actor job) j, s.settled j, s.submitted, f.jobs j, f.submitted, k.jobs, k.numbers)
settled_after old new before (Cancels actor job) s k f j = grind (arith, done_more before (Cancels actor job) j, cancelled_more before (Cancels actor job) j, s.settled j, s.submitted, f.jobs j, f.submitted, k.jobs, k.numbers)
settled_after old new before (InvokesAny actor pool) s k f j = grind (arith, done_more before (InvokesAny actor pool) j, cancelled_more before (InvokesAny actor pool) j, s.settled j, s.submitted, f.jobs j, f.submitted, k.jobs, k.numbers)
settled_after old new before (Removed job) s k f j = grind (arith, done_more before (Removed job) j, cancelled_more before (Removed job) j, s.settled j, s.submitted, f.jobs j, f.submitted, k.jobs, k.numbers)
settled_after old new before (ShutDown pool) s k f j = grind (arith, done_more before (ShutDown pool) j, cancelled_more before (ShutDown pool) j, s.settled j, s.submitted, f.jobs j, f.submitted, k.jobs, k.numbers)
settled_after old new before (Unseen pool jobs) s k f j = grind (arith, done_more before (Unseen pool jobs) j, cancelled_more before (Unseen pool jobs) j, s.settled j, s.submitted, f.jobs j, f.submitted, k.jobs, k.numbers)
settled_after old new before End s k f j = grind (arith, done_more before End j, cancelled_more before End j, s.settled j, s.submitted, f.jobs j, f.submitted, k.jobs, k.numbers)

pub unsubmitted_after : (old new : TraceValidator) (before : List RecordedLine) (line : RecordedLine) → Represents old before → Keeps before line → AppliesLine old line new → (j : ℕ) → new.jobs.submitted ≤ j → job_at new.jobs j ≡ None
unsubmitted_after old new before Head s k f j past = grind (arith, past, s.unsubmitted j, s.submitted, f.jobs j, f.submitted, k.numbers)
unsubmitted_after old new before (Pool name sizes) s k f j past = grind (arith, past, s.unsubmitted j, s.submitted, f.jobs j, f.submitted, k.numbers)
unsubmitted_after old new before (RoundBegins round kind) s k f j past = grind (arith, past, s.unsubmitted j, s.submitted, f.jobs j, f.submitted, k.numbers)
unsubmitted_after old new before (RoundEnds round) s k f j past = grind (arith, past, s.unsubmitted j, s.submitted, f.jobs j, f.submitted, k.numbers)
unsubmitted_after old new before (Submits actor job class pool) s k f j past = grind (arith, past, s.unsubmitted j, s.submitted, f.jobs j, f.submitted, k.numbers)
unsubmitted_after old new before (Refused actor job) s k f j past = grind (arith, past, s.unsubmitted j, s.submitted, f.jobs j, f.submitted, k.numbers)
unsubmitted_after old new before (JobStarts job) s k f j past = grind (arith, past, s.unsubmitted j, s.submitted, f.jobs j, f.submitted, k.numbers)
unsubmitted_after old new before (JobEnds job) s k f j past = grind (arith, past, s.unsubmitted j, s.submitted, f.jobs j, f.submitted, k.numbers)
unsubmitted_after old new before (JobThrew job) s k f j past = grind (arith, past, s.unsubmitted j, s.submitted, f.jobs j, f.submitted, k.numbers)
unsubmitted_after old new before (Got actor job) s k f j past = grind (arith, past, s.unsubmitted j, s.submitted, f.jobs j, f.submitted, k.numbers)
unsubmitted_after old new before (TimedOut actor job) s k f j past = grind (arith, past, s.unsubmitted j, s.submitted, f.jobs j, f.submitted, k.numbers)
unsubmitted_after old new before (Interrupted actor job) s k f j past = grind (arith, past, s.unsubmitted j, s.submitted, f.jobs j, f.submitted, k.numbers)
unsubmitted_after old new before (Cancels actor job) s k f j past = grind (arith, past, s.unsubmitted j, s.submitted, f.jobs j, f.submitted, k.numbers)
unsubmitted_after old new before (InvokesAny actor pool) s k f j past = grind (arith, past, s.unsubmitted j, s.submitted, f.jobs j, f.submitted, k.numbers)
unsubmitted_after old new before (Removed job) s k f j past = grind (arith, past, s.unsubmitted j, s.submitted, f.jobs j, f.submitted, k.numbers)
unsubmitted_after old new before (ShutDown pool) s k f j past = grind (arith, past, s.unsubmitted j, s.submitted, f.jobs j, f.submitted, k.numbers)
unsubmitted_after old new before (Unseen pool jobs) s k f j past = grind (arith, past, s.unsubmitted j, s.submitted, f.jobs j, f.submitted, k.numbers)
unsubmitted_after old new before End s k f j past = grind (arith, past, s.unsubmitted j, s.submitted, f.jobs j, f.submitted, k.numbers)
