-- The stored last submit of each actor is correct after one more line.
use Rattle.std.proofs.Common.{◌≡◌, ℕ, ◌&&◌, ◌==◌, not, Bool, true, false, if◌then◌else◌, List, [], ◌∷◌, ◌++◌, is_some, Option, Some, None, refl, ap, sym, ◌∙◌, arith}
use Rattle.std.specs.Option.{option_map}
use Rattle.recordings.specs.declared.recording_line.RecordedActor.{RecordedActor}
use Rattle.recordings.specs.declared.recording_line.RecordedActor.TheVariants.{Job, Round}
use Rattle.recordings.specs.RecordingLine.{RecordedLine, Head, Pool, RoundBegins, RoundEnds, Submits, Refused, JobStarts, JobEnds, JobThrew, Got, TimedOut, Interrupted, Cancels, InvokesAny, Removed, ShutDown, Unseen, End}
use Rattle.recordings.specs.declared.jobs.JobState.{JobState}
use Rattle.recordings.specs.declared.trace_validator.TraceValidator.{TraceValidator}
use Rattle.recordings.specs.LineParts.{actor_of, is_actor, is_same_actor, is_of}
use Rattle.recordings.specs.Before as said
use Rattle.recordings.specs.StoredState.{round_at, last_submit_of_round, job_at, last_submit_in, new_job, with_start, with_cancel, with_last_submit}
use Rattle.recordings.specs.StateChanges.{AppliesLine}
use Rattle.recordings.specs.Rules.{is_known_actor, is_going, is_running}
use Rattle.recordings.specs.StateOfLines.{Represents, is_at, last_submit_of}
use Rattle.recordings.proofs.Appended.{submitted_more}
use Rattle.recordings.proofs.Keeping.{Keeps}
use Rattle.recordings.proofs.JobsAfter.{next_number}

-- ---- the actor of a line has an entry in the state
abbrev has_place : TraceValidator → RecordedActor → Bool
has_place lines (Job j) = is_some (job_at lines.jobs j)
has_place lines (Round r) = is_some (round_at lines.rounds r)

place_of : (old : TraceValidator) (before : List RecordedLine) (who : Option RecordedActor) (actor : RecordedActor) → Represents old before → is_known_actor before who ≡ true → is_going before who ≡ true → is_running before who ≡ true
    → is_actor actor who ≡ true → has_place old actor ≡ true
place_of old before None actor s known going running same = grind (arith, same)
place_of old before (Some (Job n)) (Job m) s known going running same = grind (arith, known, running, same, s.started n, s.done n)
place_of old before (Some (Job n)) (Round m) s known going running same = grind (arith, same)
place_of old before (Some (Round n)) (Job m) s known going running same = grind (arith, same)
place_of old before (Some (Round n)) (Round m) s known going running same = grind (arith, going, same, s.going n)

second : (a b c : Bool) → (a && b && c) ≡ true → b ≡ true
second true true c h = refl
second true false c h = grind (arith, h)
second false b c h = grind (arith, h)

last_one : (a b : Bool) → (a && b) ≡ true → b ≡ true
last_one true b h = h
last_one false b h = grind (arith, h)

placed : (old : TraceValidator) (before : List RecordedLine) (line : RecordedLine) → Represents old before → Keeps before line → (actor : RecordedActor) → is_of actor line ≡ true → has_place old actor ≡ true
placed old before line s k actor same = place_of old before (actor_of line) actor s (second _ _ _ k.numbers) k.rounds (last_one _ _ k.jobs) same

-- ---- the entry of an actor after an action of the actor
round_acts : (same : Bool) (last_submit : Option ℕ) (there : Option (Option ℕ)) (j : ℕ) (said_so : Bool) → (same ≡ true → is_some there ≡ true) → is_at j (last_submit_of_round there) ≡ said_so
    → is_at j (last_submit_of_round (if same then option_map (λ _. last_submit) there else there)) ≡ (if same && true then is_at j last_submit else said_so)
round_acts true last_submit None j said_so place represents = grind (arith, place refl)
round_acts true last_submit (Some last) j said_so place represents = refl
round_acts false last_submit there j said_so place represents = represents

job_acts : (same : Bool) (last_submit : Option ℕ) (there : Option JobState) (j : ℕ) (said_so : Bool) → (same ≡ true → is_some there ≡ true) → is_at j (last_submit_in there) ≡ said_so
    → is_at j (last_submit_in (if same then option_map (with_last_submit last_submit) there else there)) ≡ (if same && true then is_at j last_submit else said_so)
job_acts true last_submit None j said_so place represents = grind (arith, place refl)
job_acts true last_submit (Some state) j said_so place represents = refl
job_acts false last_submit there j said_so place represents = represents

-- the last submit of a job is unchanged if the job is cancelled, starts or is added
cancel_offers : (same : Bool) (there : Option JobState) → last_submit_in (if same then option_map with_cancel there else there) ≡ last_submit_in there
cancel_offers true None = refl
cancel_offers true (Some state) = refl
cancel_offers false there = refl

start_offers : (same : Bool) (there : Option JobState) → last_submit_in (if same then option_map with_start there else there) ≡ last_submit_in there
start_offers true None = refl
start_offers true (Some state) = refl
start_offers false there = refl

-- a new job changes neither the last submit of job i nor whether job i has an entry
new_offers : (old : TraceValidator) (before : List RecordedLine) (i job : ℕ) → Represents old before → job ≡ old.jobs.submitted → last_submit_in (if job == i then Some new_job else job_at old.jobs i) ≡ last_submit_in (job_at old.jobs i)
new_offers old before i job s next = grind (arith, s.unsubmitted i, next)

new_place : (old : TraceValidator) (before : List RecordedLine) (i job : ℕ) → Represents old before → is_some (job_at old.jobs i) ≡ true → is_some (if job == i then Some new_job else job_at old.jobs i) ≡ true
new_place old before i job s place = grind (arith, place)

-- ---- the job that an actor submitted in its last line is refused
same_actor : (a b : RecordedActor) → is_same_actor a b ≡ true → a ≡ b
same_actor (Job n) (Job m) same = grind (arith, same)
same_actor (Job n) (Round m) same = grind (arith, same)
same_actor (Round n) (Job m) same = grind (arith, same)
same_actor (Round n) (Round m) same = grind (arith, same)

at_one : (j i : ℕ) (last_submit : Option ℕ) → is_at i last_submit ≡ true → is_at j last_submit ≡ (i == j)
at_one j i None at = grind (arith, at)
at_one j i (Some last) at = grind (arith, at)

first_one : (a b : Bool) → (a && b) ≡ true → a ≡ true
first_one true b h = refl
first_one false b h = h

of_one : (same is_it at said_so : Bool) → at ≡ said_so → (same ≡ true → at ≡ is_it) → at ≡ (if same && not is_it then false else said_so)
of_one true true at said_so represents one = represents
of_one true false at said_so represents one = one refl
of_one false is_it at said_so represents one = represents

refused_after : (old new : TraceValidator) (before : List RecordedLine) (by : RecordedActor) (job : ℕ) → Represents old before → Keeps before (Refused by job) → (actor : RecordedActor) (j : ℕ)
    → is_at j (last_submit_of old actor) ≡ (if is_same_actor by actor && not (job == j) then false else said.just_submitted before actor j)
refused_after old new before by job s k actor j =
    of_one (is_same_actor by actor) (job == j) (is_at j (last_submit_of old actor)) (said.just_submitted before actor j) (s.last_submit actor j) (λ same.
    let here : is_at job (last_submit_of old by) ≡ true = s.last_submit by job ∙ first_one _ _ k.refusals in
    ap (λ a. is_at j (last_submit_of old a)) (sym (same_actor by actor same)) ∙ at_one j job (last_submit_of old by) here)

pub last_submit_after : (old new : TraceValidator) (before : List RecordedLine) (line : RecordedLine) → Represents old before → Keeps before line → AppliesLine old line new → (actor : RecordedActor) (j : ℕ) → is_at j (last_submit_of new actor) ≡ said.just_submitted (before ++ line ∷ []) actor j
last_submit_after old new before Head s k f (Job i) j = ap (λ x. is_at j (last_submit_in x)) (f.jobs i) ∙ s.last_submit (Job i) j ∙ sym (submitted_more before Head (Job i) j)
last_submit_after old new before Head s k f (Round r) j = ap (λ x. is_at j (last_submit_of_round x)) (f.rounds r) ∙ s.last_submit (Round r) j ∙ sym (submitted_more before Head (Round r) j)
last_submit_after old new before (Pool name sizes) s k f (Job i) j = ap (λ x. is_at j (last_submit_in x)) (f.jobs i) ∙ s.last_submit (Job i) j ∙ sym (submitted_more before (Pool name sizes) (Job i) j)
last_submit_after old new before (Pool name sizes) s k f (Round r) j = ap (λ x. is_at j (last_submit_of_round x)) (f.rounds r) ∙ s.last_submit (Round r) j ∙ sym (submitted_more before (Pool name sizes) (Round r) j)
last_submit_after old new before (RoundBegins round kind) s k f (Job i) j = ap (λ x. is_at j (last_submit_in x)) (f.jobs i) ∙ s.last_submit (Job i) j ∙ sym (submitted_more before (RoundBegins round kind) (Job i) j)
last_submit_after old new before (RoundBegins round kind) s k f (Round r) j = grind (arith, f.rounds r, s.last_submit (Round r) j, submitted_more before (RoundBegins round kind) (Round r) j, s.not_begun r, s.going r, s.rounds_begun, k.numbers)
last_submit_after old new before (RoundEnds round) s k f (Job i) j = ap (λ x. is_at j (last_submit_in x)) (f.jobs i) ∙ s.last_submit (Job i) j ∙ sym (submitted_more before (RoundEnds round) (Job i) j)
last_submit_after old new before (RoundEnds round) s k f (Round r) j = grind (arith, f.rounds r, s.last_submit (Round r) j, submitted_more before (RoundEnds round) (Round r) j)
last_submit_after old new before (Submits by job class pool) s k f (Job i) j =
    let next = next_number old before by job class pool s k in
    ap (λ x. is_at j (last_submit_in x)) (f.jobs i)
    ∙ job_acts (is_same_actor by (Job i)) (Some job) (if job == i then Some new_job else job_at old.jobs i) j (said.just_submitted before (Job i) j) (λ same. new_place old before i job s ((placed old before (Submits by job class pool) s k (Job i)) same)) (ap (is_at j) (new_offers old before i job s next) ∙ s.last_submit (Job i) j)
    ∙ sym (submitted_more before (Submits by job class pool) (Job i) j)
last_submit_after old new before (Submits by job class pool) s k f (Round r) j =
    ap (λ x. is_at j (last_submit_of_round x)) (f.rounds r) ∙ round_acts (is_same_actor by (Round r)) (Some job) (round_at old.rounds r) j (said.just_submitted before (Round r) j) (placed old before (Submits by job class pool) s k (Round r)) (s.last_submit (Round r) j)
    ∙ sym (submitted_more before (Submits by job class pool) (Round r) j)
last_submit_after old new before (Refused by job) s k f (Job i) j = ap (λ x. is_at j (last_submit_in x)) (f.jobs i) ∙ refused_after old new before by job s k (Job i) j ∙ sym (submitted_more before (Refused by job) (Job i) j)
last_submit_after old new before (Refused by job) s k f (Round r) j = ap (λ x. is_at j (last_submit_of_round x)) (f.rounds r) ∙ refused_after old new before by job s k (Round r) j ∙ sym (submitted_more before (Refused by job) (Round r) j)
last_submit_after old new before (JobStarts job) s k f (Job i) j = ap (λ x. is_at j (last_submit_in x)) (f.jobs i) ∙ ap (is_at j) (start_offers (job == i) (job_at old.jobs i)) ∙ s.last_submit (Job i) j ∙ sym (submitted_more before (JobStarts job) (Job i) j)
last_submit_after old new before (JobStarts job) s k f (Round r) j = ap (λ x. is_at j (last_submit_of_round x)) (f.rounds r) ∙ s.last_submit (Round r) j ∙ sym (submitted_more before (JobStarts job) (Round r) j)
last_submit_after old new before (JobEnds job) s k f (Job i) j = grind (arith, f.jobs i, s.last_submit (Job i) j, submitted_more before (JobEnds job) (Job i) j)
last_submit_after old new before (JobEnds job) s k f (Round r) j = ap (λ x. is_at j (last_submit_of_round x)) (f.rounds r) ∙ s.last_submit (Round r) j ∙ sym (submitted_more before (JobEnds job) (Round r) j)
last_submit_after old new before (JobThrew job) s k f (Job i) j = grind (arith, f.jobs i, s.last_submit (Job i) j, submitted_more before (JobThrew job) (Job i) j)
last_submit_after old new before (JobThrew job) s k f (Round r) j = ap (λ x. is_at j (last_submit_of_round x)) (f.rounds r) ∙ s.last_submit (Round r) j ∙ sym (submitted_more before (JobThrew job) (Round r) j)
last_submit_after old new before (Got by job) s k f (Job i) j =
    ap (λ x. is_at j (last_submit_in x)) (f.jobs i) ∙ job_acts (is_same_actor by (Job i)) None (job_at old.jobs i) j (said.just_submitted before (Job i) j) (placed old before (Got by job) s k (Job i)) (s.last_submit (Job i) j)
    ∙ sym (submitted_more before (Got by job) (Job i) j)
last_submit_after old new before (Got by job) s k f (Round r) j =
    ap (λ x. is_at j (last_submit_of_round x)) (f.rounds r) ∙ round_acts (is_same_actor by (Round r)) None (round_at old.rounds r) j (said.just_submitted before (Round r) j) (placed old before (Got by job) s k (Round r)) (s.last_submit (Round r) j)
    ∙ sym (submitted_more before (Got by job) (Round r) j)
last_submit_after old new before (TimedOut by job) s k f (Job i) j =
    ap (λ x. is_at j (last_submit_in x)) (f.jobs i) ∙ job_acts (is_same_actor by (Job i)) None (job_at old.jobs i) j (said.just_submitted before (Job i) j) (placed old before (TimedOut by job) s k (Job i)) (s.last_submit (Job i) j)
    ∙ sym (submitted_more before (TimedOut by job) (Job i) j)
last_submit_after old new before (TimedOut by job) s k f (Round r) j =
    ap (λ x. is_at j (last_submit_of_round x)) (f.rounds r) ∙ round_acts (is_same_actor by (Round r)) None (round_at old.rounds r) j (said.just_submitted before (Round r) j) (placed old before (TimedOut by job) s k (Round r)) (s.last_submit (Round r) j)
    ∙ sym (submitted_more before (TimedOut by job) (Round r) j)
last_submit_after old new before (Interrupted by job) s k f (Job i) j =
    ap (λ x. is_at j (last_submit_in x)) (f.jobs i) ∙ job_acts (is_same_actor by (Job i)) None (job_at old.jobs i) j (said.just_submitted before (Job i) j) (placed old before (Interrupted by job) s k (Job i)) (s.last_submit (Job i) j)
    ∙ sym (submitted_more before (Interrupted by job) (Job i) j)
last_submit_after old new before (Interrupted by job) s k f (Round r) j =
    ap (λ x. is_at j (last_submit_of_round x)) (f.rounds r) ∙ round_acts (is_same_actor by (Round r)) None (round_at old.rounds r) j (said.just_submitted before (Round r) j) (placed old before (Interrupted by job) s k (Round r)) (s.last_submit (Round r) j)
    ∙ sym (submitted_more before (Interrupted by job) (Round r) j)
last_submit_after old new before (Cancels by job) s k f (Job i) j =
    ap (λ x. is_at j (last_submit_in x)) (f.jobs i) ∙ ap (is_at j) (cancel_offers (job == i) (if is_same_actor by (Job i) then option_map (with_last_submit None) (job_at old.jobs i) else job_at old.jobs i))
    ∙ job_acts (is_same_actor by (Job i)) None (job_at old.jobs i) j (said.just_submitted before (Job i) j) (placed old before (Cancels by job) s k (Job i)) (s.last_submit (Job i) j)
    ∙ sym (submitted_more before (Cancels by job) (Job i) j)
last_submit_after old new before (Cancels by job) s k f (Round r) j =
    ap (λ x. is_at j (last_submit_of_round x)) (f.rounds r) ∙ round_acts (is_same_actor by (Round r)) None (round_at old.rounds r) j (said.just_submitted before (Round r) j) (placed old before (Cancels by job) s k (Round r)) (s.last_submit (Round r) j)
    ∙ sym (submitted_more before (Cancels by job) (Round r) j)
last_submit_after old new before (InvokesAny by pool) s k f (Job i) j =
    ap (λ x. is_at j (last_submit_in x)) (f.jobs i) ∙ job_acts (is_same_actor by (Job i)) None (job_at old.jobs i) j (said.just_submitted before (Job i) j) (placed old before (InvokesAny by pool) s k (Job i)) (s.last_submit (Job i) j)
    ∙ sym (submitted_more before (InvokesAny by pool) (Job i) j)
last_submit_after old new before (InvokesAny by pool) s k f (Round r) j =
    ap (λ x. is_at j (last_submit_of_round x)) (f.rounds r) ∙ round_acts (is_same_actor by (Round r)) None (round_at old.rounds r) j (said.just_submitted before (Round r) j) (placed old before (InvokesAny by pool) s k (Round r)) (s.last_submit (Round r) j)
    ∙ sym (submitted_more before (InvokesAny by pool) (Round r) j)
last_submit_after old new before (Removed job) s k f (Job i) j = ap (λ x. is_at j (last_submit_in x)) (f.jobs i) ∙ s.last_submit (Job i) j ∙ sym (submitted_more before (Removed job) (Job i) j)
last_submit_after old new before (Removed job) s k f (Round r) j = ap (λ x. is_at j (last_submit_of_round x)) (f.rounds r) ∙ s.last_submit (Round r) j ∙ sym (submitted_more before (Removed job) (Round r) j)
last_submit_after old new before (ShutDown pool) s k f (Job i) j = ap (λ x. is_at j (last_submit_in x)) (f.jobs i) ∙ s.last_submit (Job i) j ∙ sym (submitted_more before (ShutDown pool) (Job i) j)
last_submit_after old new before (ShutDown pool) s k f (Round r) j = ap (λ x. is_at j (last_submit_of_round x)) (f.rounds r) ∙ s.last_submit (Round r) j ∙ sym (submitted_more before (ShutDown pool) (Round r) j)
last_submit_after old new before (Unseen pool jobs) s k f (Job i) j = ap (λ x. is_at j (last_submit_in x)) (f.jobs i) ∙ s.last_submit (Job i) j ∙ sym (submitted_more before (Unseen pool jobs) (Job i) j)
last_submit_after old new before (Unseen pool jobs) s k f (Round r) j = ap (λ x. is_at j (last_submit_of_round x)) (f.rounds r) ∙ s.last_submit (Round r) j ∙ sym (submitted_more before (Unseen pool jobs) (Round r) j)
last_submit_after old new before End s k f (Job i) j = ap (λ x. is_at j (last_submit_in x)) (f.jobs i) ∙ s.last_submit (Job i) j ∙ sym (submitted_more before End (Job i) j)
last_submit_after old new before End s k f (Round r) j = ap (λ x. is_at j (last_submit_of_round x)) (f.rounds r) ∙ s.last_submit (Round r) j ∙ sym (submitted_more before End (Round r) j)
