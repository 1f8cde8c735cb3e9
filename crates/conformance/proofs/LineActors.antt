-- The open and the ended actors after one more line.
use Rattle.std.proofs.Common.{◌≡◌, ◌<◌, ◌≤◌, ℕ, ◌+◌, ◌==◌, ◌||◌, not, nat_lt, true, false, if◌then◌else◌, List, [], ◌∷◌, ◌++◌, Option, Some, refl, ap, sym, subst, ◌∙◌, arith}
use Rattle.std.specs.List.{list_any}
use Rattle.recordings.specs.declared.recording_line.RecordedActor.{RecordedActor}
use Rattle.recordings.specs.declared.recording_line.RecordedActor.TheVariants.{Job, Round}
use Rattle.recordings.specs.RecordingLine.{RecordedLine, RoundBegins, RoundEnds, Submits, Refused, JobEnds, JobThrew}
use Rattle.recordings.specs.LineParts.{is_actor, is_same_actor, is_of, actor_of, is_submit, submits_job, refuses_job, finishes_job, begins_round, ends_round}
use Rattle.recordings.specs.Before.{submits, begins, is_ended, has_started, is_done}
use Rattle.recordings.specs.Rules.{has_next_number, is_known_actor, is_running, is_going}
use Rattle.recordings.proofs.Appended.{submits_more, is_begun_more, is_ended_more, done_more}
use Rattle.recordings.proofs.Keeping.{Keeps}
use Rattle.recordings.specs.LineSteps.{submits_by, is_submitted, has_submitted}
use Rattle.recordings.specs.Path.{path_of}
use Rattle.recordings.specs.PathsOfLines.{KeepsRules, is_live}
use Rattle.recordings.proofs.Tests.{and_first, and_second, none_weaker}
use Rattle.recordings.proofs.ByLast.{by_kept, keeps_before, keeps_last}
use Rattle.recordings.proofs.LaterNumbers.{next_job, next_round, next_number, known_actor, done_fresh, own_fresh, ended_fresh, round_fresh}
use Rattle.recordings.proofs.StepsByLine.{submitted_more}
use Rattle.recordings.proofs.PathAfter.{path_same}
use Rattle.recordings.proofs.Refusals.{same_actor}
use Rattle.conformance.specs.PathState.{has_ended}
use Rattle.recordings.specs.LastLine.{ended_by}
use Rattle.conformance.specs.Changes.{begun_by, refused_by}
use Rattle.conformance.proofs.Words.{by_bool, apart, or_left, or_right}

-- ---- the form of the line
job_ends : (j : ℕ) (line : RecordedLine) → finishes_job j line ≡ is_actor (Job j) (ended_by line)
job_ends j (JobEnds job) = refl
job_ends j (JobThrew job) = refl
job_ends j (RoundEnds round) = refl
job_ends j line = refl

round_ends : (r : ℕ) (line : RecordedLine) → ends_round r line ≡ is_actor (Round r) (ended_by line)
round_ends r (JobEnds job) = refl
round_ends r (JobThrew job) = refl
round_ends r (RoundEnds round) = refl
round_ends r line = refl

pub job_begins : (j : ℕ) (line : RecordedLine) → submits_job j line ≡ is_actor (Job j) (begun_by line)
job_begins j (Submits actor job class pool) = refl
job_begins j (RoundBegins round kind) = refl
job_begins j line = refl

pub round_begins : (r : ℕ) (line : RecordedLine) → begins_round r line ≡ is_actor (Round r) (begun_by line)
round_begins r (Submits actor job class pool) = refl
round_begins r (RoundBegins round kind) = refl
round_begins r line = refl

pub job_refused : (j : ℕ) (line : RecordedLine) → refuses_job j line ≡ is_actor (Job j) (refused_by line)
job_refused j (Refused actor job) = refl
job_refused j line = refl

pub begun_unended : (one : RecordedActor) (line : RecordedLine) → is_actor one (begun_by line) ≡ true → is_actor one (ended_by line) ≡ false
begun_unended one (JobEnds job) h = apart false h refl
begun_unended one (JobThrew job) h = apart false h refl
begun_unended one (RoundEnds round) h = apart false h refl
begun_unended one line h = refl

pub ended_is : (one : RecordedActor) (line : RecordedLine) → is_actor one (ended_by line) ≡ true → ended_by line ≡ Some one
ended_is one (JobEnds job) h = ap Some (same_actor (Job job) one h)
ended_is one (JobThrew job) h = ap Some (same_actor (Job job) one h)
ended_is one (RoundEnds round) h = ap Some (same_actor (Round round) one h)
ended_is one line h = apart false h refl

ended_own : (one : RecordedActor) (line : RecordedLine) → is_actor one (ended_by line) ≡ true → actor_of line ≡ Some one
ended_own one (JobEnds job) h = ap Some (same_actor (Job job) one h)
ended_own one (JobThrew job) h = ap Some (same_actor (Job job) one h)
ended_own one (RoundEnds round) h = ap Some (same_actor (Round round) one h)
ended_own one line h = apart false h refl

-- The last line of an actor adds nothing to its path.
pub path_at_end : (before : List RecordedLine) (line : RecordedLine) (one : RecordedActor) → is_actor one (ended_by line) ≡ true → path_of (before ++ line ∷ []) one ≡ path_of before one
path_at_end before (JobEnds job) one h = path_same before (JobEnds job) one (λ j. refl) refl
path_at_end before (JobThrew job) one h = path_same before (JobThrew job) one (λ j. refl) refl
path_at_end before (RoundEnds round) one h = path_same before (RoundEnds round) one (λ j. refl) refl
path_at_end before line one h = apart false h refl

-- ---- ended actors
pub through_after : (before : List RecordedLine) (line : RecordedLine) (one : RecordedActor) → has_ended (before ++ line ∷ []) one ≡ (has_ended before one || is_actor one (ended_by line))
through_after before line (Job job) = done_more before line job ∙ ap (λ b. is_done before job || b) (job_ends job line)
through_after before line (Round round) = is_ended_more before line round ∙ ap (λ b. is_ended before round || b) (round_ends round line)

-- ---- new actors
next_begin : (before : List RecordedLine) (line : RecordedLine) (r : ℕ) → Keeps before line → is_actor (Round r) (begun_by line) ≡ true → begins before ≤ r
next_begin before (RoundBegins round kind) r k h = next_round before round r kind k h
next_begin before (Submits actor job class pool) r k h = apart false h refl
next_begin before line r k h = apart false h refl

pub job_past : (before : List RecordedLine) (line : RecordedLine) (j : ℕ) → Keeps before line → is_actor (Job j) (begun_by line) ≡ true → submits before ≤ j
job_past before line j k h = next_job before line j k (job_begins j line ∙ h)

pub round_past : (before : List RecordedLine) (line : RecordedLine) (r : ℕ) → Keeps before line → is_actor (Round r) (begun_by line) ≡ true → begins before ≤ r
round_past before line r k h = next_begin before line r k h

pub begun_going : (before : List RecordedLine) (line : RecordedLine) (one : RecordedActor) → KeepsRules (before ++ line ∷ []) → is_actor one (begun_by line) ≡ true → has_ended before one ≡ false
begun_going before line (Job job) kept h = done_fresh before (keeps_before before line kept) job (job_past before line job (keeps_last before line kept) h)
begun_going before line (Round round) kept h = ended_fresh before (keeps_before before line kept) round (round_past before line round (keeps_last before line kept) h)

own_submit : (actor : RecordedActor) (j : ℕ) (line : RecordedLine) → submits_by actor j line ≡ true → is_of actor line ≡ true
own_submit actor j (Submits submitter job class pool) h = and_first (is_same_actor submitter actor) (job == j) h
own_submit actor j line h = apart false h refl

fresh_lines : (before : List RecordedLine) (line : RecordedLine) (one : RecordedActor) → KeepsRules (before ++ line ∷ []) → is_actor one (begun_by line) ≡ true → list_any (is_of one) before ≡ false
fresh_lines before line (Job job) kept h = own_fresh before (keeps_before before line kept) job (job_past before line job (keeps_last before line kept) h)
fresh_lines before line (Round round) kept h = round_fresh before (keeps_before before line kept) round (round_past before line round (keeps_last before line kept) h)

pub begun_submits_none : (before : List RecordedLine) (line : RecordedLine) (one : RecordedActor) (job : ℕ) → KeepsRules (before ++ line ∷ []) → is_actor one (begun_by line) ≡ true → has_submitted before one job ≡ false
unfolding has_submitted
begun_submits_none before line one job kept h = none_weaker (submits_by one job) (is_of one) (own_submit one job) before (fresh_lines before line one kept h)

-- ---- open actors
pub live_before : (before : List RecordedLine) (line : RecordedLine) (one : RecordedActor) → is_live (before ++ line ∷ []) one ≡ true → is_actor one (begun_by line) ≡ false → is_live before one ≡ true
live_before before line (Job job) h other =
    grind (arith, h, submitted_more before line job, done_more before line job, sym (job_begins job line), other)
live_before before line (Round round) h other =
    grind (arith, h, is_begun_more before line round, is_ended_more before line round, sym (round_begins round line), other)

submitted_number : (before : List RecordedLine) (line : RecordedLine) (j : ℕ) → has_next_number before line ≡ true → submits before ≤ j → j < submits before + (if is_submit line then 1 else 0) → submits_job j line ≡ true
submitted_number before (Submits actor job class pool) j next past below = grind (arith, next, past, below)
submitted_number before line j next past below = absurd (omega arith)

among : (j n : ℕ) {P : Type 0} → (j < n → P) → (n ≤ j → P) → P
among j n low past = by_bool (nat_lt j n) (λ h. low (grind (arith, h))) (λ h. past (grind (arith, h)))

none_counted : submits [] ≡ 0
unfolding submits
none_counted = refl

excess_tracker : (lines : List RecordedLine) → KeepsRules lines → (j : ℕ) → j < submits lines → is_submitted lines j ≡ true
excess_tracker =
    by_kept (λ lines. (j : ℕ) → j < submits lines → is_submitted lines j ≡ true) (λ j h. absurd (omega (arith, h, none_counted)))
    (λ before line kept k known j h.
    let all : j < submits before + (if is_submit line then 1 else 0) = rw (← submits_more before line) h in
    submitted_more before line j
    ∙ among j (submits before) (λ low. or_left _ _ (known j low)) (λ past. or_right _ _ (submitted_number before line j (next_number before line k) past all)))

known_live : (before : List RecordedLine) (job : ℕ) → KeepsRules before → is_known_actor before (Some (Job job)) ≡ true → is_running before (Some (Job job)) ≡ true → is_live before (Job job) ≡ true
known_live before job kept known running =
    let low : job < submits before = grind (arith, known) in
    grind (arith, excess_tracker before kept job low, and_second (has_started before job) (not (is_done before job)) running)

-- An actor is open before its last line.
pub ended_live : (before : List RecordedLine) (line : RecordedLine) (one : RecordedActor) → KeepsRules (before ++ line ∷ []) → is_actor one (ended_by line) ≡ true → is_live before one ≡ true
ended_live before line (Job job) kept h =
    let k = keeps_last before line kept in
    known_live before job (keeps_before before line kept)
    (subst (λ (named : Option RecordedActor). is_known_actor before named ≡ true) (ended_own (Job job) line h) (known_actor before line k))
    (subst (λ (named : Option RecordedActor). is_running before named ≡ true) (ended_own (Job job) line h) (and_second _ _ k.jobs))
ended_live before line (Round round) kept h =
    subst (λ (named : Option RecordedActor). is_going before named ≡ true) (ended_own (Round round) line h) (keeps_last before line kept).rounds
